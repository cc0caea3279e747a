use Rattle.suitor_index.proofs.Prelude.{◌≡◌, ◌++◌, ◌∙◌, length, drop, take, ap, sym, subst, arith, take-append_seam, size_kept, IsIndexed, WasIndexed}
use Rattle.suitor_index.proofs.suitors.Suitors.follow.Goals as goal

pub count_change-requires : goal.count_change-requires
count_change-requires g c = subst (λ ts. WasIndexed g.R.Rules.COURTS_HIGHER_ONLY g.R.Rules.table.opens ts c.args.change c.args.net.now) (sym c.as_mut_slice.ensures.value) c.requires

-- the slice was written whole
pub returns-clause-fits : goal.returns-clause-fits
returns-clause-fits g c =
    let kept = c.args.self.now.tallies in
    let new = c.count_change.new.tallies in
    let rest = drop (length new) kept.items in
    let size = size_kept c.requires.0 c.args.net.now c.args.change c.requires.1.0 in
    let whole : kept.len ≡ length new = omega (arith, kept.ok.0, size, c.requires.1.1.index.places, c.count_change.ensures.index.index.places) in
    subst (IsIndexed g.R.Rules.COURTS_HIGHER_ONLY g.R.Rules.table.opens c.args.net.now.state) (sym (ap (λ n. take n (new ++ rest)) whole ∙ take-append_seam new rest)) c.count_change.ensures.index
