use Rattle.reply_checker.proofs.Prelude.{names_below, round_changed, size_kept}
use Rattle.reply_checker.proofs.Rounds.{told_after}
use Rattle.reply_checker.proofs.contributions.ContributionsObserver.saw.Goals as goal

pub follow-requires : goal.follow-requires
follow-requires c = (c.requires.0, (c.requires.1.0, c.requires.1.1.counted))

pub mark_names-requires : goal.mark_names-requires
mark_names-requires c = names_below c.requires.0 c.args.net.now c.args.change _ c.requires.1.0 c.requires.1.1.touched_places

pub returns-clause-fits : goal.returns-clause-fits
returns-clause-fits c =
    let before = c.requires.0 in
    let now = c.args.net.now in
    let change = c.requires.1.0 in
    let was = c.args.self.now in
    told_after was.rules before.state now.state was.open_edges c.follow.new.self was.each.items was.touched _ was.due change.is_state (size_kept before now c.args.change change) c.follow.ensures.stances c.follow.ensures.counts c.mark_names.ensures.places
    (λ v none. let fact = c.mark_names.ensures.marked v none in (fact.0, round_changed before now c.args.change v change fact.1))
    c.requires.1.1
