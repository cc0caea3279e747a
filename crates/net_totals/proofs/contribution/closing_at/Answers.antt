use Rattle.net_totals.proofs.Prelude.{◌∙◌, ℕ, Bool, cond, ap, sym, State, one_byte}
use Rattle.net_totals.proofs.ContributionSums.{lone_closing, no_closing}
use Rattle.net_totals.proofs.contribution.closing_at.Goals as goal

pub returns-then-not-node : goal.returns-then-not-node
returns-then-not-node g c =
    let s : State = c.args.index.now.state in
    sym (no_closing s (g.R.Rules.closes s) c.args.node.now.node c.net.ensures.sound (sym c.requires.standing.courted ∙ c.if-not-node.true))

pub returns-in-Some : goal.returns-in-Some
returns-in-Some g c =
    let s : State = c.args.index.now.state in
    c.from.ensures ∙ one_byte c.closes_edge.result ∙ ap (λ (b : Bool). cond {A = ℕ} b 1 0) c.closes_edge.ensures
    ∙ sym (lone_closing s (g.R.Rules.closes s) c.args.node.now.node c.in-Some.w c.in-Some.ensures)
