use Rattle.std.proofs.Common.{◌∙◌, sym, ap}
use Rattle.rule_machine.specs.Network.{Network, present}
use Rattle.rudekpi_c.specs.StateViews.{state_at}
use Rattle.rudekpi_c.proofs.NodeLists.{absent_near}
use Rattle.rudekpi_c.proofs.session.Session.neighbours.Goals as goal

pub returns-then-not-has : goal.returns-then-not-has
returns-then-not-has c =
    absent_near (state_at c.args.self.now) c.args.v c.registers.ensures.state (ap (λ (net : Network). present net c.args.v) (sym c.store-store.ensures) ∙ sym c.has.ensures ∙ c.if-not-has.true)
