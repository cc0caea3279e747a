-- Both ends of a new edge are present if the edge is not refused.
use Rattle.std.proofs.Common.{◌≡◌, ℕ, None, IsTrue}
use Rattle.rule_machine.specs.declared.event.Event.TheVariants.{Link}
use Rattle.rule_machine.specs.Network.{present}
use Rattle.rule_machine.specs.RuleTable.{RuleTable}
use Rattle.rule_machine.specs.State.{State}
use Rattle.rule_machine.specs.Refuse.{refusal_of}
use Rattle.machine_laws.proofs.CostsOfRuns.{link_parts}

pub lower_present : (t : RuleTable) (s : State) (a b : ℕ) → refusal_of t s (Link a b) ≡ None → IsTrue (present s.network a)
lower_present t s a b e = (link_parts t s a b e).0

pub upper_present : (t : RuleTable) (s : State) (a b : ℕ) → refusal_of t s (Link a b) ≡ None → IsTrue (present s.network b)
upper_present t s a b e = (link_parts t s a b e).1
