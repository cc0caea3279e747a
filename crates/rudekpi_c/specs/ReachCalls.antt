-- The nodes at rest, and the nodes that an edit or a fault would reach, in a session's state, for C.
use Rattle.std.specs.Prelude.{◌≡◌, ℕ, Bool, false, List, Option, IsTrue}
use Rattle.rule_machine.specs.declared.event.Event.{Event}
use Rattle.rule_machine.specs.Tables.{table_of}
use Rattle.containment_laws.specs.Rest.{is_at_rest}
use Rattle.rule_engine.specs.DisturbanceReach.{StaysAtRest, reach_of}
use Rattle.line_text.specs.Words.{IsName}
use Rattle.script_text.specs.declared.command.Command.TheVariants.{Tell}
use Rattle.script_text.specs.Command.{IsCommand}
use Rattle.rudekpi_c.specs.Session.{stands, rules_of}
use Rattle.rudekpi_c.specs.SessionQuestions.{AnswersInRange, IsUnlisted, ListsInMemory}
use Rattle.rudekpi_c.specs.declared.session.Session.{Session}

-- whether the node is at rest in the session's state
abbrev pub rests_at : Session → ℕ → Bool
rests_at s v = is_at_rest (table_of (rules_of s)).flags (stands s).moment.state v

-- 0: whether the node is at rest, and what that means
abbrev pub RestsIn : ℕ → ℕ → Bool → Session → Type 0
RestsIn node status rests s =
    (status ≡ 0) × (rests ≡ rests_at s node) × (IsTrue rests → StaysAtRest (table_of (rules_of s)) (stands s).moment node)

-- 5: no node can have the name; 4: there is no session; 0: the answer says whether the node is at rest
abbrev pub AnswersRest : ℕ → ℕ → Bool → Option Session → Type 0
AnswersRest node status rests = AnswersInRange (IsName node) (RestsIn node status rests) status (rests ≡ false)

-- the nodes that the event would reach in the session's state; none if the event would be refused
abbrev pub reach_at : Session → Event → List ℕ
reach_at s event = reach_of (table_of (rules_of s)) (stands s).moment.state event

-- 5: the numbers are out of range; 4: there is no session; 3: memory ran out; 0: the nodes that it would reach
abbrev pub AnswersReach : Event → ℕ → ℕ → List ℕ → List ℕ → Option Session → Type 0
AnswersReach event status count old new =
    AnswersInRange (IsCommand (Tell event)) (λ s. ListsInMemory (reach_at s event) status count old new) status (IsUnlisted count old new)
