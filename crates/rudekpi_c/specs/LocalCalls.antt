-- The rule of one node, in C's numbers.
use Rattle.std.specs.Prelude.{◌≡◌, ◌≢◌, ℕ, ◌≤◌, min, max, Bool, false, List, map, Option, None, Some, if◌then◌else◌, nat_eq, All, IfSome}
use Rattle.rule_machine.specs.declared.act.Act.{Act}
use Rattle.rule_machine.specs.declared.act.Act.TheVariants.{Update, Marry, Seduce, Abandon}
use Rattle.rule_machine.specs.declared.base.NodeRecord.{NodeRecord}
use Rattle.rule_machine.specs.declared.rule_set.RuleSet.{RuleSet}
use Rattle.rule_machine.specs.declared.rule_set.RuleSet.TheVariants.{Hh, Manne}
use Rattle.rule_machine.specs.State.{State}
use Rattle.rule_machine.specs.Tables.{table_of}
use Rattle.local_rule.specs.declared.fault.ViewFault.{ViewFault}
use Rattle.local_rule.specs.declared.fault.ViewFault.TheVariants.{NotAscending, OwnNeighbour, PointsAtItself, PointsAtStranger}
use Rattle.local_rule.specs.declared.local_move.LocalMove.{LocalMove}
use Rattle.local_rule.specs.Faults.{first_fault}
use Rattle.local_rule.specs.Moves.{move_at, may_move_at}
use Rattle.local_rule.specs.Views.{ShowsAtNode, IsShown, IsNeverShown}
use Rattle.rudekpi_c.specs.ReplyNumbers.{number_of, rule_number}
use Rattle.rudekpi_c.specs.declared.local.RawRecord.{RawRecord}
use Rattle.rudekpi_c.specs.declared.local.LocalAnswer.{LocalAnswer}

-- the numbers are names: 1 to 65,535; a pointer may also be 0, for null
pub record AreNames (r : RawRecord) : Type 0 where
  pub low : 1 ≤ r.node
  pub high : r.node ≤ 65535
  pub pointer : r.pointer ≤ 65535

-- 0 is null
abbrev pub pointer_named : ℕ → Option ℕ
pointer_named n = if nat_eq n 0 then None else Some n

abbrev pub record_named : RawRecord → NodeRecord
record_named r = record { node = r.node; target = pointer_named r.pointer; flagged = r.flag }

-- the nearest name that a node can have, of any number; the record with such names
abbrev pub nearest_name : ℕ → ℕ
nearest_name n = min (max n 1) 65535

abbrev pub nearest_pointer : ℕ → Option ℕ
nearest_pointer n = if nat_eq n 0 then None else Some (nearest_name n)

abbrev pub nearest_record : RawRecord → NodeRecord
nearest_record r = record { node = nearest_name r.node; target = nearest_pointer r.pointer; flagged = r.flag }

abbrev pub rule_named : ℕ → Option Act
rule_named n =
    if nat_eq n 1 then Some Update
    else if nat_eq n 2 then Some Marry
    else if nat_eq n 3 then Some Seduce
    else if nat_eq n 4 then Some Abandon
    else None

-- 0: Hsu and Huang; 1: Manne and others
abbrev pub rules_given : ℕ → Option RuleSet
rules_given n = if nat_eq n 0 then Some Hh else if nat_eq n 1 then Some Manne else None

-- no rule is enabled: the registers as they are
abbrev pub move_told : RawRecord → Option LocalMove → LocalAnswer
move_told own None = record { rule = 0; target = 0; pointer = own.pointer; flag = own.flag; fault = 0; at = 0 }
move_told own (Some m) = record {
  rule = rule_number m.act;
  target = number_of m.target;
  pointer = number_of m.pointer;
  flag = m.flag;
  fault = 0;
  at = 0;
}

abbrev pub faulty : ℕ → ℕ → LocalAnswer
faulty fault at = record { rule = 0; target = 0; pointer = 0; flag = false; fault = fault; at = at }

-- what is wrong; or, if the node's pointer is at no neighbour, its repair: pointer null, and the flag as it is
abbrev pub fault_told : RawRecord → ViewFault → LocalAnswer
fault_told own (NotAscending w) = faulty 1 w
fault_told own OwnNeighbour = faulty 2 0
fault_told own (PointsAtItself w) = faulty 3 w
fault_told own (PointsAtStranger w) = record { rule = 5; target = 0; pointer = 0; flag = own.flag; fault = 4; at = w }

abbrev pub fault_status : ViewFault → ℕ
fault_status (NotAscending w) = 9
fault_status OwnNeighbour = 9
fault_status (PointsAtItself w) = 9
fault_status (PointsAtStranger w) = 0

-- The answer. DONE (0) without a fault: the machine's move at the node in every state that shows this, and some
-- state does. A fault: no state does, and the first fault is told; DONE with the repair, else NOT_SHOWN (9).
-- BAD_ARGUMENT (5): a number is out of range. There is no other status.
pub record AnswersLocal (rules : ℕ) (own : RawRecord) (around : List RawRecord) (status : ℕ) (answer : LocalAnswer) : Type 0 where
  pub done : status ≡ 0 → answer.fault ≡ 0 → (set : RuleSet) × (rules_given rules ≡ Some set) × ((s : State) → ShowsAtNode s (record_named own) (map record_named around) → answer ≡ move_told own (move_at (table_of set) s own.node))
  pub shown : status ≡ 0 → answer.fault ≡ 0 → IsShown (record_named own) (map record_named around)
  pub never : answer.fault ≢ 0 → IsNeverShown (record_named own) (map record_named around)
  pub fault : answer.fault ≢ 0 → IfSome (first_fault (record_named own) (map record_named around)) (λ why. (answer ≡ fault_told own why) × (status ≡ fault_status why))
  pub named : status ≡ 9 → answer.fault ≢ 0
  pub bad : status ≡ 5 → rules ≤ 1 → AreNames own → All AreNames around → ⊥
  pub nothing : status ≡ 5 → answer ≡ faulty 0 0
  pub only : status ≢ 0 → status ≢ 9 → status ≡ 5

-- DONE: whether the machine may move the node so, in every state that shows this.
pub record AnswersMayMove (rules : ℕ) (own : RawRecord) (around : List RawRecord) (rule target status : ℕ) (may : Bool) : Type 0 where
  pub done : status ≡ 0 → (set : RuleSet) × (rules_given rules ≡ Some set) × (act : Act) × (rule_named rule ≡ Some act) × ((s : State) → ShowsAtNode s (record_named own) (map record_named around) → may ≡ may_move_at (table_of set) s own.node act (pointer_named target))
  pub shown : status ≡ 0 → IsShown (record_named own) (map record_named around)
  pub never : status ≡ 9 → IsNeverShown (record_named own) (map record_named around)
  pub bad : status ≡ 5 → rules ≤ 1 → 1 ≤ rule → rule ≤ 4 → target ≤ 65535 → AreNames own → All AreNames around → ⊥
  pub nothing : status ≢ 0 → may ≡ false
  pub only : status ≢ 0 → status ≢ 9 → status ≡ 5
