-- Rows of C whose numbers are names are the records that they name.
use Rattle.std.proofs.Common.{◌≡◌, ◌≢◌, ◌≤◌, ℕ, Bool, List, [], ◌∷◌, map, Option, None, Some, IfSome, nat_eq, cond, true, false, refl, sym, ap, ap₂, ◌∙◌, subst, arith}
use Rattle.std.proofs.lemmas.Bool.Decides.{nat_tests}
use Rattle.std.specs.List.{AllByRecursion}
use Rattle.rule_machine.specs.declared.act.Act.{Act}
use Rattle.rule_machine.specs.declared.base.NodeRecord.{NodeRecord}
use Rattle.rule_machine.specs.declared.rule_set.RuleSet.{RuleSet}
use Rattle.rule_machine.specs.State.{State}
use Rattle.rule_machine.specs.Tables.{table_of}
use Rattle.local_rule.specs.declared.local_move.LocalMove.{LocalMove}
use Rattle.local_rule.specs.declared.fault.ViewFault.{ViewFault}
use Rattle.local_rule.specs.declared.fault.ViewFault.TheVariants.{NotAscending, OwnNeighbour, PointsAtItself, PointsAtStranger}
use Rattle.local_rule.specs.Faults.{first_fault}
use Rattle.local_rule.specs.Moves.{move_at, may_move_at}
use Rattle.local_rule.specs.Views.{ShowsAtNode, IsShown, IsNeverShown}
use Rattle.rudekpi_c.specs.declared.local.RawRecord.{RawRecord}
use Rattle.rudekpi_c.specs.LocalCalls.{AreNames, record_named, nearest_record, nearest_name, nearest_pointer, pointer_named, move_told, fault_told, fault_status}

nearest_of_name : (n : ℕ) → 1 ≤ n → n ≤ 65535 → nearest_name n ≡ n
nearest_of_name n low high = omega (arith, low, high)

nearest_of_pointer : (n : ℕ) → n ≤ 65535 → nearest_pointer n ≡ pointer_named n
nearest_of_pointer n high = go (nat_eq n 0) refl
  where
    above : (m : ℕ) → nat_eq m 0 ≡ false → 1 ≤ m
    above m e = grind (arith, nat_tests)

    go : (b : Bool) → nat_eq n 0 ≡ b → cond b None (Some (nearest_name n)) ≡ cond b None (Some n)
    go true is = refl
    go false is = ap Some (nearest_of_name n (above n is) high)

pub nearest_of_record : (r : RawRecord) → AreNames r → nearest_record r ≡ record_named r
nearest_of_record r names =
    ap₂ (λ n o. record { node = n; target = o; flagged = r.flag }) (nearest_of_name r.node names.low names.high) (nearest_of_pointer r.pointer names.pointer)

pub nearest_of_records : (rows : List RawRecord) → AllByRecursion AreNames rows → map nearest_record rows ≡ map record_named rows
nearest_of_records [] names = refl
nearest_of_records (r ∷ rows) names = ap₂ (λ n rest. n ∷ rest) (nearest_of_record r names.0) (nearest_of_records rows names.1)

-- what holds of the records that are read holds of those that the rows name
pub told_from : (set : RuleSet) (own : RawRecord) (around : List RawRecord) (node : NodeRecord) (answer : Option LocalMove) → node ≡ record_named own → AllByRecursion AreNames around → ((s : State) → ShowsAtNode s node (map nearest_record around) → answer ≡ move_at (table_of set) s node.node) → (s : State) → ShowsAtNode s (record_named own) (map record_named around) → move_told own answer ≡ move_told own (move_at (table_of set) s own.node)
told_from set own around node answer same names h s shows =
    ap (move_told own) (h s (subst (λ n. ShowsAtNode s n (map nearest_record around)) (sym same) (subst (ShowsAtNode s (record_named own)) (sym (nearest_of_records around names)) shows)) ∙ ap (λ (n : NodeRecord). move_at (table_of set) s n.node) same)

pub may_from : (set : RuleSet) (own : RawRecord) (around : List RawRecord) (node : NodeRecord) (act : Act) (wish target : Option ℕ) (may : Bool) → node ≡ record_named own → AllByRecursion AreNames around → wish ≡ target → ((s : State) → ShowsAtNode s node (map nearest_record around) → may ≡ may_move_at (table_of set) s node.node act wish) → (s : State) → ShowsAtNode s (record_named own) (map record_named around) → may ≡ may_move_at (table_of set) s own.node act target
may_from set own around node act wish target may same names aims h s shows =
    h s (subst (λ n. ShowsAtNode s n (map nearest_record around)) (sym same) (subst (ShowsAtNode s (record_named own)) (sym (nearest_of_records around names)) shows))
    ∙ ap₂ (λ (n : NodeRecord) o. may_move_at (table_of set) s n.node act o) same aims

pub shown_from : (own : RawRecord) (around : List RawRecord) (node : NodeRecord) → node ≡ record_named own → AllByRecursion AreNames around → IsShown node (map nearest_record around) → IsShown (record_named own) (map record_named around)
shown_from own around node same names h =
    (h.0, subst (λ n. ShowsAtNode h.0 n (map record_named around)) same (subst (ShowsAtNode h.0 node) (nearest_of_records around names) h.1))

pub never_from : (own : RawRecord) (around : List RawRecord) (node : NodeRecord) → node ≡ record_named own → AllByRecursion AreNames around → IsNeverShown node (map nearest_record around) → IsNeverShown (record_named own) (map record_named around)
never_from own around node same names h s shows =
    h s (subst (λ n. ShowsAtNode s n (map nearest_record around)) (sym same) (subst (ShowsAtNode s (record_named own)) (sym (nearest_of_records around names)) shows))

pub fault_from : (own : RawRecord) (around : List RawRecord) (node : NodeRecord) (why : ViewFault) → node ≡ record_named own → AllByRecursion AreNames around → first_fault node (map nearest_record around) ≡ Some why → first_fault (record_named own) (map record_named around) ≡ Some why
fault_from own around node why same names h = sym (ap₂ first_fault same (nearest_of_records around names)) ∙ h

-- the fault that is told, with its status
pub if_fault : {X : Type 0} (o : Option X) (P : X → Type 0) (x : X) → o ≡ Some x → P x → IfSome o P
if_fault o P x e p = subst (λ o. IfSome o P) (sym e) p

pub told_fault : (own : RawRecord) (why : ViewFault) → (fault_told own why).fault ≢ 0
told_fault own (NotAscending w) e = absurd (omega (arith, e))
told_fault own OwnNeighbour e = absurd (omega (arith, e))
told_fault own (PointsAtItself w) e = absurd (omega (arith, e))
told_fault own (PointsAtStranger w) e = absurd (omega (arith, e))

pub told_no_fault : (own : RawRecord) (answer : Option LocalMove) → (move_told own answer).fault ≡ 0
told_no_fault own None = refl
told_no_fault own (Some m) = refl

pub status_known : (why : ViewFault) → fault_status why ≢ 0 → fault_status why ≢ 9 → ⊥
status_known (NotAscending w) none nine = nine refl
status_known OwnNeighbour none nine = nine refl
status_known (PointsAtItself w) none nine = nine refl
status_known (PointsAtStranger w) none nine = none refl

pub status_not_five : (why : ViewFault) → fault_status why ≢ 5
status_not_five (NotAscending w) e = absurd (omega (arith, e))
status_not_five OwnNeighbour e = absurd (omega (arith, e))
status_not_five (PointsAtItself w) e = absurd (omega (arith, e))
status_not_five (PointsAtStranger w) e = absurd (omega (arith, e))
