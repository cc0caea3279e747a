-- The rule of a node by cases, and what follows at once.
use Rattle.std.proofs.Common.{◌≡◌, ℕ, Bool, true, false, cond, not, ◌&&◌, Option, None, Some, is_some, is_none, IsTrue, refl, ap₂, arith}
use Rattle.rule_machine.specs.declared.act.Act.{Act}
use Rattle.rule_machine.specs.declared.act.Act.TheVariants.{Update, Marry, Seduce, Abandon}
use Rattle.rule_machine.specs.State.{State, IsState, pointer, points, holds_at, has_suitor}
use Rattle.rule_machine.specs.RuleTable.{rule_at}
use Rattle.rule_machine.specs.HsuHuang.{hsu_huang, hsu_huang_opens}
use Rattle.rule_machine.specs.RuleTable.{first_open}
use Rattle.rule_machine.specs.Target.{SameAt}
use Rattle.rule_machine.specs.LocalViews.{AgreesLocally}
use Rattle.machine_laws.proofs.LocalAgreement.{same_find, same_pointer, same_suitor}

-- the rule of a node, from its pointer, whether it has a suitor, whether it has an open neighbour, and the
-- test of its target for abandoning
abbrev pub hsu_huang_rule_by : Option ℕ → Bool → Bool → (ℕ → Bool) → Option Act
hsu_huang_rule_by None true reach leaves = Some Marry
hsu_huang_rule_by None false true leaves = Some Seduce
hsu_huang_rule_by None false false leaves = None
hsu_huang_rule_by (Some w) suitor reach leaves = cond (leaves w) (Some Abandon) None

-- whether v abandons w if w is its target: w points at another node than v
abbrev pub is_taken : State → ℕ → ℕ → Bool
is_taken s v w = is_some (pointer s w) && not (points s.registers w v)

abbrev pub has_open : State → ℕ → Bool
has_open s v = is_some (first_open hsu_huang_opens s v)

pub hsu_huang_rule_cases : (s : State) (v : ℕ) → rule_at hsu_huang s v ≡ hsu_huang_rule_by (pointer s v) (has_suitor s v) (has_open s v) (is_taken s v)
hsu_huang_rule_cases s v = cases (pointer s v) (has_suitor s v) (has_open s v)
  where
    cases : (o : Option ℕ) (suitor reach : Bool) → cond (is_none o && suitor) (Some Marry) (cond (is_none o && not suitor && reach) (Some Seduce) (cond (holds_at (is_taken s v) o) (Some Abandon) None)) ≡ hsu_huang_rule_by o suitor reach (is_taken s v)
    cases None true reach = refl
    cases None false true = refl
    cases None false false = refl
    cases (Some w) suitor reach = refl

-- Two rules at one node: a node that marries or seduces has a null pointer, one that abandons does not; one
-- that marries has a suitor, and one that seduces has none.
pub hsu_huang_one_rule_at : (s : State) (v : ℕ) (a b : Act) → IsTrue (hsu_huang.guard s v a) → IsTrue (hsu_huang.guard s v b) → a ≡ b
hsu_huang_one_rule_at s v a b h k = grind arith

-- whether a neighbour is open depends on the local view
same_open : (s u : State) (v : ℕ) → SameAt s u v → has_open s v ≡ has_open u v
same_open s u v same = grind (arith, same_find)

-- Each part of a guard is a search among the neighbours, or reads the node's pointer and its target's
-- pointer.
pub hsu_huang_guard_is_local : (s u : State) (v : ℕ) (act : Act) → IsState s → IsState u → SameAt s u v → hsu_huang.guard s v act ≡ hsu_huang.guard u v act
hsu_huang_guard_is_local s u v Update is_state other same = refl
hsu_huang_guard_is_local s u v Marry is_state other same = grind (arith, same_pointer, same_suitor)
hsu_huang_guard_is_local s u v Seduce is_state other same =
    ap₂ (λ (b c : Bool). b && c) (ap₂ (λ o b. is_none o && not b) (same_pointer s u v same) (same_suitor s u v same)) (same_open s u v same)
hsu_huang_guard_is_local s u v Abandon is_state other same = grind (arith, same_pointer)

-- only a node with a null pointer needs to know whether one suits and whether one is open
glance_marries : (s u : State) (v : ℕ) (o : Option ℕ) → AgreesLocally false hsu_huang_opens s u v → pointer s v ≡ o → (is_none o && has_suitor s v) ≡ (is_none o && has_suitor u v)
glance_marries s u v o same e = grind arith

glance_seduces : (s u : State) (v : ℕ) (o : Option ℕ) → AgreesLocally false hsu_huang_opens s u v → pointer s v ≡ o → (is_none o && not (has_suitor s v) && has_open s v) ≡ (is_none o && not (has_suitor u v) && has_open u v)
glance_seduces s u v o same e = grind arith

-- each guard depends on the local view of the node alone
pub hsu_huang_guard_is_view : (s u : State) (v : ℕ) (act : Act) → IsState s → IsState u → AgreesLocally false hsu_huang_opens s u v → hsu_huang.guard s v act ≡ hsu_huang.guard u v act
hsu_huang_guard_is_view s u v act is_state other same = grind arith
