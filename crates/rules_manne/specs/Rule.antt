-- The rule of a node by cases, and what follows at once.
use Rattle.std.proofs.Common.{◌≡◌, ℕ, Bool, true, false, cond, not, ◌&&◌, ◌||◌, Option, None, Some, is_some, is_none, nat_le, find, IsTrue, refl, sym, ap, ap₂, ◌∙◌, arith}
use Rattle.rule_machine.specs.declared.act.Act.{Act}
use Rattle.rule_machine.specs.declared.act.Act.TheVariants.{Update, Marry, Seduce, Abandon}
use Rattle.rule_machine.specs.Network.{neighbours}
use Rattle.rule_machine.specs.State.{State, IsState, pointer, flag, points, holds_at, has_suitor, is_settled}
use Rattle.rule_machine.specs.RuleTable.{rule_at}
use Rattle.rule_machine.specs.Manne.{manne, manne_opens, may_court}
use Rattle.machine_laws.proofs.Pointers.{pointer_linked}
use Rattle.std.specs.Bool.{beq}
use Rattle.rule_machine.specs.Target.{SameAt}
use Rattle.rule_machine.specs.LocalViews.{AgreesLocally}
use Rattle.machine_laws.proofs.LocalAgreement.{same_find, same_pointer, same_suitor, same_married}
use Rattle.rules_manne.specs.GreatestTarget.{greatest, greatest_reaches}

-- the rule of a node, from whether its flag is right, its pointer, whether it has a suitor, whether it may
-- court a neighbour, and the test of its target for abandoning
abbrev pub manne_rule_by : Bool → Option ℕ → Bool → Bool → (ℕ → Bool) → Option Act
manne_rule_by false target suitor court leaves = Some Update
manne_rule_by true None true court leaves = Some Marry
manne_rule_by true None false true leaves = Some Seduce
manne_rule_by true None false false leaves = None
manne_rule_by true (Some w) suitor court leaves = cond (leaves w) (Some Abandon) None

-- whether v abandons w if w is its target: w does not point back and never will, since w is flagged or not
-- above v
abbrev pub is_lost : State → ℕ → ℕ → Bool
is_lost s v w = not (points s.registers w v) && (flag s w || nat_le w v)

abbrev pub courts : State → ℕ → Bool
courts s v = is_some (find (may_court s v) (neighbours s.network v))

pub manne_rule_cases : (s : State) (v : ℕ) → rule_at manne s v ≡ manne_rule_by (is_settled s v) (pointer s v) (has_suitor s v) (courts s v) (is_lost s v)
manne_rule_cases s v = grind arith

-- the rule of a settled node that points nowhere
pub null_rule : (s : State) (v : ℕ) (suitor court : Bool) → IsState s → is_settled s v ≡ true → pointer s v ≡ None → has_suitor s v ≡ suitor → is_some (greatest s v) ≡ court → rule_at manne s v ≡ manne_rule_by true None suitor court (is_lost s v)
null_rule s v suitor court is_state settled null suits reaches =
    manne_rule_cases s v
    ∙ ap₂ (λ b o. manne_rule_by b o (has_suitor s v) (courts s v) (is_lost s v)) settled null
    ∙ ap₂ (λ b c. manne_rule_by true None b c (is_lost s v)) suits (greatest_reaches s v is_state.is_network ∙ reaches)

-- a node is settled exactly if its flag is whether it is married
pub flag_from_settled : (married flag : Bool) → cond married flag (not flag) ≡ true → flag ≡ married
flag_from_settled married flag h = grind arith

pub settled_from_flag : (married flag : Bool) → flag ≡ married → cond married flag (not flag) ≡ true
settled_from_flag married flag h = grind arith

-- or if they do not differ
pub settled_from_test : (married flag : Bool) → not (beq flag married) ≡ false → cond married flag (not flag) ≡ true
settled_from_test married flag h = grind arith

-- Two rules at one node: one that updates has a wrong flag, and the others a right one. One that marries or
-- seduces has a null pointer, one that abandons does not. One that marries has a suitor, and one that seduces
-- has none.
pub manne_one_rule_at : (s : State) (v : ℕ) (a b : Act) → IsTrue (manne.guard s v a) → IsTrue (manne.guard s v b) → a ≡ b
manne_one_rule_at s v a b h k = grind arith

-- what each part of a guard reads is shown at its node
same_settled : (s u : State) (v : ℕ) → SameAt s u v → is_settled s v ≡ is_settled u v
same_settled s u v same = grind (arith, same_married)

same_courts : (s u : State) (v : ℕ) → SameAt s u v → courts s v ≡ courts u v
same_courts s u v same = grind (arith, same_find)

same_lost : (s u : State) (v : ℕ) (o : Option ℕ) → IsState s → SameAt s u v → pointer s v ≡ o → holds_at (is_lost s v) o ≡ holds_at (is_lost u v) o
same_lost s u v o is_state same e = grind (arith, pointer_linked)

-- Each part of a guard is a search among the neighbours, or reads the registers of the node and of its
-- target.
pub manne_guard_is_local : (s u : State) (v : ℕ) (act : Act) → IsState s → IsState u → SameAt s u v → manne.guard s v act ≡ manne.guard u v act
manne_guard_is_local s u v Update is_state other same = ap not (same_settled s u v same)
manne_guard_is_local s u v Marry is_state other same =
    ap₂ (λ (b c : Bool). b && c) (ap₂ (λ b o. b && is_none o) (same_settled s u v same) (same_pointer s u v same)) (same_suitor s u v same)
manne_guard_is_local s u v Seduce is_state other same =
    ap₂ (λ (b c : Bool). b && c)
    (ap₂ (λ b c. b && not c) (ap₂ (λ b o. b && is_none o) (same_settled s u v same) (same_pointer s u v same)) (same_suitor s u v same))
    (same_courts s u v same)
manne_guard_is_local s u v Abandon is_state other same =
    ap₂ (λ (b c : Bool). b && c) (same_settled s u v same) (same_lost s u v (pointer s v) is_state same refl ∙ ap (holds_at (is_lost u v)) (same_pointer s u v same))

-- a local view determines each part of a guard
glance_settled : (s u : State) (v : ℕ) → AgreesLocally true manne_opens s u v → is_settled s v ≡ is_settled u v
glance_settled s u v same = ap₂ (λ (m f : Bool). cond m f (not f)) same.marriage same.own_flag

glance_courts : (s u : State) (v : ℕ) → IsState s → IsState u → AgreesLocally true manne_opens s u v → pointer s v ≡ None → courts s v ≡ courts u v
glance_courts s u v is_state other same null =
    greatest_reaches s v is_state.is_network ∙ same.reach null ∙ sym (greatest_reaches u v other.is_network)

glance_lost : (s u : State) (v : ℕ) (o : Option ℕ) → AgreesLocally true manne_opens s u v → pointer s v ≡ o → holds_at (is_lost s v) o ≡ holds_at (is_lost u v) o
glance_lost s u v o same e = grind arith

-- only a node with a null pointer needs to know whether one suits and whether one is open
glance_marries : (o : Option ℕ) (settled suitor suitor' : Bool) → (o ≡ None → suitor ≡ suitor') → (settled && is_none o && suitor) ≡ (settled && is_none o && suitor')
glance_marries o settled suitor suitor' same = grind arith

glance_seduces : (o : Option ℕ) (settled suitor suitor' court court' : Bool) → (o ≡ None → suitor ≡ suitor') → (o ≡ None → court ≡ court') → (settled && is_none o && not suitor && court) ≡ (settled && is_none o && not suitor' && court')
glance_seduces o settled suitor suitor' court court' same reach = grind arith

-- each guard depends on the local view of the node alone
pub manne_guard_is_view : (s u : State) (v : ℕ) (act : Act) → IsState s → IsState u → AgreesLocally true manne_opens s u v → manne.guard s v act ≡ manne.guard u v act
manne_guard_is_view s u v Update is_state other same = ap not (glance_settled s u v same)
manne_guard_is_view s u v Marry is_state other same =
    ap₂ (λ b o. b && is_none o && has_suitor s v) (glance_settled s u v same) same.own_pointer
    ∙ glance_marries (pointer u v) (is_settled u v) (has_suitor s v) (has_suitor u v) (λ null. same.suitor (same.own_pointer ∙ null))
manne_guard_is_view s u v Seduce is_state other same =
    ap₂ (λ b o. b && is_none o && not (has_suitor s v) && courts s v) (glance_settled s u v same) same.own_pointer
    ∙ glance_seduces (pointer u v) (is_settled u v) (has_suitor s v) (has_suitor u v) (courts s v) (courts u v)
    (λ null. same.suitor (same.own_pointer ∙ null))
    (λ null. glance_courts s u v is_state other same (same.own_pointer ∙ null))
manne_guard_is_view s u v Abandon is_state other same =
    ap₂ (λ (b c : Bool). b && c) (glance_settled s u v same) (glance_lost s u v (pointer s v) same refl ∙ ap (holds_at (is_lost u v)) same.own_pointer)
