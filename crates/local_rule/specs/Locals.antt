-- Under both rule sets, which targets a rule allows depends only on what is shown at its node; so what the
-- machine does at a node is the same in all states that show the same.
use Rattle.std.proofs.Common.{◌≡◌, ℕ, Bool, true, false, not, ◌&&◌, Option, is_some, nat_lt, IsTrue, refl, ap, ap₂, ◌∙◌, inr}
use Rattle.rule_machine.specs.declared.act.Act.TheVariants.{Update, Marry, Seduce, Abandon}
use Rattle.rule_machine.specs.Network.{linked}
use Rattle.rule_machine.specs.State.{State, suits, is_at}
use Rattle.rule_machine.specs.RuleTable.{is_open}
use Rattle.rule_machine.specs.HsuHuang.{hsu_huang, hsu_huang_opens}
use Rattle.rule_machine.specs.Manne.{manne, manne_opens, may_court}
use Rattle.rule_machine.specs.Target.{SameAt}
use Rattle.machine_laws.proofs.LocalAgreement.{same_find}
use Rattle.local_rule.specs.Moves.{TargetsAreLocal}

-- a test of a neighbour, joined with its being one
both_near : (s u : State) (v w : ℕ) (p q : Bool) → SameAt s u v → (IsTrue (linked s.network v w) → p ≡ q) → (linked s.network v w && p) ≡ (linked u.network v w && q)
both_near s u v w p q same h =
    ap (λ b. b && p) (same.linked w) ∙ go (linked u.network v w) (λ near. h (same.linked w ∙ near))
  where
    go : (b : Bool) → (b ≡ true → p ≡ q) → (b && p) ≡ (b && q)
    go true k = k refl
    go false k = refl

same_suits : (s u : State) (v w : ℕ) → SameAt s u v → (linked s.network v w && suits s v w) ≡ (linked u.network v w && suits u v w)
same_suits s u v w same = both_near s u v w _ _ same (λ h. ap (λ o. is_at o v) (same.pointers w (inr h)))

opens_same : (opens : Option ℕ → Bool → Bool) (s u : State) (v w : ℕ) → SameAt s u v → IsTrue (linked s.network v w) → is_open opens s w ≡ is_open opens u w
opens_same opens s u v w same h = ap₂ opens (same.pointers w (inr h)) (same.flags w (inr h))

courts_same : (s u : State) (v w : ℕ) → SameAt s u v → IsTrue (linked s.network v w) → may_court s v w ≡ may_court u v w
courts_same s u v w same h = ap (λ b. b && nat_lt v w) (opens_same manne_opens s u v w same h)

pub hsu_huang_targets : TargetsAreLocal hsu_huang
hsu_huang_targets s u v Update w good other same = refl
hsu_huang_targets s u v Marry w good other same = same_suits s u v w same
hsu_huang_targets s u v Seduce w good other same = both_near s u v w _ _ same (λ h. opens_same hsu_huang_opens s u v w same h)
hsu_huang_targets s u v Abandon w good other same = refl

pub manne_targets : TargetsAreLocal manne
manne_targets s u v Update w good other same = refl
manne_targets s u v Marry w good other same = same_suits s u v w same
manne_targets s u v Seduce w good other same =
    ap₂ (λ (b c : Bool). b && c)
    (both_near s u v w _ _ same (λ h. courts_same s u v w same h))
    (ap (λ (o : Option ℕ). not (is_some o)) (same_find s u v (λ x. may_court s v x && nat_lt w x) (λ x. may_court u v x && nat_lt w x) same (λ x h. ap (λ b. b && nat_lt w x) (courts_same s u v x same h))))
manne_targets s u v Abandon w good other same = refl
