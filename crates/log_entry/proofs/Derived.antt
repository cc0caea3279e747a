-- A derived `==` of an enum decides equality if it does so at each variant.
use Rattle.std.proofs.Common.{◌≡◌, ◌⊎◌, Bool, true, false, List, [], ◌∷◌, inl, inr, sym, ap, subst}
use Rattle.std.specs.Bool.{⊤, Decides}
use Rattle.std.proofs.lemmas.Bool.{true≢false}
use lib.Pointwise.{pointwise, pointwise_decides}
use denote.Struct.Field.{Field}
use denote.Struct.Values.{Values}
use denote.Enum.Declared.{Choice, Record, left_or, right_or, values_one}
use denote.Enum.Compared.{Each, by}

-- the values of each variant
abbrev pub AllDecide : (Fss : List (List Field)) → Each Bool Fss → Type 0
AllDecide [] each = ⊤
AllDecide (Fs ∷ Fss) each = ((x y : Values Fs) → Decides (each.0 x y) (x ≡ y)) × AllDecide Fss each.1

abbrev OnLeft : {A B : Type 0} → A ⊎ B → Type 0
OnLeft (inl x) = ⊤
OnLeft (inr y) = ⊥

choices_decide : (Fss : List (List Field)) (each : Each Bool Fss) → AllDecide Fss each → (c d : Choice Fss) → Decides (by false false Fss each c d) (c ≡ d)
choices_decide [] each all c d = absurd c
choices_decide (Fs ∷ Fss) each all (inl x) (inl y) =
    (λ is. ap inl ((all.0 x y).0 is), λ same. (all.0 x y).1 (ap (left_or x) same))
choices_decide (Fs ∷ Fss) each all (inl x) (inr y) = (λ is. absurd (true≢false (sym is)), λ same. absurd (subst OnLeft same tt))
choices_decide (Fs ∷ Fss) each all (inr x) (inl y) =
    (λ is. absurd (true≢false (sym is)), λ same. absurd (subst OnLeft (sym same) tt))
choices_decide (Fs ∷ Fss) each all (inr x) (inr y) =
    let rest = choices_decide Fss each.1 all.1 x y in
    (λ is. ap inr (rest.0 is), λ same. rest.1 (ap (right_or x) same))

pub values_decide : (N : Record) (each : Each Bool N.parts) → AllDecide N.parts each → (x y : N.D) → Decides (by false false N.parts each (N.as_values x) (N.as_values y)) (x ≡ y)
values_decide N each all x y =
    let choices = choices_decide N.parts each all (N.as_values x) (N.as_values y) in
    (λ is. values_one N x y (choices.0 is), λ same. choices.1 (ap N.as_values same))

-- the value of a variant that has one field, a list
pub lists_decide : {X : Type 0} {E : X → X → Bool} → ((x y : X) → Decides (E x y) (x ≡ y)) → (a b : List X × ⊤) → Decides (pointwise E a.0 b.0) (a ≡ b)
lists_decide items a b =
    let same = pointwise_decides items a.0 b.0 in
    (λ is. ap (λ l. (l, tt)) (same.0 is), λ e. same.1 (ap (λ p. p.0) e))
