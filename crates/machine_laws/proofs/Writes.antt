-- The values of registers after a write.
use Rattle.machine_laws.proofs.ChargePrelude.Imports.{◌≡◌, ℕ, ◌⊎◌, inl, inr, ◌<◌, Bool, true, false, cond, List, length, Option, None, Some, IfSome, refl, sym, ap, ◌∙◌, subst, ⊎_elim, arith, get_or, set, get_or-set_same, get_or-set_other, get_or_past, set_past, length-set, cases_lt, cases_eq, true≢false, eq-eqb, Registers, pointer_of, flag_of, is_at, points, with_pointer, with_flag, without_pointer}

-- a fact about an option's value follows from the fact for each value that it may have, and conversely
pub if_some_from : {X : Type 0} (o : Option X) (P : X → Type 0) → ((x : X) → o ≡ Some x → P x) → IfSome o P
if_some_from x y h = grind arith

pub if_some_at : {X : Type 0} (o : Option X) (P : X → Type 0) (x : X) → o ≡ Some x → IfSome o P → P x
if_some_at o P x e h = subst (λ q. IfSome q P) e h

pub is_at_same : (w : ℕ) → is_at (Some w) w ≡ true
is_at_same w = eq-eqb w w refl

-- a pointer that is at w is Some w
pub some_from_is_at : (o : Option ℕ) (w : ℕ) → is_at o w ≡ true → o ≡ Some w
some_from_is_at o w h = grind arith

pub is_at_from_some : (o : Option ℕ) (w : ℕ) → o ≡ Some w → is_at o w ≡ true
is_at_from_some o w e = ap (λ q. is_at q w) e ∙ is_at_same w

pub pointer-with_pointer_other : (r : Registers) (v : ℕ) (target : Option ℕ) (w : ℕ) → (w ≡ v → ⊥) → pointer_of (with_pointer r v target) w ≡ pointer_of r w
pointer-with_pointer_other r v target w apart = get_or-set_other r.pointers v w target None apart

pub pointer-with_pointer_same : (r : Registers) (v : ℕ) (target : Option ℕ) → v < length r.pointers → pointer_of (with_pointer r v target) v ≡ target
pointer-with_pointer_same r v target below = get_or-set_same r.pointers v target None below

pub flag-with_flag_other : (r : Registers) (v : ℕ) (value : Bool) (w : ℕ) → (w ≡ v → ⊥) → flag_of (with_flag r v value) w ≡ flag_of r w
flag-with_flag_other r v value w apart = get_or-set_other r.flags v w value false apart

pub flag-with_flag_same : (r : Registers) (v : ℕ) (value : Bool) → v < length r.flags → flag_of (with_flag r v value) v ≡ value
flag-with_flag_same r v value below = get_or-set_same r.flags v value false below

-- null, or what is written, or what was there
pub pointer_cases : (r : Registers) (v : ℕ) (target : Option ℕ) (w x : ℕ) → pointer_of (with_pointer r v target) w ≡ Some x → ((w ≡ v) × (target ≡ Some x)) ⊎ (pointer_of r w ≡ Some x)
pointer_cases r v target w x e = grind (arith, pointer-with_pointer_same, set_past, cases_lt, pointer-with_pointer_other, cases_eq)

pub flag_cases : (r : Registers) (v : ℕ) (value : Bool) (w : ℕ) → flag_of (with_flag r v value) w ≡ true → (w ≡ v) ⊎ (flag_of r w ≡ true)
flag_cases r v value w e = ⊎_elim inl (λ apart. inr (sym (flag-with_flag_other r v value w apart) ∙ e)) (cases_eq w v)

-- the default is written
pub cleared : {X : Type 0} (xs : List X) (v : ℕ) (d : X) → get_or (set xs v d) v d ≡ d
cleared xs v d = grind (arith, get_or-set_same, get_or_past, length-set, cases_lt)

-- what is left was there
pub without_pointer_was : (r : Registers) (v w x y : ℕ) → pointer_of (without_pointer r v w) x ≡ Some y → pointer_of r x ≡ Some y
without_pointer_was r v w x y e = grind (arith, pointer_cases)

-- v does not point at w any more
pub without_pointer_gone : (r : Registers) (v w : ℕ) → pointer_of (without_pointer r v w) v ≡ Some w → ⊥
without_pointer_gone r v w e = grind (arith, cleared r.pointers v None, true≢false, is_at_from_some)

-- only pointers change, and no table its length
pub without_pointer_flags : (r : Registers) (v w : ℕ) → (without_pointer r v w).flags ≡ r.flags
without_pointer_flags r v w = elim (points r v w) as (λ b. (cond b (with_pointer r v None) r).flags ≡ r.flags) [ true ↦ refl | false ↦ refl ]

pub without_pointer_len : (r : Registers) (v w : ℕ) → length (without_pointer r v w).pointers ≡ length r.pointers
without_pointer_len r v w = grind (arith, length-set)
