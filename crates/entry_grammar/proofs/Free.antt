-- Texts without a given byte, and their ends.
use Rattle.entry_grammar.proofs.Prelude.{◌≡◌, ◌≢◌, ℕ, ◌<◌, ◌+◌, ◌-◌, true, not, List, ◌∷◌, ◌++◌, take, drop, length, get_or, refl, sym, ap, subst, ◌∙◌, arith, nat_eq, IsInRange, list_all, AllDigits, digit_from_value, number_text, IsName, own, IsFree, CutAt, digits_decimal, and_parts, take-append-drop, take_more, drop-cons, [], AllByRecursion, take_rest}
pub use Rattle.line_text.proofs.Digits.{cons_parts}

-- what holds of each item of two lists holds of each item of both
pub all_both : {X : Type 0} (P : X → Type 0) (xs ys : List X) → AllByRecursion P xs → AllByRecursion P ys → AllByRecursion P (xs ++ ys)
all_both P [] ys f g = g
all_both P (x ∷ xs) ys f g = (f.0, all_both P xs ys f.1 g)

-- digits are no other byte
pub free_digits : (mark : ℕ) (ds : List ℕ) → (IsInRange 48 57 mark → ⊥) → AllDigits 10 ds → IsFree mark ds
free_digits mark [] o d = tt
free_digits mark (c ∷ ds) o d = (λ e. o (subst (λ (z : ℕ). IsInRange 48 57 z) e (digit_from_value c d.0)), free_digits mark ds o d.1)

-- a number has digits alone
pub free_number : (mark n : ℕ) → (IsInRange 48 57 mark → ⊥) → n < 18446744073709551616 → IsFree mark (number_text n)
free_number mark n o h = free_digits mark (number_text n) o (digits_decimal own n h)

-- bytes that a test finds different
other : (b mark : ℕ) → not (nat_eq b mark) ≡ true → b ≢ mark
other b mark e = λ h. grind arith

-- a text that a test finds free
pub free_by : (mark : ℕ) (x : List ℕ) → list_all (λ b. not (nat_eq b mark)) x ≡ true → IsFree mark x
free_by mark [] e = tt
free_by mark (b ∷ x) e =
    let r = and_parts (not (nat_eq b mark)) (list_all (λ z. not (nat_eq z mark)) x) e in
    (other b mark r.0, free_by mark x r.1)

-- a text that has a mark is not free of it
pub not_free : (mark : ℕ) (front back : List ℕ) → IsFree mark (front ++ mark ∷ back) → ⊥
not_free mark [] back f = f.0 refl
not_free mark (b ∷ front) back f = not_free mark front back f.1

-- what comes before the first mark, and after it, is determined
pub mark_once : (mark : ℕ) (f g x y : List ℕ) → IsFree mark f → IsFree mark g → f ++ mark ∷ x ≡ g ++ mark ∷ y → (f ≡ g) × (x ≡ y)
mark_once mark [] [] x y p q e = (refl, (cons_parts mark mark x y e).1)
mark_once mark [] (d ∷ g) x y p q e = absurd (q.0 (sym (cons_parts mark d x (g ++ mark ∷ y) e).0))
mark_once mark (c ∷ f) [] x y p q e = absurd (p.0 (cons_parts c mark (f ++ mark ∷ x) y e).0)
mark_once mark (c ∷ f) (d ∷ g) x y p q e =
    let h = cons_parts c d (f ++ mark ∷ x) (g ++ mark ∷ y) e in
    let t = mark_once mark f g x y p.1 q.1 h.1 in
    (cc, t.1)

-- a cut is determined
pub cut_once : {mark : ℕ} {bytes f g x y : List ℕ} → CutAt mark bytes f x → CutAt mark bytes g y → (f ≡ g) × (x ≡ y)
cut_once {mark} {bytes} {f} {g} {x} {y} a b = mark_once mark f g x y a.free b.free (sym a.is ∙ b.is)

-- a text that is free is not cut
pub free_no_cut : {mark : ℕ} {bytes f x : List ℕ} → IsFree mark bytes → CutAt mark bytes f x → ⊥
free_no_cut {mark} {bytes} {f} {x} h a = not_free mark f x (subst (IsFree mark) a.is h)

-- one more byte that is no mark
pub free_more : (mark : ℕ) (bytes : List ℕ) (i : ℕ) → i < length bytes → IsFree mark (take i bytes) → get_or bytes i 0 ≢ mark → IsFree mark (take (i + 1) bytes)
free_more mark bytes i lt f n =
    subst (IsFree mark) (sym (take_more bytes i 0 lt)) (all_both (λ b. b ≢ mark) (take i bytes) (get_or bytes i 0 ∷ []) f (n, tt))

-- the bytes around the mark
pub cut_here : (mark : ℕ) (bytes : List ℕ) (i : ℕ) → i < length bytes → IsFree mark (take i bytes) → get_or bytes i 0 ≡ mark → CutAt mark bytes (take i bytes) (take (length bytes - (i + 1)) (drop (i + 1) bytes))
cut_here mark bytes i lt f e =
    let behind : drop i bytes ≡ mark ∷ drop (i + 1) bytes = grind (arith, drop-cons bytes i 0 lt) in
    rw (take_rest bytes (i + 1)) (record { free = f; is = sym (take-append-drop i bytes) ∙ ap (λ (z : List ℕ). take i bytes ++ z) behind })

-- a name has no byte that is no digit
pub free_name : (mark n : ℕ) → (IsInRange 48 57 mark → ⊥) → IsName n → IsFree mark (number_text n)
free_name mark n o h = free_number mark n o (omega arith)
