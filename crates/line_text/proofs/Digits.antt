-- Digits at the front of a text, and the names that they say.
use Rattle.line_text.proofs.Prelude.{◌≡◌, ℕ, zero, suc, ◌+◌, ◌<◌, ◌≤◌, List, ◌∷◌, ◌++◌, length, get_or, take, drop, refl, sym, ap, subst, ◌∙◌, append_assoc, arith, slice_index, IsInRange, AllDigits, digits_value, append-nil, take-append-drop, length-take-le, get_or-drop, get_or-take, IsNumeralModel, numerals_by_value, tells_digits, digit_from_value, digits_decimal, digits_value-decimal, decimal-digits_value, decimal_injective, decimal_nonempty, length-decimal-le, number_text, IsName, NoDigit, NameThen, WordThen, []}
use Rattle.line_text.specs.ReadBack.{IsReadBack}

-- std's words for digits and for their number
pub own : IsNumeralModel (AllDigits 10) (digits_value 10)
own = numerals_by_value (AllDigits 10) tells_digits

-- equal lists have equal parts
pub cons_parts : (c d : ℕ) (xs ys : List ℕ) → c ∷ xs ≡ d ∷ ys → (c ≡ d) × (xs ≡ ys)
cons_parts c d xs ys e = (cc, cc)

-- a run of digits that no digit follows is one run
pub run_once : (ds es x y : List ℕ) → AllDigits 10 ds → AllDigits 10 es → NoDigit x → NoDigit y → ds ++ x ≡ es ++ y → (ds ≡ es) × (x ≡ y)
run_once [] [] x y a b p q e = (refl, e)
run_once [] (c ∷ es) x y a b p q e = absurd (p (subst (λ (z : List ℕ). IsInRange 48 57 (slice_index z 0)) (sym e) (digit_from_value c b.0)))
run_once (c ∷ ds) [] x y a b p q e = absurd (q (subst (λ (z : List ℕ). IsInRange 48 57 (slice_index z 0)) e (digit_from_value c a.0)))
run_once (c ∷ ds) (d ∷ es) x y a b p q e =
    let h = cons_parts c d (ds ++ x) (es ++ y) e in
    let t = run_once ds es x y a.1 b.1 p q h.1 in
    (cc, t.1)

-- what follows begins with no digit
abbrev pub Undigited : {X : Type 0} → X → List ℕ → Type 0
Undigited x rest = NoDigit rest

-- a number that no digit follows is read back
pub number_back : IsReadBack (λ n. n < 18446744073709551616) number_text Undigited
number_back = record {
  once = λ m n r s f g a b e.
      let same = run_once (number_text m) (number_text n) r s (digits_decimal own m (omega (arith, f))) (digits_decimal own n (omega (arith, g))) a b e in
      (decimal_injective m n (omega (arith, f)) (omega (arith, g)) same.0, same.1);
}

pub name_back : IsReadBack IsName number_text Undigited
name_back = record { once = λ m n r s f g a b e. number_back.once m n r s (omega (arith, f.1)) (omega (arith, g.1)) a b e }

-- a name that no digit follows is one name
pub name_once : (bytes : List ℕ) (m n : ℕ) (x y : List ℕ) → NameThen bytes m x → NameThen bytes n y → (m ≡ n) × (x ≡ y)
name_once bytes m n x y a b = name_back.once m n x y a.fits b.fits a.ends b.ends (sym a.is ∙ b.is)

-- what a number says of the run of digits at the front, if no digit follows it
pub run_facts : (bytes : List ℕ) (len n : ℕ) (rest : List ℕ) → n < 18446744073709551616 → len ≤ length bytes → AllDigits 10 (take len bytes) → NoDigit (drop len bytes) → NoDigit rest → bytes ≡ number_text n ++ rest → (0 < len) × (len ≡ length (number_text n)) × (get_or bytes 0 0 ≡ get_or (number_text n) 0 0) × (digits_value 10 (take len bytes) ≡ n)
run_facts bytes len n rest small le d e ends is =
    let r = run_once (take len bytes) (number_text n) (drop len bytes) rest d (digits_decimal own n small) e ends (take-append-drop len bytes ∙ is) in
    let same : len ≡ length (number_text n) = sym (length-take-le len bytes le) ∙ ap length r.0 in
    let some : 0 < len = omega (arith, decimal_nonempty n small) in
    (some, same, sym (get_or-take len bytes 0 0 some) ∙ ap (λ (z : List ℕ). get_or z 0 0) r.0, ap (digits_value 10) r.0 ∙ digits_value-decimal own n small)

-- a run of digits is the text of its number, if it begins with no 0 or is one
pub run_found : (bytes : List ℕ) (len n : ℕ) → len ≤ length bytes → 0 < len → AllDigits 10 (take len bytes) → (get_or bytes 0 0 ≡ 48 → len ≤ 1) → n ≡ digits_value 10 (take len bytes) → n < 18446744073709551616 → bytes ≡ number_text n ++ drop len bytes
run_found bytes len n le some d lead v small =
    let k : length (take len bytes) ≡ len = length-take-le len bytes le in
    let first : get_or (take len bytes) 0 0 ≡ get_or bytes 0 0 = get_or-take len bytes 0 0 some in
    let back : number_text (digits_value 10 (take len bytes)) ≡ take len bytes = decimal-digits_value own (take len bytes) d (omega arith) (λ z. omega (arith, lead (sym first ∙ z))) (omega arith) in
    sym (take-append-drop len bytes) ∙ ap (λ (z : List ℕ). z ++ drop len bytes) (sym back ∙ ap number_text (sym v))

-- a name that ends the text
pub NameThen-last : (bytes : List ℕ) (n : ℕ) → IsName n → bytes ≡ number_text n → NameThen bytes n []
NameThen-last bytes n f e = record { fits = f; ends = λ h. omega (arith, h.0); is = e ∙ sym (append-nil (number_text n)) }

-- a name that a space follows
pub NameThen-word : (bytes : List ℕ) (n : ℕ) (rest : List ℕ) → WordThen bytes n rest → NameThen bytes n (32 ∷ rest)
NameThen-word bytes n rest h = record { fits = h.fits; ends = λ (p : IsInRange 48 57 32). omega (arith, p.0, p.1); is = h.is }

-- a name and a space at the front are one
pub word_once : (bytes : List ℕ) (m n : ℕ) (x y : List ℕ) → WordThen bytes m x → WordThen bytes n y → (m ≡ n) × (x ≡ y)
word_once bytes m n x y a b =
    let r = name_once bytes m n (32 ∷ x) (32 ∷ y) (NameThen-word bytes m x a) (NameThen-word bytes n y b) in
    (r.0, (cons_parts 32 32 x y r.1).1)

-- a name, a space, and a text
pub WordThen-from : (bytes : List ℕ) (n : ℕ) (text : List ℕ) → IsName n → bytes ≡ number_text n ++ (32 ∷ []) ++ text → WordThen bytes n text
WordThen-from bytes n text f e = record { fits = f; is = e ∙ append_assoc (number_text n) (32 ∷ []) text }

-- ---- a run of digits that is too long for a name

-- no run of digits continues if no digit comes next
beyond : (ds rest : List ℕ) (len : ℕ) → AllDigits 10 (take len (ds ++ rest)) → length ds < len → len ≤ length (ds ++ rest) → NoDigit rest → ⊥
beyond [] [] len d more le none = omega (arith, more, le)
beyond [] (b ∷ rest) zero d more le none = omega (arith, more)
beyond [] (b ∷ rest) (suc len) d more le none = none (digit_from_value b d.0)
beyond (c ∷ ds) rest zero d more le none = omega (arith, more)
beyond (c ∷ ds) rest (suc len) d more le none = beyond ds rest len d.1 (omega (arith, more)) (omega (arith, le)) none

-- six digits in front are no name
pub no_name : (bytes : List ℕ) (len name : ℕ) (rest : List ℕ) → len ≤ length bytes → AllDigits 10 (take len bytes) → 5 < len → NameThen bytes name rest → ⊥
no_name bytes len name rest le d long h =
    let few = length-decimal-le 5 name (omega (arith, h.fits.0)) (omega (arith, h.fits.1)) (omega arith) in
    beyond (number_text name) rest len (subst (λ (z : List ℕ). AllDigits 10 (take len z)) h.is d) (omega (arith, few, long)) (subst (λ (z : List ℕ). len ≤ length z) h.is le) h.ends

-- what does not begin with a digit within the first bytes does not at all
pub ends_within : (bytes : List ℕ) (len most : ℕ) → len < most → NoDigit (drop len (take most bytes)) → NoDigit (drop len bytes)
ends_within bytes len most low none =
    let first : get_or (drop len bytes) 0 0 ≡ get_or (drop len (take most bytes)) 0 0 =
    get_or-drop len bytes 0 0 ∙ sym (get_or-take most bytes (len + 0) 0 (omega (arith, low))) ∙ sym (get_or-drop len (take most bytes) 0 0) in
    λ h. none (subst (IsInRange 48 57) first h)
