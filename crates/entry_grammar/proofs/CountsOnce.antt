-- Fields: numbers after their names.
use Rattle.entry_grammar.proofs.Prelude.{◌≡◌, ◌≤◌, ◌≢◌, ℕ, map, List, ◌∷◌, ◌++◌, Option, None, Some, get_or, refl, sym, ap, ap₂, ◌∙◌, arith, IsInRange, AllByRecursion, append_cancel_left, Counts, number_text, spaced, joined_texts, IsCountValue, IsCounts, counts_text, field_text, fields_of, ParsesAs, NoDigit, IsReadBack, Undigited, after_word, for_fewer, nothing_ends, number_back, IsFree, CutAt, FieldThen, []}
use Rattle.entry_grammar.proofs.Free.{all_both, cons_parts, free_number}

-- a field is cut at the space after it
pub field_cut : {bytes name : List ℕ} {n : ℕ} {rest : List ℕ} → IsFree 32 name → FieldThen bytes name n rest → CutAt 32 bytes (field_text (name, n)) rest
field_cut {bytes} {name} {n} {rest} f h =
    let few = h.fits in
    record {
      free = all_both (λ b. b ≢ 32) name (number_text n) f (free_number 32 n (λ p. omega (arith, p.0)) (omega (arith, few)));
      is = h.is;
    }

-- a number after its name is read as its digits are
pub field_reads : (bytes name digits : List ℕ) (r : Option ℕ) → bytes ≡ name ++ digits → ParsesAs (λ n. n ≤ 4294967295) number_text digits r → ParsesAs IsCountValue (λ n. field_text (name, n)) bytes r
field_reads bytes name digits None e none = λ n f is. none n (omega (arith, f)) (append_cancel_left name digits (number_text n) (sym e ∙ is))
field_reads bytes name digits (Some n) e found = (omega (arith, found.0), e ∙ ap (λ (t : List ℕ). name ++ t) found.1)

-- ---- fields with the same names

-- the number after a name is read back
after_name : (name : List ℕ) → IsReadBack IsCountValue (λ n. field_text (name, n)) Undigited
after_name name = after_word name (for_fewer IsCountValue number_back (λ n h. omega (arith, h)))

-- what follows a field, and the space after it, are the next fields
pub behind : {bytes name rest : List ℕ} {m n : ℕ} (next : List ℕ × ℕ) (more : List (List ℕ × ℕ)) → FieldThen bytes name m rest → IsCountValue n → bytes ≡ joined_texts field_text ((name, n) ∷ next ∷ more) → rest ≡ joined_texts field_text (next ∷ more)
behind {bytes} {name} {rest} {m} {n} next more h f e =
    let space : (r : List ℕ) → NoDigit (32 ∷ r) = λ r (p : IsInRange 48 57 32). omega (arith, p.0) in
    let same = (after_name name).once m n (32 ∷ rest) (32 ∷ joined_texts field_text (next ∷ more)) h.fits f (space rest) (space (joined_texts field_text (next ∷ more))) (sym h.is ∙ e) in
    (cons_parts 32 32 rest (joined_texts field_text (next ∷ more)) same.1).1

abbrev IsField : List ℕ × ℕ → Type 0
IsField field = IsCountValue field.1

spaced_ends : (fs : List (List ℕ × ℕ)) → NoDigit (spaced field_text fs)
spaced_ends [] = nothing_ends
spaced_ends (f ∷ fs) = λ (h : IsInRange 48 57 32). omega (arith, h.0)

-- they have a text of their own
pub fields_once : (fs gs : List (List ℕ × ℕ)) → map (λ f. f.0) fs ≡ map (λ g. g.0) gs → AllByRecursion IsField fs → AllByRecursion IsField gs → spaced field_text fs ≡ spaced field_text gs → fs ≡ gs
fields_once [] [] names x y e = refl
fields_once [] (g ∷ gs) names x y e = absurd cc
fields_once (f ∷ fs) [] names x y e = absurd cc
fields_once (f ∷ fs) (g ∷ gs) names x y e =
    let name : f.0 ≡ g.0 = cc in
    let others : map (λ (f : List ℕ × ℕ). f.0) fs ≡ map (λ (g : List ℕ × ℕ). g.0) gs = cc in
    let first = (cons_parts 32 32 (field_text f ++ spaced field_text fs) (field_text g ++ spaced field_text gs) e).1 in
    let same = (after_name g.0).once f.1 g.1 (spaced field_text fs) (spaced field_text gs) x.0 y.0 (spaced_ends fs) (spaced_ends gs) (ap (λ (z : List ℕ). (z ++ number_text f.1) ++ spaced field_text fs) (sym name) ∙ first) in
    ap₂ (λ (z : List ℕ × ℕ) (l : List (List ℕ × ℕ)). z ∷ l) (ap₂ (λ (z : List ℕ) (n : ℕ). (z, n)) name same.0) (fields_once fs gs others x.1 y.1 same.1)

-- the number of a field, by its place
abbrev pub number_at : List (List ℕ × ℕ) → ℕ → ℕ
number_at fields place = (get_or fields place ([], 0)).1

abbrev counts_from : List (List ℕ × ℕ) → Counts
counts_from fs =
    record { nodes = number_at fs 0; edges = number_at fs 1; pairs = number_at fs 2; enabled = number_at fs 3; charge = number_at fs 4; spent = number_at fs 5 }

-- counts have a text of their own
pub counts_once : (x y : Counts) → IsCounts x → IsCounts y → counts_text x ≡ counts_text y → x ≡ y
counts_once x y f g e =
    ap counts_from
    (fields_once (fields_of x) (fields_of y) refl (f.0, (f.1, (f.2, (f.3, (f.4, (f.5, tt)))))) (g.0, (g.1, (g.2, (g.3, (g.4, (g.5, tt)))))) (ap (λ (z : List ℕ). 32 ∷ z) e))
