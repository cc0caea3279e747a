-- The first line of bytes.
use Rattle.std.proofs.Common.{◌≡◌, ℕ, zero, suc, ◌+◌, ◌-◌, ◌<◌, ◌≤◌, ◌==◌, Bool, true, false, if◌then◌else◌, List, [], ◌∷◌, ◌++◌, Option, None, Some, length, take, drop, slice_index, refl, sym, ap, subst, ◌∙◌, add-one, arith, eqb-true}
use Rattle.std.proofs.lemmas.List.{take_rest}
use Rattle.std.proofs.lemmas.Bool.{true≢false}
use Rattle.memchr.specs.Find.{NoneBefore, Nowhere, Passes, is_byte}
use Rattle.byte_streams.specs.Lines.{IsLine, first_line, onto_line}

-- a line, its LF, and the rest
abbrev LineThen : List ℕ → List ℕ → List ℕ → Type 0
LineThen bytes line rest = IsLine line × (bytes ≡ line ++ 10 ∷ rest)

-- ---- the place of the first LF

no_feed : (b : ℕ) → ((b == 10) ≡ true → ⊥) → b ≡ 10 → ⊥
no_feed b other e = other (ap (λ n. n == 10) e)

-- with no LF the bytes are a line
pub line_whole : (bs : List ℕ) → ((j : ℕ) → j < length bs → (slice_index bs j == 10) ≡ true → ⊥) → IsLine bs
line_whole [] none = tt
line_whole (b ∷ bs) none = (no_feed b (none 0 (omega arith)), line_whole bs (λ j l. none (suc j) (omega (arith, l))))

line_at : (bs : List ℕ) (k : ℕ) → k < length bs → ((j : ℕ) → j < k → (slice_index bs j == 10) ≡ true → ⊥) → (slice_index bs k == 10) ≡ true → LineThen bs (take k bs) (drop (suc k) bs)
line_at [] k h none here = absurd (omega (arith, h))
line_at (b ∷ bs) zero h none here = (tt, ap (λ (n : ℕ). n ∷ bs) (eqb-true b 10 here))
line_at (b ∷ bs) (suc k) h none here =
    let later = line_at bs k (omega (arith, h)) (λ j l. none (suc j) (omega (arith, l))) here in
    ((no_feed b (none 0 (omega arith)), later.0), ap (λ (l : List ℕ). b ∷ l) later.1)

-- the first LF ends a line
pub line_found : (bs : List ℕ) (k : ℕ) → NoneBefore (Passes (is_byte 10) bs) 0 (length bs) k × Passes (is_byte 10) bs k → LineThen bs (take k bs) (take (length bs - (k + 1)) (drop (k + 1) bs))
line_found bs k (first, here) =
    subst (LineThen bs (take k bs)) (ap (λ n. drop n bs) (sym (add-one k)) ∙ sym (take_rest bs (k + 1)))
    (line_at bs k first.high (λ j below. first.before j (omega arith) below) here)

-- ---- the first line as a value

-- a byte that is not an LF comes before what was found after it
onto_front : (b : ℕ) (bs : List ℕ) (found : Option (List ℕ × List ℕ)) → (b ≡ 10 → ⊥) → first_line bs ≡ found → first_line (b ∷ bs) ≡ onto_line b found
onto_front b bs found other e =
    let P : Bool → Type 0 = λ v. ((b == 10) ≡ v → (if v then Some ([], bs) else onto_line b (first_line bs)) ≡ onto_line b found) in
    (elim (b == 10) as P [ true ↦ (λ lf. absurd (other (eqb-true b 10 lf))) | false ↦ (λ lf. ap (onto_line b) e) ]) refl

-- a line that an LF ends is the first
pub first_line-ended : (line rest : List ℕ) → IsLine line → first_line (line ++ 10 ∷ rest) ≡ Some (line, rest)
first_line-ended [] rest free = refl
first_line-ended (b ∷ line) rest free = onto_front b (line ++ 10 ∷ rest) (Some (line, rest)) free.0 (first_line-ended line rest free.1)

pub first_line-then : (bytes line rest : List ℕ) → IsLine line × (bytes ≡ line ++ 10 ∷ rest) → first_line bytes ≡ Some (line, rest)
first_line-then bytes line rest h = ap first_line h.1 ∙ first_line-ended line rest h.0

-- with no LF there is none
pub first_line-none : (bs : List ℕ) → IsLine bs → first_line bs ≡ None
first_line-none [] free = refl
first_line-none (b ∷ bs) free = onto_front b bs None free.0 (first_line-none bs free.1)

-- what is found is a line, its LF, and the rest; if none is found, there is no LF
abbrev Finds : List ℕ → Option (List ℕ × List ℕ) → Type 0
Finds bytes None = IsLine bytes
Finds bytes (Some found) = LineThen bytes found.0 found.1

onto_finds : (b : ℕ) (bs : List ℕ) (found : Option (List ℕ × List ℕ)) → (b ≡ 10 → ⊥) → Finds bs found → Finds (b ∷ bs) (onto_line b found)
onto_finds b bs None other h = (other, h)
onto_finds b bs (Some (line, rest)) other h = ((other, h.0), ap (λ (l : List ℕ). b ∷ l) h.1)

finds : (bs : List ℕ) → Finds bs (first_line bs)
finds [] = tt
finds (b ∷ bs) =
    let P : Bool → Type 0 = λ v. ((b == 10) ≡ v → Finds (b ∷ bs) (if v then Some ([], bs) else onto_line b (first_line bs))) in
    (elim (b == 10) as P [
      | true ↦ (λ lf. (tt, ap (λ (n : ℕ). n ∷ bs) (eqb-true b 10 lf)))
      | false ↦ (λ lf. onto_finds b bs (first_line bs) (λ e. true≢false (sym (ap (λ (n : ℕ). n == 10) e) ∙ lf)) (finds bs))
    ]) refl

pub first_line-is : (bs line rest : List ℕ) → first_line bs ≡ Some (line, rest) → IsLine line × (bs ≡ line ++ 10 ∷ rest)
first_line-is bs line rest e = subst (Finds bs) e (finds bs)

pub first_line-splits : (bs line rest : List ℕ) → first_line bs ≡ Some (line, rest) → bs ≡ line ++ 10 ∷ rest
first_line-splits bs line rest e = (first_line-is bs line rest e).1

pub no_first_line : (bs : List ℕ) → first_line bs ≡ None → IsLine bs
no_first_line bs e = subst (Finds bs) e (finds bs)
