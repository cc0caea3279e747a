-- Lines that end with an LF, and bytes whose line goes on.
use Rattle.script_text.proofs.Prelude.{◌≡◌, ℕ, ◌==◌, Bool, true, false, if◌then◌else◌, List, [], ◌∷◌, ◌++◌, refl, ap, ◌∙◌, eqb-true, IsLine, lines_of, onto_first}

same_byte : (b : ℕ) → (b == 10) ≡ true → b ≡ 10
same_byte b is = eqb-true b 10 is

-- bytes of a line, and more of them
pub line_joined : (a b : List ℕ) → IsLine a → IsLine b → IsLine (a ++ b)
line_joined [] b p q = q
line_joined (x ∷ a) b p q = (p.0, line_joined a b p.1 q)

no_end : (b : ℕ) (bs : List ℕ) → (b ≡ 10 → ⊥) → lines_of (b ∷ bs) ≡ onto_first b (lines_of bs)
no_end b bs other =
    let P : Bool → Type 0 = λ v. ((v ≡ true → ⊥) → (if v then [] ∷ lines_of bs else onto_first b (lines_of bs)) ≡ onto_first b (lines_of bs)) in
    (elim (b == 10) as P [ true ↦ (λ no. absurd (no refl)) | false ↦ (λ _. refl) ]) (λ is. other (same_byte b is))

-- an LF ends a line
pub lines_of-ended : (line behind : List ℕ) → IsLine line → lines_of (line ++ 10 ∷ behind) ≡ line ∷ lines_of behind
lines_of-ended [] behind p = refl
lines_of-ended (b ∷ line) behind p = no_end b (line ++ 10 ∷ behind) p.0 ∙ ap (onto_first b) (lines_of-ended line behind p.1)

-- what follows bytes of a line goes on with it
pub record GoesOn (front behind : List ℕ) : Type 0 where
  pub more : List ℕ
  pub others : List (List ℕ)
  pub lines : lines_of (front ++ behind) ≡ (front ++ more) ∷ others

onto_any : (b : ℕ) (lines : List (List ℕ)) → (more : List ℕ) × (others : List (List ℕ)) × (onto_first b lines ≡ (b ∷ more) ∷ others)
onto_any b [] = ([], [], refl)
onto_any b (line ∷ lines) = (line, lines, refl)

pub goes_on : (b : ℕ) (front behind : List ℕ) → IsLine (b ∷ front) → GoesOn (b ∷ front) behind
goes_on b [] behind p =
    let first = onto_any b (lines_of behind) in
    record { more = first.0; others = first.1; lines = no_end b behind p.0 ∙ first.2 }
goes_on b (c ∷ front) behind p =
    let later = goes_on c front behind p.1 in
    record { more = later.more; others = later.others; lines = no_end b ((c ∷ front) ++ behind) p.0 ∙ ap (onto_first b) later.lines }

-- with nothing after them they are the line
pub lines_of-last : (b : ℕ) (line : List ℕ) → IsLine (b ∷ line) → lines_of (b ∷ line) ≡ (b ∷ line) ∷ []
lines_of-last b [] p = no_end b [] p.0
lines_of-last b (c ∷ line) p = no_end b (c ∷ line) p.0 ∙ ap (onto_first b) (lines_of-last c line p.1)

pub lines_of-whole : (line : List ℕ) → (line ≡ [] → ⊥) → IsLine line → lines_of line ≡ line ∷ []
lines_of-whole [] some p = absurd (some refl)
lines_of-whole (b ∷ line) some p = lines_of-last b line p
