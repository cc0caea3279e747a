-- The line of a base that bytes begin with.
use Rattle.entry_grammar.proofs.Prelude.{◌≡◌, ℕ, List, ◌∷◌, ◌++◌, refl, ap, ◌∙◌, arith, codes, IsLine, RuleSet, Hh, Manne, rules_word, number_text, joined_texts, bool_text, target_text, pair_text, IsCountValue, field_text, base_fields, BaseLine, BaseNumbers, Head, Base, Place, Link, IsBaseLine, SpellsBaseLine, base_line_text, IsFree, CutAt, AreCounts, Starts}
use Rattle.entry_grammar.proofs.Free.{free_by, cut_once, free_no_cut}
use Rattle.entry_grammar.proofs.Marks.{feed, apart_lack, bool_lacks, both_lack, joined_lack, name_lacks, number_lacks, target_lacks}
use Rattle.entry_grammar.proofs.BaseLines.{spells_base_line_once}

-- ---- no line of a base has a line feed

pub rules_free : (rules : RuleSet) → IsFree 10 (rules_word rules)
rules_free Hh = free_by 10 (rules_word Hh) refl
rules_free Manne = free_by 10 (rules_word Manne) refl

-- what a count's name and its number meet
abbrev pub IsField : List ℕ × ℕ → Type 0
IsField field = IsFree 10 field.0 × IsCountValue field.1

pub field_free : (field : List ℕ × ℕ) → IsField field → IsFree 10 (field_text field)
field_free field f = both_lack feed field.0 (number_text field.1) f.0 (number_lacks feed field.1 (omega (arith, f.1)))

fields_free : (q : BaseNumbers) → AreCounts q → IsFree 10 (joined_texts field_text (base_fields q.number q.spent q.nodes q.edges))
fields_free q f =
    joined_lack feed IsField field_text field_free (base_fields q.number q.spent q.nodes q.edges)
    ((tt, f.0), ((free_by 10 (codes "spent=") refl, f.1), ((free_by 10 (codes "nodes=") refl, f.2), ((free_by 10 (codes "edges=") refl, f.3), tt))))

pub line_free : (line : BaseLine) → IsBaseLine line → IsFree 10 (base_line_text line)
line_free (Head rules size) f =
    apart_lack feed (codes "matching2 " ++ rules_word rules) (number_text size)
    (both_lack feed (codes "matching2 ") (rules_word rules) (free_by 10 (codes "matching2 ") refl) (rules_free rules))
    (number_lacks feed size (omega (arith, f)))
line_free (Base q) f =
    both_lack feed (codes "base ") (joined_texts field_text (base_fields q.number q.spent q.nodes q.edges)) (free_by 10 (codes "base ") refl) (fields_free q f)
line_free (Place node target flag) f =
    apart_lack feed (codes "node " ++ number_text node ++ codes " " ++ target_text target) (bool_text flag)
    (apart_lack feed (codes "node " ++ number_text node) (target_text target)
    (both_lack feed (codes "node ") (number_text node) (free_by 10 (codes "node ") refl) (name_lacks feed node f.0))
    (target_lacks feed target f.1))
    (bool_lacks feed flag)
line_free (Link edge) f =
    both_lack feed (codes "edge ") (pair_text edge.0 edge.1) (free_by 10 (codes "edge ") refl)
    (apart_lack feed (number_text edge.0) (number_text edge.1) (name_lacks feed edge.0 f.0) (name_lacks feed edge.1 f.1))

-- ---- so it is the line that the first line feed ends

starts_cut : (bytes : List ℕ) (line : BaseLine) (more : List ℕ) → Starts IsBaseLine base_line_text bytes line more → CutAt 10 bytes (base_line_text line) more
starts_cut bytes line more h = record { free = line_free line h.fits; is = h.is }

-- bytes without a line feed begin with no line
pub no_start : (bytes : List ℕ) → IsLine bytes → (line : BaseLine) (more : List ℕ) → Starts IsBaseLine base_line_text bytes line more → ⊥
no_start bytes free line more h = free_no_cut free (starts_cut bytes line more h)

-- and bytes whose first line spells none
pub bad_start : (bytes text rest : List ℕ) → IsLine text × (bytes ≡ text ++ 10 ∷ rest) → ((line : BaseLine) → SpellsBaseLine text line → ⊥) → (line : BaseLine) (more : List ℕ) → Starts IsBaseLine base_line_text bytes line more → ⊥
bad_start bytes text rest first none line more h =
    let same = cut_once (record { free = first.0; is = first.1 }) (starts_cut bytes line more h) in
    none line (record { fits = h.fits; is = same.0 })

pub a_start : (bytes text rest : List ℕ) (line : BaseLine) → IsLine text × (bytes ≡ text ++ 10 ∷ rest) → SpellsBaseLine text line → Starts IsBaseLine base_line_text bytes line rest
a_start bytes text rest line first h = record { fits = h.fits; is = first.1 ∙ ap (λ (t : List ℕ). t ++ 10 ∷ rest) h.is }

-- bytes begin with one line
pub starts_once : {bytes : List ℕ} {a b : BaseLine} {m n : List ℕ} → Starts IsBaseLine base_line_text bytes a m → Starts IsBaseLine base_line_text bytes b n → a ≡ b
starts_once {bytes} {a} {b} {m} {n} x y =
    let same = cut_once (starts_cut bytes a m x) (starts_cut bytes b n y) in
    spells_base_line_once (base_line_text a) a b (record { fits = x.fits; is = refl }) (record { fits = y.fits; is = same.0 })

-- a line of one kind is a line
pub line_starts : {X : Type 0} (of : X → BaseLine) {bytes : List ℕ} {x : X} {more : List ℕ} → Starts (λ x. IsBaseLine (of x)) (λ x. base_line_text (of x)) bytes x more → Starts IsBaseLine base_line_text bytes (of x) more
line_starts of h = record { fits = h.fits; is = h.is }
