-- The parts of a header.
use Rattle.entry_grammar.proofs.Prelude.{◌≡◌, ℕ, ◌<◌, ◌≤◌, Bool, true, cond, List, ◌∷◌, ◌++◌, Option, None, Some, get_or, refl, sym, ap, ap₂, subst, ◌∙◌, append_assoc, arith, rules, codes, inl, inr, nat_lt, nat_tests, append_cancel_left, decimal_injective, RuleSet, Hh, Manne, rules_word, number_text, sizes_text, IsReadBack, Always, alone, AreSizes, Header, SpellsHeader, ParsesAs, IsFree, CutAt, []}
use Rattle.std.specs.Prelude.{MatchOption}
use Rattle.std.proofs.lemmas.Bool.{cases_lt}
use Rattle.entry_grammar.proofs.Free.{free_by, free_number, free_no_cut, cut_once}

-- a rule set's word has no space
pub rules_free : (rules : RuleSet) → IsFree 32 (rules_word rules)
rules_free Hh = free_by 32 (rules_word Hh) refl
rules_free Manne = free_by 32 (rules_word Manne) refl

-- what follows the first word of a header
parts_of : (rules : RuleSet) (sizes : List ℕ) → codes "matching " ++ rules_word rules ++ codes " " ++ sizes ≡ codes "matching " ++ (rules_word rules ++ 32 ∷ sizes)
parts_of rules sizes = simp append_assoc

pub header_words : (line words : List ℕ) (header : Header) → line ≡ codes "matching " ++ words → SpellsHeader line header → CutAt 32 words (rules_word header.rules) (sizes_text header.names header.present)
header_words line words header e h =
    let sizes = sizes_text header.names header.present in
    record {
      free = rules_free header.rules;
      is = append_cancel_left (codes "matching ") words (rules_word header.rules ++ 32 ∷ sizes) (sym e ∙ h.is ∙ parts_of header.rules sizes);
    }

-- the two parts of a header after its first word
pub header_parts : (line words front back : List ℕ) (header : Header) → line ≡ codes "matching " ++ words → CutAt 32 words front back → SpellsHeader line header → (front ≡ rules_word header.rules) × (back ≡ sizes_text header.names header.present)
header_parts line words front back header e a h =
    cut_once a (header_words line words header e h)

-- a number has no space
pub free_size : (n : ℕ) → n ≤ 65535 → IsFree 32 (number_text n)
free_size n few = free_number 32 n (λ h. omega (arith, h.0)) (omega (arith, few))

-- the number is one
pub number_once : (back : List ℕ) (m n : ℕ) → m ≤ 65535 → n ≤ 65535 → back ≡ number_text m → back ≡ number_text n → m ≡ n
number_once back m n h k e f = decimal_injective m n (omega arith) (omega arith) (sym e ∙ f)

-- if all are present there is one number, else there are two
pub sizes_all : (size count : ℕ) → size ≤ count → sizes_text size count ≡ number_text size
sizes_all size count more = grind (arith, nat_tests)

sizes_cut : (size count : ℕ) (bytes : List ℕ) → AreSizes size count → bytes ≡ sizes_text size count → count < size → CutAt 32 bytes (number_text size) (number_text count)
sizes_cut size count bytes f e less =
    let test : nat_lt count size ≡ true = grind (arith, nat_tests) in
    record { free = free_size size f.few; is = e ∙ ap (λ (b : Bool). cond b (number_text size ++ codes " " ++ number_text count) (number_text size)) test ∙ append_assoc (number_text size) (32 ∷ []) (number_text count) }

-- if there is a space among them, there are two numbers
pub two_said : (size count : ℕ) (bytes front back : List ℕ) → AreSizes size count → bytes ≡ sizes_text size count → CutAt 32 bytes front back → (count < size) × (front ≡ number_text size) × (back ≡ number_text count)
two_said size count bytes front back f e at =
    elim (cases_lt count size) [
      | inl less ↦ let p = cut_once at (sizes_cut size count bytes f e less) in (less, p.0, p.1)
      | inr more ↦ absurd (free_no_cut (subst (IsFree 32) (sym (e ∙ sizes_all size count more)) (free_size size f.few)) at)
    ]

-- the numbers have a text of their own
pub sizes_once : (bytes : List ℕ) (m n c d : ℕ) → AreSizes m c → AreSizes n d → bytes ≡ sizes_text m c → bytes ≡ sizes_text n d → (m ≡ n) × (c ≡ d)
sizes_once bytes m n c d f g e h =
    elim (cases_lt c m) [
      | inl less ↦
          let two = two_said n d bytes (number_text m) (number_text c) g h (sizes_cut m c bytes f e less) in
          let first = decimal_injective m n (omega (arith, f.few)) (omega (arith, g.few)) two.1 in
          (first, decimal_injective c d (omega (arith, f.few, less)) (omega (arith, g.few, two.0)) two.2)
      | inr more ↦ elim (cases_lt d n) [
        | inl less ↦ let two = two_said m c bytes (number_text n) (number_text d) f e (sizes_cut n d bytes g h less) in absurd (omega (arith, two.0, more))
        | inr also ↦
            let same = number_once bytes m n f.few g.few (e ∙ sizes_all m c more) (h ∙ sizes_all n d also) in
            (same, omega (arith, same, more, also, f.within, g.within))
      ]
    ]

-- a rule set has one word
pub rules_back : IsReadBack (λ (rules : RuleSet). Unit {0}) rules_word Always
rules_back = record { once = once }
  where
    once : (x y : RuleSet) (r s : List ℕ) → Unit {0} → Unit {0} → Unit {0} → Unit {0} → rules_word x ++ r ≡ rules_word y ++ s → (x ≡ y) × (r ≡ s)
    once Hh Hh r s f g a b e = (refl, append_cancel_left (rules_word Hh) r s e)
    once Manne Manne r s f g a b e = (refl, append_cancel_left (rules_word Manne) r s e)
    once x y r s f g a b e = absurd (omega (arith, ap (λ (z : List ℕ). get_or z 0 0) e))

-- a header's numbers
pub sizes_of : (line : List ℕ) (header : Header) → SpellsHeader line header → AreSizes header.names header.present
sizes_of line header h = record { few = h.few; within = h.within }

-- a header is found exactly if its numbers are
pub header_found : (line words front back : List ℕ) (rules : RuleSet) (found : Option Header) → line ≡ codes "matching " ++ words → CutAt 32 words front back → front ≡ rules_word rules → ParsesAs (λ (header : Header). (header.rules ≡ rules) × AreSizes header.names header.present) (λ header. sizes_text header.names header.present) back found → MatchOption found ((header : Header) → SpellsHeader line header → ⊥) (SpellsHeader line)
header_found line words front back r None e at word none = λ header h.
    let p = header_parts line words front back header e at h in
    none header (alone rules_back (λ q. tt) header.rules r tt tt (sym p.0 ∙ word), sizes_of line header h) p.1
header_found line words front back r (Some header) e at word found =
    let sizes = sizes_text header.names header.present in
    let rest : words ≡ rules_word header.rules ++ 32 ∷ sizes = at.is ∙ ap₂ (λ (x y : List ℕ). x ++ 32 ∷ y) (word ∙ ap rules_word (sym found.0.0)) found.1 in
    record { few = found.0.1.few; within = found.0.1.within; is = e ∙ ap (λ (z : List ℕ). codes "matching " ++ z) rest ∙ sym (parts_of header.rules sizes) }

-- a line spells one header
pub spells_header_once : (line : List ℕ) (a b : Header) → SpellsHeader line a → SpellsHeader line b → a ≡ b
spells_header_once line a b x y =
    let sizes = sizes_text a.names a.present in
    let words = rules_word a.rules ++ 32 ∷ sizes in
    let e : line ≡ codes "matching " ++ words = x.is ∙ parts_of a.rules sizes in
    let p = header_parts line words (rules_word a.rules) sizes b e (header_words line words a e x) y in
    let rules = alone rules_back (λ rules. tt) a.rules b.rules tt tt p.0 in
    let numbers = sizes_once sizes a.names b.names a.present b.present (sizes_of line a x) (sizes_of line b y) refl p.1 in
    λ i. record { rules = rules i; names = numbers.0 i; present = numbers.1 i }
