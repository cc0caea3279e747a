-- The lines of a base.
use Rattle.entry_grammar.proofs.Prelude.{◌≡◌, ℕ, ◌<◌, Bool, List, ◌∷◌, ◌++◌, None, Some, get_or, refl, sym, ap, ◌∙◌, append_assoc, arith, codes, IfSome, IsInRange, append_cancel_left, RuleSet, NodeRecord, rules_word, number_text, IsName, bool_text, target_text, field_text, joined_texts, spaced, base_fields, base_head, link_text, node_record_text, BaseLine, BaseNumbers, Head, Base, Place, Link, SpellsBaseLine, IsPlace, place_line, NoDigit, IsFree, CutAt, AreCounts, rules_text, registers_text, IsReadBack, Always, Undigited, alone, after_word, apart_by, bool_back, for_fewer, name_back, nothing_ends, number_back, target_back, through}
use Rattle.std.specs.Prelude.{Option}
use Rattle.line_text.specs.ReplyText.{IsOrderedPair}
use Rattle.entry_grammar.proofs.Free.{free_by, free_name}
use Rattle.entry_grammar.proofs.Headers.{rules_back, rules_free}
use Rattle.entry_grammar.proofs.CountsOnce.{fields_once, number_at}

-- the rules and the names are cut at the space between them
pub rules_cut : {bytes : List ℕ} (rules : RuleSet) (size : ℕ) → bytes ≡ rules_text rules size → CutAt 32 bytes (rules_word rules) (number_text size)
rules_cut rules size e = record { free = rules_free rules; is = e }

-- so are the registers
free_target : (target : Option ℕ) → IfSome target IsName → IsFree 32 (target_text target)
free_target None f = free_by 32 (codes "-") refl
free_target (Some w) f = free_name 32 w (λ h. omega (arith, h.0)) f

pub registers_cut : {bytes : List ℕ} (target : Option ℕ) (flag : Bool) → IfSome target IsName → bytes ≡ registers_text target flag → CutAt 32 bytes (target_text target) (bool_text flag)
registers_cut target flag f e = record { free = free_target target f; is = e }

-- the first byte, which distinguishes the four kinds of lines
abbrev first_of : List ℕ → ℕ
first_of line = get_or line 0 0

-- a line that begins as one kind does is of no other
pub no_place : (line rest : List ℕ) → line ≡ codes "node " ++ rest → ((p : ℕ × Option ℕ × Bool) → IsName p.0 × IfSome p.1 IsName → rest ≡ number_text p.0 ++ 32 ∷ registers_text p.1 p.2 → ⊥) → (found : BaseLine) → SpellsBaseLine line found → ⊥
no_place line rest e none (Place node target flag) h =
    none (node, target, flag) h.fits (append_cancel_left (codes "node ") rest (number_text node ++ codes " " ++ target_text target ++ codes " " ++ bool_text flag) (sym e ∙ h.is) ∙ simp append_assoc)
no_place line rest e none found h = absurd (omega (arith, ap first_of (sym e ∙ h.is)))

pub no_base : (line rest : List ℕ) → line ≡ codes "base " ++ rest → ((q : BaseNumbers) → AreCounts q → rest ≡ joined_texts field_text (base_fields q.number q.spent q.nodes q.edges) → ⊥) → (found : BaseLine) → SpellsBaseLine line found → ⊥
no_base line rest e none (Base q) h =
    none q h.fits (append_cancel_left (codes "base ") rest (joined_texts field_text (base_fields q.number q.spent q.nodes q.edges)) (sym e ∙ h.is))
no_base line rest e none found h = absurd (omega (arith, ap first_of (sym e ∙ h.is)))

-- ---- a line spells one

space_ends : {X : Type 0} (x : X) (r : List ℕ) → NoDigit (32 ∷ r)
space_ends x r = λ (h : IsInRange 48 57 32). omega (arith, h.0)

head_back : IsReadBack (λ (p : RuleSet × ℕ). Unit {0} × (p.1 < 18446744073709551616)) (λ p. base_head p.0 p.1) Undigited
head_back = apart_by 32 (after_word (codes "matching2 ") rules_back) number_back (λ rules r. tt)

pub record_back : IsReadBack IsPlace node_record_text Always
record_back =
    for_fewer IsPlace
    (through (apart_by 32 (apart_by 32 (after_word (codes "node ") name_back) target_back space_ends) bool_back space_ends) (λ (p : NodeRecord). ((p.node, p.target), p.flagged)) (λ q. record { node = q.0.0; target = q.0.1; flagged = q.1 }) (λ p. refl))
    (λ p f. ((f.0, f.1), tt))

pub link_back : IsReadBack IsOrderedPair link_text Undigited
link_back = for_fewer IsOrderedPair (after_word (codes "edge ") (apart_by 32 name_back name_back space_ends)) (λ p f. (f.0, f.1))

abbrev base_from : List (List ℕ × ℕ) → BaseLine
base_from fields = Base (record { number = number_at fields 0; spent = number_at fields 1; nodes = number_at fields 2; edges = number_at fields 3 })

pub spells_base_line_once : (line : List ℕ) (a b : BaseLine) → SpellsBaseLine line a → SpellsBaseLine line b → a ≡ b
spells_base_line_once line (Head r m) (Head q n) x y =
    ap (λ (p : RuleSet × ℕ). Head p.0 p.1) (alone head_back (λ p. nothing_ends) (r, m) (q, n) (tt, omega (arith, x.fits)) (tt, omega (arith, y.fits)) (sym x.is ∙ y.is))
spells_base_line_once line (Base p) (Base q) x y =
    let f = x.fits in
    let g = y.fits in
    let fields_p = base_fields p.number p.spent p.nodes p.edges in
    let fields_q = base_fields q.number q.spent q.nodes q.edges in
    ap base_from
    (fields_once fields_p fields_q refl (f.0, (f.1, (f.2, (f.3, tt)))) (g.0, (g.1, (g.2, (g.3, tt))))
    (append_cancel_left (codes "base") (spaced field_text fields_p) (spaced field_text fields_q) (sym x.is ∙ y.is)))
spells_base_line_once line (Place m v f) (Place n w g) x y =
    ap place_line (alone record_back (λ p. tt) (record { node = m; target = v; flagged = f }) (record { node = n; target = w; flagged = g }) x.fits y.fits (sym x.is ∙ y.is))
spells_base_line_once line (Link e) (Link f) x y = ap Link (alone link_back (λ p. nothing_ends) e f x.fits y.fits (sym x.is ∙ y.is))
spells_base_line_once line a b x y = absurd (omega (arith, ap first_of (sym x.is ∙ y.is)))
