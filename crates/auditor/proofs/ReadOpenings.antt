-- What a transcript begins with, as it was read.
use Rattle.auditor.proofs.Prelude.{◌≡◌, ℕ, ◌+◌, ◌≤◌, ◌⊎◌, inl, inr, List, [], ◌∷◌, ◌++◌, Option, Some, length, refl, ap, ◌∙◌, arith, Less, length-append, Base, At, RuleSet, IsBaseMoment, NumberedMoment, pair_cmp, beginning_with, State, opening_with, table_of, weight_of, charge_bound, base_head, lines_with_ends, BaseLine, Head, first_line, SpellsBaseLine, Header, SpellsHeader, base_line_text, IsEdgeAbove, EdgesRise, IsShaped, BreaksAt, base_lines, BadBase, HasImpossibleBase, HasBrokenBase, SpellsNoHead, Named, Based, Opens, Position, position_at, IsMetFirst, IsOpened}
use Rattle.std.proofs.lemmas.Bool.Decides.{nat_tests}
use Rattle.std.specs.Prelude.{IfSome}
use Rattle.rule_machine.specs.declared.base.EpochStart.TheVariants.{Forgotten}
use Rattle.reply_checker.specs.Bases as judge
use Rattle.auditor.proofs.AuditPositions.{opened_follows, header_splits, base_splits}

-- ---- the two orders of a base's lines are one

above_less : (last edge : ℕ × ℕ) → IsEdgeAbove last edge → pair_cmp last edge ≡ Less
above_less last edge (inl low) = grind (arith, nat_tests)
above_less last edge (inr (same, high)) = grind (arith, nat_tests)

pub edges_rise : (last : ℕ × ℕ) (edges : List (ℕ × ℕ)) → EdgesRise last edges → judge.EdgesAscend last edges
edges_rise last [] rise = tt
edges_rise last (edge ∷ edges) rise = (above_less last edge rise.0, edges_rise edge edges rise.1)

-- ---- a header

pub header_opened : (text line rest : List ℕ) (header : Header) (s : State) (p : Position) → first_line text ≡ Some (line, rest) → SpellsHeader line header → s ≡ opening_with header.names header.present → p ≡ position_at (record { moment = record { state = s; spent = 0 }; count = 0 }) → IsOpened text header.rules header.names (At 0) p rest
header_opened text line rest header s p cut spells state is =
    let start : NumberedMoment = record { moment = beginning_with header.names header.present; count = 0 } in
    record {
      start = start;
      follows = opened_follows text rest header.rules (Named header.names header.present) start (record { fits = record { few = spells.few; within = spells.within }; begins = refl; count = refl }) (omega arith)
          (header_splits text line rest header cut spells);
      size_is = refl;
      begun_is = refl;
      opening = is ∙ ap (λ (x : State). position_at (record { moment = record { state = x; spent = 0 }; count = 0 })) state;
    }

-- ---- a base

abbrev pub IsBegunBy : RuleSet → ℕ → Base → State → Type 0
IsBegunBy rules size base s =
    IsBaseMoment (table_of rules) (charge_bound (weight_of rules)) size base (record { state = s; spent = base.spent }) × (length base.edges ≤ 1048576)

pub base_opened : (text rest behind : List ℕ) (rules : RuleSet) (size : ℕ) (base : Base) (s : State) (found : Option State) (p : Position) → size ≤ 65535 → first_line text ≡ Some (base_head rules size, rest) → rest ≡ base_lines base ++ behind → IsShaped base → base.number ≤ 16777216 → IfSome found (IsBegunBy rules size base) → found ≡ Some s
    → p ≡ position_at (record { moment = record { state = s; spent = base.spent }; count = base.number }) → IsOpened text rules size Forgotten p behind
base_opened text rest behind rules size base s found p few cut is shaped number begun some opening =
    let start : NumberedMoment = record { moment = record { state = s; spent = base.spent }; count = base.number } in
    let here : IsBegunBy rules size base s = rw some at begun in
    record {
      start = start;
      follows = opened_follows text behind rules (Based size base) start (record { fits = record { few = few; shaped = shaped; number = number; edges = here.1 }; begins = here.0; count = refl }) number
          (base_splits text rest behind rules size base cut is);
      size_is = refl;
      begun_is = refl;
      opening = opening;
    }

-- the lines after the first of a base are no base's, or no run may begin there
bad_start : (text rest : List ℕ) (rules : RuleSet) (size line : ℕ) → size ≤ 65535 → first_line text ≡ Some (base_head rules size, rest) → HasBrokenBase rest line ⊎ HasImpossibleBase rules size rest line → IsMetFirst text (BadBase line)
bad_start text rest rules size line few cut bad last = record {
  is = inl (record { rules = rules; size = size; rest = rest; few = few; first = cut; bad = bad });
  looked_at = tt;
}

pub nowhere : (text rest behind : List ℕ) (rules : RuleSet) (size : ℕ) (base : Base) → size ≤ 65535 → first_line text ≡ Some (base_head rules size, rest) → IsShaped base → rest ≡ base_lines base ++ behind → ((start : NumberedMoment) → Opens rules (Based size base) start → ⊥) → IsMetFirst text (BadBase 2)
nowhere text rest behind rules size base few cut shaped is none =
    bad_start text rest rules size 2 few cut (inr (record { base = base; more = behind; shaped = shaped; is = is; nowhere = none; line_is = refl }))

pub broken : (text rest : List ℕ) (rules : RuleSet) (size number : ℕ) → size ≤ 65535 → first_line text ≡ Some (base_head rules size, rest) → BreaksAt rest number → IsMetFirst text (BadBase (number + 1))
broken text rest rules size number few cut breaks =
    bad_start text rest rules size (number + 1) few cut (inl (record { number = number; breaks = breaks; line_is = refl }))

-- this many bytes have at most as many lines
lines_few : (lines : List BaseLine) → length lines ≤ length (lines_with_ends base_line_text lines)
lines_few [] = omega arith
lines_few (line ∷ lines) = omega (arith, lines_few lines, length-append {A = ℕ})

pub breaks_few : (rest : List ℕ) (number : ℕ) → BreaksAt rest number → number ≤ length rest + 1
breaks_few rest number b = omega (arith, ap length b.is, length-append {A = ℕ}, lines_few b.lines, b.number)

-- ---- the first line

pub no_head : (line : List ℕ) → ((found : BaseLine) → SpellsBaseLine line found → ⊥) → SpellsNoHead line
no_head line none rules size few is = none (Head rules size) (record { fits = few; is = is })
