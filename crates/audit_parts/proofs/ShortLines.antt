-- The lines of an accepted text are short.
use Rattle.audit_parts.proofs.Prelude.{ℕ, ◌+◌, ◌≤◌, List, [], ◌∷◌, ◌++◌, length, refl, sym, subst, append-nil, arith, AllByRecursion, Base, RuleSet, LogPart, EntryPart, BasePart, NumberedMoment, Passes, base_of, table_of, entry_text, header_text, base_text, base_head, base_lines, base_line_text, base_text_is, lines_text, lines_of_base, lines_with_ends, BaseLine, Head, IsBaseLine, IsShaped, line_free, IsFree, SpellsEntry, max_entries, Opening, Named, Based, IsOpening, opening_text, part_text, parts_text, size_of, count_after, IsLogPart, StepsTo, passes_first, passes_rise, step_count, entry_free, header_free, AcceptedIsShort, HasShortLines, IsShortLine, ap, ◌∙◌}
use Rattle.std.proofs.lemmas.List.Concat.{flat_map-append}
use Rattle.entry_grammar.proofs.EntryLengths.{entry_short}
use Rattle.auditor.proofs.LongLines.{base_line_short, header_short}
use Rattle.audit_parts.proofs.CutTranscripts.{Reopens, reopens_next, reopens_start}
use Rattle.audit_parts.proofs.Lines.{all_both, base_fits}

-- ---- texts of short lines

no_lines : HasShortLines []
no_lines = record { lines = []; short = tt; is = refl }

both_short : (a b : List ℕ) → HasShortLines a → HasShortLines b → HasShortLines (a ++ b)
both_short a b x y = record {
  lines = x.lines ++ y.lines;
  short = all_both IsShortLine x.lines y.lines x.short y.short;
  is =
      ap (λ (l : List ℕ). l ++ b) x.is
      ∙ ap (λ (l : List ℕ). lines_with_ends (λ line. line) x.lines ++ l) y.is
      ∙ sym (flat_map-append (λ (line : List ℕ). line ++ 10 ∷ []) x.lines y.lines);
}

one_short : (line : List ℕ) → IsFree 10 line → length line ≤ 2097152 → HasShortLines (line ++ 10 ∷ [])
one_short line free few = record { lines = line ∷ []; short = ((free, few), tt); is = sym (append-nil (line ++ 10 ∷ [])) }

-- ---- a base

lines_short : (lines : List BaseLine) → AllByRecursion IsBaseLine lines → HasShortLines (lines_with_ends base_line_text lines)
lines_short [] fit = no_lines
lines_short (line ∷ lines) fit =
    both_short (base_line_text line ++ 10 ∷ []) (lines_with_ends base_line_text lines) (one_short (base_line_text line) (line_free line fit.0) (let few = base_line_short line fit.0 in omega (arith, few))) (lines_short lines fit.1)

base_short : (rules : RuleSet) (size : ℕ) (base : Base) → size ≤ 65535 → IsShaped base → HasShortLines (base_text rules size base)
base_short rules size base few shaped =
    let head = one_short (base_head rules size) (line_free (Head rules size) few) (let short = base_line_short (Head rules size) few in omega (arith, short)) in
    let others = subst HasShortLines (lines_text base) (lines_short (lines_of_base base) (base_fits base shaped)) in
    subst HasShortLines (sym (base_text_is rules size base)) (both_short (base_head rules size ++ 10 ∷ []) (base_lines base) head others)

-- ---- a transcript

opening_short : (rules : RuleSet) (o : Opening) → IsOpening o → HasShortLines (opening_text rules o)
opening_short rules (Named size count) is =
    let line = header_text rules size count in
    one_short line (header_free rules size count is.few is.within) (let short = header_short line (record { rules = rules; names = size; present = count }) (record { few = is.few; within = is.within; is = refl }) in omega (arith, short))
opening_short rules (Based size base) is = base_short rules size base is.few is.shaped

-- one part of a run
part_short : (rules : RuleSet) (size : ℕ) (at next : NumberedMoment) (part : LogPart) → Reopens rules size at → StepsTo (table_of rules) at part next → next.count ≤ max_entries → IsLogPart part → HasShortLines (part_text rules size at.count part)
part_short rules size at next (EntryPart entry) begun step few fits =
    let count = step_count (table_of rules) at next (EntryPart entry) step in
    let line = entry_text (at.count + 1) entry.0 entry.1 in
    let spells : SpellsEntry line (at.count + 1) entry = record { numbered = (omega arith, omega (arith, count, few)); event = fits.event; reply = fits.reply; fits = fits.fits; is = refl } in
    one_short line (entry_free line (at.count + 1) entry spells) (let short = entry_short line (at.count + 1) entry spells in omega (arith, short))
part_short rules size at next (BasePart base) begun step few fits =
    subst (λ (b : Base). HasShortLines (base_text rules size b)) (sym step.0) (base_short rules size (base_of at.count at.moment) begun.fits.few begun.fits.shaped)

parts_short : (rules : RuleSet) (size : ℕ) (at end : NumberedMoment) (log : List LogPart) → Reopens rules size at → Passes (table_of rules) at log end → end.count ≤ max_entries → AllByRecursion IsLogPart log → HasShortLines (parts_text rules size at.count log)
parts_short rules size at end [] begun passes few fit = no_lines
parts_short rules size at end (part ∷ log) begun passes few fit =
    let t = table_of rules in
    let split = passes_first t at end part log passes in
    let next = split.0 in
    let count = step_count t at next part split.1 in
    let within : next.count ≤ max_entries = omega (arith, passes_rise t next end log split.2, few) in
    let rest = parts_short rules size next end log (reopens_next rules size at next part begun split.1 within) split.2 few fit.1 in
    both_short (part_text rules size at.count part) (parts_text rules size (count_after at.count part) log) (part_short rules size at next part begun split.1 within fit.0)
    (subst (λ (n : ℕ). HasShortLines (parts_text rules size n log)) count rest)

pub accepted_is_short : AcceptedIsShort
accepted_is_short text (c, x) =
    let is = x.transcript in
    let o = x.opening in
    let begun = reopens_start text x.rules o x.log x.end is in
    subst HasShortLines (sym is.text)
    (both_short (opening_text x.rules o) (parts_text x.rules (size_of o) is.start.count x.log) (opening_short x.rules o is.opens.fits) (parts_short x.rules (size_of o) is.start x.end x.log begun is.passes is.not_too_many is.parts))
