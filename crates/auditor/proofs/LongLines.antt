-- Lines that are longer than any line of a transcript: what they break, whatever follows them.
use Rattle.auditor.proofs.Prelude.{◌≡◌, ℕ, ◌+◌, ◌*◌, ◌<◌, ◌≤◌, Bool, true, false, cond, List, [], ◌∷◌, ◌++◌, Option, None, Some, length, take, drop, refl, sym, ap, ◌∙◌, arith, codes, nat_lt, AllByRecursion, length-append, take-append-drop, take-append-le, take_all, RuleSet, Hh, Manne, rules_word, number_text, base_head, sizes_text, lines_with_ends, BaseLine, Head, IsBaseLine, base_line_text, BreaksAt, AreCounts, BaseNumbers, Header, SpellsHeader, entry_short, first_line, first_line-is, no_first_line, IsFree, TranscriptCursor, IsMetAt, IsMetFirst, BeginsBase, HasBadHeader, HasNoEntry, line_feeds, BadHeader, BadBase, NotALine}
use Rattle.std.proofs.lemmas.Fmt.{length-decimal-le}
use Rattle.entry_grammar.specs.declared.base_line.BaseLine.TheVariants.{Base, Place, Link}
use Rattle.line_text.proofs.EventLengths.{name_short, target_short, bool_short, pair_short}
use Rattle.line_text.specs.EventText.{pair_text}
use Rattle.line_text.specs.ReplyText.{IsCountValue, field_text}
use Rattle.line_text.specs.Words.{joined_texts}
use Rattle.line_text.specs.BaseText.{base_fields}
use Rattle.auditor.proofs.AuditPositions.{damaged_line}
use Rattle.auditor.proofs.ReadOpenings.{broken}
use Rattle.auditor.proofs.Windows.{breaks_with, feeds_behind, feeds_broken, first_line-more, front_in_line}

-- ---- how long the lines are

rules_short : (rules : RuleSet) → length (rules_word rules) ≤ 5
rules_short Hh = omega arith
rules_short Manne = omega arith

size_short : (n : ℕ) → n ≤ 65535 → length (number_text n) ≤ 5
size_short n few = length-decimal-le 5 n (omega arith) (omega (arith, few)) (omega (arith, few))

sizes_short : (size count : ℕ) → size ≤ 65535 → count ≤ size → length (sizes_text size count) ≤ 11
sizes_short size count few within = by (nat_lt count size)
  where
    by : (b : Bool) → length (cond b (number_text size ++ codes " " ++ number_text count) (number_text size)) ≤ 11
    by true = omega (arith, size_short size few, size_short count (omega (arith, few, within)), length-append {A = ℕ})
    by false = omega (arith, size_short size few)

pub header_short : (line : List ℕ) (header : Header) → SpellsHeader line header → length line ≤ 32
header_short line header spells =
    omega (arith, simp length-append at (ap length spells.is), rules_short header.rules, sizes_short header.names header.present spells.few spells.within)

field_short : (name : List ℕ) (n : ℕ) → length name ≤ 6 → IsCountValue n → length (field_text (name, n)) ≤ 16
field_short name n short h =
    let digits : length (number_text n) ≤ 10 = length-decimal-le 10 n (omega arith) (omega (arith, h)) (omega (arith, h)) in
    omega (arith, short, digits, length-append name (number_text n))

fields_short : (q : BaseNumbers) → AreCounts q → length (joined_texts field_text (base_fields q.number q.spent q.nodes q.edges)) ≤ 100
fields_short q f =
    simp length-append (omega (
      arith,
      field_short (codes "") q.number (omega arith) f.0,
      field_short (codes "spent=") q.spent (omega arith) f.1,
      field_short (codes "nodes=") q.nodes (omega arith) f.2,
      field_short (codes "edges=") q.edges (omega arith) f.3,
    ))

pub base_line_short : (line : BaseLine) → IsBaseLine line → length (base_line_text line) ≤ 120
base_line_short (Head rules size) f = simp length-append (omega (arith, rules_short rules, size_short size f))
base_line_short (Base q) f =
    omega (arith, fields_short q f, length-append (codes "base ") (joined_texts field_text (base_fields q.number q.spent q.nodes q.edges)))
base_line_short (Place node target flagged) f = simp length-append (omega (arith, name_short node f.0, target_short target f.1, bool_short flagged))
base_line_short (Link edge) f = omega (arith, pair_short edge.0 edge.1 f.0 f.1, length-append (codes "edge ") (pair_text edge.0 edge.1))

lines_short : (lines : List BaseLine) → AllByRecursion IsBaseLine lines → length (lines_with_ends base_line_text lines) ≤ 121 * length lines
lines_short [] fit = omega arith
lines_short (line ∷ lines) fit =
    omega (arith, base_line_short line fit.0, lines_short lines fit.1, length-append {A = ℕ})

-- ---- a line that has not ended

-- what follows makes it longer
line_kept : (bs more line behind : List ℕ) → first_line bs ≡ None → first_line (bs ++ more) ≡ Some (line, behind) → length bs ≤ length line
line_kept bs more line behind none cut =
    let inside = front_in_line bs line behind more (no_first_line bs none) (first_line-is (bs ++ more) line behind cut).1 in
    omega (arith, ap length inside.1, length-append bs inside.0)

-- no base begins with it
base_less : (rest more : List ℕ) → 9 ≤ length rest → BeginsBase (rest ++ more) → BeginsBase rest
base_less rest more long (m, is) =
    let word = codes "matching2" in
    let whole : take 9 rest ≡ word = sym (take-append-le 9 rest more long) ∙ ap (λ (l : List ℕ). take 9 l) is ∙ take-append-le 9 word m (omega arith) ∙ take_all 9 word (omega arith) in
    (drop 9 rest, sym (take-append-drop 9 rest) ∙ ap (λ (l : List ℕ). l ++ drop 9 rest) whole)

-- ---- a first line that is too long

-- it is neither a header nor the first line of a base
long_first : (text more : List ℕ) (found : Option (List ℕ × List ℕ)) → first_line text ≡ None → 120 < length text → first_line (text ++ more) ≡ found → HasBadHeader found
long_first text more None none long is = tt
long_first text more (Some (line, behind)) none long is =
    let kept = line_kept text more line behind none is in
    (λ header spells. omega (arith, kept, long, header_short line header spells), λ rules size few same. omega (arith, kept, long, ap length same, base_line_short (Head rules size) few))

pub first_too_long : (text : List ℕ) → first_line text ≡ None → 2097152 < length text → (more : List ℕ) → IsMetFirst (text ++ more) BadHeader
first_too_long text none long more last = record {
  is = long_first text more (first_line (text ++ more)) none (omega (arith, long)) refl;
  looked_at = tt;
}

-- ---- an entry's line that is too long

long_entry : (rest more : List ℕ) (found : Option (List ℕ × List ℕ)) → first_line rest ≡ None → 2097152 < length rest → first_line (rest ++ more) ≡ found → HasNoEntry (rest ++ more) found
long_entry rest more None none long is = λ e. omega (arith, long, ap length e, length-append rest more)
long_entry rest more (Some (line, behind)) none long is = λ number entry spells.
    omega (arith, line_kept rest more line behind none is, entry_short line number entry spells, long)

pub entry_too_long : (replay : TranscriptCursor) (rest : List ℕ) (line : ℕ) → (BeginsBase rest → ⊥) → first_line rest ≡ None → 2097152 < length rest → line ≡ replay.lines + 1 → IsMetAt replay rest (NotALine line)
entry_too_long replay rest line other none long is bytes more at =
    damaged_line bytes replay.rules replay.size replay.audit (rest ++ more) line at.reached (λ good e. is ∙ ap (λ (n : ℕ). n + 1) (at.counted good e)) (λ begins. other (base_less rest more (omega (arith, long)) begins))
    (long_entry rest more (first_line (rest ++ more)) none long refl)

-- ---- a base's line that is too long

long_breaks : (bytes more : List ℕ) (k : ℕ) (b : BreaksAt bytes k) → IsFree 10 b.rest → 120 < length b.rest → BreaksAt (bytes ++ more) k
long_breaks bytes more k b free long =
    breaks_with bytes more k b (λ found m fits follows e.
    let inside = front_in_line b.rest (base_line_text found) m more free e in
    omega (arith, long, ap length inside.1, length-append b.rest inside.0, base_line_short found fits))

no_feed_free : (found : Option (List ℕ × List ℕ)) (bytes : List ℕ) → first_line bytes ≡ found → line_feeds bytes ≡ 0 → IsFree 10 bytes
no_feed_free None bytes cut none = no_first_line bytes cut
no_feed_free (Some (line, behind)) bytes cut none = let one = feeds_behind bytes line behind cut in absurd (omega (arith, one, none))

pub base_too_long : (text rest : List ℕ) (rules : RuleSet) (size number : ℕ) → size ≤ 65535 → first_line text ≡ Some (base_head rules size, rest) → BreaksAt rest number → line_feeds rest < number → 128 * number + 128 ≤ length rest → (more : List ℕ) → IsMetFirst (text ++ more) (BadBase (number + 1))
base_too_long text rest rules size number few cut b short long more =
    let all = ap length b.is ∙ length-append (lines_with_ends base_line_text b.lines) b.rest in
    broken (text ++ more) (rest ++ more) rules size number few (first_line-more text more (base_head rules size) rest cut)
    (long_breaks rest more number b (no_feed_free (first_line b.rest) b.rest refl (omega (arith, feeds_broken rest number b, short))) (omega (arith, lines_short b.lines b.fit, all, b.number, long)))
