-- A transcript that was read up to a line that is longer than any: a view of what was read is that of all of it.
use Rattle.std.proofs.Common.{◌≡◌, ◌≢◌, ◌∙◌, ◌⊎◌, ℕ, ◌+◌, ◌<◌, ◌≤◌, inl, inr, List, [], ◌∷◌, ◌++◌, Option, None, Some, length, take, drop, refl, sym, ap, subst, append_assoc, append-nil, arith}
use Rattle.std.proofs.lemmas.List.{length-append, take-append-drop, take-append-le, take_all}
use Rattle.std.specs.List.{AllByRecursion}
use Rattle.std.specs.Prelude.{codes}
use Rattle.audit_parts.proofs.ContinuedRuns.{accepted_is_whole}
use Rattle.audit_parts.proofs.CutTranscripts.{reopens_end, text_at}
use Rattle.audit_parts.proofs.Lines.{ends_free, ends_line, ends_tail}
use Rattle.audit_parts.proofs.SeamRuns.{ended_lines}
use Rattle.audit_parts.proofs.ShortLines.{accepted_is_short}
use Rattle.audit_parts.specs.Laws.{HasShortLines, IsAcceptedText, IsShortLine}
use Rattle.audit_parts.specs.Seams.{EndsLine}
use Rattle.auditor.proofs.LongLines.{base_line_short, first_too_long}
use Rattle.auditor.proofs.Windows.{begins_more, breaks_more, feeds_behind, feeds_broken, first_line-more, front_in_line}
use Rattle.auditor.specs.Damage.{BeginsBase, BeginsWithTranscript, CommonPrefix, EndsInBadBase, EndsInNoLine, EndsNotTheMachines, EndsOutOfOrder, EntryComes, HasBadHeader, HasBadStart, HasBrokenBase, HasImpossibleBase, HasNoEntry, IsDamage, TranscriptPrefix}
use Rattle.auditor.specs.EntryWindows.{EndsAt, HasDroppedEntry, IsMetDamage, IsStateAfter, base_looked_at}
use Rattle.auditor.specs.Parts.{Based, Opening, size_of}
use Rattle.auditor.specs.Transcript.{IsTranscript, epoch_count, move_count}
use Rattle.auditor.specs.declared.fault.AuditFault.{AuditFault}
use Rattle.auditor.specs.declared.fault.AuditFault.TheVariants.{BadHeader, NotALine, OutOfOrder, NotTheMachines, BadBase, Read, Memory}
use Rattle.byte_streams.proofs.FirstLines.{first_line-splits, first_line-is, no_first_line}
use Rattle.byte_streams.specs.Lines.{IsLine, first_line}
use Rattle.command_line.specs.ReadTexts.{IsReadEnough}
use Rattle.entry_grammar.proofs.EntryLengths.{entry_short}
use Rattle.entry_grammar.proofs.FirstLines.{line_free}
use Rattle.entry_grammar.proofs.Free.{cons_parts}
use Rattle.entry_grammar.specs.BaseLines.{BreaksAt, MayFollow, base_lines}
use Rattle.entry_grammar.specs.Spelling.{IsBaseLine, base_line_text}
use Rattle.entry_grammar.specs.declared.base_line.BaseLine.{BaseLine}
use Rattle.line_text.specs.BaseText.{base_head}
use Rattle.line_text.specs.Words.{lines_with_ends}
use Rattle.rule_machine.specs.Base.{LogPart, NumberedMoment, base_of, entries_in}
use Rattle.rule_machine.specs.Run.{Entry}
use Rattle.rule_machine.specs.State.{State}
use Rattle.rule_machine.specs.declared.rule_set.RuleSet.{RuleSet}
use Rattle.transcript_view.specs.Views.{IsEpochTable, IsPicture, IsPictureOf}
use Rattle.transcript_view.specs.declared.view.View.{View}
use Rattle.transcript_view.specs.declared.view.View.TheVariants.{Text, Refused, TooFew, Forgotten}

-- ---- a last line that is too long

record LongEnd (text : List ℕ) : Type 0 where
  front : List ℕ
  line : List ℕ
  is : text ≡ front ++ line
  free : IsLine line
  far : 2097152 < length line

free_front : (x y : List ℕ) → IsLine (x ++ y) → IsLine x
free_front [] y free = tt
free_front (b ∷ x) y free = (free.0, free_front x y free.1)

no_empty : (b : ℕ) (x : List ℕ) → b ∷ x ≡ [] → ⊥
no_empty b x e = absurd cc

-- it comes after whole lines
line_behind : (x rest front line : List ℕ) → EndsLine x → x ++ rest ≡ front ++ line → IsLine line → (f : List ℕ) × (rest ≡ f ++ line)
line_behind [] rest front line ends is free = (front, is)
line_behind (b ∷ x) rest [] line ends is free =
    absurd (no_empty b x (ends_free (b ∷ x) ends (free_front (b ∷ x) rest (subst IsLine (sym is) free))))
line_behind (b ∷ x) rest (c ∷ front) line ends is free =
    line_behind x rest front line (ends_tail b x ends) (cons_parts b c (x ++ rest) (front ++ line) is).1 free

long_behind : (text x rest : List ℕ) → text ≡ x ++ rest → EndsLine x → LongEnd text → LongEnd rest
long_behind text x rest splits ends l =
    let r = line_behind x rest l.front l.line ends (sym splits ∙ l.is) l.free in
    record { front = r.0; line = l.line; is = r.1; free = l.free; far = l.far }

long_far : (text : List ℕ) → LongEnd text → 2097152 < length text
long_far text l = let far = l.far in omega (arith, far, ap length l.is, length-append l.front l.line)

-- ---- transcripts consist of whole lines

accepted : (bytes : List ℕ) (rules : RuleSet) (o : Opening) (log : List LogPart) (end : NumberedMoment) → IsTranscript bytes rules o log end → IsAcceptedText bytes
accepted bytes rules o log end is =
    let entries = entries_in log in (
      record { entries = length entries; epochs = epoch_count entries; moves = move_count entries },
      record {
        rules = rules;
        opening = o;
        log = log;
        end = end;
        transcript = is;
        counts = record { entries = refl; epochs = refl; moves = refl };
      },
    )

whole : (bytes : List ℕ) (rules : RuleSet) (o : Opening) (log : List LogPart) (end : NumberedMoment) → IsTranscript bytes rules o log end → EndsLine bytes
whole bytes rules o log end is = accepted_is_whole bytes (accepted bytes rules o log end is)

no_transcript : (bytes : List ℕ) (rules : RuleSet) (o : Opening) (log : List LogPart) (end : NumberedMoment) → LongEnd bytes → IsTranscript bytes rules o log end → ⊥
no_transcript bytes rules o log end l is =
    let none = long_far [] (long_behind bytes bytes [] (sym (append-nil bytes)) (whole bytes rules o log end is) l) in omega (arith, none)

abbrev follows_more : (bytes more : List ℕ) (rules : RuleSet) (log : List LogPart) (end : NumberedMoment) (rest : List ℕ) → BeginsWithTranscript bytes rules log end rest → BeginsWithTranscript (bytes ++ more) rules log end (rest ++ more)
follows_more bytes more rules log end rest f = record {
  opening = f.opening;
  good = f.good;
  transcript = f.transcript;
  splits = ap (λ (l : List ℕ). l ++ more) f.splits ∙ append_assoc f.good rest more;
}

long_rest : (bytes : List ℕ) (rules : RuleSet) (log : List LogPart) (end : NumberedMoment) (rest : List ℕ) → BeginsWithTranscript bytes rules log end rest → LongEnd bytes → LongEnd rest
long_rest bytes rules log end rest f l =
    long_behind bytes f.good rest f.splits (whole f.good rules f.opening log end f.transcript) l

abbrev prefix_more : (bytes more : List ℕ) → TranscriptPrefix bytes → TranscriptPrefix (bytes ++ more)
prefix_more bytes more at = record {
  rules = at.rules;
  log = at.log;
  end = at.end;
  rest = at.rest ++ more;
  follows = follows_more bytes more at.rules at.log at.end at.rest at.follows;
}

-- ---- the lines of a base are short

-- so is what has no line feed inside them
short_inside : (lines : List (List ℕ)) → AllByRecursion IsShortLine lines → (front line more : List ℕ) → IsLine line → lines_with_ends (λ l. l) lines ≡ front ++ (line ++ more) → length line ≤ 2097152
short_inside [] short front line more free is =
    omega (arith, ap length is, length-append front (line ++ more), length-append line more)
short_inside (own ∷ lines) short front line more free is =
    let rest = lines_with_ends (λ l. l) lines in
    by rest (λ (f : List ℕ). short_inside lines short.1 f line more free) own front short.0.1 (sym (append_assoc own (10 ∷ []) rest) ∙ is)
  where
    by : (rest : List ℕ) → ((f : List ℕ) → rest ≡ f ++ (line ++ more) → length line ≤ 2097152) → (own front : List ℕ) → length own ≤ 2097152 → own ++ 10 ∷ rest ≡ front ++ (line ++ more) → length line ≤ 2097152
    by rest later own [] few e =
        let inside = front_in_line line own rest more free (sym e) in
        omega (arith, few, ap length inside.1, length-append line inside.0)
    by rest later [] (b ∷ front) few e = later front (cons_parts 10 b rest (front ++ (line ++ more)) e).1
    by rest later (c ∷ own) (b ∷ front) few e =
        by rest later own front (omega (arith, few)) (cons_parts c b (own ++ 10 ∷ rest) (front ++ (line ++ more)) e).1

base_of_end_short : (bytes : List ℕ) (rules : RuleSet) (o : Opening) (log : List LogPart) (end : NumberedMoment) → IsTranscript bytes rules o log end → HasShortLines (text_at rules (size_of o) end)
base_of_end_short bytes rules o log end is =
    let size = size_of o in
    let text = text_at rules size end in
    accepted_is_short text (accepted text rules (Based size (base_of end.count end.moment)) [] end (record {
      start = end;
      opens = reopens_end bytes rules o log end is;
      text = sym (append-nil text);
      parts = tt;
      not_too_many = is.not_too_many;
      passes = refl;
    }))

-- ---- damages of what was read

base_less : (rest more : List ℕ) → 9 ≤ length rest → BeginsBase (rest ++ more) → BeginsBase rest
base_less rest more long (m, is) =
    let word = codes "matching2" in
    let same : take 9 rest ≡ word = sym (take-append-le 9 rest more long) ∙ ap (λ (l : List ℕ). take 9 l) is ∙ take-append-le 9 word m (omega arith) ∙ take_all 9 word (omega arith) in
    (drop 9 rest, sym (take-append-drop 9 rest) ∙ ap (λ (l : List ℕ). l ++ drop 9 rest) same)

header_more : (bytes more : List ℕ) → LongEnd bytes → HasBadHeader (first_line bytes) → HasBadHeader (first_line (bytes ++ more))
header_more bytes more l bad = by (first_line bytes) refl
  where
    by : (found : Option (List ℕ × List ℕ)) → first_line bytes ≡ found → HasBadHeader (first_line (bytes ++ more))
    by None cut = (first_too_long bytes cut (long_far bytes l) more None).is
    by (Some (line, rest)) cut =
        subst HasBadHeader (sym (first_line-more bytes more line rest cut)) (subst HasBadHeader cut bad)

no_entry_more : (rest more : List ℕ) → LongEnd rest → HasNoEntry rest (first_line rest) → HasNoEntry (rest ++ more) (first_line (rest ++ more))
no_entry_more rest more l none = by (first_line rest) refl
  where
    far : 2097152 < length rest
    far = long_far rest l

    long : IsLine rest → (found : Option (List ℕ × List ℕ)) → first_line (rest ++ more) ≡ found → HasNoEntry (rest ++ more) found
    long free None cut = λ e. omega (arith, far, ap length e, length-append rest more)
    long free (Some (line, behind)) cut = λ number entry spells.
        let inside = front_in_line rest line behind more free (first_line-is (rest ++ more) line behind cut).1 in
        omega (arith, far, ap length inside.1, length-append rest inside.0, entry_short line number entry spells)

    by : (found : Option (List ℕ × List ℕ)) → first_line rest ≡ found → HasNoEntry (rest ++ more) (first_line (rest ++ more))
    by None cut = long (no_first_line rest cut) (first_line (rest ++ more)) refl
    by (Some (line, behind)) cut =
        subst (HasNoEntry (rest ++ more)) (sym (first_line-more rest more line behind cut)) (subst (HasNoEntry rest) cut none)

abbrev no_line_more : (bytes more : List ℕ) (line : ℕ) → LongEnd bytes → EndsInNoLine bytes line → EndsInNoLine (bytes ++ more) line
no_line_more bytes more line l x =
    let at = x.at in
    let rest = long_rest bytes at.rules at.log at.end at.rest at.follows l in
    let far = long_far at.rest rest in
    record {
      at = prefix_more bytes more at;
      line_is = x.line_is;
      other = λ begins. x.other (base_less at.rest more (omega (arith, far)) begins);
      damage = no_entry_more at.rest more rest x.damage;
    }

comes_more : (rest more : List ℕ) (number : ℕ) (entry : Entry) → EntryComes rest number entry → EntryComes (rest ++ more) number entry
comes_more rest more number entry c = record {
  line = c.line;
  more = c.more ++ more;
  is = first_line-more rest more c.line c.more c.is;
  spells = c.spells;
}

abbrev order_more : (bytes more : List ℕ) (line : ℕ) → EndsOutOfOrder bytes line → EndsOutOfOrder (bytes ++ more) line
order_more bytes more line x = record {
  at = prefix_more bytes more x.at;
  line_is = x.line_is;
  number = x.number;
  entry = x.entry;
  comes = comes_more x.at.rest more x.number x.entry x.comes;
  damage = x.damage;
}

abbrev machines_more : (bytes more : List ℕ) (line : ℕ) → EndsNotTheMachines bytes line → EndsNotTheMachines (bytes ++ more) line
machines_more bytes more line x = record {
  at = prefix_more bytes more x.at;
  line_is = x.line_is;
  entry = x.entry;
  comes = comes_more x.at.rest more (x.at.end.count + 1) x.entry x.comes;
  damage = x.damage;
}

-- ---- bases

breaks_on : (rest more : List ℕ) (number : ℕ) → LongEnd rest → BreaksAt rest number → BreaksAt (rest ++ more) number
breaks_on rest more number l b = by (first_line b.rest) refl
  where
    far : 2097152 < length b.rest
    far = long_far b.rest (long_behind rest (lines_with_ends base_line_text b.lines) b.rest b.is (ended_lines base_line_text IsBaseLine line_free b.lines b.fit).1 l)

    stops : IsLine b.rest → (found : BaseLine) (m : List ℕ) → IsBaseLine found → MayFollow (b.lines ++ found ∷ []) → b.rest ++ more ≡ base_line_text found ++ 10 ∷ m → ⊥
    stops free found m fits follows e =
        let inside = front_in_line b.rest (base_line_text found) m more free e in
        omega (arith, far, ap length inside.1, length-append b.rest inside.0, base_line_short found fits)

    by : (found : Option (List ℕ × List ℕ)) → first_line b.rest ≡ found → BreaksAt (rest ++ more) number
    by None cut = record {
      lines = b.lines;
      rest = b.rest ++ more;
      is = ap (λ (l : List ℕ). l ++ more) b.is ∙ append_assoc (lines_with_ends base_line_text b.lines) b.rest more;
      fit = b.fit;
      follow = b.follow;
      short = b.short;
      number = b.number;
      stops = stops (no_first_line b.rest cut);
    }
    by (Some (line, behind)) cut =
        breaks_more rest more number b (omega (arith, feeds_broken rest number b, feeds_behind b.rest line behind cut))

start_more : (bytes more : List ℕ) (line : ℕ) → LongEnd bytes → HasBadStart bytes line → HasBadStart (bytes ++ more) line
start_more bytes more line l x = record {
  rules = x.rules;
  size = x.size;
  rest = x.rest ++ more;
  few = x.few;
  first = first_line-more bytes more head x.rest x.first;
  bad = by x.bad;
}
  where
    head : List ℕ
    head = base_head x.rules x.size

    rest : LongEnd x.rest
    rest =
        long_behind bytes (head ++ 10 ∷ []) x.rest (first_line-splits bytes head x.rest x.first ∙ sym (append_assoc head (10 ∷ []) x.rest)) (ends_line head [] tt) l

    by : HasBrokenBase x.rest line ⊎ HasImpossibleBase x.rules x.size x.rest line → HasBrokenBase (x.rest ++ more) line ⊎ HasImpossibleBase x.rules x.size (x.rest ++ more) line
    by (inl broken) =
        inl (record { number = broken.number; breaks = breaks_on x.rest more broken.number rest broken.breaks; line_is = broken.line_is })
    by (inr never) = inr (record {
      base = never.base;
      more = never.more ++ more;
      shaped = never.shaped;
      is = ap (λ (l : List ℕ). l ++ more) never.is ∙ append_assoc (base_lines never.base) never.more more;
      nowhere = never.nowhere;
      line_is = never.line_is;
    })

apart_more : (missing own more : List ℕ) → (own ≡ [] → ⊥) → ((b : ℕ) (x y : List ℕ) → missing ≡ b ∷ x → own ≡ b ∷ y → ⊥) → (b : ℕ) (x y : List ℕ) → missing ≡ b ∷ x → own ++ more ≡ b ∷ y → ⊥
apart_more missing [] more some apart b x y e f = some refl
apart_more missing (c ∷ own) more some apart b x y e f =
    apart b x own e (ap (λ (n : ℕ). n ∷ own) (cons_parts c b (own ++ more) y f).0)

abbrev bad_base_more : (bytes more : List ℕ) (line : ℕ) → LongEnd bytes → EndsInBadBase bytes line → EndsInBadBase (bytes ++ more) line
bad_base_more bytes more line l x = record {
  at = prefix_more bytes more at;
  begins = begins_more at.rest more x.begins;
  parting = record {
    common = p.common;
    missing = p.missing;
    more = p.more ++ more;
    wanted = p.wanted;
    had = ap (λ (l : List ℕ). l ++ more) p.had ∙ append_assoc p.common p.more more;
    some = p.some;
    apart = apart_more p.missing p.more more some p.apart;
  };
  line_is = x.line_is;
}
  where
    at : TranscriptPrefix bytes
    at = x.at

    text : List ℕ
    text = text_at at.rules (size_of at.follows.opening) at.end

    p : CommonPrefix text at.rest
    p = x.parting

    some : p.more ≡ [] → ⊥
    some none =
        let f = at.follows in
        let end = long_rest bytes at.rules at.log at.end at.rest f l in
        let same : p.common ≡ end.front ++ end.line = sym (p.had ∙ ap (λ (l : List ℕ). p.common ++ l) none ∙ append-nil p.common) ∙ end.is in
        let lines = base_of_end_short f.good at.rules f.opening at.log at.end f.transcript in
        let is = sym lines.is ∙ p.wanted ∙ ap (λ (l : List ℕ). l ++ p.missing) same ∙ append_assoc end.front end.line p.missing in
        let few = short_inside lines.lines lines.short end.front end.line p.missing end.free is in
        let far = end.far in
        omega (arith, few, far)

-- ---- the views

damage_more : (bytes more : List ℕ) (d : AuditFault) → LongEnd bytes → IsDamage bytes d → IsDamage (bytes ++ more) d
damage_more bytes more BadHeader l x = header_more bytes more l x
damage_more bytes more (NotALine line) l x = no_line_more bytes more line l x
damage_more bytes more (OutOfOrder line) l x = order_more bytes more line x
damage_more bytes more (NotTheMachines line) l x = machines_more bytes more line x
damage_more bytes more (BadBase line) l (inl x) = inl (start_more bytes more line l x)
damage_more bytes more (BadBase line) l (inr x) = inr (bad_base_more bytes more line l x)
damage_more bytes more Read l x = absurd x
damage_more bytes more Memory l x = absurd x

met_more : (bytes more : List ℕ) (last : Option ℕ) (d : AuditFault) → LongEnd bytes → IsMetDamage bytes last d → IsMetDamage (bytes ++ more) last d
met_more bytes more last BadHeader l m = record { is = damage_more bytes more BadHeader l m.is; looked_at = tt }
met_more bytes more last (NotALine line) l m =
    record { is = no_line_more bytes more line l m.is; looked_at = m.looked_at }
met_more bytes more last (OutOfOrder line) l m =
    record { is = order_more bytes more line m.is; looked_at = m.looked_at }
met_more bytes more last (NotTheMachines line) l m =
    record { is = machines_more bytes more line m.is; looked_at = m.looked_at }
met_more bytes more last (BadBase line) l m = by m.is m.looked_at
  where
    by : (x : HasBadStart bytes line ⊎ EndsInBadBase bytes line) → base_looked_at last (λ ends. ends.at.end.count) x → IsMetDamage (bytes ++ more) last (BadBase line)
    by (inl x) looked = record { is = inl (start_more bytes more line l x); looked_at = tt }
    by (inr x) looked = record { is = inr (bad_base_more bytes more line l x); looked_at = looked }
met_more bytes more last Read l m = absurd m.looked_at
met_more bytes more last Memory l m = absurd m.looked_at

state_more : (bytes more : List ℕ) (last : Option ℕ) (rules : RuleSet) (s : State) → LongEnd bytes → IsStateAfter bytes last rules s → IsStateAfter (bytes ++ more) last rules s
state_more bytes more last rules s l x = record {
  log = x.log;
  end = x.end;
  rest = x.rest ++ more;
  follows = follows_more bytes more rules x.log x.end x.rest x.follows;
  ends = by last x.ends;
  state = x.state;
}
  where
    by : (last : Option ℕ) → EndsAt last x.end.count x.rest → EndsAt last x.end.count (x.rest ++ more)
    by None none =
        let far = long_far x.rest (long_rest bytes rules x.log x.end x.rest x.follows l) in absurd (omega (arith, far, ap length none))
    by (Some number) is = is

dropped_more : (bytes more : List ℕ) (last : Option ℕ) (asked base : ℕ) → HasDroppedEntry bytes last asked base → HasDroppedEntry (bytes ++ more) last asked base
dropped_more bytes more last asked base x = record {
  last_is = x.last_is;
  fewer = x.fewer;
  rules = x.rules;
  end = x.end;
  rest = x.rest ++ more;
  follows = follows_more bytes more x.rules [] x.end x.rest x.follows;
  base_is = x.base_is;
}

picture_more : (bytes more : List ℕ) (last : Option ℕ) (view : View) → LongEnd bytes → IsPicture bytes last view → IsPicture (bytes ++ more) last view
picture_more bytes more last (Text text) l x = record {
  rules = x.rules;
  state = x.state;
  reached = state_more bytes more last x.rules x.state l x.reached;
  text_is = x.text_is;
}
picture_more bytes more last (Refused damage) l x = met_more bytes more last damage l x
picture_more bytes more last (TooFew asked entries) l x =
    absurd (no_transcript bytes x.rules x.opening x.log x.end l x.transcript)
picture_more bytes more last (Forgotten asked base) l x = dropped_more bytes more last asked base x

table_more : (bytes more : List ℕ) (view : View) → LongEnd bytes → IsEpochTable bytes view → IsEpochTable (bytes ++ more) view
table_more bytes more (Text text) l x =
    let run = x.are.run in absurd (no_transcript bytes x.rules x.are.opening run.log run.end l run.transcript)
table_more bytes more (Refused damage) l x = damage_more bytes more damage l x
table_more bytes more (TooFew asked entries) l x = absurd x
table_more bytes more (Forgotten asked base) l x = absurd x

-- ---- a view of all that was read

of_all : (P : List ℕ → Type 0) (input text : List ℕ) → IsReadEnough input text → ((more : List ℕ) → LongEnd text → P text → P (text ++ more)) → P text → P input
of_all P input text (inl same) further holds = subst P (sym same) holds
of_all P input text (inr (more, begun, is, (front, line, ends, free, long), far)) further holds =
    let end : LongEnd text = record { front = front; line = line; is = ends; free = free; far = omega (arith, far, long) } in
    subst P (sym is) (further more end holds)

pub picture_of_all : (input text : List ℕ) (last : Option ℕ) (view : View) → IsReadEnough input text → IsPicture text last view → IsPicture input last view
picture_of_all input text last view read is =
    of_all (λ bytes. IsPicture bytes last view) input text read (λ more end x. picture_more text more last view end x) is

pub table_of_all : (input text : List ℕ) (view : View) → IsReadEnough input text → IsEpochTable text view → IsEpochTable input view
table_of_all input text view read is =
    of_all (λ bytes. IsEpochTable bytes view) input text read (λ more end x. table_more text more view end x) is
