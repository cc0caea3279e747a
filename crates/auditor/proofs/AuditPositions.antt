-- How far an audit is, part by part.
use Rattle.auditor.proofs.Prelude.{◌≡◌, ℕ, ◌+◌, ◌≤◌, inr, List, [], ◌∷◌, ◌++◌, Some, Err, take, refl, sym, ap, subst, ◌∙◌, append_assoc, append-nil, arith, length-append, sum_by-append, Base, RuleSet, LogPart, EntryPart, BasePart, NumberedMoment, base_of, entries_in, Entry, table_of, base_head, base_text, header_text, header_line, first_line, SpellsEntry, Header, SpellsHeader, base_lines, base_text_is, first_line-splits, NotALine, OutOfOrder, NotTheMachines, BadBase, Memory, AuditFault, Summary, Opening, Opens, opening_text, size_of, IsTranscript, NextPart, StepsTo, disturbances_in, reply_moves, BeginsWithTranscript, TranscriptPrefix, BeginsBase, IsLineBehind, HasNoEntry, Position, stand_of, position_at, counted_more, counted_part, GoodLine, LineJudged, IsFurther, Counts, IsPositionAfter, IsMetBehind}
use Rattle.auditor.proofs.LineCounts.{PartAt}
use Rattle.auditor.proofs.Chains.{entry_line_is}
use Rattle.auditor.proofs.Steps.{follows_more}

-- ---- counts

more_counts : (c d : Summary) (log : List Entry) (entry : Entry) → Counts c log → d ≡ counted_more c entry.1 → Counts d (log ++ entry ∷ [])
more_counts c d log entry counts is =
    let e = sum_by-append (λ (x : Entry). disturbances_in x.1) log (entry ∷ []) in
    let m = sum_by-append (λ (x : Entry). reply_moves x.1) log (entry ∷ []) in
    record {
      entries = ap (λ (s : Summary). s.entries) is ∙ omega (arith, counts.entries, length-append log (entry ∷ []));
      epochs = ap (λ (s : Summary). s.epochs) is ∙ omega (arith, counts.epochs, e);
      moves = ap (λ (s : Summary). s.moves) is ∙ omega (arith, counts.moves, m);
    }

-- the entries of a part
abbrev pub entries_of : LogPart → List Entry
entries_of (EntryPart entry) = entry ∷ []
entries_of (BasePart base) = []

pub entries_add : (log : List LogPart) (part : LogPart) → entries_in (log ++ part ∷ []) ≡ entries_in log ++ entries_of part
entries_add [] (EntryPart entry) = refl
entries_add [] (BasePart base) = refl
entries_add (EntryPart first ∷ log) part = ap (λ (l : List Entry). first ∷ l) (entries_add log part)
entries_add (BasePart base ∷ log) part = entries_add log part

pub part_counts : (c d : Summary) (log : List Entry) (part : LogPart) → Counts c log → d ≡ counted_part c part → Counts d (log ++ entries_of part)
part_counts c d log (EntryPart entry) counts is = more_counts c d log entry counts is
part_counts c d log (BasePart base) counts is = rw (is, append-nil log) counts

-- ---- the beginning

abbrev pub opened_follows : (bytes rest : List ℕ) (rules : RuleSet) (opening : Opening) (start : NumberedMoment) → Opens rules opening start → start.count ≤ 16777216 → bytes ≡ opening_text rules opening ++ rest → BeginsWithTranscript bytes rules [] start rest
opened_follows bytes rest rules opening start opens few splits = record {
  opening = opening;
  good = opening_text rules opening;
  transcript = record {
    start = start;
    opens = opens;
    text = sym (append-nil (opening_text rules opening));
    parts = tt;
    not_too_many = few;
    passes = refl;
  };
  splits = splits;
}

pub header_splits : (bytes line rest : List ℕ) (header : Header) → first_line bytes ≡ Some (line, rest) → SpellsHeader line header → bytes ≡ header_line header.rules header.names header.present ++ rest
header_splits bytes line rest header cut spells =
    first_line-splits bytes line rest cut ∙ ap (λ (z : List ℕ). z ++ 10 ∷ rest) spells.is ∙ sym (append_assoc (header_text header.rules header.names header.present) (10 ∷ []) rest)

pub base_splits : (bytes rest behind : List ℕ) (rules : RuleSet) (size : ℕ) (base : Base) → first_line bytes ≡ Some (base_head rules size, rest) → rest ≡ base_lines base ++ behind → bytes ≡ base_text rules size base ++ behind
base_splits bytes rest behind rules size base cut is =
    let head = base_head rules size in
    first_line-splits bytes head rest cut
    ∙ ap (λ (z : List ℕ). head ++ 10 ∷ z) is
    ∙ sym (append_assoc head (10 ∷ []) (base_lines base ++ behind))
    ∙ sym (append_assoc (head ++ 10 ∷ []) (base_lines base) behind)
    ∙ ap (λ (z : List ℕ). z ++ behind) (sym (base_text_is rules size base))

pub opened_reached : (bytes : List ℕ) (rules : RuleSet) (size : ℕ) (p : Position) (rest : List ℕ) (start : NumberedMoment) (f : BeginsWithTranscript bytes rules [] start rest) → size_of f.opening ≡ size → p ≡ position_at start → IsPositionAfter bytes rules size p rest
opened_reached bytes rules size p rest start f size_is opening =
    rw opening (record { log = []; follows = f; size_is = size_is; counts = record { entries = refl; epochs = refl; moves = refl } })

-- ---- one more part

abbrev pub reached_more : (bytes : List ℕ) (rules : RuleSet) (size : ℕ) (p q : Position) (rest behind : List ℕ) → IsPositionAfter bytes rules size p rest → IsFurther rules size p rest q behind → IsPositionAfter bytes rules size q behind
reached_more bytes rules size p q rest behind r further =
    let part = further.part in
    let comes = subst (λ (n : ℕ). NextPart rules n (stand_of p) rest part (stand_of q) behind) (sym r.size_is) further.comes in
    record {
      log = r.log ++ part ∷ [];
      follows = follows_more bytes rest behind rules r.log (stand_of p) (stand_of q) part r.follows comes;
      size_is = r.size_is;
      counts = subst (Counts q.counted) (sym (entries_add r.log part)) (part_counts p.counted q.counted (entries_in r.log) part r.counts further.counted);
    }

-- a line that spells the next entry, which the machine may give
pub spelled_comes : (rules : RuleSet) (size : ℕ) (at next : NumberedMoment) (line rest behind : List ℕ) (entry : Entry) → first_line rest ≡ Some (line, behind) → SpellsEntry line (at.count + 1) entry → StepsTo (table_of rules) at (EntryPart entry) next → NextPart rules size at rest (EntryPart entry) next behind
spelled_comes rules size at next line rest behind entry cut spells steps = record {
  fits = record { event = spells.event; reply = spells.reply; fits = spells.fits };
  within = subst (λ (z : NumberedMoment). z.count ≤ 16777216) (sym steps.2) spells.numbered.1;
  steps = steps;
  is = first_line-splits rest line behind cut ∙ ap (λ (z : List ℕ). z ++ 10 ∷ behind) spells.is ∙ sym (entry_line_is (at.count + 1) entry behind);
}

-- a good line is the next entry
pub entry_further : (rules : RuleSet) (size : ℕ) (p q : Position) (line rest behind : List ℕ) → first_line rest ≡ Some (line, behind) → GoodLine (table_of rules) line p q → IsFurther rules size p rest q behind
entry_further rules size p q line rest behind cut good =
    let comes = spelled_comes rules size (stand_of p) (stand_of q) line rest behind good.entry cut good.spells (q.state, good.answers, λ i. record { moment = record { state = q.state; spent = good.spends i }; count = good.number i }) in
    record { part = EntryPart good.entry; comes = comes; counted = good.counted }

-- a base is that of the run's state
pub base_further : (rules : RuleSet) (size : ℕ) (p : Position) (rest behind : List ℕ) (base : Base) → p.number ≤ 16777216 → base ≡ base_of p.number (stand_of p).moment → rest ≡ base_text rules size base ++ behind → IsFurther rules size p rest p behind
base_further rules size p rest behind base few is splits = record {
  part = BasePart base;
  comes = record { fits = tt; within = few; steps = (is, refl); is = splits };
  counted = refl;
}

-- ---- the end, and damage

-- if nothing is left, all of a text is the transcript that it begins with
pub all_good : (bytes : List ℕ) (rules : RuleSet) (log : List LogPart) (end : NumberedMoment) (rest : List ℕ) (f : BeginsWithTranscript bytes rules log end rest) → rest ≡ [] → IsTranscript bytes rules f.opening log end
all_good bytes rules log end rest f none =
    let same : bytes ≡ f.good = f.splits ∙ ap (λ (z : List ℕ). f.good ++ z) none ∙ append-nil f.good in
    subst (λ (b : List ℕ). IsTranscript b rules f.opening log end) (sym same) f.transcript

abbrev beginning : (bytes : List ℕ) (rules : RuleSet) (size : ℕ) (p : Position) (rest : List ℕ) → IsPositionAfter bytes rules size p rest → TranscriptPrefix bytes
beginning bytes rules size p rest r = record { rules = rules; log = r.log; end = stand_of p; rest = rest; follows = r.follows }

pub damaged_line : (bytes : List ℕ) (rules : RuleSet) (size : ℕ) (p : Position) (rest : List ℕ) (line : ℕ) → IsPositionAfter bytes rules size p rest → ((good : List ℕ) → bytes ≡ good ++ rest → IsLineBehind line good) → (BeginsBase rest → ⊥) → HasNoEntry rest (first_line rest) → IsMetBehind bytes p.number (NotALine line)
damaged_line bytes rules size p rest line r line_is other damage last before =
    record {
      is = record {
        at = beginning bytes rules size p rest r;
        line_is = line_is r.follows.good r.follows.splits;
        other = other;
        damage = damage;
      };
      looked_at = before;
    }

-- what the check of a line finds is the damage of the bytes
pub damaged : (bytes text behind : List ℕ) (rules : RuleSet) (size : ℕ) (p q : Position) (rest : List ℕ) (found : AuditFault) (line : ℕ) → IsPositionAfter bytes rules size p rest → ((good : List ℕ) → bytes ≡ good ++ rest → IsLineBehind line good) → (BeginsBase rest → ⊥) → first_line rest ≡ Some (text, behind) → LineJudged (table_of rules) text line p q (Err found) → IsMetBehind bytes p.number found
damaged bytes text behind rules size p q rest (NotALine at) line r line_is other cut (same, none) =
    damaged_line bytes rules size p rest at r (λ good e. same ∙ line_is good e) other (rw cut none)
damaged bytes text behind rules size p q rest (OutOfOrder at) line r line_is other cut (same, bad) =
    λ last before. record {
      is = record {
        at = beginning bytes rules size p rest r;
        line_is = same ∙ line_is r.follows.good r.follows.splits;
        number = bad.number;
        entry = bad.entry;
        comes = record { line = text; more = behind; is = cut; spells = bad.spells };
        damage = bad.other;
      };
      looked_at = before;
    }
damaged bytes text behind rules size p q rest (NotTheMachines at) line r line_is other cut (same, bad) =
    λ last before. record {
      is = record {
        at = beginning bytes rules size p rest r;
        line_is = same ∙ line_is r.follows.good r.follows.splits;
        entry = bad.entry;
        comes = record { line = text; more = behind; is = cut; spells = bad.spells };
        damage = bad.never;
      };
      looked_at = before;
    }
damaged bytes text behind rules size p q rest Memory line r line_is other cut judged = tt
damaged bytes text behind rules size p q rest fault line r line_is other cut judged = absurd judged

-- and a base that is not that of the run's state
pub damaged_base : (bytes : List ℕ) (rules : RuleSet) (size : ℕ) (p : Position) (rest : List ℕ) (line len : ℕ) → IsPositionAfter bytes rules size p rest → BeginsBase rest → PartAt (base_text rules size (base_of p.number (stand_of p).moment)) rest len → ((good : List ℕ) → bytes ≡ good ++ rest → IsLineBehind line (good ++ take len rest)) → IsMetBehind bytes p.number (BadBase line)
damaged_base bytes rules size p rest line len r begins parted line_is last before =
    let here = subst (λ (n : ℕ). PartAt (base_text rules n (base_of p.number (stand_of p).moment)) rest len) (sym r.size_is) parted in
    record {
      is = inr (record {
        at = beginning bytes rules size p rest r;
        begins = begins;
        parting = here.parting;
        line_is = subst (λ (c : List ℕ). IsLineBehind line (r.follows.good ++ c)) here.common_is (line_is r.follows.good r.follows.splits);
      });
      looked_at = before;
    }
