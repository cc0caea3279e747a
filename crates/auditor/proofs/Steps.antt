-- Parts of a transcript, one after another.
use Rattle.auditor.proofs.Prelude.{◌≡◌, ℕ, ◌≤◌, List, [], ◌∷◌, ◌++◌, refl, sym, ap, subst, ◌∙◌, append_assoc, append-nil, arith, AllByRecursion, RuleSet, RuleTable, LogPart, EntryPart, BasePart, NumberedMoment, Passes, table_of, StepsTo, count_after, opening_text, part_text, parts_text, size_of, NextPart, IsLogPart, BeginsWithTranscript}

-- the first part, and the later ones
pub passes_first : (t : RuleTable) (at end : NumberedMoment) (part : LogPart) (log : List LogPart) → Passes t at (part ∷ log) end → (next : NumberedMoment) × StepsTo t at part next × Passes t next log end
passes_first t at end (EntryPart entry) log (s, answers, rest) = (_, (s, answers, refl), rest)
passes_first t at end (BasePart base) log (is, rest) = (at, (is, refl), rest)

pub passes_onto : (t : RuleTable) (at next end : NumberedMoment) (part : LogPart) (log : List LogPart) → StepsTo t at part next → Passes t next log end → Passes t at (part ∷ log) end
passes_onto t at next end (EntryPart entry) log (s, answers, is) rest = (s, answers, subst (λ (x : NumberedMoment). Passes t x log end) is rest)
passes_onto t at next end (BasePart base) log (is, same) rest = (is, subst (λ (x : NumberedMoment). Passes t x log end) same rest)

-- one part more at the end
pub passes_add : (t : RuleTable) (at end next : NumberedMoment) (log : List LogPart) (part : LogPart) → Passes t at log end → StepsTo t end part next → Passes t at (log ++ part ∷ []) next
passes_add t at end next [] part is step =
    passes_onto t at next next part [] (subst (λ (x : NumberedMoment). StepsTo t x part next) is step) refl
passes_add t at end next (first ∷ log) part passes step =
    let split = passes_first t at end first log passes in
    passes_onto t at split.0 next first (log ++ part ∷ []) split.1 (passes_add t split.0 end next log part split.2 step)

-- a part counts its entry
pub step_count : (t : RuleTable) (at next : NumberedMoment) (part : LogPart) → StepsTo t at part next → next.count ≡ count_after at.count part
step_count t at next (EntryPart entry) (s, answers, is) = ap (λ (x : NumberedMoment). x.count) is
step_count t at next (BasePart base) (is, same) = ap (λ (x : NumberedMoment). x.count) same

pub count_rises : (count : ℕ) (part : LogPart) → count ≤ count_after count part
count_rises count (EntryPart entry) = omega arith
count_rises count (BasePart base) = omega arith

-- no part takes an entry back
pub passes_rise : (t : RuleTable) (at end : NumberedMoment) (log : List LogPart) → Passes t at log end → at.count ≤ end.count
passes_rise t at end [] is = let same = ap (λ (x : NumberedMoment). x.count) is in omega (arith, same)
passes_rise t at end (part ∷ log) passes =
    let split = passes_first t at end part log passes in
    omega (arith, step_count t at split.0 part split.1, count_rises at.count part, passes_rise t split.0 end log split.2)

-- the text of one part more
pub parts_text_add : (rules : RuleSet) (size : ℕ) (t : RuleTable) (at end : NumberedMoment) (log : List LogPart) (part : LogPart) → Passes t at log end → parts_text rules size at.count (log ++ part ∷ []) ≡ parts_text rules size at.count log ++ part_text rules size end.count part
parts_text_add rules size t at end [] part is =
    append-nil (part_text rules size at.count part) ∙ ap (λ (x : NumberedMoment). part_text rules size x.count part) (sym is)
parts_text_add rules size t at end (first ∷ log) part passes =
    let split = passes_first t at end first log passes in
    let rest = rw (step_count t at split.0 first split.1) at (parts_text_add rules size t split.0 end log part split.2) in
    simp (rest, append_assoc)

pub parts_add : (log : List LogPart) (part : LogPart) → AllByRecursion IsLogPart log → IsLogPart part → AllByRecursion IsLogPart (log ++ part ∷ [])
parts_add [] part all is = (is, tt)
parts_add (first ∷ log) part all is = (all.0, parts_add log part all.1 is)

-- one part further after a transcript
abbrev pub follows_more : (bytes rest behind : List ℕ) (rules : RuleSet) (log : List LogPart) (end next : NumberedMoment) (part : LogPart) (f : BeginsWithTranscript bytes rules log end rest) → NextPart rules (size_of f.opening) end rest part next behind → BeginsWithTranscript bytes rules (log ++ part ∷ []) next behind
follows_more bytes rest behind rules log end next part f comes =
    let is = f.transcript in
    let size = size_of f.opening in
    let text = parts_text_add rules size (table_of rules) is.start end log part is.passes in
    record {
      opening = f.opening;
      good = opening_text rules f.opening ++ parts_text rules size is.start.count (log ++ part ∷ []);
      transcript = record {
        start = is.start;
        opens = is.opens;
        text = refl;
        parts = parts_add log part is.parts comes.fits;
        not_too_many = comes.within;
        passes = passes_add (table_of rules) is.start end next log part is.passes comes.steps;
      };
      splits = f.splits ∙ simp (is.text, comes.is, text, append_assoc);
    }
