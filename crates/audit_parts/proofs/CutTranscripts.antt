-- At a base in a transcript, the parts before it are a transcript, and so are those after it.
use Rattle.audit_parts.proofs.Prelude.{◌≡◌, ℕ, ◌+◌, ◌≤◌, List, [], ◌∷◌, ◌++◌, length, refl, sym, ap, subst, ◌∙◌, append_assoc, append-nil, length-append, arith, AllByRecursion, Base, RuleSet, LogPart, EntryPart, BasePart, NumberedMoment, Passes, base_of, table_of, entry_text, header_text, base_text, SpellsEntry, max_entries, Opening, Named, Based, Opens, StepsTo, opening_text, part_text, parts_text, size_of, IsLogPart, IsTranscript, IsShaped, entry_line_is, entry_other, other_no_base, entry_free, header_free, passes_first, passes_onto, passes_rise, step_count, EndsLine}
use Rattle.audit_parts.proofs.Lines.{no_empty, skip_base, skip_other}
use Rattle.audit_parts.proofs.SeamRuns.{reopens}

-- a run may begin at the base of this state
abbrev pub Reopens : RuleSet → ℕ → NumberedMoment → Type 0
Reopens rules size at = Opens rules (Based size (base_of at.count at.moment)) at

pub reopens_next : (rules : RuleSet) (size : ℕ) (at next : NumberedMoment) (part : LogPart) → Reopens rules size at → StepsTo (table_of rules) at part next → next.count ≤ max_entries → Reopens rules size next
reopens_next rules size at next part begun step few =
    reopens rules (Based size (base_of at.count at.moment)) at next (part ∷ []) begun (passes_onto (table_of rules) at next next part [] step refl) few

abbrev pub text_at : RuleSet → ℕ → NumberedMoment → List ℕ
text_at rules size at = base_text rules size (base_of at.count at.moment)

-- The log is cut at a base: the text before the rest, with that base, leads to it, and the rest is the base
-- and what follows from there.
pub record Cut (rules : RuleSet) (size : ℕ) (start : NumberedMoment) (log : List LogPart) (end : NumberedMoment) (front x rest : List ℕ) : Type 0 where
  pub before : List LogPart
  pub middle : NumberedMoment
  pub behind : List LogPart
  pub logs : log ≡ before ++ behind
  pub reached : Passes (table_of rules) start before middle
  pub goes_on : Passes (table_of rules) middle behind end
  pub text : x ++ text_at rules size middle ≡ front ++ parts_text rules size start.count before
  pub rest_is : rest ≡ text_at rules size middle ++ parts_text rules size middle.count behind

-- one part further
cut_more : (rules : RuleSet) (size : ℕ) (at next end : NumberedMoment) (part : LogPart) (log : List LogPart) (front x rest : List ℕ) → StepsTo (table_of rules) at part next → Cut rules size next log end (front ++ part_text rules size at.count part) x rest → Cut rules size at (part ∷ log) end front x rest
cut_more rules size at next end part log front x rest step c =
    let t = table_of rules in
    let own = part_text rules size at.count part in
    let count = step_count t at next part step in
    record {
      before = part ∷ c.before;
      middle = c.middle;
      behind = c.behind;
      logs = ap (λ (l : List LogPart). part ∷ l) c.logs;
      reached = passes_onto t at next c.middle part c.before step c.reached;
      goes_on = c.goes_on;
      text = c.text ∙ append_assoc front own (parts_text rules size next.count c.before) ∙ ap (λ (n : ℕ). front ++ (own ++ parts_text rules size n c.before)) count;
      rest_is = c.rest_is;
    }

passed : (front own x left more : List ℕ) → x ≡ front ++ left → left ≡ own ++ more → x ≡ (front ++ own) ++ more
passed front own x left more splits is = splits ∙ ap (λ (l : List ℕ). front ++ l) is ∙ sym (append_assoc front own more)

-- the text before a base, of which `front` was passed
pub cut_parts : (rules : RuleSet) (size : ℕ) (at : NumberedMoment) (log : List LogPart) (end : NumberedMoment) (front x left z : List ℕ) → x ≡ front ++ left → Reopens rules size at → AllByRecursion IsLogPart log → end.count ≤ max_entries → Passes (table_of rules) at log end → EndsLine left → parts_text rules size at.count log ≡ left ++ 109 ∷ z → Cut rules size at log end front x (109 ∷ z)
cut_parts rules size at [] end front x left z splits begun all few passes ends e = absurd (omega (arith, ap length e, length-append left (109 ∷ z)))
cut_parts rules size at (EntryPart entry ∷ log) end front x left z splits begun all few passes ends e =
    let t = table_of rules in
    let split = passes_first t at end (EntryPart entry) log passes in
    let next = split.0 in
    let count = step_count t at next (EntryPart entry) split.1 in
    let within : next.count ≤ max_entries = omega (arith, passes_rise t next end log split.2, few) in
    let number = at.count + 1 in
    let line = entry_text number entry.0 entry.1 in
    let more = parts_text rules size number log in
    let spells : SpellsEntry line number entry = record { numbered = (omega arith, omega (arith, count, within)); event = all.0.event; reply = all.0.reply; fits = all.0.fits; is = refl } in
    let whole : line ++ 10 ∷ more ≡ left ++ 109 ∷ z = sym (entry_line_is number entry more) ∙ e in
    let skipped = skip_other line more left (109 ∷ z) (entry_free line number entry spells) ends (other_no_base (line ++ 10 ∷ more) z (entry_other number entry (10 ∷ more) spells.numbered.1)) whole in
    let behind : parts_text rules size next.count log ≡ skipped.left ++ 109 ∷ z = ap (λ (n : ℕ). parts_text rules size n log) count ∙ skipped.behind in
    cut_more rules size at next end (EntryPart entry) log front x (109 ∷ z) split.1
    (cut_parts rules size next log end (front ++ (line ++ 10 ∷ [])) x skipped.left z (passed front (line ++ 10 ∷ []) x left skipped.left splits skipped.is) (reopens_next rules size at next (EntryPart entry) begun split.1 within) all.1 few split.2 skipped.lines behind)
cut_parts rules size at (BasePart base ∷ log) end front x [] z splits begun all few passes ends e =
    let is : base ≡ base_of at.count at.moment = passes.0 in
    record {
      before = BasePart base ∷ [];
      middle = at;
      behind = log;
      logs = refl;
      reached = (is, refl);
      goes_on = passes.1;
      text = ap (λ (l : List ℕ). l ++ text_at rules size at) (splits ∙ append-nil front) ∙ ap (λ (l : List ℕ). front ++ l) (ap (base_text rules size) (sym is) ∙ sym (append-nil (base_text rules size base)));
      rest_is = sym e ∙ ap (λ (b : Base). base_text rules size b ++ parts_text rules size at.count log) is;
    }
cut_parts rules size at (BasePart base ∷ log) end front x (b ∷ left) z splits begun all few passes ends e =
    let is : base ≡ base_of at.count at.moment = passes.0 in
    let own = base_text rules size base in
    let skipped = skip_base rules size base begun.fits.few (subst IsShaped (sym is) begun.fits.shaped) (parts_text rules size at.count log) (b ∷ left) z ends (no_empty b left) e in
    cut_more rules size at at end (BasePart base) log front x (109 ∷ z) (is, refl)
    (cut_parts rules size at log end (front ++ own) x skipped.left z (passed front own x (b ∷ left) skipped.left splits skipped.is) begun all.1 few passes.1 skipped.lines skipped.behind)

-- ---- a transcript

-- a text that is no header with something after it
abbrev pub IsNoHeader : List ℕ → Type 0
IsNoHeader text = (rules : RuleSet) (size count : ℕ) (more : List ℕ) → text ≡ header_text rules size count ++ 10 ∷ more → ⊥

cut_opening : (rules : RuleSet) (o : Opening) (start : NumberedMoment) (log : List LogPart) (end : NumberedMoment) (x z : List ℕ) → Opens rules o start → Reopens rules (size_of o) start → AllByRecursion IsLogPart log → end.count ≤ max_entries → Passes (table_of rules) start log end → EndsLine x → IsNoHeader (109 ∷ z) → opening_text rules o ++ parts_text rules (size_of o) start.count log ≡ x ++ 109 ∷ z → Cut rules (size_of o) start log end (opening_text rules o) x (109 ∷ z)
cut_opening rules (Named size count) start log end x z opens begun all few passes ends other e =
    let header = header_text rules size count in
    let more = parts_text rules size start.count log in
    let whole : header ++ 10 ∷ more ≡ x ++ 109 ∷ z = sym (append_assoc header (10 ∷ []) more) ∙ e in
    let skipped = skip_other header more x (109 ∷ z) (header_free rules size count opens.fits.few opens.fits.within) ends (λ h. other rules size count more (sym h)) whole in
    cut_parts rules size start log end (header ++ 10 ∷ []) x skipped.left z skipped.is begun all few passes skipped.lines skipped.behind
cut_opening rules (Based size base) start log end [] z opens begun all few passes ends other e =
    let is : base ≡ base_of start.count start.moment = opens.begins.lines ∙ ap (λ (n : ℕ). base_of n start.moment) (sym opens.count) in
    record {
      before = [];
      middle = start;
      behind = log;
      logs = refl;
      reached = refl;
      goes_on = passes;
      text = ap (base_text rules size) (sym is) ∙ sym (append-nil (base_text rules size base));
      rest_is = sym e ∙ ap (λ (b : Base). base_text rules size b ++ parts_text rules size start.count log) is;
    }
cut_opening rules (Based size base) start log end (b ∷ x) z opens begun all few passes ends other e =
    let skipped = skip_base rules size base opens.fits.few opens.fits.shaped (parts_text rules size start.count log) (b ∷ x) z ends (no_empty b x) e in
    cut_parts rules size start log end (base_text rules size base) (b ∷ x) skipped.left z skipped.is begun all few passes skipped.lines skipped.behind

pub reopens_start : (bytes : List ℕ) (rules : RuleSet) (o : Opening) (log : List LogPart) (end : NumberedMoment) (is : IsTranscript bytes rules o log end) → Reopens rules (size_of o) is.start
reopens_start bytes rules o log end is =
    reopens rules o is.start is.start [] is.opens refl (omega (arith, passes_rise (table_of rules) is.start end log is.passes, is.not_too_many))

pub reopens_end : (bytes : List ℕ) (rules : RuleSet) (o : Opening) (log : List LogPart) (end : NumberedMoment) → IsTranscript bytes rules o log end → Reopens rules (size_of o) end
reopens_end bytes rules o log end is = reopens rules o is.start end log is.opens is.passes is.not_too_many

pub cut_transcript : (bytes : List ℕ) (rules : RuleSet) (o : Opening) (log : List LogPart) (end : NumberedMoment) (is : IsTranscript bytes rules o log end) (x rest z : List ℕ) → EndsLine x → rest ≡ 109 ∷ z → IsNoHeader rest → bytes ≡ x ++ rest → Cut rules (size_of o) is.start log end (opening_text rules o) x rest
cut_transcript bytes rules o log end is x rest z ends first other e =
    subst (Cut rules (size_of o) is.start log end (opening_text rules o) x) (sym first)
    (cut_opening rules o is.start log end x z is.opens (reopens_start bytes rules o log end is) is.parts is.not_too_many is.passes ends (subst IsNoHeader first other) (sym is.text ∙ e ∙ ap (λ (l : List ℕ). x ++ l) first))

pub cut_reopens : (bytes : List ℕ) (rules : RuleSet) (o : Opening) (log : List LogPart) (end : NumberedMoment) (is : IsTranscript bytes rules o log end) (front x rest : List ℕ) (c : Cut rules (size_of o) is.start log end front x rest) → Reopens rules (size_of o) c.middle
cut_reopens bytes rules o log end is front x rest c =
    reopens rules o is.start c.middle c.before is.opens c.reached (omega (arith, passes_rise (table_of rules) c.middle end c.behind c.goes_on, is.not_too_many))
