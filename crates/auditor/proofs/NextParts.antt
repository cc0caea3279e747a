-- The next entry or base, of which only some bytes may be known.
use Rattle.auditor.proofs.Prelude.{◌≡◌, ◌≢◌, ℕ, ◌+◌, ◌<◌, ◌≤◌, inl, inr, ⊎_elim, List, [], ◌++◌, Some, Err, length, take, drop, refl, sym, ap, subst, ◌∙◌, append_assoc, append-nil, arith, ∥∥₁_elim, props, append_cancel_right, length-drop, take-append-le, take_all, Base, RuleSet, NumberedMoment, base_of, table_of, base_head, base_text, first_line, BreaksAt, IsShaped, base_lines, BadHeader, BadBase, NotALine, AuditFault, TranscriptCursor, BeginsBase, HasBadHeader, SpellsNoHead, SpellsNoHeader, line_feeds, Based, Opens, GoodLine, IsFurther, LineJudged, Position, stand_of, IsMetBehind, IsMetFirst, AreSameUpTo, ArePartedAt, HasCutStart, IsCursorAt, IsCompared, IsMetAt, IsPassed, IsUnended, StaysInPlace, AwaitsBase, base_wanted}
use Rattle.auditor.proofs.LineCounts.{PartAt}
use Rattle.auditor.proofs.ReadOpenings.{broken, nowhere}
use Rattle.auditor.proofs.AuditPositions.{base_further, damaged, damaged_base, damaged_line, entry_further}
use Rattle.auditor.proofs.Windows.{begins_less, begins_more, breaks_more, feeds_append, feeds_behind, first_line-more, no_line_no_feed, one_feed, part_more, same_end, same_none, same_whole}

-- ---- the beginning

-- a first line that is neither a header nor the first of a base
pub bad_first : (text line rest more : List ℕ) → first_line text ≡ Some (line, rest) → SpellsNoHeader line → SpellsNoHead line → IsMetFirst (text ++ more) BadHeader
bad_first text line rest more cut header head last = record {
  is = subst HasBadHeader (sym (first_line-more text more line rest cut)) (header, head);
  looked_at = tt;
}

-- a bad line of a base that is whole
pub broken_more : (text rest more : List ℕ) (rules : RuleSet) (size number : ℕ) → size ≤ 65535 → first_line text ≡ Some (base_head rules size, rest) → BreaksAt rest number → number ≤ line_feeds rest → IsMetFirst (text ++ more) (BadBase (number + 1))
broken_more text rest more rules size number few cut breaks whole =
    broken (text ++ more) (rest ++ more) rules size number few (first_line-more text more (base_head rules size) rest cut) (breaks_more rest more number breaks whole)

-- a base from which no run begins
pub nowhere_more : (text rest behind : List ℕ) (rules : RuleSet) (size : ℕ) (base : Base) → size ≤ 65535 → first_line text ≡ Some (base_head rules size, rest) → IsShaped base → rest ≡ base_lines base ++ behind → ((start : NumberedMoment) → Opens rules (Based size base) start → ⊥) → (more : List ℕ) → IsMetFirst (text ++ more) (BadBase 2)
nowhere_more text rest behind rules size base few cut shaped is none more =
    nowhere (text ++ more) (rest ++ more) (behind ++ more) rules size base few (first_line-more text more (base_head rules size) rest cut) shaped
    (ap (λ (l : List ℕ). l ++ more) is ∙ append_assoc (base_lines base) behind more) none

-- a text that ends before that
pub cut_header : (text : List ℕ) → HasCutStart text → line_feeds text ≡ 0 → IsMetFirst text BadHeader
cut_header text (inl none) feeds last = record { is = subst HasBadHeader (sym none) tt; looked_at = tt }
cut_header text (inr base) feeds last =
    absurd (omega (arith, feeds_behind text (base_head base.rules base.size) base.rest base.first, feeds))

pub cut_base : (text : List ℕ) (line : ℕ) → HasCutStart text → line ≡ line_feeds text + 1 → (line ≡ 1 → ⊥) → IsMetFirst text (BadBase line)
cut_base text line (inl none) is other = absurd (other (omega (arith, no_line_no_feed text none, is)))
cut_base text line (inr base) is other =
    let same : line_feeds base.rest + 1 + 1 ≡ line = omega (arith, feeds_behind text (base_head base.rules base.size) base.rest base.first, is) in
    subst (λ (n : ℕ). IsMetFirst text (BadBase n)) same (broken text base.rest base.rules base.size (line_feeds base.rest + 1) base.few base.first base.breaks)

-- ---- an entry

pub unwanted : (replay : TranscriptCursor) (rest : List ℕ) → (BeginsBase rest → ⊥) → IsCompared replay rest → replay.wanted.items ≡ []
unwanted replay rest other compared = ∥∥₁_elim compared (search props) (λ c. ⊎_elim (λ none. none) (λ base. absurd (other base.0)) c.text)

-- a text that was made is that of the replay's base
pub wanted_is : (replay : TranscriptCursor) (rest : List ℕ) → IsCompared replay rest → (replay.wanted.items ≡ [] → ⊥) → replay.wanted.items ≡ base_wanted replay
wanted_is replay rest compared some = ∥∥₁_elim compared (search props) (λ c. ⊎_elim (λ none. absurd (some none)) (λ base. base.1) c.text)

pub none_same : (replay : TranscriptCursor) (rest : List ℕ) → IsCompared replay rest → replay.wanted.items ≡ [] → replay.same ≡ 0
none_same replay rest compared none = ∥∥₁_elim compared (search props) (λ c. omega (arith, c.alike.within, ap length none))

pub compared_alike : (replay : TranscriptCursor) (rest : List ℕ) → IsCompared replay rest → AreSameUpTo replay.wanted.items rest replay.same
compared_alike replay rest compared = record {
  within = ∥∥₁_elim compared (search props) (λ c. c.alike.within);
  inside = ∥∥₁_elim compared (search props) (λ c. c.alike.inside);
  alike = ∥∥₁_elim compared (search props) (λ c. c.alike.alike);
}

-- what the check of a line finds is the damage, whatever follows it
pub entry_damaged : (old : TranscriptCursor) (q : Position) (line rest behind : List ℕ) (found : AuditFault) (at : ℕ) → at ≡ old.lines + 1 → (BeginsBase rest → ⊥) → first_line rest ≡ Some (line, behind) → LineJudged (table_of old.rules) line at old.audit q (Err found) → IsMetAt old rest found
entry_damaged old q line rest behind found at is other cut judged bytes more here =
    damaged bytes line (behind ++ more) old.rules old.size old.audit q (rest ++ more) found at here.reached
    (λ good e. is ∙ ap (λ (n : ℕ). n + 1) (here.counted good e)) (λ begins. other (begins_less rest more line behind cut begins)) (first_line-more rest more line behind cut) judged

pub entry_passed : (old new : TranscriptCursor) (line rest behind : List ℕ) → new.rules ≡ old.rules → new.size ≡ old.size → new.lines ≡ old.lines + 1 → new.wanted.items ≡ old.wanted.items → new.same ≡ old.same → (BeginsBase rest → ⊥) → IsCompared old rest → first_line rest ≡ Some (line, behind) → GoodLine (table_of old.rules) line old.audit new.audit → IsPassed old new rest behind
entry_passed old new line rest behind rules size lines wanted same other compared cut good =
    let none = unwanted old rest other compared in
    record {
      rules = rules;
      size = size;
      further = entry_further old.rules old.size old.audit new.audit line rest behind cut good;
      lines = λ text e. lines ∙ ap (λ (n : ℕ). old.lines + n) (sym (one_feed rest line behind text cut e));
      unwanted = wanted ∙ none;
      none_same = same ∙ none_same old rest compared none;
    }

-- ---- a base

pub wants_made : (old new : TranscriptCursor) (rest : List ℕ) → BeginsBase rest → AwaitsBase old new → IsCompared old rest → AreSameUpTo new.wanted.items rest new.same
wants_made old new rest begins w c =
    let alike = subst (AreSameUpTo old.wanted.items rest) (sym w.same) (compared_alike old rest c) in
    ⊎_elim (λ none. same_none new.wanted.items rest new.same (w.same ∙ none_same old rest c none)) (λ same. subst (λ (l : List ℕ). AreSameUpTo l rest new.same) same alike) w.before_it

-- it is still the text of the replay's base
pub wanted_still : (old new : TranscriptCursor) → AwaitsBase old new → new.wanted.items ≡ base_wanted new
wanted_still old new w =
    w.text ∙ sym (λ i. base_text (w.rules i) (w.size i) (base_of (w.audit i).number (stand_of (w.audit i)).moment))

-- all of the text came
pub base_passed : (old new : TranscriptCursor) (wanted rest : List ℕ) (same : ℕ) → old.audit.number ≤ 16777216 → new.rules ≡ old.rules → new.size ≡ old.size → new.audit ≡ old.audit → new.lines ≡ old.lines + line_feeds wanted → new.wanted.items ≡ [] → new.same ≡ 0
    → wanted ≡ base_wanted old → AreSameUpTo wanted rest same → same ≡ length wanted → IsPassed old new rest (drop same rest)
base_passed old new wanted rest same few rules size audit lines none zero is alike all =
    let whole = same_whole wanted rest same alike all in
    let behind = drop same rest in
    record {
      rules = rules;
      size = size;
      further = subst (λ (p : Position). IsFurther old.rules old.size old.audit rest p behind) (sym audit)
          (base_further old.rules old.size old.audit rest behind (base_of old.audit.number (stand_of old.audit).moment) few refl (whole ∙ ap (λ (l : List ℕ). l ++ behind) is));
      lines = λ text e. lines ∙ ap (λ (l : List ℕ). old.lines + line_feeds l) (append_cancel_right wanted text behind (sym whole ∙ e));
      unwanted = none;
      none_same = zero;
    }

-- all that came is the beginning of the text
pub base_waits : (old new : TranscriptCursor) (rest : List ℕ) (same : ℕ) → new.rules ≡ old.rules → new.size ≡ old.size → new.audit ≡ old.audit → new.lines ≡ old.lines → BeginsBase rest → new.wanted.items ≡ base_wanted new → new.same ≡ same → AreSameUpTo new.wanted.items rest same → (same ≡ length new.wanted.items → ⊥) → same ≡ length rest
    → StaysInPlace old new rest
base_waits old new rest same rules size audit lines begins is at alike short all =
    let text = new.wanted.items in
    let front : text ≡ rest ++ drop same text = same_end text rest same alike all in
    record {
      rules = rules;
      size = size;
      audit = audit;
      lines = lines;
      unended = inr (record { begins = begins; missing = drop same text; some = λ e. short (omega (arith, ap length e, length-drop same text, alike.within)); is = sym is ∙ front });
      compared = ∣ record { text = inr (begins, is); alike = subst (AreSameUpTo text rest) (sym at) alike } ∣₁;
    }

-- another byte came
pub base_damaged : (old : TranscriptCursor) (wanted rest : List ℕ) (same line : ℕ) → BeginsBase rest → wanted ≡ base_wanted old → AreSameUpTo wanted rest same → ArePartedAt wanted rest same → (same ≡ length wanted → ⊥) → (same ≡ length rest → ⊥) → line ≡ old.lines + line_feeds (take same rest) + 1 → IsMetAt old rest (BadBase line)
base_damaged old wanted rest same line begins is alike apart short more_is at bytes more here =
    let within = alike.within in
    let inside = alike.inside in
    let less : same < length wanted = grind (arith, short, within) in
    let few : same < length rest = grind (arith, more_is, inside) in
    damaged_base bytes old.rules old.size old.audit (rest ++ more) line same here.reached (begins_more rest more begins)
    (subst (λ (l : List ℕ). PartAt l (rest ++ more) same) is (part_more wanted rest more same alike apart less few))
    (λ good e. at ∙ simp (here.counted good e, feeds_append, take-append-le same rest more inside))

-- ---- a text that ends within a part

pub cut_line : (replay : TranscriptCursor) (rest : List ℕ) (line : ℕ) → (BeginsBase rest → ⊥) → rest ≢ [] → IsUnended replay rest → line ≡ replay.lines + line_feeds rest + 1 → (bytes : List ℕ) → IsCursorAt bytes replay rest → IsMetBehind bytes replay.audit.number (NotALine line)
cut_line replay rest line other some (inr begun) is bytes at = absurd (other begun.begins)
cut_line replay rest line other some (inl (none, unlike)) is bytes at =
    let one : line ≡ replay.lines + 1 = omega (arith, is, no_line_no_feed rest none) in
    damaged_line bytes replay.rules replay.size replay.audit rest line at.reached (λ good e. one ∙ ap (λ (n : ℕ). n + 1) (at.counted good e)) other (rw none some)

pub cut_wanted : (replay : TranscriptCursor) (rest : List ℕ) (line : ℕ) → BeginsBase rest → IsUnended replay rest → line ≡ replay.lines + line_feeds rest + 1 → (bytes : List ℕ) → IsCursorAt bytes replay rest → IsMetBehind bytes replay.audit.number (BadBase line)
cut_wanted replay rest line begins (inl (none, unlike)) is bytes at = absurd (unlike begins)
cut_wanted replay rest line begins (inr begun) is bytes at =
    let all = take_all (length rest) rest (omega arith) in
    damaged_base bytes replay.rules replay.size replay.audit rest line (length rest) at.reached begins
    (record {
      within = omega arith;
      parting = record { common = rest; missing = begun.missing; more = []; wanted = begun.is; had = sym (append-nil rest); some = begun.some; apart = λ b x y e f. absurd cc };
      common_is = all;
    })
    (λ good e. is ∙ simp (all, feeds_append, at.counted good e))
