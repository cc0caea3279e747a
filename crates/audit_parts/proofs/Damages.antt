-- The damage of a text is that of a longer one that meets another text; after a transcript it moves on by its
-- lines.
use Rattle.audit_parts.proofs.Prelude.{◌≡◌, ◌≢◌, ℕ, ◌+◌, ◌<◌, ◌≤◌, ◌⊎◌, inl, inr, List, [], ◌∷◌, ◌++◌, Option, None, Some, length, refl, sym, ap, subst, ◌∙◌, append_assoc, append-nil, length-append, ⊎_elim, arith, AllByRecursion, cases_lt, Base, RuleSet, LogPart, NumberedMoment, base_of, Entry, Answers, table_of, lines_with_ends, base_head, first_line, first_line-splits, no_first_line, BaseLine, Head, LacksLines, MayFollow, numbers_text, base_lines, IsBaseLine, base_line_text, cons_parts, mark_once, line_free, AuditFault, BadHeader, NotALine, OutOfOrder, NotTheMachines, BadBase, Summary, IsAccepted, TranscriptPrefix, HasImpossibleBase, HasBrokenBase, EntryComes, BeginsWithTranscript, HasBadHeader, HasBadStart, HasNoEntry, IsDamage, IsLineBehind, CommonPrefix, line_feeds, Based, Opening, opening_text, parts_text, size_of, IsTranscript, Fails, FailsBehind, FailsFirst, Split, damage_fails, fails_some, first_good, split_of, begins_less, begins_more, breaks_more, feeds_append, feeds_broken, first_line-more, EndsLine, IsSeam, further}
use Rattle.entry_grammar.specs.declared.base_line.BaseLine.TheVariants.{Base as Numbers}
use Rattle.audit_parts.proofs.CutTranscripts.{cut_reopens, cut_transcript, reopens_end, text_at}
use Rattle.audit_parts.proofs.Lines.{ends_behind, ends_both, ends_free, follow_inner, no_empty, skip_base, skip_line, skip_lines}
use Rattle.audit_parts.proofs.MeetingTexts.{join_follows, seam_other, seam_transcript}
use Rattle.audit_parts.proofs.SeamRuns.{ended_lines, no_feeds, seam_behind, seam_ends, seam_first}

behind_damage : (bytes : List ℕ) (at : TranscriptPrefix bytes) (d : AuditFault) → Fails (split_of bytes at) d → IsDamage bytes d
behind_damage bytes at (NotALine line) x = record { at = at; line_is = x.0; other = x.1; damage = x.2 }
behind_damage bytes at (OutOfOrder line) (line_is, (number, entry, comes, damage)) =
    record { at = at; line_is = line_is; number = number; entry = entry; comes = comes; damage = damage }
behind_damage bytes at (NotTheMachines line) (line_is, (entry, comes, damage)) =
    record { at = at; line_is = line_is; entry = entry; comes = comes; damage = damage }
behind_damage bytes at (BadBase line) (begins, (parting, line_is)) =
    inr (record { at = at; begins = begins; parting = parting; line_is = line_is })
behind_damage bytes at d x = absurd x

fails_damage : (bytes : List ℕ) (d : AuditFault) → FailsBehind bytes d → IsDamage bytes d
fails_damage bytes d x = behind_damage bytes x.at d x.fails

first_damage : (bytes : List ℕ) (d : AuditFault) → FailsFirst bytes d → IsDamage bytes d
first_damage bytes BadHeader x = x
first_damage bytes (BadBase line) x = inl x
first_damage bytes d x = absurd x

-- ---- whole lines have a first one

pub some_line : (x : List ℕ) → EndsLine x → x ≢ [] → (line : List ℕ) × (behind : List ℕ) × (first_line x ≡ Some (line, behind))
some_line x ends some = by (first_line x) refl
  where
    by : (found : Option (List ℕ × List ℕ)) → first_line x ≡ found → (line : List ℕ) × (behind : List ℕ) × (first_line x ≡ Some (line, behind))
    by None cut = absurd (some (ends_free x ends (no_first_line x cut)))
    by (Some (line, behind)) cut = (line, behind, cut)

nothing_behind : (x y : List ℕ) → x ++ y ≡ [] → y ≡ []
nothing_behind [] y e = e
nothing_behind (b ∷ x) y e = absurd (no_empty b (x ++ y) e)

-- two ways to cut one text
apart : (a b x y : List ℕ) → a ++ b ≡ x ++ y → ((g : List ℕ) × (x ≡ a ++ g) × (b ≡ g ++ y)) ⊎ ((g : List ℕ) × (a ≡ x ++ g) × (y ≡ g ++ b))
apart [] b x y e = inl (x, refl, e)
apart (c ∷ a) b [] y e = inr (c ∷ a, refl, sym e)
apart (c ∷ a) b (d ∷ x) y e =
    let p = cons_parts c d (a ++ b) (x ++ y) e in
    by p.0 (apart a b x y p.1)
  where
    by : c ≡ d → ((g : List ℕ) × (x ≡ a ++ g) × (b ≡ g ++ y)) ⊎ ((g : List ℕ) × (a ≡ x ++ g) × (y ≡ g ++ b)) → ((g : List ℕ) × (d ∷ x ≡ (c ∷ a) ++ g) × (b ≡ g ++ y)) ⊎ ((g : List ℕ) × (c ∷ a ≡ (d ∷ x) ++ g) × (y ≡ g ++ b))
    by same (inl (g, e, f)) = inl (g, ap (λ (z : ℕ). z ∷ x) (sym same) ∙ ap (λ (l : List ℕ). c ∷ l) e, f)
    by same (inr (g, e, f)) = inr (g, ap (λ (z : ℕ). z ∷ a) same ∙ ap (λ (l : List ℕ). d ∷ l) e, f)

-- ---- what the first text begins with

module _ (own seam : List ℕ) (lines : EndsLine own) (seamed : IsSeam seam) where
  text_ends : EndsLine (own ++ seam)
  text_ends = ends_both own seam lines (seam_ends seam seamed)

  seam_some : seam ≢ []
  seam_some e = let first = seam_first seam seamed in no_empty 109 first.0 (sym first.1 ∙ e)

  text_some : own ++ seam ≢ []
  text_some e = seam_some (nothing_behind own seam e)

  header_more : (more : List ℕ) → HasBadHeader (first_line (own ++ seam)) → HasBadHeader (first_line ((own ++ seam) ++ more))
  header_more more bad =
      let found = some_line (own ++ seam) text_ends text_some in
      let old = subst HasBadHeader found.2 bad in
      subst HasBadHeader (sym (first_line-more (own ++ seam) more found.0 found.1 found.2)) old

  -- the lines of a base that are the first of one, but too few, are no text that ends with a seam
  few_lines : (rules : RuleSet) (size : ℕ) (found : List BaseLine) → size ≤ 65535 → AllByRecursion IsBaseLine found → MayFollow found → LacksLines found → base_head rules size ++ 10 ∷ lines_with_ends base_line_text found ≡ own ++ seam → ⊥
  few_lines rules size found few fit follow short e = by own lines e
    where
      first : (z : List ℕ) × (seam ≡ 109 ∷ z)
      first = seam_first seam seamed

      -- the seam is all of it
      alone : (found : List BaseLine) → AllByRecursion IsBaseLine found → MayFollow found → LacksLines found → base_head rules size ++ 10 ∷ lines_with_ends base_line_text found ≡ seam → ⊥
      alone [] fit follow short e =
          let cut = mark_once 10 (base_head rules size) seamed.head [] (seamed.numbers ++ 10 ∷ seamed.rest) (line_free (Head rules size) few) seamed.first (e ∙ seamed.is) in
          omega (arith, ap length cut.1 ∙ length-append seamed.numbers (10 ∷ seamed.rest))
      alone (Numbers q ∷ found) fit follow short e =
          let text = numbers_text q in
          let more = lines_with_ends base_line_text found in
          let cut = mark_once 10 (base_head rules size) seamed.head ((text ++ 10 ∷ []) ++ more) (seamed.numbers ++ 10 ∷ seamed.rest) (line_free (Head rules size) few) seamed.first (e ∙ seamed.is) in
          let second = mark_once 10 text seamed.numbers more seamed.rest (line_free (Numbers q) fit.0) seamed.second (sym (append_assoc text (10 ∷ []) more) ∙ cut.1) in
          let told = seamed.told q fit.0 (sym second.0) in
          omega (arith, told, ap line_feeds second.1, (ended_lines base_line_text IsBaseLine line_free found fit.1).0, short)
      alone (line ∷ found) fit follow short e = follow

      by : (x : List ℕ) → EndsLine x → base_head rules size ++ 10 ∷ lines_with_ends base_line_text found ≡ x ++ seam → ⊥
      by [] ends e = alone found fit follow short e
      by (b ∷ x) ends e =
          let skipped = skip_line (base_head rules size) (lines_with_ends base_line_text found) (b ∷ x) seam (line_free (Head rules size) few) ends (no_empty b x) e in
          let inside = append-nil (lines_with_ends base_line_text found) ∙ skipped.behind ∙ ap (λ (l : List ℕ). skipped.left ++ l) first.1 in
          let gone = skip_lines found fit (follow_inner found follow) [] skipped.left first.0 skipped.lines inside in
          omega (arith, ap length gone.behind ∙ length-append gone.left (109 ∷ first.0))

  start_more : (more : List ℕ) (line : ℕ) → HasBadStart (own ++ seam) line → HasBadStart ((own ++ seam) ++ more) line
  start_more more line bad = record {
    rules = bad.rules;
    size = bad.size;
    rest = bad.rest ++ more;
    few = bad.few;
    first = first_line-more (own ++ seam) more (base_head bad.rules bad.size) bad.rest bad.first;
    bad = by bad.bad;
  }
    where
      splits : own ++ seam ≡ base_head bad.rules bad.size ++ 10 ∷ bad.rest
      splits = first_line-splits (own ++ seam) (base_head bad.rules bad.size) bad.rest bad.first

      by : HasBrokenBase bad.rest line ⊎ HasImpossibleBase bad.rules bad.size bad.rest line → HasBrokenBase (bad.rest ++ more) line ⊎ HasImpossibleBase bad.rules bad.size (bad.rest ++ more) line
      by (inr x) = inr (record { base = x.base; more = x.more ++ more; shaped = x.shaped; is = ap (λ (l : List ℕ). l ++ more) x.is ∙ append_assoc (base_lines x.base) x.more more; nowhere = x.nowhere; line_is = x.line_is })
      by (inl x) =
          ⊎_elim
          (λ (cut : line_feeds bad.rest < x.number).
          let b = x.breaks in
          let all = feeds_broken bad.rest x.number b in
          let ends = ends_behind (lines_with_ends base_line_text b.lines) b.rest (subst EndsLine b.is (ends_behind (base_head bad.rules bad.size ++ 10 ∷ []) bad.rest (subst EndsLine (splits ∙ sym (append_assoc (base_head bad.rules bad.size) (10 ∷ []) bad.rest)) text_ends))) in
          let none = no_feeds b.rest ends (omega (arith, all, cut)) in
          let is : bad.rest ≡ lines_with_ends base_line_text b.lines = b.is ∙ ap (λ (l : List ℕ). lines_with_ends base_line_text b.lines ++ l) none ∙ append-nil (lines_with_ends base_line_text b.lines) in
          absurd (few_lines bad.rules bad.size b.lines bad.few b.fit b.follow b.short (ap (λ (l : List ℕ). base_head bad.rules bad.size ++ 10 ∷ l) (sym is) ∙ sym splits)))
          (λ (whole : x.number ≤ line_feeds bad.rest). inl (record { number = x.number; breaks = breaks_more bad.rest more x.number x.breaks whole; line_is = x.line_is }))
          (cases_lt (line_feeds bad.rest) x.number)

  first_more : (more : List ℕ) (d : AuditFault) → FailsFirst (own ++ seam) d → FailsFirst ((own ++ seam) ++ more) d
  first_more more BadHeader bad = header_more more bad
  first_more more (BadBase line) bad = start_more more line bad
  first_more more d bad = absurd bad

  -- ---- behind a transcript

  -- what is left after one is not cut off inside the base that comes there
  base_cut : (rules : RuleSet) (o : Opening) (log : List LogPart) (end : NumberedMoment) (good rest missing : List ℕ) → IsTranscript good rules o log end → own ++ seam ≡ good ++ rest → rest ≢ [] → missing ≢ [] → text_at rules (size_of o) end ≡ rest ++ missing → ⊥
  base_cut rules o log end good rest missing is splits some lacks wanted = by (apart own seam good rest splits)
    where
      size : ℕ
      size = size_of o

      base : Base
      base = base_of end.count end.moment

      first : (z : List ℕ) × (seam ≡ 109 ∷ z)
      first = seam_first seam seamed

      -- the seam begins before it
      front : (g : List ℕ) → good ≡ own ++ g → seam ≡ g ++ rest → ⊥
      front [] here e =
          let begun = reopens_end good rules o log end is in
          let none = seam_behind rules size base begun.fits.few begun.fits.shaped seam seamed [] missing (append-nil (text_at rules size end) ∙ wanted ∙ ap (λ (l : List ℕ). l ++ missing) (sym e)) in
          lacks (sym none)
      front (b ∷ g) here e =
          let byte : b ≡ 109 = (cons_parts b 109 (g ++ rest) first.0 (sym e ∙ first.1)).0 in
          let c = cut_transcript good rules o log end is own (b ∷ g) g lines (ap (λ (z : ℕ). z ∷ g) byte) (seam_other seam (b ∷ g) rest seamed e) here in
          let begun = cut_reopens good rules o log end is (opening_text rules o) own (b ∷ g) c in
          let more = parts_text rules size c.middle.count c.behind in
          let whole : text_at rules size c.middle ++ (more ++ rest) ≡ seam ++ [] =
          sym (append_assoc (text_at rules size c.middle) more rest) ∙ ap (λ (l : List ℕ). l ++ rest) (sym c.rest_is) ∙ sym e ∙ sym (append-nil seam) in
          some (nothing_behind more rest (seam_behind rules size (base_of c.middle.count c.middle.moment) begun.fits.few begun.fits.shaped seam seamed (more ++ rest) [] whole))

      -- it begins inside it
      inside : (g : List ℕ) → own ≡ good ++ g → rest ≡ g ++ seam → ⊥
      inside [] here e = front [] (sym (append-nil good) ∙ sym here ∙ sym (append-nil own)) (sym e)
      inside (b ∷ g) here e =
          let begun = reopens_end good rules o log end is in
          let text : text_at rules size end ++ [] ≡ (b ∷ g) ++ 109 ∷ (first.0 ++ missing) =
          append-nil (text_at rules size end) ∙ wanted ∙ ap (λ (l : List ℕ). l ++ missing) e ∙ append_assoc (b ∷ g) seam missing ∙ ap (λ (l : List ℕ). (b ∷ g) ++ (l ++ missing)) first.1 in
          let skipped = skip_base rules size base begun.fits.few begun.fits.shaped [] (b ∷ g) (first.0 ++ missing) (ends_behind good (b ∷ g) (subst EndsLine here lines)) (no_empty b g) text in
          omega (arith, ap length skipped.behind ∙ length-append skipped.left (109 ∷ (first.0 ++ missing)))

      by : ((g : List ℕ) × (good ≡ own ++ g) × (seam ≡ g ++ rest)) ⊎ ((g : List ℕ) × (own ≡ good ++ g) × (rest ≡ g ++ seam)) → ⊥
      by (inl (g, here, e)) = front g here e
      by (inr (g, here, e)) = inside g here e

  rest_ends : (good rest : List ℕ) → own ++ seam ≡ good ++ rest → EndsLine rest
  rest_ends good rest splits = ends_behind good rest (subst EndsLine splits text_ends)

  comes_more : (rest more : List ℕ) (number : ℕ) (entry : Entry) → EntryComes rest number entry → EntryComes (rest ++ more) number entry
  comes_more rest more number entry comes = record { line = comes.line; more = comes.more ++ more; is = first_line-more rest more comes.line comes.more comes.is; spells = comes.spells }

  -- a text is parted from at the same place in a longer one, if it is at a byte
  parting_more : (text rest more : List ℕ) (p : CommonPrefix text rest) → (p.more ≡ [] → ⊥) → (q : CommonPrefix text (rest ++ more)) × (p.common ≡ q.common)
  parting_more text rest more p some = by p.more p.had p.apart some
    where
      by : (left : List ℕ) → rest ≡ p.common ++ left → ((b : ℕ) (x y : List ℕ) → p.missing ≡ b ∷ x → left ≡ b ∷ y → ⊥) → (left ≡ [] → ⊥) → (q : CommonPrefix text (rest ++ more)) × (p.common ≡ q.common)
      by [] had apart some = absurd (some refl)
      by (c ∷ left) had apart some = (
        record {
          common = p.common;
          missing = p.missing;
          more = (c ∷ left) ++ more;
          wanted = p.wanted;
          had = ap (λ (l : List ℕ). l ++ more) had ∙ append_assoc p.common (c ∷ left) more;
          some = p.some;
          apart = λ b x y e f. apart b x left e (ap (λ (z : ℕ). z ∷ left) (cons_parts c b (left ++ more) y f).0);
        },
        refl,
      )

  abbrev longer : Split → List ℕ → Split
  longer at more = record at { rest = at.rest ++ more }

  fails_more : (more : List ℕ) (at : Split) (d : AuditFault) → IsTranscript at.good at.rules at.opening at.log at.end → own ++ seam ≡ at.good ++ at.rest → Fails at d → Fails (longer at more) d
  fails_more more at (NotALine line) is splits x =
      let found = some_line at.rest (rest_ends at.good at.rest splits) (fails_some at (NotALine line) x) in
      let none = subst (HasNoEntry at.rest) found.2 x.2 in
      (x.0, (λ begins. x.1 (begins_less at.rest more found.0 found.1 found.2 begins)), subst (HasNoEntry (at.rest ++ more)) (sym (first_line-more at.rest more found.0 found.1 found.2)) none)
  fails_more more at (OutOfOrder line) is splits (line_is, (number, entry, comes, damage)) = (line_is, (number, entry, comes_more at.rest more number entry comes, damage))
  fails_more more at (NotTheMachines line) is splits (line_is, (entry, comes, damage)) = (line_is, (entry, comes_more at.rest more (at.end.count + 1) entry comes, damage))
  fails_more more at (BadBase line) is splits (begins, (p, line_is)) =
      let some : p.more ≡ [] → ⊥ = λ none.
      let same : p.common ≡ at.rest = sym (append-nil p.common) ∙ ap (λ (l : List ℕ). p.common ++ l) (sym none) ∙ sym p.had in
      base_cut at.rules at.opening at.log at.end at.good at.rest p.missing is splits (fails_some at (BadBase line) (begins, (p, line_is))) p.some (p.wanted ∙ ap (λ (l : List ℕ). l ++ p.missing) same) in
      let q = parting_more (text_at at.rules (size_of at.opening) at.end) at.rest more p some in
      (begins_more at.rest more begins, (q.0, subst (λ (c : List ℕ). IsLineBehind line (at.good ++ c)) q.1 line_is))
  fails_more more at d is splits x = absurd x

  behind_more : (more : List ℕ) (d : AuditFault) → FailsBehind (own ++ seam) d → FailsBehind ((own ++ seam) ++ more) d
  behind_more more d x =
      let at = x.at in
      let f = at.follows in
      record {
        at = record {
          rules = at.rules;
          log = at.log;
          end = at.end;
          rest = at.rest ++ more;
          follows = record { opening = f.opening; good = f.good; transcript = f.transcript; splits = ap (λ (l : List ℕ). l ++ more) f.splits ∙ append_assoc f.good at.rest more };
        };
        fails = fails_more more (split_of (own ++ seam) at) d f.transcript f.splits x.fails;
      }

  pub first_is_the_wholes : (behind : List ℕ) (d : AuditFault) → IsDamage (own ++ seam) d → IsDamage (own ++ (seam ++ behind)) d
  first_is_the_wholes behind d x =
      subst (λ (l : List ℕ). IsDamage l d) (append_assoc own seam behind) (by (damage_fails (own ++ seam) d x))
    where
      by : FailsFirst (own ++ seam) d ⊎ FailsBehind (own ++ seam) d → IsDamage ((own ++ seam) ++ behind) d
      by (inl first) = first_damage ((own ++ seam) ++ behind) d (first_more behind d first)
      by (inr fails) = fails_damage ((own ++ seam) ++ behind) d (behind_more behind d fails)

  -- ---- a damage of the second, behind a first that is accepted

  line_further : (line : ℕ) (good : List ℕ) → IsLineBehind line good → IsLineBehind (line_feeds own + line) (own ++ good)
  line_further line good is = let both = feeds_append own good in omega (arith, both, is)

  abbrev moved : Split → RuleSet → Opening → List LogPart → Split
  moved at rules o log = record { rules = rules; opening = o; good = own ++ at.good; log = log; end = at.end; rest = at.rest }

  fails_further : (at : Split) (rules : RuleSet) (o : Opening) (log : List LogPart) (d : AuditFault) → at.rules ≡ rules → size_of at.opening ≡ size_of o → Fails at d → Fails (moved at rules o log) (further (line_feeds own) d)
  fails_further at rules o log (NotALine line) same size x = (line_further line at.good x.0, x.1, x.2)
  fails_further at rules o log (OutOfOrder line) same size x = (line_further line at.good x.0, x.1)
  fails_further at rules o log (NotTheMachines line) same size (line_is, (entry, comes, damage)) =
      (line_further line at.good line_is, (entry, comes, λ s answers. damage s (subst (λ (r : RuleSet). Answers (table_of r) at.end.moment.state at.end.moment.spent entry.0 entry.1 s) (sym same) answers)))
  fails_further at rules o log (BadBase line) same size (begins, (p, line_is)) =
      let text = ap (λ (r : RuleSet). text_at r (size_of at.opening) at.end) same ∙ ap (λ (n : ℕ). text_at rules n at.end) size in
      let q : CommonPrefix (text_at rules (size_of o) at.end) at.rest = record { common = p.common; missing = p.missing; more = p.more; wanted = sym text ∙ p.wanted; had = p.had; some = p.some; apart = p.apart } in
      (begins, (q, subst (IsLineBehind (line_feeds own + line)) (sym (append_assoc own at.good p.common)) (line_further line (at.good ++ p.common) line_is)))
  fails_further at rules o log d same size x = absurd x

  pub second_is_the_wholes : (behind : List ℕ) (c : Summary) (d : AuditFault) → IsAccepted (own ++ seam) c → IsDamage (seam ++ behind) d → IsDamage (own ++ (seam ++ behind)) (further (line_feeds own) d)
  second_is_the_wholes behind c d y x = by (damage_fails (seam ++ behind) d x)
    where
      by : FailsFirst (seam ++ behind) d ⊎ FailsBehind (seam ++ behind) d → IsDamage (own ++ (seam ++ behind)) (further (line_feeds own) d)
      by (inl first) =
          let f : BeginsWithTranscript (seam ++ behind) y.rules [] y.end behind = record {
            opening = Based (size_of y.opening) (base_of y.end.count y.end.moment);
            good = seam;
            transcript = seam_transcript own seam lines seamed y.rules y.opening y.log y.end y.transcript;
            splits = refl;
          } in
          absurd (first_good (seam ++ behind) d y.rules [] y.end behind first f)
      by (inr fails) =
          let at = fails.at in
          let f = at.follows in
          let j = join_follows own seam behind lines seamed y.rules y.opening y.log y.end y.transcript at.rules at.log at.end at.rest f in
          fails_damage (own ++ (seam ++ behind)) (further (line_feeds own) d) (record {
            at = record {
              rules = y.rules;
              log = y.log ++ at.log;
              end = at.end;
              rest = at.rest;
              follows = record {
                opening = y.opening;
                good = own ++ f.good;
                transcript = j.transcript;
                splits = ap (λ (l : List ℕ). own ++ l) f.splits ∙ sym (append_assoc own f.good at.rest);
              };
            };
            fails = fails_further (split_of (seam ++ behind) at) y.rules y.opening (y.log ++ at.log) d j.rules_are j.size_is fails.fails;
          })
