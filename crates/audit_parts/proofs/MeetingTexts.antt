-- Two texts that meet, and the joined one.
use Rattle.audit_parts.proofs.Prelude.{◌≡◌, ℕ, ◌+◌, List, [], ◌∷◌, ◌++◌, get_or, length, refl, sym, ap, subst, ◌∙◌, append_assoc, append-nil, length-append, arith, AllByRecursion, sum_by-append, RuleSet, RuleTable, LogPart, EntryPart, BasePart, NumberedMoment, Passes, base_of, entries_in, Entry, table_of, entry_text, base_text, Summary, Counts, IsAccepted, BeginsWithTranscript, Opening, Based, opening_text, part_text, parts_text, size_of, IsLogPart, IsTranscript, disturbances_in, reply_moves, followed, transcript_ends, whole, follows_text, opening_once, parts_behind, passes_first, passes_onto, passes_rise, step_count, EndsLine, IsSeam, counted_both}
use Rattle.auditor.proofs.TextEnds.{counted_transcript, summary_of}
use Rattle.audit_parts.proofs.Lines.{all_both}
use Rattle.audit_parts.proofs.CutTranscripts.{IsNoHeader, cut_reopens, cut_transcript, reopens_end, text_at}
use Rattle.audit_parts.proofs.SeamRuns.{seam_behind, seam_first, seam_is}

-- ---- logs, one behind the other

pub passes_both : (t : RuleTable) (at middle end : NumberedMoment) (log more : List LogPart) → Passes t at log middle → Passes t middle more end → Passes t at (log ++ more) end
passes_both t at middle end [] more is passes = subst (λ (s : NumberedMoment). Passes t s more end) is passes
passes_both t at middle end (part ∷ log) more passes goes_on =
    let split = passes_first t at middle part log passes in
    passes_onto t at split.0 end part (log ++ more) split.1 (passes_both t split.0 middle end log more split.2 goes_on)

pub parts_text_both : (rules : RuleSet) (size : ℕ) (t : RuleTable) (at middle : NumberedMoment) (log more : List LogPart) → Passes t at log middle → parts_text rules size at.count (log ++ more) ≡ parts_text rules size at.count log ++ parts_text rules size middle.count more
parts_text_both rules size t at middle [] more is = ap (λ (s : NumberedMoment). parts_text rules size s.count more) (sym is)
parts_text_both rules size t at middle (part ∷ log) more passes =
    let split = passes_first t at middle part log passes in
    let count = step_count t at split.0 part split.1 in
    let own = part_text rules size at.count part in
    rw (← count, parts_text_both rules size t split.0 middle log more split.2) (simp append_assoc)

pub all_apart : (log more : List LogPart) → AllByRecursion IsLogPart (log ++ more) → AllByRecursion IsLogPart log × AllByRecursion IsLogPart more
all_apart [] more f = (tt, f)
all_apart (part ∷ log) more f = let rest = all_apart log more f.1 in ((f.0, rest.0), rest.1)

pub entries_both : (log more : List LogPart) → entries_in (log ++ more) ≡ entries_in log ++ entries_in more
entries_both [] more = refl
entries_both (EntryPart entry ∷ log) more = ap (λ (l : List Entry). entry ∷ l) (entries_both log more)
entries_both (BasePart base ∷ log) more = entries_both log more

pub counts_both : (log more : List LogPart) (c d : Summary) → Counts c (entries_in log) → Counts d (entries_in more) → Counts (counted_both c d) (entries_in (log ++ more))
counts_both log more c d f g =
    let a = entries_in log in
    let b = entries_in more in
    rw (entries_both log more) (record {
      entries = omega (arith, length-append a b, f.entries, g.entries);
      epochs = omega (arith, sum_by-append (λ (e : Entry). disturbances_in e.1) a b, f.epochs, g.epochs);
      moves = omega (arith, sum_by-append (λ (e : Entry). reply_moves e.1) a b, f.moves, g.moves);
    })

-- ---- a seam begins as no header does

pub seam_other : (seam front behind : List ℕ) → IsSeam seam → seam ≡ front ++ behind → IsNoHeader front
seam_other seam front behind is splits rules size count more e =
    let named = ap (λ (l : List ℕ). l ++ 10 ∷ (is.numbers ++ 10 ∷ is.rest)) (sym is.begins.1) ∙ sym is.is ∙ splits ∙ ap (λ (l : List ℕ). l ++ behind) e in
    omega (arith, ap (λ (l : List ℕ). get_or l 8 0) named)

-- ---- the first text is a transcript

nothing_of : (rules : RuleSet) (size count : ℕ) (log : List LogPart) → parts_text rules size count log ≡ [] → log ≡ []
nothing_of rules size count [] e = refl
nothing_of rules size count (EntryPart entry ∷ log) e =
    let own = entry_text (count + 1) entry.0 entry.1 in
    absurd (omega (arith, ap length e, length-append (own ++ 10 ∷ []) (parts_text rules size (count + 1) log), length-append own (10 ∷ [])))
nothing_of rules size count (BasePart base ∷ log) e =
    absurd (omega (arith, ap length e, length-append (base_text rules size base) (parts_text rules size count log)))

-- it ends with the base of its end
pub closes : (own seam : List ℕ) → EndsLine own → IsSeam seam → (rules : RuleSet) (o : Opening) (log : List LogPart) (end : NumberedMoment) → IsTranscript (own ++ seam) rules o log end → seam ≡ text_at rules (size_of o) end
closes own seam lines seamed rules o log end is =
    let first = seam_first seam seamed in
    let size = size_of o in
    let t = table_of rules in
    let c = cut_transcript (own ++ seam) rules o log end is own seam first.0 lines first.1 (seam_other seam seam [] seamed (sym (append-nil seam))) refl in
    let begun = cut_reopens (own ++ seam) rules o log end is (opening_text rules o) own seam c in
    let more = parts_text rules size c.middle.count c.behind in
    let whole : text_at rules size c.middle ++ more ≡ seam ++ [] = sym c.rest_is ∙ sym (append-nil seam) in
    let same = seam_is rules size (base_of c.middle.count c.middle.moment) begun.fits.few begun.fits.shaped seam seamed more [] whole in
    let none = nothing_of rules size c.middle.count c.behind (seam_behind rules size (base_of c.middle.count c.middle.moment) begun.fits.few begun.fits.shaped seam seamed more [] whole) in
    let here : end ≡ c.middle = subst (λ (l : List LogPart). Passes t c.middle l end) none c.goes_on in
    sym same ∙ ap (text_at rules size) (sym here)

-- the base alone is a transcript from there on
pub seam_transcript : (own seam : List ℕ) → EndsLine own → IsSeam seam → (rules : RuleSet) (o : Opening) (log : List LogPart) (end : NumberedMoment) → IsTranscript (own ++ seam) rules o log end → IsTranscript seam rules (Based (size_of o) (base_of end.count end.moment)) [] end
seam_transcript own seam lines seamed rules o log end is = record {
  start = end;
  opens = reopens_end (own ++ seam) rules o log end is;
  text = closes own seam lines seamed rules o log end is ∙ sym (append-nil (text_at rules (size_of o) end));
  parts = tt;
  not_too_many = is.not_too_many;
  passes = refl;
}

-- The run that the second begins with goes on at the end of the first.
pub record Joined (own seam behind : List ℕ) (rules r : RuleSet) (o : Opening) (log also : List LogPart) (last : NumberedMoment) (left : List ℕ) (f : BeginsWithTranscript (seam ++ behind) r also last left) : Type 0 where
  pub rules_are : r ≡ rules
  pub size_is : size_of f.opening ≡ size_of o
  pub transcript : IsTranscript (own ++ f.good) rules o (log ++ also) last

pub join_follows : (own seam behind : List ℕ) → EndsLine own → IsSeam seam → (rules : RuleSet) (o : Opening) (log : List LogPart) (end : NumberedMoment) → IsTranscript (own ++ seam) rules o log end → (r : RuleSet) (also : List LogPart) (last : NumberedMoment) (left : List ℕ) (f : BeginsWithTranscript (seam ++ behind) r also last left) → Joined own seam behind rules r o log also last left f
join_follows own seam behind lines seamed rules o log end is r also last left f =
    let t = table_of rules in
    let size = size_of o in
    let base = base_of end.count end.moment in
    let seam_is = closes own seam lines seamed rules o log end is in
    let begun = reopens_end (own ++ seam) rules o log end is in
    let same = opening_once rules r (Based size base) f.opening end f.transcript.start behind (parts_behind (seam ++ behind) r also last left f) begun f.transcript.opens
    (ap (λ (l : List ℕ). l ++ behind) (sym seam_is) ∙ follows_text (seam ++ behind) r also last left f) in
    let sizes : size_of f.opening ≡ size = ap size_of (sym same.openings) in
    let text : f.good ≡ seam ++ parts_text rules size end.count also =
    f.transcript.text
    ∙ ap (λ (q : RuleSet). opening_text q f.opening ++ parts_text q (size_of f.opening) f.transcript.start.count also) (sym same.rules)
    ∙ ap (λ (u : Opening). opening_text rules u ++ parts_text rules (size_of u) f.transcript.start.count also) (sym same.openings)
    ∙ ap (λ (s : NumberedMoment). base_text rules size base ++ parts_text rules size s.count also) (sym same.starts)
    ∙ ap (λ (l : List ℕ). l ++ parts_text rules size end.count also) (sym seam_is) in
    let goes_on : Passes t end also last = subst (λ (s : NumberedMoment). Passes t s also last) (sym same.starts) (subst (λ (q : RuleSet). Passes (table_of q) f.transcript.start also last) (sym same.rules) f.transcript.passes) in
    let front = opening_text rules o in
    let first = parts_text rules size is.start.count log in
    let second = parts_text rules size end.count also in
    record {
      rules_are = sym same.rules;
      size_is = sizes;
      transcript = record {
        start = is.start;
        opens = is.opens;
        text = ap (λ (l : List ℕ). own ++ l) text ∙ sym (append_assoc own seam second) ∙ ap (λ (l : List ℕ). l ++ second) is.text ∙ append_assoc front first second ∙ ap (λ (l : List ℕ). front ++ l) (sym (parts_text_both rules size t is.start end log also is.passes));
        parts = all_both IsLogPart log also is.parts f.transcript.parts;
        not_too_many = f.transcript.not_too_many;
        passes = passes_both t is.start end last log also is.passes goes_on;
      };
    }

-- ---- both are transcripts exactly where the joined text is

pub whole_accepted : (own seam behind : List ℕ) → EndsLine own → IsSeam seam → (c d : Summary) → IsAccepted (own ++ seam) c → IsAccepted (seam ++ behind) d → IsAccepted (own ++ (seam ++ behind)) (counted_both c d)
whole_accepted own seam behind lines seamed c d x y =
    let f = followed (seam ++ behind) (whole (seam ++ behind) y.rules y.opening y.log y.end) (transcript_ends (seam ++ behind) y.rules y.opening y.log y.end y.transcript) in
    let j = join_follows own seam behind lines seamed x.rules x.opening x.log x.end x.transcript y.rules y.log y.end [] f in
    record {
      rules = x.rules;
      opening = x.opening;
      log = x.log ++ y.log;
      end = y.end;
      transcript = j.transcript;
      counts = counts_both x.log y.log c d x.counts y.counts;
    }

pub record BothAccepted (own seam behind : List ℕ) : Type 0 where
  pub first : Summary
  pub second : Summary
  pub first_is : IsAccepted (own ++ seam) first
  pub second_is : IsAccepted (seam ++ behind) second

pub parts_accepted : (own seam behind : List ℕ) → EndsLine own → IsSeam seam → (c : Summary) → IsAccepted (own ++ (seam ++ behind)) c → BothAccepted own seam behind
parts_accepted own seam behind lines seamed c x =
    let rules = x.rules in
    let o = x.opening in
    let is = x.transcript in
    let t = table_of rules in
    let size = size_of o in
    let first = seam_first seam seamed in
    let k = cut_transcript (own ++ (seam ++ behind)) rules o x.log x.end is own (seam ++ behind) (first.0 ++ behind) lines (ap (λ (l : List ℕ). l ++ behind) first.1) no_header refl in
    let rises = passes_rise t k.middle x.end k.behind k.goes_on in
    let few = is.not_too_many in
    let begun = cut_reopens (own ++ (seam ++ behind)) rules o x.log x.end is (opening_text rules o) own (seam ++ behind) k in
    let base = base_of k.middle.count k.middle.moment in
    let more = parts_text rules size k.middle.count k.behind in
    let same = seam_is rules size base begun.fits.few begun.fits.shaped seam seamed more behind (sym k.rest_is) in
    let parts = all_apart k.before k.behind (subst (AllByRecursion IsLogPart) k.logs is.parts) in
    record {
      first = summary_of (entries_in k.before);
      second = summary_of (entries_in k.behind);
      first_is = counted_transcript (own ++ seam) rules o k.before k.middle (record {
        start = is.start;
        opens = is.opens;
        text = ap (λ (l : List ℕ). own ++ l) (sym same) ∙ k.text;
        parts = parts.0;
        not_too_many = omega (arith, rises, few);
        passes = k.reached;
      });
      second_is = counted_transcript (seam ++ behind) rules (Based size base) k.behind x.end
          (record { start = k.middle; opens = begun; text = k.rest_is; parts = parts.1; not_too_many = few; passes = k.goes_on });
    }
  where
    no_header : IsNoHeader (seam ++ behind)
    no_header rules size count more e =
        let begins = ap (λ (l : List ℕ). l ++ behind) (sym seamed.is) ∙ e in
        let byte : 50 ≡ 32 = ap (λ (l : List ℕ). get_or l 8 0) (ap (λ (l : List ℕ). (l ++ 10 ∷ (seamed.numbers ++ 10 ∷ seamed.rest)) ++ behind) (sym seamed.begins.1) ∙ begins) in
        omega (arith, byte)
