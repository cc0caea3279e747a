-- A text whose run goes on where that of another ends.
use Rattle.audit_parts.proofs.Prelude.{◌≡◌, ℕ, ◌+◌, List, [], ◌∷◌, ◌++◌, Ok, Err, Option, IfSome, length, arith, refl, sym, ap, subst, ◌∙◌, append_assoc, append-nil, RuleSet, NumberedMoment, LogPart, EntryPart, BasePart, Passes, Base, base_of, entries_in, table_of, lines_with_ends, base_text, Memory, Summary, Counts, IsAccepted, BeginsWithTranscript, BeginsBase, Opening, Based, size_of, IsLogPart, IsTranscript, Chain, Stops, comes_once, nothing_stops, accepted_no_damage, begun, chain_behind, chain_same, comes_no_base, told_comes, followed, run_once, transcript_ends, whole, IsJudged, AreLinesBefore, AcceptedIsContinued, AcceptedIsWhole, ContinuedIsDamaged, EndBasesAreAccepted, EndsAreContinued, ContinuesRun, base_at, end_moment, EndsLine, IsSeam, Meets, Verdict, counted_both, joined_verdict, opening_text, parts_text}
use Rattle.auditor.proofs.TextEnds.{counted_transcript, summary_of}
use Rattle.audit_parts.proofs.CutTranscripts.{reopens_end, text_at}
use Rattle.audit_parts.proofs.Lines.{all_both, ends_both, ends_line}
use Rattle.audit_parts.proofs.MeetingTexts.{entries_both, parts_text_both, passes_both}
use Rattle.audit_parts.proofs.PartLaws.{bases_are_seams, joined_is_accepted, joined_judged, parts_are_accepted, second_damage_moves}
use Rattle.audit_parts.proofs.ShortLines.{accepted_is_short}

-- ---- a transcript consists of whole lines

ends_lines : {X : Type 0} (text : X → List ℕ) (xs : List X) → EndsLine (lines_with_ends text xs)
ends_lines text [] = tt
ends_lines text (x ∷ xs) = ends_both (text x ++ 10 ∷ []) (lines_with_ends text xs) (ends_line (text x) [] tt) (ends_lines text xs)

pub accepted_is_whole : AcceptedIsWhole
accepted_is_whole text accepted =
    let x = accepted_is_short text accepted in
    subst EndsLine (sym x.is) (ends_lines (λ line. line) x.lines)

transcript_is_whole : (bytes : List ℕ) (rules : RuleSet) (o : Opening) (log : List LogPart) (end : NumberedMoment) → IsTranscript bytes rules o log end → EndsLine bytes
transcript_is_whole bytes rules o log end is =
    accepted_is_whole bytes (summary_of (entries_in log), counted_transcript bytes rules o log end is)

-- ---- the first text with the base of its end behind it

size_at : (bytes : List ℕ) (rules : RuleSet) (o : Opening) (log : List LogPart) (end : NumberedMoment) → IsTranscript bytes rules o log end → end.moment.state.network.size ≡ size_of o
size_at bytes rules o log end is = (reopens_end bytes rules o log end is).begins.size_is

base_is : (bytes : List ℕ) (rules : RuleSet) (o : Opening) (log : List LogPart) (end : NumberedMoment) → IsTranscript bytes rules o log end → base_at rules end ≡ text_at rules (size_of o) end
base_is bytes rules o log end is = ap (λ (n : ℕ). text_at rules n end) (size_at bytes rules o log end is)

with_base : (bytes : List ℕ) (rules : RuleSet) (o : Opening) (log : List LogPart) (end : NumberedMoment) → IsTranscript bytes rules o log end → IsTranscript (bytes ++ base_at rules end) rules o (log ++ BasePart (base_of end.count end.moment) ∷ []) end
with_base bytes rules o log end is =
    let t = table_of rules in
    let size = size_of o in
    let part = BasePart (base_of end.count end.moment) ∷ [] in
    let front = opening_text rules o in
    let first = parts_text rules size is.start.count log in
    let own = text_at rules size end in
    let here : Passes t end part end = (refl, refl) in
    record {
      start = is.start;
      opens = is.opens;
      text =
          ap (λ (l : List ℕ). bytes ++ l) (base_is bytes rules o log end is ∙ sym (append-nil own))
          ∙ ap (λ (l : List ℕ). l ++ (own ++ [])) is.text
          ∙ append_assoc front first (own ++ [])
          ∙ ap (λ (l : List ℕ). front ++ l) (sym (parts_text_both rules size t is.start end log part is.passes));
      parts = all_both IsLogPart log part is.parts (tt, tt);
      not_too_many = is.not_too_many;
      passes = passes_both t is.start end end log part is.passes here;
    }

module _ (first second : List ℕ) (k : ContinuesRun first second) where
  abbrev based : List ℕ
  based = first ++ base_at k.rules k.end

  -- it is accepted with the same counts
  based_is_accepted : (c : Summary) → IsAccepted first c → IsAccepted based c
  based_is_accepted c x =
      let base = BasePart (base_of k.end.count k.end.moment) ∷ [] in
      let logs = (run_once first x.rules k.rules x.opening k.opening x.log k.log x.end k.end x.transcript k.transcript).parts in
      let entries = ap entries_in logs ∙ sym (append-nil (entries_in k.log)) ∙ sym (entries_both k.log base) in
      record {
        rules = k.rules;
        opening = k.opening;
        log = k.log ++ base;
        end = k.end;
        transcript = with_base first k.rules k.opening k.log k.end k.transcript;
        counts = subst (Counts c) entries x.counts;
      }

  -- and meets the second
  abbrev continued_meets : Meets based second
  continued_meets = record {
    own = first;
    seam = base_at k.rules k.end;
    behind = k.behind;
    lines = transcript_is_whole first k.rules k.opening k.log k.end k.transcript;
    is_seam =
        let begun = reopens_end first k.rules k.opening k.log k.end k.transcript in
        subst IsSeam (sym (base_is first k.rules k.opening k.log k.end k.transcript)) (bases_are_seams k.rules (size_of k.opening) (base_of k.end.count k.end.moment) begun.fits.few begun.fits.shaped);
    ends = refl;
    begins = k.begins;
  }

  abbrev counted : Summary
  counted = summary_of (entries_in k.log)

  is_accepted : IsAccepted first counted
  is_accepted = counted_transcript first k.rules k.opening k.log k.end k.transcript

  based_is_judged : (v : Verdict) → IsJudged first v → IsJudged based v
  based_is_judged (Ok c) x = based_is_accepted c x
  based_is_judged (Err Memory) x = tt
  based_is_judged (Err d) x = absurd (accepted_no_damage first counted d is_accepted x)

pub continued_is_accepted : (first second : List ℕ) (c d : Summary) → ContinuesRun first second → IsAccepted first c → IsAccepted second d → IsAccepted (first ++ second) (counted_both c d)
continued_is_accepted first second c d k x y =
    joined_is_accepted (based first second k) second (continued_meets first second k) c d (based_is_accepted first second k c x) y

pub continued_is_damaged : ContinuedIsDamaged
continued_is_damaged first second k d x =
    let c = counted first second k in
    second_damage_moves (based first second k) second (continued_meets first second k) c d (based_is_accepted first second k c (is_accepted first second k)) x

pub continued_judged : (v w : Verdict) (lines : ℕ) (found : Option Verdict) → IfSome found (λ all. all ≡ joined_verdict v lines w) → (first second : List ℕ) → ContinuesRun first second → AreLinesBefore lines first v w → IsJudged first v → IsJudged second w → IfSome found (IsJudged (first ++ second))
continued_judged v w lines found is first second k before x y =
    joined_judged v w lines found is (based first second k) second (continued_meets first second k) before (based_is_judged first second k v x) y

-- ---- what is accepted behind an accepted text

-- a chain that goes beyond another goes on at its end
chain_rest : (rules : RuleSet) (size : ℕ) (at : NumberedMoment) (log also : List LogPart) (end last : NumberedMoment) (text rest left : List ℕ) → Chain rules size at log end text rest → Chain rules size at also last text left → Stops rules size last left → (more : List LogPart) × Chain rules size end more last rest left
chain_rest rules size at [] also end last text rest left x y halts =
    (also, subst (λ (z : List ℕ). Chain rules size end also last z left) x.1 (subst (λ (s : NumberedMoment). Chain rules size s also last text left) (sym x.0) y))
chain_rest rules size at (p ∷ log) [] end last text rest left (next, behind, comes, chain) y halts =
    let stops = subst (λ (z : List ℕ). Stops rules size at z) (sym y.1) (subst (λ (s : NumberedMoment). Stops rules size s left) y.0 halts) in
    absurd (stops p next behind comes)
chain_rest rules size at (p ∷ log) (q ∷ also) end last text rest left (next, behind, comes, chain) (following, after, came, other) halts =
    let one = comes_once rules size at text p q next following behind after comes came in
    let same = subst (λ (z : List ℕ). Chain rules size following log end z rest) one.rests (subst (λ (s : NumberedMoment). Chain rules size s log end behind rest) one.stands chain) in
    chain_rest rules size following log also end last after rest left same other halts

-- a chain whose text begins as a base begins with that of its moment
begins_at : (rules : RuleSet) (size : ℕ) (at : NumberedMoment) (log : List LogPart) (end : NumberedMoment) (rest left : List ℕ) → BeginsBase rest → left ≡ [] → Chain rules size at log end rest left → (behind : List ℕ) × (rest ≡ text_at rules size at ++ behind)
begins_at rules size at [] end rest left begins none x = let e = ap length (sym begins.1 ∙ x.1 ∙ none) in absurd (omega (arith, e))
begins_at rules size at (EntryPart entry ∷ log) end rest left begins none (next, behind, comes, chain) =
    absurd (comes_no_base rest (at.count + 1) entry (told_comes rules size at rest entry next behind comes) begins)
begins_at rules size at (BasePart base ∷ log) end rest left begins none (next, behind, comes, chain) =
    (behind, comes.is ∙ ap (λ (b : Base). base_text rules size b ++ behind) comes.steps.0)

pub accepted_is_continued : AcceptedIsContinued
accepted_is_continued first second (c, x) begins (e, w) = (k, (parts_are_accepted (based first second k) second (continued_meets first second k) (e, w)).1)
  where
    f : BeginsWithTranscript (first ++ second) x.rules x.log x.end second
    f = record { opening = x.opening; good = first; transcript = x.transcript; splits = refl }

    g : BeginsWithTranscript (first ++ second) w.rules w.log w.end []
    g = followed (first ++ second) (whole (first ++ second) w.rules w.opening w.log w.end) (transcript_ends (first ++ second) w.rules w.opening w.log w.end w.transcript)

    k : ContinuesRun first second
    k =
        let text = first ++ second in
        let size = size_of x.opening in
        let same = begun text x.rules w.rules x.log w.log x.end w.end second [] f g in
        let own = chain_behind text x.rules x.log x.end second f in
        let all = chain_same x.rules w.rules x.opening w.opening x.transcript.start w.transcript.start _ _ w.log w.end [] same (chain_behind text w.rules w.log w.end [] g) in
        let rest = chain_rest x.rules size x.transcript.start x.log w.log x.end w.end _ second [] own all (nothing_stops x.rules size w.end) in
        let at = begins_at x.rules size x.end rest.0 w.end second [] begins refl rest.1 in
        record {
          rules = x.rules;
          opening = x.opening;
          log = x.log;
          end = x.end;
          transcript = x.transcript;
          behind = at.0;
          begins = at.1 ∙ ap (λ (l : List ℕ). l ++ at.0) (sym (base_is first x.rules x.opening x.log x.end x.transcript));
        }

-- ---- the end that an audit returns

pub ends_are_continued : EndsAreContinued
ends_are_continued first end behind is = record {
  rules = end.rules;
  opening = is.opening;
  log = is.log;
  end = end_moment end;
  transcript = is.transcript;
  behind = behind;
  begins = refl;
}

pub end_bases_are_accepted : EndBasesAreAccepted
end_bases_are_accepted first end is =
    let at = end_moment end in
    let base = base_of at.count at.moment in
    let size = size_of is.opening in
    counted_transcript (base_at end.rules at) end.rules (Based size base) [] at (record {
      start = at;
      opens = reopens_end first end.rules is.opening is.log at is.transcript;
      text = base_is first end.rules is.opening is.log at is.transcript ∙ sym (append-nil (text_at end.rules size at));
      parts = tt;
      not_too_many = is.transcript.not_too_many;
      passes = refl;
    })
