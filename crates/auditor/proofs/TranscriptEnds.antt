-- Where the run of a transcript ends, and what an audit's result says of the counts.
use Rattle.auditor.proofs.Prelude.{◌≡◌, inl, inr, ℕ, List, [], Result, Ok, Err, refl, sym, ap, subst, ◌∙◌, RuleSet, NumberedMoment, entries_in, AuditFault, Summary, TranscriptCursor, IsAccepted, Counts, IsTranscript, stand_of, IsCursorAt, IsJudged, IsAuditFault, IsAuditResult, IfOk, IfErr, OnOk, same_Some, result_err}
use Rattle.auditor.specs.declared.transcript_end.TranscriptEnd.{TranscriptEnd}
use Rattle.auditor.specs.TranscriptEnds.{IsTranscriptEnd, MayGoOn, EndsRun, IsEndResult, end_moment, summary_in}
use Rattle.auditor.proofs.AuditPositions.{all_good}
use Rattle.auditor.proofs.Spent.{begins_again}
use Rattle.auditor.proofs.VerdictUniqueness.{heard_damage}

-- the end is where the cursor is after all of the bytes
pub end_is : (bytes : List ℕ) (replay : TranscriptCursor) (end : TranscriptEnd) → end.rules ≡ replay.rules → end_moment end ≡ stand_of replay.audit → end.summary ≡ replay.audit.counted → IsCursorAt bytes replay [] → IsTranscriptEnd bytes end
end_is bytes replay end rules moment summary at =
    let r = at.reached in
    let o = r.follows.opening in
    let good = all_good bytes replay.rules r.log (stand_of replay.audit) [] r.follows refl in
    let begins = begins_again replay.rules o good.start (stand_of replay.audit) r.log good.opens good.passes in
    record {
      opening = o;
      log = r.log;
      transcript =
          subst (λ (e : NumberedMoment). IsTranscript bytes end.rules o r.log e) (sym moment)
          (subst (λ (x : RuleSet). IsTranscript bytes x o r.log (stand_of replay.audit)) (sym rules) good);
      size_is = sym begins.size_is ∙ sym (ap (λ (e : NumberedMoment). e.moment.state.network.size) moment);
      counts = subst (λ (c : Summary). Counts c (entries_in r.log)) (sym summary) r.counts;
    }

-- a run may go on from the end of any
pub goes_on : (bytes : List ℕ) (end : TranscriptEnd) → IsTranscriptEnd bytes end → MayGoOn end
goes_on bytes end is =
    let t = is.transcript in
    let begins = begins_again end.rules is.opening t.start (end_moment end) is.log t.opens t.passes in
    record { within = begins.within; unflagged = begins.unflagged; few = t.not_too_many }

-- ---- the counts

pub end_accepted : (bytes : List ℕ) (end : TranscriptEnd) → IsTranscriptEnd bytes end → IsAccepted bytes end.summary
end_accepted bytes end is = record { rules = end.rules; opening = is.opening; log = is.log; end = end_moment end; transcript = is.transcript; counts = is.counts }

pub ends_judged : (bytes : List ℕ) (result : Result TranscriptEnd AuditFault) → EndsRun bytes result → IsJudged bytes (summary_in result)
ends_judged bytes (Ok end) is = end_accepted bytes end is
ends_judged bytes (Err fault) is = is

pub ends_heard : (bytes : List ℕ) (result : Result TranscriptEnd AuditFault) → IsEndResult bytes result → IsAuditResult bytes (summary_in result)
ends_heard bytes result (inl is) = inl (ends_judged bytes result is)
ends_heard bytes result (inr e) = inr (ap summary_in e)

pub heard_ended : (bytes : List ℕ) (result : Result TranscriptEnd AuditFault) → IsEndResult bytes result → IfOk result (IsTranscriptEnd bytes)
heard_ended bytes (Ok end) (inl is) = is
heard_ended bytes (Ok end) (inr e) = absurd cc
heard_ended bytes (Err fault) heard = tt

pub heard_wrong : (bytes : List ℕ) (result : Result TranscriptEnd AuditFault) → IsEndResult bytes result → IfErr result (IsAuditFault bytes)
heard_wrong bytes (Ok end) heard = tt
heard_wrong bytes (Err fault) heard = heard_damage bytes (Err fault) (ends_heard bytes (Err fault) heard)

-- ---- of the counts alone, what the end's result says

pub accepted_in : (bytes : List ℕ) (result : Result TranscriptEnd AuditFault) → IfOk result (IsTranscriptEnd bytes) → IfOk (summary_in result) (IsAccepted bytes)
accepted_in bytes (Ok end) is = end_accepted bytes end is
accepted_in bytes (Err fault) is = tt

pub damage_in : (bytes : List ℕ) (result : Result TranscriptEnd AuditFault) → IfErr result (IsAuditFault bytes) → IfErr (summary_in result) (IsAuditFault bytes)
damage_in bytes (Ok end) is = tt
damage_in bytes (Err fault) is = is

pub done_in : (result : Result TranscriptEnd AuditFault) (P : Type 0) → OnOk result P → OnOk (summary_in result) P
done_in (Ok end) P is = is
done_in (Err fault) P is = tt

pub fault_in : (result : Result TranscriptEnd AuditFault) (fault : AuditFault) → summary_in result ≡ Err fault → result ≡ Err fault
fault_in (Ok end) fault e = absurd cc
fault_in (Err other) fault e = ap (λ (f : AuditFault). Err f) (same_Some other fault (ap (λ (r : Result Summary AuditFault). result_err r) e))
