-- The text of a session that C keeps stays a transcript, call by call.
use Rattle.std.proofs.Common.{◌≡◌, ◌≢◌, ◌∙◌, ◌<◌, ◌≤◌, ℕ, Bool, true, false, inl, inr, List, [], ◌++◌, length, drop, Option, None, Some, Ok, Err, refl, sym, ap, subst, append-nil, arith}
use Rattle.std.proofs.lemmas.Bool.{true≢false}
use Rattle.std.proofs.lemmas.Option.{same_Some}
use Rattle.rule_machine.specs.Base.{base_of}
use Rattle.rule_machine.specs.Tables.{table_of}
use Rattle.line_text.specs.BaseText.{base_text}
use Rattle.script_text.specs.declared.command.Command.{Command}
use Rattle.script_text.specs.Command.{IsCommand}
use Rattle.script_text.specs.Script.{Progress, with_checkpoint}
use Rattle.step_log.specs.declared.fault.RecordFault.TheVariants.{LogFull, Memory}
use Rattle.run_session.specs.declared.line_error.LineError.TheVariants.{BadLine, Record}
use Rattle.run_session.specs.RunStart.{first_progress}
use Rattle.auditor.specs.declared.transcript_end.TranscriptEnd.{TranscriptEnd}
use Rattle.auditor.specs.Parts.{Based, Named, Opening, size_of}
use Rattle.auditor.specs.Transcript.{IsTranscript}
use Rattle.auditor.specs.TranscriptEnds.{IsTranscriptEnd, end_moment}
use Rattle.transcript_laws.specs.Written.{IsWrittenAfter, IsWrittenBehind, moment_of, start_behind}
use Rattle.transcript_laws.proofs.AcceptedLines.{based, command_ended, from_start, line_ended}
use Rattle.transcript_laws.proofs.AcceptedLaws.{first_written, joined_start, own_start}
use Rattle.transcript_laws.proofs.NextTranscripts.{begins_next}
use Rattle.transcript_laws.proofs.Sessions.{text_accepted}
use Rattle.rudekpi_c.specs.declared.session.Session.{Session}
use Rattle.rudekpi_c.specs.declared.call_result.CallResult.{CallResult}
use Rattle.rudekpi_c.specs.declared.verdict.Verdict.{Verdict}
use Rattle.rudekpi_c.specs.CommandCalls.{AnswersCommand, IsCommandOutcome}
use Rattle.rudekpi_c.specs.Renumbering.{AnswersRenumber, RenumberingEnds, ended_length, length_if, renumbered}
use Rattle.rudekpi_c.specs.Resumption.{ResumesSession}
use Rattle.rudekpi_c.specs.RoundCalls.{AnswersCounting}
use Rattle.rudekpi_c.specs.Session.{GoesOn, IsNewSession, limit_of, rules_of, stands, with_text_if}
use Rattle.rudekpi_c.specs.SessionQuestions.{AnswersKeep}
use Rattle.rudekpi_c.specs.SessionTexts.{BeginsNextTranscript, HasTranscript, HasAcceptedText, ReadsTranscript, IsTranscribed, base_opening}
use Rattle.rudekpi_c.specs.Slot.{AnswersFeed, AnswersLine, Handed, OpensSession, named}

-- what is kept whole
pub kept_whole : (keeps : Bool) (p : Progress) → keeps ≡ true → with_text_if keeps p ≡ p
kept_whole true p is = refl
kept_whole false p is = absurd (true≢false (sym is))

-- ---- a session that keeps its text

-- written by the rules of a session
abbrev pub IsWell : List ℕ → List ℕ → Opening → Session → Progress → Type 0
IsWell ended first o s p = (p.rules ≡ rules_of s) × IsWrittenAfter ended first o p

module _ (ended first : List ℕ) (o : Opening) where
  -- the session that comes of another whose limit and rules it has
  pub made : (s t : Session) (after : Progress) → limit_of s ≤ 16777216 → t.keeps ≡ true → limit_of t ≡ limit_of s → rules_of t ≡ rules_of s → stands t ≡ after → IsWell ended first o s after → IsTranscribed ended first o t
  made s t after few keeps limit rules is well = record {
    keeps = keeps;
    limit = subst (λ (n : ℕ). n ≤ 16777216) (sym limit) few;
    rules = ap (λ (p : Progress). p.rules) is ∙ well.0 ∙ sym rules;
    written = subst (IsWrittenAfter ended first o) (sym is) well.1;
  }

  gone_on : (s t : Session) (after : Progress) → GoesOn s t → stands t ≡ with_text_if t.keeps after → IsTranscribed ended first o s → IsWell ended first o s after → IsTranscribed ended first o t
  gone_on s t after goes is it well =
      let keeps : t.keeps ≡ true = goes.keeps ∙ it.keeps in
      made s t after it.limit keeps goes.limit goes.rules (is ∙ kept_whole t.keeps after keeps) well

  -- ---- lines and commands

  pub line_answered : (s : Session) (line : List ℕ) (status number : ℕ) (after : Progress) → limit_of s ≤ 16777216 → IsWell ended first o s (stands s) → AnswersLine line status s after → IsWell ended first o s after
  line_answered s line status number after few well (inl (is, does)) = line_ended ended first o (rules_of s) (limit_of s) few number line (stands s) after (Ok tt) does well
  line_answered s line status number after few well (inr (inl (is, bad, same))) = line_ended ended first o (rules_of s) (limit_of s) few number line (stands s) after (Err (BadLine number)) (refl, bad, same) well
  line_answered s line status number after few well (inr (inr (inl (is, full)))) = line_ended ended first o (rules_of s) (limit_of s) few number line (stands s) after (Err (Record LogFull)) full well
  line_answered s line status number after few well (inr (inr (inr (is, begins)))) = line_ended ended first o (rules_of s) (limit_of s) few number line (stands s) after (Err (Record Memory)) begins well

  pub command_answered : (s t : Session) (c : Command) (status : ℕ) (after : Progress) → limit_of s ≤ 16777216 → IsCommand c → IsWell ended first o s (stands s) → IsCommandOutcome (table_of (rules_of s)) (limit_of s) c status t.answer.seq t.answer.reply (stands s) after → IsWell ended first o s after
  command_answered s t c status after few fits well (inl (is, does, number, reply)) = command_ended ended first o (rules_of s) (limit_of s) few c (stands s) after (Ok tt) fits does well
  command_answered s t c status after few fits well (inr (inl (is, fills, number, reply))) = command_ended ended first o (rules_of s) (limit_of s) few c (stands s) after (Err LogFull) fits fills well
  command_answered s t c status after few fits well (inr (inr (is, begins, number, reply))) = command_ended ended first o (rules_of s) (limit_of s) few c (stands s) after (Err Memory) fits begins well

  abbrev Has : Option Session → Type 0
  Has = HasTranscript ended first o

  pub line_stays : (line : List ℕ) (was status number : ℕ) (old new : Option Session) → AnswersFeed line was status number old new → Has old → Has new
  line_stays line was status number old new (inl takes) has =
      let it = subst Has takes.was has in
      subst Has (sym takes.is) (gone_on takes.s takes.t takes.after takes.next.goes_on takes.stands_is it (line_answered takes.s line status number takes.after it.limit (it.rules, it.written) takes.does))
  line_stays line was status number old new (inr nobody) has = absurd (subst Has nobody.0.1 has)

  pub command_stays : (c : Command) (status : ℕ) (told : CallResult) (old new : Option Session) → AnswersCommand c status told old new → Has old → Has new
  command_stays c status told old new (inl (bad, is, untold, same)) has = subst Has (sym same) has
  command_stays c status told old new (inr (inl (fits, nobody, untold))) has = absurd (subst Has nobody.1 has)
  command_stays c status told old new (inr (inr (fits, answer))) has =
      let it = subst Has answer.was has in
      subst Has (sym answer.is) (gone_on answer.s answer.t answer.after answer.goes_on answer.stands_is it (command_answered answer.s answer.t c status answer.after it.limit fits (it.rules, it.written) answer.follows))

  -- ---- counting, keeping, reading

  pub counting_stays : (status : ℕ) (old new : Option Session) → AnswersCounting status old new → Has old → Has new
  counting_stays status None new answers has = absurd has
  counting_stays status (Some s) new (inl (is, begins)) has =
      subst Has (sym begins.is) (made s begins.t _ has.limit (begins.goes_on.keeps ∙ has.keeps) begins.goes_on.limit begins.goes_on.rules begins.stands_is (has.rules, has.written))
  counting_stays status (Some s) new (inr (is, same)) has = subst Has (sym same) has

  pub kept_stays : (status : ℕ) (old new : Option Session) → AnswersKeep true status old new → Has old → Has new
  kept_stays status None new answers has = absurd has
  kept_stays status (Some s) new (is, keeps) has =
      subst Has (sym keeps.is) (made s keeps.t (stands s) has.limit keeps.keeps_is keeps.limit keeps.rules keeps.stands_is (has.rules, has.written))

  pub unread_stays : (was out : List ℕ) (n : ℕ) (old new : Option Session) → Handed was out n old new → length was < n → Has old → Has new
  unread_stays was out n None new handed less has = absurd has
  unread_stays was out n (Some s) new (is, handed) less has =
      subst Has (sym (handed.is ∙ ap (λ (x : Session). Some x) (handed.none less).1)) has

  pub unchanged_stays : (status n : ℕ) (old new : Option Session) → AnswersRenumber status n old new → status ≢ 0 → Has old → Has new
  unchanged_stays status n old new (inl it) other has =
      let was = subst Has it.was has in
      subst Has (sym it.is) (gone_on it.s it.t it.after it.goes_on it.stands_is was (same it.ends was))
    where
      same : RenumberingEnds status n it.s it.after → IsTranscribed ended first o it.s → IsWell ended first o it.s it.after
      same (inl (is, length_is, after_is)) was = absurd (other is)
      same (inr (is, none, unchanged)) was = subst (IsWell ended first o it.s) (sym unchanged) (was.rules, was.written)
  unchanged_stays status n old new (inr nobody) other has = absurd (subst Has nobody.0.1 has)

  -- ---- what the auditor says

  pub text_is_accepted : (s : Session) → IsTranscribed ended first o s → HasAcceptedText ended first o s
  text_is_accepted s it =
      let own = it.written.0 in
      record {
        own = own;
        text_is = it.written.1;
        accepted = text_accepted first o (record (stands s) { text = own }) it.written.2;
      }

-- ---- reading

pub read_on : (was out : List ℕ) (n : ℕ) (old new : Option Session) (ended first : List ℕ) (o : Opening) → Handed was out n old new → n ≤ length was → HasTranscript ended first o old → ReadsTranscript ended first o was out n new
read_on was out n None new ended first o handed fits has = absurd has
read_on was out n (Some s) new ended first o (is, handed) fits has =
    let own = has.written.0 in
    let split = has.written.1 in
    let log = has.written.2.0 in
    let all = handed.all fits in
    let empty : Progress = with_text_if false (stands s) in
    let behind : IsWrittenBehind (first ++ own) o empty = (log, subst (λ (l : List ℕ). IsTranscript l (stands s).rules o log (moment_of (stands s))) (sym (append-nil (first ++ own))) has.written.2.1) in
    record {
      own = own;
      out_is = all.0 ∙ ap (λ (l : List ℕ). l ++ drop n was) split;
      length_is = is ∙ ap length split;
      goes_on =
          subst (HasTranscript [] (first ++ own) o) (sym handed.is)
          (made [] (first ++ own) o s handed.t empty has.limit (handed.goes_on.keeps ∙ has.keeps) handed.goes_on.limit handed.goes_on.rules all.1 (has.rules, from_start (first ++ own) o empty behind));
    }

-- ---- renumbering

next_begun : (ended first : List ℕ) (o : Opening) (n : ℕ) (s t : Session) (new : Option Session) (after : Progress) → new ≡ Some t → GoesOn s t → stands t ≡ with_text_if t.keeps after → n ≡ ended_length s → after ≡ renumbered (stands s) → IsTranscribed ended first o s → BeginsNextTranscript ended first o n s new
next_begun ended first o n s t new after is goes stands_is length_is after_is has =
    let p = stands s in
    let own = has.written.0 in
    let run = has.written.2 in
    let closed = (based ended first o (rules_of s) (limit_of s) has.limit p (has.rules, has.written)).1 in
    let whole = closed.0 in
    let split = closed.1 in
    let base = base_text p.rules p.moment.state.network.size (base_of 0 p.moment) in
    let keeps : t.keeps ≡ true = goes.keeps ∙ has.keeps in
    let begun : IsTranscript base p.rules (base_opening 0 s) [] (record { moment = p.moment; count = 0 }) = begins_next (first ++ own) p.rules o run.0 (moment_of p) run.1 0 (omega arith) in
    let written : IsWrittenAfter (ended ++ whole) [] (base_opening 0 s) (renumbered p) = (base, ap (λ (l : List ℕ). l ++ base) split, ([], begun)) in
    record {
      own = whole;
      length_is = length_is ∙ ap (λ (b : Bool). length_if b (length (with_checkpoint p).text)) has.keeps ∙ ap length split;
      accepted = text_accepted first o (record (with_checkpoint p) { text = whole }) closed.2;
      next =
          subst (HasTranscript (ended ++ whole) [] (base_opening 0 s)) (sym is)
          (made (ended ++ whole) [] (base_opening 0 s) s t (renumbered p) has.limit keeps goes.limit goes.rules (stands_is ∙ kept_whole t.keeps after keeps ∙ after_is) (has.rules, written));
    }

pub renumbered_next : (n : ℕ) (s : Session) (new : Option Session) (ended first : List ℕ) (o : Opening) → AnswersRenumber 0 n (Some s) new → HasTranscript ended first o (Some s) → BeginsNextTranscript ended first o n s new
renumbered_next n s new ended first o (inl it) has =
    let has_it = subst (HasTranscript ended first o) it.was has in
    subst (λ (x : Session). BeginsNextTranscript ended first o n x new) (sym (same_Some s it.s it.was)) (next it.ends has_it)
  where
    next : RenumberingEnds 0 n it.s it.after → IsTranscribed ended first o it.s → BeginsNextTranscript ended first o n it.s new
    next (inl (zero, length_is, after_is)) has = next_begun ended first o n it.s it.t new it.after it.is it.goes_on it.stands_is length_is after_is has
    next (inr (other, none, unchanged)) has = absurd (omega (arith, other))
renumbered_next n s new ended first o (inr nobody) has = absurd (subst (HasTranscript ended first o) nobody.0.1 has)

-- ---- the beginning

started : (first : List ℕ) (o : Opening) (at : Progress) (s : Session) (new : Option Session) → new ≡ Some s → IsNewSession at s → IsWrittenBehind first o at → HasTranscript [] first o new
started first o at s new is starts begun =
    let limit = starts.limit_is in
    subst (HasTranscript [] first o) (sym is) (record {
      keeps = starts.keeps_is;
      limit = omega (arith, limit);
      rules = ap (λ (p : Progress). p.rules) starts.stands_is ∙ sym starts.rules_is;
      written = subst (IsWrittenAfter [] first o) (sym starts.stands_is) (from_start first o at begun);
    })

pub opened_written : (rules nodes present : ℕ) (new : Option Session) → OpensSession rules nodes present 0 new → HasTranscript [] [] (Named nodes present) new
opened_written rules nodes present new (inl (wanted, zero, fresh)) =
    started [] (Named nodes present) (first_progress (named rules) nodes present) fresh.session new fresh.is fresh.starts (first_written (named rules) nodes present wanted.1 wanted.2)
opened_written rules nodes present new (inr (inl (wanted, other, none))) = absurd (omega (arith, other))
opened_written rules nodes present new (inr (inr (unwanted, other, none))) = absurd (omega (arith, other))

-- the transcript goes on behind the bytes, and is one alone
abbrev pub BothBegin : List ℕ → Option Session → Type 0
BothBegin bytes new =
    (end : TranscriptEnd) × (is : IsTranscriptEnd bytes end) × HasTranscript [] bytes is.opening new × HasTranscript [] [] (Based (size_of is.opening) (base_of end.number (end_moment end).moment)) new

pub resumed_written : (bytes : List ℕ) (verdict : Verdict) (new : Option Session) → ResumesSession bytes 0 verdict new → BothBegin bytes new
resumed_written bytes verdict new (judged, inl (zero, it)) =
    let is = it.ended in (
      it.end,
      is,
      started bytes is.opening (start_behind it.end) it.session new it.is it.starts (joined_start bytes it.end is),
      started [] (Based (size_of is.opening) (base_of it.end.number (end_moment it.end).moment)) (start_behind it.end) it.session new it.is it.starts (own_start bytes it.end is),
    )
resumed_written bytes verdict new (judged, inr (inl (other, damage, none))) = absurd (omega (arith, other))
resumed_written bytes verdict new (judged, inr (inr (other, said, none))) = absurd (omega (arith, other))
