-- A run has come as far as a session, call by call, whether or not the session keeps its text.
use Rattle.std.proofs.Common.{◌≡◌, ◌∙◌, ◌<◌, ◌≤◌, ◌⊎◌, ℕ, Bool, true, false, inl, inr, List, [], ◌++◌, length, Option, None, Some, sym, ap, subst, append-nil, arith}
use Rattle.std.proofs.lemmas.Bool.{cases_lt}
use Rattle.std.proofs.lemmas.Option.{same_Some}
use Rattle.rule_machine.specs.declared.rule_set.RuleSet.{RuleSet}
use Rattle.rule_machine.specs.Base.{LogPart, base_of}
use Rattle.rule_machine.specs.Tables.{table_of}
use Rattle.line_text.specs.BaseText.{base_text}
use Rattle.script_text.specs.declared.command.Command.TheVariants.{Checkpoint}
use Rattle.script_text.specs.Script.{Progress, with_checkpoint}
use Rattle.auditor.specs.Parts.{Opening}
use Rattle.auditor.specs.Transcript.{IsTranscript}
use Rattle.transcript_laws.specs.Written.{IsWrittenAfter, moment_of}
use Rattle.transcript_laws.proofs.NextTranscripts.{begins_next}
use Rattle.rudekpi_c.specs.declared.session.Session.{Session}
use Rattle.rudekpi_c.specs.declared.call_result.CallResult.{CallResult}
use Rattle.rudekpi_c.specs.CommandCalls.{AnswersCommand, IsCommandAnswer, IsCommandOutcome}
use Rattle.rudekpi_c.specs.Renumbering.{RenumberingEnds, renumbered}
use Rattle.rudekpi_c.specs.RoundCalls.{AnswersCounting}
use Rattle.rudekpi_c.specs.Session.{limit_of, rules_of, stands, with_text_if}
use Rattle.rudekpi_c.specs.SessionQuestions.{AnswersKeep}
use Rattle.rudekpi_c.specs.SessionTexts.{HasRunEnd, HasTranscript, IsSessionCall, IsAtRunEnd, base_opening}
use Rattle.rudekpi_c.specs.Slot.{Handed}
use Rattle.rudekpi_c.proofs.SessionTexts.{IsWell, command_answered, kept_whole, line_answered, made}

-- a run by these rules has come as far as the progress
record IsRun (rules : RuleSet) (p : Progress) : Type 0 where
  same : p.rules ≡ rules
  bytes : List ℕ
  opening : Opening
  log : List LogPart
  run : IsTranscript bytes p.rules opening log (moment_of p)

-- the text of a progress does not matter
any_text : (keeps : Bool) (rules : RuleSet) (p : Progress) → IsRun rules p → IsRun rules (with_text_if keeps p)
any_text true rules p it = it
any_text false rules p it = record { same = it.same; bytes = it.bytes; opening = it.opening; log = it.log; run = it.run }

run_of : (s : Session) → IsAtRunEnd s → IsRun (rules_of s) (stands s)
run_of s it = record { same = it.rules; bytes = it.bytes; opening = it.opening; log = it.log; run = it.run }

reached : (s t : Session) (p : Progress) → limit_of s ≤ 16777216 → limit_of t ≡ limit_of s → rules_of t ≡ rules_of s → stands t ≡ p → IsRun (rules_of s) p → IsAtRunEnd t
reached s t p few limit rules is run =
    let own = subst (IsRun (rules_of s)) (sym is) run in
    record {
      limit = subst (λ (n : ℕ). n ≤ 16777216) (sym limit) few;
      rules = own.same ∙ sym rules;
      bytes = own.bytes;
      opening = own.opening;
      log = own.log;
      run = own.run;
    }

-- ---- the run as a transcript behind some text

well_of : (s : Session) (it : IsAtRunEnd s) → IsWell (stands s).text it.bytes it.opening s (stands s)
well_of s it =
    (it.rules, ([], sym (append-nil (stands s).text), (it.log, subst (λ (l : List ℕ). IsTranscript l (stands s).rules it.opening it.log (moment_of (stands s))) (sym (append-nil it.bytes)) it.run)))

of_well : (ended first : List ℕ) (o : Opening) (s : Session) (p : Progress) → IsWell ended first o s p → IsRun (rules_of s) p
of_well ended first o s p (same, (own, split, (log, is))) = record { same = same; bytes = first ++ own; opening = o; log = log; run = is }

-- ---- calls

pub begins : (ended first : List ℕ) (o : Opening) (kept : Option Session) → HasTranscript ended first o kept → HasRunEnd kept
begins ended first o None has = absurd has
begins ended first o (Some s) has = record {
  limit = has.limit;
  rules = has.rules;
  bytes = first ++ has.written.0;
  opening = o;
  log = has.written.2.0;
  run = has.written.2.1;
}

next_run : (s : Session) → IsAtRunEnd s → IsRun (rules_of s) (renumbered (stands s))
next_run s it = record {
  same = it.rules;
  bytes = base_text (stands s).rules (stands s).moment.state.network.size (base_of 0 (stands s).moment);
  opening = base_opening 0 s;
  log = [];
  run = begins_next it.bytes (stands s).rules it.opening it.log (moment_of (stands s)) it.run 0 (omega arith);
}

renumbered_run : (status n : ℕ) (s : Session) (after : Progress) → RenumberingEnds status n s after → IsAtRunEnd s → IsRun (rules_of s) after
renumbered_run status n s after (inl (is, length_is, after_is)) it = subst (IsRun (rules_of s)) (sym after_is) (next_run s it)
renumbered_run status n s after (inr (is, none, after_is)) it = subst (IsRun (rules_of s)) (sym after_is) (run_of s it)

counted : (status : ℕ) (old new : Option Session) → AnswersCounting status old new → HasRunEnd old → HasRunEnd new
counted status None new answers has = absurd has
counted status (Some s) new (inl (is, begins)) has =
    let it = run_of s has in
    subst HasRunEnd (sym begins.is) (reached s begins.t _ has.limit begins.goes_on.limit begins.goes_on.rules begins.stands_is (record { same = it.same; bytes = it.bytes; opening = it.opening; log = it.log; run = it.run }))
counted status (Some s) new (inr (is, same)) has = subst HasRunEnd (sym same) has

kept : (keeps : Bool) (status : ℕ) (old new : Option Session) → AnswersKeep keeps status old new → HasRunEnd old → HasRunEnd new
kept keeps status None new answers has = absurd has
kept keeps status (Some s) new (is, it) has =
    subst HasRunEnd (sym it.is) (reached s it.t (with_text_if keeps (stands s)) has.limit it.limit it.rules it.stands_is (any_text keeps (rules_of s) (stands s) (run_of s has)))

read : (was out : List ℕ) (n : ℕ) (old new : Option Session) → Handed was out n old new → HasRunEnd old → HasRunEnd new
read was out n None new handed has = absurd has
read was out n (Some s) new (is, it) has = by_room (cases_lt (length was) n)
  where
    by_room : (length was < n) ⊎ (n ≤ length was) → HasRunEnd new
    by_room (inl less) = subst HasRunEnd (sym (it.is ∙ ap (λ (x : Session). Some x) (it.none less).1)) has
    by_room (inr fits) =
        subst HasRunEnd (sym it.is) (reached s it.t (with_text_if false (stands s)) has.limit it.goes_on.limit it.goes_on.rules (it.all fits).1 (any_text false (rules_of s) (stands s) (run_of s has)))

pub goes_on : (old new : Option Session) → IsSessionCall old new → HasRunEnd old → HasRunEnd new
goes_on old new (inl (line, was, status, number, inl takes)) has =
    let it = subst HasRunEnd takes.was has in
    let s = takes.s in
    let well = line_answered (stands s).text it.bytes it.opening s line status number takes.after it.limit (well_of s it) takes.does in
    subst HasRunEnd (sym takes.is) (reached s takes.t (with_text_if takes.t.keeps takes.after) it.limit takes.next.goes_on.limit takes.next.goes_on.rules takes.stands_is (any_text takes.t.keeps (rules_of s) takes.after (of_well (stands s).text it.bytes it.opening s takes.after well)))
goes_on old new (inl (line, was, status, number, inr nobody)) has = absurd (subst HasRunEnd nobody.0.1 has)
goes_on old new (inr (inl (command, status, told, inl (bad, is, untold, same)))) has = subst HasRunEnd (sym same) has
goes_on old new (inr (inl (command, status, told, inr (inl (fits, nobody, untold))))) has = absurd (subst HasRunEnd nobody.1 has)
goes_on old new (inr (inl (command, status, told, inr (inr (fits, answer))))) has =
    let it = subst HasRunEnd answer.was has in
    let s = answer.s in
    let well = command_answered (stands s).text it.bytes it.opening s answer.t command status answer.after it.limit fits (well_of s it) answer.follows in
    subst HasRunEnd (sym answer.is) (reached s answer.t (with_text_if answer.t.keeps answer.after) it.limit answer.goes_on.limit answer.goes_on.rules answer.stands_is (any_text answer.t.keeps (rules_of s) answer.after (of_well (stands s).text it.bytes it.opening s answer.after well)))
goes_on old new (inr (inr (inl (status, ended, inl it)))) has =
    let from = subst HasRunEnd it.was has in
    subst HasRunEnd (sym it.is) (reached it.s it.t (with_text_if it.t.keeps it.after) from.limit it.goes_on.limit it.goes_on.rules it.stands_is (any_text it.t.keeps (rules_of it.s) it.after (renumbered_run status ended it.s it.after it.ends from)))
goes_on old new (inr (inr (inl (status, ended, inr nobody)))) has = absurd (subst HasRunEnd nobody.0.1 has)
goes_on old new (inr (inr (inr (inl (status, answers))))) has = counted status old new answers has
goes_on old new (inr (inr (inr (inr (inl (keeps, status, answers)))))) has = kept keeps status old new answers has
goes_on old new (inr (inr (inr (inr (inr (was, out, n, handed)))))) has = read was out n old new handed has

-- ---- a checkpoint of an empty text

-- the base alone is the text
based_anew : (s : Session) → IsAtRunEnd s → (stands s).text ≡ [] → IsWrittenAfter [] [] (base_opening (stands s).count s) (with_checkpoint (stands s))
based_anew s it empty =
    let base = base_text (stands s).rules (stands s).moment.state.network.size (base_of (stands s).count (stands s).moment) in
    (base, ap (λ (l : List ℕ). l ++ base) empty, ([], begins_next it.bytes (stands s).rules it.opening it.log (moment_of (stands s)) it.run (stands s).count it.run.not_too_many))

checkpoint_of : (s t : Session) (after : Progress) → IsCommandOutcome (table_of (rules_of s)) (limit_of s) Checkpoint 0 t.answer.seq t.answer.reply (stands s) after → after ≡ with_checkpoint (stands s)
checkpoint_of s t after (inl (is, does, number, reply)) = does
checkpoint_of s t after (inr (inl (other, fills, number, reply))) = absurd (omega (arith, other))
checkpoint_of s t after (inr (inr (other, begins, number, reply))) = absurd (omega (arith, other))

checkpointed : {told : CallResult} {old new : Option Session} (answer : IsCommandAnswer Checkpoint 0 told old new) → IsAtRunEnd answer.s → answer.s.keeps ≡ true → (stands answer.s).text ≡ [] → HasTranscript [] [] (base_opening (stands answer.s).count answer.s) new
checkpointed answer it keeps empty =
    let from = answer.s in
    let kept : answer.t.keeps ≡ true = answer.goes_on.keeps ∙ keeps in
    subst (HasTranscript [] [] (base_opening (stands from).count from)) (sym answer.is)
    (made [] [] (base_opening (stands from).count from) from answer.t (with_checkpoint (stands from)) it.limit kept answer.goes_on.limit answer.goes_on.rules
    (answer.stands_is ∙ kept_whole answer.t.keeps answer.after kept ∙ checkpoint_of from answer.t answer.after answer.follows) (it.rules, based_anew from it empty))

pub begins_anew : (told : CallResult) (s : Session) (new : Option Session) → AnswersCommand Checkpoint 0 told (Some s) new → HasRunEnd (Some s) → s.keeps ≡ true → (stands s).text ≡ [] → HasTranscript [] [] (base_opening (stands s).count s) new
begins_anew told s new (inl (bad, other, untold, same)) has keeps empty = absurd (omega (arith, other))
begins_anew told s new (inr (inl (fits, nobody, untold))) has keeps empty = absurd (subst HasRunEnd nobody.1 has)
begins_anew told s new (inr (inr (fits, answer))) has keeps empty =
    let same = same_Some s answer.s answer.was in
    subst (λ (x : Session). HasTranscript [] [] (base_opening (stands x).count x) new) (sym same)
    (checkpointed answer (subst IsAtRunEnd same has) (ap (λ (x : Session). x.keeps) (sym same) ∙ keeps) (ap (λ (x : Session). (stands x).text) (sym same) ∙ empty))
