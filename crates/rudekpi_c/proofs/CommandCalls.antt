-- What a command has done to a session that C keeps.
use Rattle.std.proofs.Common.{◌≡◌, ◌∙◌, ℕ, Option, Result, Ok, Err, Some, OnOk, inl, inr, refl, sym, ap, subst, arith}
use Rattle.rule_machine.specs.declared.reply.Reply.{Reply}
use Rattle.rule_machine.specs.RuleTable.{RuleTable}
use Rattle.rule_machine.specs.Tables.{table_of}
use Rattle.script_text.specs.declared.command.Command.{Command}
use Rattle.script_text.specs.Command.{IsCommand}
use Rattle.script_text.specs.Script.{Progress}
use Rattle.step_log.specs.declared.fault.RecordFault.{RecordFault}
use Rattle.step_log.specs.declared.fault.RecordFault.TheVariants.{LogFull, Memory}
use Rattle.run_session.specs.Line.{CommandEnds}
use Rattle.rudekpi_c.specs.declared.session.Session.{Session}
use Rattle.rudekpi_c.specs.declared.call_result.CallResult.{CallResult}
use Rattle.rudekpi_c.specs.Session.{stands, rules_of, limit_of, HasSameRules, CommandEnded}
use Rattle.rudekpi_c.specs.SilentDrives.{Silences}
use Rattle.rudekpi_c.specs.Slot.{IsPutBack}
use Rattle.rudekpi_c.specs.ReplyNumbers.{told_of, entry_status}
use Rattle.rudekpi_c.specs.CommandCalls.{AnswersCommand, IsCommandOutcome, number_at, reply_kept, command_status}

follows_of : (t : RuleTable) (limit : ℕ) (command : Command) (number : ℕ) (reply : Reply) (before after : Progress) (result : Result Unit RecordFault)
    → CommandEnds t limit command before after result → number ≡ number_at command after.count result → reply ≡ reply_kept t command before result
    → IsCommandOutcome t limit command (command_status reply result) number reply before after
follows_of t limit command number reply before after (Ok done) does n r = inl (ap entry_status r, does, n, r)
follows_of t limit command number reply before after (Err LogFull) fills n r = inr (inl (refl, fills, n, r))
follows_of t limit command number reply before after (Err Memory) begun n r = inr (inr (refl, begun, n, r))

-- a command that was answered DONE was followed
silenced : (t : RuleTable) (command : Command) (reply : Reply) (before after : Progress) (result : Result Unit RecordFault) → command_status reply result ≡ 0
    → OnOk result (Silences t command before.moment.state after.moment.state) → Silences t command before.moment.state after.moment.state
silenced t command reply before after (Ok done) zero silent = silent
silenced t command reply before after (Err LogFull) zero silent = absurd (omega (arith, zero))
silenced t command reply before after (Err Memory) zero silent = absurd (omega (arith, zero))

-- a session was taken out, has followed a command and is put back
pub was_called : {command : Command} {status : ℕ} {told : CallResult} {old new : Option Session} (result : Result Unit RecordFault) (s followed : Session) → IsCommand command → old ≡ Some s
    → CommandEnded (rules_of s) (limit_of s) command (stands s) (stands followed) result → OnOk result (Silences (table_of (rules_of s)) command (stands s).moment.state (stands followed).moment.state)
    → followed.answer.seq ≡ number_at command (stands followed).count result → followed.answer.reply ≡ reply_kept (table_of (rules_of s)) command (stands s) result
    → HasSameRules s.machine followed.machine → followed.lines ≡ s.lines → followed.keeps ≡ s.keeps → IsPutBack followed new
    → status ≡ command_status followed.answer.reply result → told ≡ told_of followed.answer.seq followed.answer.reply → AnswersCommand command status told old new
was_called {command} result s followed good was ends silent number reply same lines keeps back status_is told_is =
    let t = table_of (rules_of s) in
    let answer = followed.answer in
    let follows = follows_of t (limit_of s) command answer.seq answer.reply (stands s) (stands followed) result ends number reply in
    inr (inr (
      good,
      record {
        s = s;
        t = record followed { machine = back.machine };
        was = was;
        is = back.is;
        goes_on = record { rules = back.same.0 ∙ same.0; limit = back.same.1 ∙ same.1; keeps = keeps };
        lines = lines;
        after = stands followed;
        follows = subst (λ n. IsCommandOutcome t (limit_of s) command n answer.seq answer.reply (stands s) (stands followed)) (sym status_is) follows;
        silent = λ zero. silenced t command answer.reply (stands s) (stands followed) result (sym status_is ∙ zero) silent;
        stands_is = back.stands_is;
        told_is = told_is;
      },
    ))
