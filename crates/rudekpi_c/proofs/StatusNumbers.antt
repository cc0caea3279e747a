-- The numbers of a status call.
use Rattle.std.proofs.Common.{◌≡◌, ◌∙◌, ℕ, Option, inl, inr, sym, ap, subst, arith}
use Rattle.std.specs.Prelude.{IfSome}
use Rattle.rule_machine.specs.declared.event.Event.TheVariants.{Status}
use Rattle.rule_machine.specs.Tables.{table_of}
use Rattle.script_text.specs.declared.command.Command.TheVariants.{Tell}
use Rattle.rudekpi_c.specs.declared.calls.StatusCounts.{StatusCounts}
use Rattle.rudekpi_c.specs.declared.session.Session.{Session}
use Rattle.rudekpi_c.specs.declared.call_result.CallResult.{CallResult}
use Rattle.rudekpi_c.specs.Session.{stands, rules_of, limit_of}
use Rattle.rudekpi_c.specs.CommandCalls.{AnswersCommand, IsCommandAnswer, IsCommandOutcome}
use Rattle.rudekpi_c.specs.CountCalls.{AnswersCounts, status_counts, counted_in, counted_kept, counts_at}

counted_by : {status : ℕ} {told : CallResult} {counts : StatusCounts} {old new : Option Session} (called : IsCommandAnswer (Tell Status) status told old new) → counts ≡ counted_kept new
    → IsCommandOutcome (table_of (rules_of called.s)) (limit_of called.s) (Tell Status) status called.t.answer.seq called.t.answer.reply (stands called.s) called.after → AnswersCounts status counts old
counted_by {counts = counts} called is (inl f) =
    record {
      done = λ _. subst (λ (o : Option Session). IfSome o (λ s. counts ≡ status_counts (counts_at s))) (sym called.was) (is ∙ ap counted_kept called.is ∙ ap counted_in f.3);
      undone = λ other. absurd (other f.0);
    }
counted_by called is (inr (inl f)) = record { done = λ zero. absurd (omega (arith, zero, f.0)); undone = λ _. is ∙ ap counted_kept called.is ∙ ap counted_in f.3 }
counted_by called is (inr (inr f)) = record { done = λ zero. absurd (omega (arith, zero, f.0)); undone = λ _. is ∙ ap counted_kept called.is ∙ ap counted_in f.3 }

pub counted_of_call : (status : ℕ) (told : CallResult) (counts : StatusCounts) (old new : Option Session) → AnswersCommand (Tell Status) status told old new → counts ≡ counted_kept new → AnswersCounts status counts old
counted_of_call status told counts old new (inl bad) is = absurd (bad.0 tt)
counted_of_call status told counts old new (inr (inl nobody)) is = record { done = λ zero. absurd (omega (arith, zero, nobody.1.0)); undone = λ _. is ∙ ap counted_kept nobody.1.2 }
counted_of_call status told counts old new (inr (inr called)) is = counted_by called.1 is called.1.follows
