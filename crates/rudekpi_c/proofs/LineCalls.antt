-- What a line has done to a session that C keeps.
use Rattle.std.proofs.Common.{◌≡◌, ◌∙◌, ◌+◌, ◌-◌, ◌^◌, ℕ, List, Option, Some, Result, Ok, Err, IsOk, inl, inr, refl, sym, subst, arith}
use Rattle.std.specs.Prelude.{min}
use Rattle.rule_machine.specs.Tables.{table_of}
use Rattle.script_text.specs.Script.{Progress}
use Rattle.step_log.specs.declared.fault.RecordFault.TheVariants.{LogFull, Memory}
use Rattle.run_session.specs.declared.line_error.LineError.{LineError}
use Rattle.run_session.specs.declared.line_error.LineError.TheVariants.{BadLine, Record}
use Rattle.rudekpi_c.specs.declared.session.Machine.{Machine}
use Rattle.rudekpi_c.specs.declared.session.Session.{Session}
use Rattle.rudekpi_c.specs.Session.{stands, stands_at, rules_of, limit_of, HasSameRules, LineEnded}
use Rattle.rudekpi_c.specs.SilentDrives.{LineSilences}
use Rattle.rudekpi_c.specs.Slot.{AnswersLine, AnswersFeed, IsPutBack, line_status}

does_of : (line : List ℕ) (number : ℕ) (s : Session) (after : Progress) (result : Result Unit LineError) → LineEnded (rules_of s) (limit_of s) number line (stands s) after result → AnswersLine line (line_status result) s after
does_of line number s after (Ok done) does = inl (refl, does)
does_of line number s after (Err (BadLine n)) bad = inr (inl (refl, bad.1, bad.2))
does_of line number s after (Err (Record LogFull)) full = inr (inr (inl (refl, full)))
does_of line number s after (Err (Record Memory)) begun = inr (inr (inr (refl, begun)))

carried_out : (result : Result Unit LineError) → line_status result ≡ 0 → IsOk result
carried_out (Ok done) zero = refl
carried_out (Err (BadLine n)) zero = absurd (omega (arith, zero))
carried_out (Err (Record LogFull)) zero = absurd (omega (arith, zero))
carried_out (Err (Record Memory)) zero = absurd (omega (arith, zero))

-- a session was taken out, has carried out a line and is put back
pub was_fed : {line : List ℕ} {was number status : ℕ} {old new : Option Session} (result : Result Unit LineError) (s : Session) (fed : Machine) → old ≡ Some s → number ≡ min (s.lines + 1) (2 ^ 64 - 1)
    → LineEnded (rules_of s) (limit_of s) number line (stands s) (stands_at fed) result → (IsOk result → LineSilences (table_of (rules_of s)) line (stands s).moment.state (stands_at fed).moment.state)
    → HasSameRules s.machine fed → IsPutBack (record s { machine = fed; lines = number }) new → status ≡ line_status result → AnswersFeed line was status number old new
was_fed {line} {number = number} result s fed was number_is ends silent same back told =
    inl (record {
      s = s;
      t = record s { machine = back.machine; lines = number };
      was = was;
      is = back.is;
      next = record { number_is = refl; lines_is = number_is; goes_on = record { rules = back.same.0 ∙ same.0; limit = back.same.1 ∙ same.1; keeps = refl }; answer_is = refl };
      after = stands_at fed;
      does = subst (λ n. AnswersLine line n s (stands_at fed)) (sym told) (does_of line number s (stands_at fed) result ends);
      silent = λ zero. silent (carried_out result (sym told ∙ zero));
      stands_is = back.stands_is;
    })
