use Rattle.std.proofs.Common.{◌≡◌, ◌∙◌, ℕ, ◌≤◌, [], IfOk, ap, ap₂, subst, arith}
use Rattle.std.specs.Prelude.{max, min}
use Rattle.rule_machine.specs.RuleTable.{RuleTable}
use Rattle.step_log.specs.Recording.{Recording, resumed_recording}
use Rattle.script_text.specs.Script.{with_checkpoint}
use Rattle.run_session.specs.Line.{progress, progress_of}
use Rattle.rudekpi_c.proofs.session.resumed_run.Goals as goal

limit_kept : (number : ℕ) → number ≤ 16777216 → max number (min 16777216 16777216) ≡ 16777216
limit_kept number few = grind arith

pub of_state-requires-clause-unflagged : goal.of_state-requires-clause-unflagged
of_state-requires-clause-unflagged g c none v = c.requires.goes_on.unflagged (ap (λ (t : RuleTable). t.flags) c.requires.table ∙ none) v

pub returns-clause-begins : goal.returns-clause-begins
returns-clause-begins g c =
    let end = c.args.end in
    let same = c.of_net.ensures ∙ ap₂ (λ m counting. resumed_recording m counting end.number 16777216) c.in_ok-net.ensures.moment c.in_ok-net.ensures.uncounted in
    subst (λ (r : Recording). IfOk c.resume.result (λ run. progress_of run ≡ with_checkpoint (progress end.rules r []))) same c.resume.ensures.begins

pub returns-clause-limit : goal.returns-clause-limit
returns-clause-limit g c =
    let end = c.args.end in
    let same = c.of_net.ensures ∙ ap₂ (λ m counting. resumed_recording m counting end.number 16777216) c.in_ok-net.ensures.moment c.in_ok-net.ensures.uncounted in
    subst (λ n. IfOk c.resume.result (λ run. run.recorder.limit ≡ n)) (ap (λ (r : Recording). r.limit) same ∙ limit_kept end.number c.requires.goes_on.few) c.resume.ensures.limit
