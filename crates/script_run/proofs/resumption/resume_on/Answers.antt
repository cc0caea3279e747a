use Rattle.script_run.proofs.Prelude.{◌≡◌, ◌∙◌, ℕ, ◌≤◌, [], ap, arith, lines_of, progress, with_checkpoint}
use Rattle.std.proofs.Common.{ap₂}
use Rattle.std.specs.Prelude.{max, min}
use Rattle.rule_machine.specs.RuleTable.{RuleTable}
use Rattle.step_log.specs.Recording.{Recording, resumed_recording}
use Rattle.script_run.proofs.RunEnds.{WritesPart-none, Ends-asked, Whole-asked, for_any}
use Rattle.script_run.proofs.resumption.resume_on.Goals as goal

limit_kept : (number limit : ℕ) → number ≤ limit → limit ≤ 16777216 → max number (min limit 16777216) ≡ limit
limit_kept number limit within few = grind arith

pub of_state-requires-clause-unflagged : goal.of_state-requires-clause-unflagged
of_state-requires-clause-unflagged g c none v = c.args.restart.unflagged (ap (λ (t : RuleTable). t.flags) c.requires.table ∙ none) v

pub returns-in_default-clause-outcome : goal.returns-in_default-clause-outcome
returns-in_default-clause-outcome g c =
    for_any (g.In.Read.remaining c.args.reader.now.reader) _ (λ script. WritesPart-none g.R.Rules.table c.args.restart.limit (lines_of script) _ _)

pub returns-in_default-resume-clause-outcome : goal.returns-in_default-resume-clause-outcome
returns-in_default-resume-clause-outcome g c =
    for_any (g.In.Read.remaining c.args.reader.now.reader) _ (λ script. WritesPart-none g.R.Rules.table c.args.restart.limit (lines_of script) _ _)

pub returns-clause-outcome : goal.returns-clause-outcome
returns-clause-outcome g c =
    let restart = c.args.restart in
    let same = c.of_net-recorder.ensures ∙ ap₂ (λ m counting. resumed_recording m counting restart.number restart.limit) c.in-Ok.ensures.moment c.in-Ok.ensures.uncounted in
    let limit = c.in-Ok-resume.ensures.limit ∙ ap (λ (r : Recording). r.limit) same ∙ limit_kept restart.number restart.limit restart.numbered restart.few_entries in
    let begins = c.in-Ok-resume.ensures.begins ∙ ap (λ (r : Recording). with_checkpoint (progress restart.rules r [])) same in
    Ends-asked limit begins g.R.Rules.table _ _ _ c.play.result c.play.ensures.outcome

pub returns-clause-whole : goal.returns-clause-whole
returns-clause-whole g c unread =
    let restart = c.args.restart in
    let same = c.of_net-recorder.ensures ∙ ap₂ (λ m counting. resumed_recording m counting restart.number restart.limit) c.in-Ok.ensures.moment c.in-Ok.ensures.uncounted in
    let limit = c.in-Ok-resume.ensures.limit ∙ ap (λ (r : Recording). r.limit) same ∙ limit_kept restart.number restart.limit restart.numbered restart.few_entries in
    let begins = c.in-Ok-resume.ensures.begins ∙ ap (λ (r : Recording). with_checkpoint (progress restart.rules r [])) same in
    Whole-asked limit begins g.R.Rules.table _ _ _ (c.play.ensures.whole unread)
