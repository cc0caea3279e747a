use Rattle.script_run.proofs.Prelude.{lines_of}
use Rattle.script_run.proofs.RunEnds.{WritesPart-none, Ends-asked, Whole-asked, for_any}
use Rattle.script_run.proofs.runner.run_on.Goals as goal

pub returns-in_default-clause-outcome : goal.returns-in_default-clause-outcome
returns-in_default-clause-outcome g c =
    for_any (g.In.Read.remaining c.args.reader.now.reader) _ (λ script. WritesPart-none g.R.Rules.table c.args.options.now.limit (lines_of script) _ _)

pub returns-clause-outcome : goal.returns-clause-outcome
returns-clause-outcome g c =
    Ends-asked c.in-Ok.ensures.limit c.in-Ok.ensures.begins g.R.Rules.table _ _ _ c.play.result c.play.ensures.outcome

pub returns-clause-whole : goal.returns-clause-whole
returns-clause-whole g c unread =
    Whole-asked c.in-Ok.ensures.limit c.in-Ok.ensures.begins g.R.Rules.table _ _ _ (c.play.ensures.whole unread)
