use Rattle.storm_runner.proofs.Prelude.{◌≡◌, List, sym, subst, ScriptLine, AllHold}
use Rattle.std.proofs.Common.{map, true}
use Rattle.storm_runner.proofs.Outcomes.{keeps_all, told_not_left, told_failed, told_met, done_all, not_of_call}
use Rattle.storm_runner.proofs.storming.storm_on.Goals as goal

pub returns-in_err-journal-clause-outcome : goal.returns-in_err-journal-clause-outcome
returns-in_err-journal-clause-outcome g c =
    let told = c.from_residual-in_err-journal in
    let texts = map g.In.Read.remaining c.args.readers.items in
    let held = subst (λ (ss : List (List ScriptLine)). AllHold texts ss) (sym c.deref.ensures.value) c.in_ok-scripts.ensures.scripts in
    told_not_left g.R.Rules.table g.R.Rules.NODE_WEIGHT _ texts _ _ _ c.in_err-journal.field-0.0 told.result told.ensures.0 told.ensures.1 held c.in_err-journal.ensures.fault (keeps_all (g.Out.Write.contents c.args.writer.now.writer))

pub returns-in_err-write_log-clause-outcome : goal.returns-in_err-write_log-clause-outcome
returns-in_err-write_log-clause-outcome g c =
    let told = c.from_residual-in_err-write_log in
    let texts = map g.In.Read.remaining c.args.readers.items in
    let held = subst (λ (ss : List (List ScriptLine)). AllHold texts ss) (sym c.deref.ensures.value) c.in_ok-scripts.ensures.scripts in
    told_failed texts _ _ c.in_err-write_log.field-0.0 told.result told.ensures.0 told.ensures.1
    held c.in_ok-journal.ensures.log c.in_err-write_log.ensures.fault

pub returns-in-Some-clause-outcome : goal.returns-in-Some-clause-outcome
returns-in-Some-clause-outcome g c =
    let texts = map g.In.Read.remaining c.args.readers.items in
    let held = subst (λ (ss : List (List ScriptLine)). AllHold texts ss) (sym c.deref.ensures.value) c.in_ok-scripts.ensures.scripts in
    told_met texts _ _ c.in-Some.fault c.from.result c.in-Some.is c.from.ensures
    held c.in_ok-journal.ensures.log c.in_ok-write_log.ensures.ok

pub returns-in-Some-clause-unwritten : goal.returns-in-Some-clause-unwritten
returns-in-Some-clause-unwritten g c same = not_of_call (c.write_log.new.writer.failed ≡ true) c.in-Some.fault c.from.result c.from.ensures same

pub returns-clause-outcome : goal.returns-clause-outcome
returns-clause-outcome g c =
    let texts = map g.In.Read.remaining c.args.readers.items in
    let held = subst (λ (ss : List (List ScriptLine)). AllHold texts ss) (sym c.deref.ensures.value) c.in_ok-scripts.ensures.scripts in
    done_all texts _ _ c.in-None.is held c.in_ok-journal.ensures.log c.in_ok-write_log.ensures.ok
