use Rattle.cli_args.proofs.Prelude.{◌≡◌, arith, rules, ap, Some, ◌∙◌, codes, Text, found_of, rows_of, subcommand_rows_of, out-ArgMatches}
use Rattle.cli_args.proofs.FoundMatches.{asked, first_same, parts_are}
use Rattle.cli_args.proofs.StormReadings.{storm_asked}
use Rattle.cli_args.proofs.task.task_of.Goals as goal

pub returns-then-eq-clause-read : goal.returns-then-eq-clause-read
returns-then-eq-clause-read c =
    let rows = rows_of (found_of c.in-Some.inner.now) in
    let run : c.in-Some.name.now ≡ codes "run" = search rules in
    let parts : subcommand_rows_of c.args.found.now ≡ Some (c.in-Some.name.now, rows) = parts_are _ _ (out-ArgMatches c.args.found.now).subcommand c.in-Some.name.now rows c.in-Some.ensures.name c.in-Some.ensures.rows in
    asked (subcommand_rows_of c.args.found.now) (codes "run") rows c.run_task.result (parts ∙ ap (λ (z : Text). Some (z, rows)) run) (λ e. omega (arith, first_same e)) c.run_task.ensures

pub returns-then-eq-3-clause-read : goal.returns-then-eq-3-clause-read
returns-then-eq-3-clause-read c =
    let rows = rows_of (found_of c.in-Some.inner.now) in
    let picture : c.in-Some.name.now ≡ codes "picture" = search rules in
    let parts : subcommand_rows_of c.args.found.now ≡ Some (c.in-Some.name.now, rows) = parts_are _ _ (out-ArgMatches c.args.found.now).subcommand c.in-Some.name.now rows c.in-Some.ensures.name c.in-Some.ensures.rows in
    asked (subcommand_rows_of c.args.found.now) (codes "picture") rows c.picture_task.result (parts ∙ ap (λ (z : Text). Some (z, rows)) picture) (λ e. omega (arith, first_same e)) c.picture_task.ensures

pub returns-then-eq-5-clause-read : goal.returns-then-eq-5-clause-read
returns-then-eq-5-clause-read c =
    let rows = rows_of (found_of c.in-Some.inner.now) in
    let storm : c.in-Some.name.now ≡ codes "storm" = search rules in
    let parts : subcommand_rows_of c.args.found.now ≡ Some (c.in-Some.name.now, rows) = parts_are _ _ (out-ArgMatches c.args.found.now).subcommand c.in-Some.name.now rows c.in-Some.ensures.name c.in-Some.ensures.rows in
    storm_asked (subcommand_rows_of c.args.found.now) rows c.storm_task.result (parts ∙ ap (λ (z : Text). Some (z, rows)) storm) c.storm_task.ensures.read
