use Rattle.cli_args.proofs.Prelude.{map, app_of, IsResumeStormTask, IsStormTask, MatchesTask}
use Rattle.cli_args.proofs.WordReadings.{answered, nothing_asked, taken, of_error}
use Rattle.cli_args.proofs.request.read_words.Goals as goal

pub returns-in-Ok-Some-clause-answers : goal.returns-in-Ok-Some-clause-answers
returns-in-Ok-Some-clause-answers g c =
    let made = c.in_ok-command.ensures in
    (answered (app_of c.in_ok-command.command) made.0 (map g.S.AsStr.text c.args.words.now) c.in-Ok.found _ c.in-Ok-Some.task c.input.result made.1 made.2 c.in-Ok.ensures.ok.2 c.in-Ok-Some.field-0-is c.in-Ok-Some.ensures.read c.input.ensures).0

pub returns-in-Ok-Some-clause-input : goal.returns-in-Ok-Some-clause-input
returns-in-Ok-Some-clause-input g c =
    let made = c.in_ok-command.ensures in
    (answered (app_of c.in_ok-command.command) made.0 (map g.S.AsStr.text c.args.words.now) c.in-Ok.found _ c.in-Ok-Some.task c.input.result made.1 made.2 c.in-Ok.ensures.ok.2 c.in-Ok-Some.field-0-is c.in-Ok-Some.ensures.read c.input.ensures).1

pub returns-in-Ok-None-clause-wanted : goal.returns-in-Ok-None-clause-wanted
returns-in-Ok-None-clause-wanted g c =
    let made = c.in_ok-command.ensures in
    let nothing = nothing_asked (app_of c.in_ok-command.command) made.0 (map g.S.AsStr.text c.args.words.now) c.in-Ok.found _ made.1 made.2 c.in-Ok.ensures.ok.2 c.in-Ok-None.field-0-is c.in-Ok-None.ensures.read in
    of_error c.refuse.result _ (λ e it w. absurd (nothing.0 it w))

pub returns-in-Ok-None-clause-wanted_storm : goal.returns-in-Ok-None-clause-wanted_storm
returns-in-Ok-None-clause-wanted_storm g c =
    let made = c.in_ok-command.ensures in
    let nothing = nothing_asked (app_of c.in_ok-command.command) made.0 (map g.S.AsStr.text c.args.words.now) c.in-Ok.found _ made.1 made.2 c.in-Ok.ensures.ok.2 c.in-Ok-None.field-0-is c.in-Ok-None.ensures.read in
    of_error c.refuse.result _ (λ e it w. absurd (nothing.1 it w))

pub returns-in-Ok-None-clause-wanted_resume : goal.returns-in-Ok-None-clause-wanted_resume
returns-in-Ok-None-clause-wanted_resume g c =
    let made = c.in_ok-command.ensures in
    let nothing = nothing_asked (app_of c.in_ok-command.command) made.0 (map g.S.AsStr.text c.args.words.now) c.in-Ok.found _ made.1 made.2 c.in-Ok.ensures.ok.2 c.in-Ok-None.field-0-is c.in-Ok-None.ensures.read in
    of_error c.refuse.result _ (λ e it w. absurd (nothing.2 it w))

pub returns-in-Err-clause-wanted : goal.returns-in-Err-clause-wanted
returns-in-Err-clause-wanted g c it w =
    let made = c.in_ok-command.ensures in
    c.in-Err.ensures.passes (taken (app_of c.in_ok-command.command) made.0 (map g.S.AsStr.text c.args.words.now) (λ found. MatchesTask found it) made.1 made.2 w)

pub returns-in-Err-clause-wanted_storm : goal.returns-in-Err-clause-wanted_storm
returns-in-Err-clause-wanted_storm g c it w =
    let made = c.in_ok-command.ensures in
    c.in-Err.ensures.passes (taken (app_of c.in_ok-command.command) made.0 (map g.S.AsStr.text c.args.words.now) (λ found. IsStormTask found it) made.1 made.2 w)

pub returns-in-Err-clause-wanted_resume : goal.returns-in-Err-clause-wanted_resume
returns-in-Err-clause-wanted_resume g c it w =
    let made = c.in_ok-command.ensures in
    c.in-Err.ensures.passes (taken (app_of c.in_ok-command.command) made.0 (map g.S.AsStr.text c.args.words.now) (λ found. IsResumeStormTask found it) made.1 made.2 w)
