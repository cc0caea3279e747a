use Rattle.storm_runner.specs.Outcome.{opening_start}
use Rattle.command_line.proofs.AcceptedStorms.{resumed_storm_accepted, resumed_storm_behind, storm_accepted}
use Rattle.command_line.proofs.accepted.storms_are_accepted.Goals as goal

pub returns-clause-storm : goal.returns-clause-storm
returns-clause-storm c asked texts old new result within ends = storm_accepted (opening_start asked) texts within old new result ends

pub returns-clause-resumed : goal.returns-clause-resumed
returns-clause-resumed c from texts old new result ends = resumed_storm_accepted from texts old new result ends

pub returns-clause-joined : goal.returns-clause-joined
returns-clause-joined c first end from texts old new result is rules state ends = resumed_storm_behind first end from is rules state texts old new result ends
