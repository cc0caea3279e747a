-- What the proofs of this crate import from the crates below and from its own definitions.
pub use Rattle.std.proofs.Common.{◌≡◌, ◌∙◌, Result, Err, IsErrAnd, ap, ℕ, ◌≤◌, List, [], Ok, OnOk, sym, subst, arith, zero, suc, ◌+◌, ◌-◌, ◌<◌, Option, None, Some, inl, inr, refl, true, false, Bool, MatchOption}
pub use Rattle.std.proofs.lemmas.Result.{err_from_is_err_and}
pub use Rattle.machine_laws.specs.ChargeWords.{IsCharged}
pub use Rattle.line_text.specs.Parsing.{kept_if}
pub use Rattle.machine_laws.proofs.LeastMoves.{IsTable}
pub use Rattle.rand_core.specs.Stream.{Stream}
pub use Rattle.rule_machine.specs.RuleTable.{RuleTable, enabled_names}
pub use Rattle.rule_machine.specs.State.{IsState}
pub use Rattle.rule_machine.specs.declared.event.Event.{Event}
pub use Rattle.script_text.proofs.Once.{says_once, head_of}
pub use Rattle.script_text.proofs.Silence.{turns_end_silent}
pub use Rattle.script_text.specs.Command.{Says}
pub use Rattle.script_text.specs.Script.{Progress, CommandDoes, AppendsEntry, TurnDoes, TurnsDo, TurnFills, TurnsFill}
pub use Rattle.script_text.specs.declared.command.Command.{Command}
pub use Rattle.script_text.specs.declared.command.Command.TheVariants.{Drive}
pub use Rattle.script_text.specs.declared.command.Turns.{Turns}
pub use Rattle.seeded_turns.specs.DrawnEvents.{seeded_stream, drawn_step, drawn_fault, Draws}
pub use Rattle.step_log.specs.declared.fault.RecordFault.{RecordFault}
pub use Rattle.step_log.specs.declared.fault.RecordFault.TheVariants.{LogFull, Memory}
pub use Rattle.run_session.specs.Line.{TurnTakes, TurnsTake, SomeTurnsEnd, TurnsEnd, EventEnds, TurnsBegin, CommandEnds, SaysSome, progress}
pub use Rattle.run_session.specs.declared.run.Run.{Run}
