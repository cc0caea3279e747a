-- What the proofs of this crate import from the crates below and from its own definitions.
pub use Rattle.std.proofs.Common.{◌≡◌, ◌∙◌, ℕ, ◌+◌, List, [], ◌∷◌, ◌++◌, length, take, Option, None, Some, true, false, Result, Ok, Err, Bool, inl, inr, refl, sym, ap, subst, append-nil, arith, true≢false, IfSome, take_at, ◌<◌, drop, append_assoc, length-append, zero, suc, rules, length-take, ◌≤◌, ◌≢◌, ◌⊎◌, ◌-◌, ◌*◌}
pub use Rattle.std.proofs.KnownBytes.{Appends-nil, Appends-trans, Consumes-nil, Consumes-trans, Consumes-whole, Consumes-kept}
pub use Rattle.std.proofs.Math.Seq.{take-append_seam, take-append-add, take-length}
pub use Rattle.std.proofs.lemmas.Bool.{cases_lt}
pub use Rattle.std.proofs.lemmas.List.{nil_from_length, take-append-drop}
pub use Rattle.std.proofs.lemmas.List.Elements.{All-nil, All-push}
pub use Rattle.std.proofs.lemmas.Option.{IfSome_then}
pub use Rattle.std.specs.Io.KnownBytes.{Appends, Consumes, IsAtEnd, Keeps}
pub use Rattle.byte_streams.specs.Lines.{IsLine}
pub use Rattle.byte_streams.specs.PartialOutput.{AppendsBeginning, AppendsLess}
pub use Rattle.line_text.specs.BaseText.{base_text}
pub use Rattle.line_text.specs.EntryText.{entry_line}
pub use Rattle.rand_core.specs.Stream.{Stream}
pub use Rattle.rule_machine.specs.Base.{base_of}
pub use Rattle.rule_machine.specs.Least.{reply_of, state_after}
pub use Rattle.rule_machine.specs.RuleTable.{RuleTable}
pub use Rattle.rule_machine.specs.Run.{Moment, moment_after}
pub use Rattle.rule_machine.specs.declared.event.Event.{Event}
pub use Rattle.rule_machine.specs.declared.rule_set.RuleSet.{RuleSet}
pub use Rattle.run_session.proofs.Returned.{returned}
pub use Rattle.run_session.proofs.TurnProgress.{turns_compose, turns_all, turns_begun, turns_rest, turns_full}
pub use Rattle.run_session.specs.Line.{TurnTakes, TurnsTake, SomeTurnsEnd, TurnsBegin, CommandBegins, CommandEnds, FailsToRead, SaysSome, progress}
pub use Rattle.run_session.specs.declared.line_error.LineError.{LineError}
pub use Rattle.run_session.specs.declared.line_error.LineError.TheVariants.{Record}
pub use Rattle.script_text.proofs.Lengths.{long_says_nothing}
pub use Rattle.script_text.proofs.LineEnds.{GoesOn, goes_on, line_joined, lines_of-ended, lines_of-last}
pub use Rattle.round_laws.specs.RoundCounts.{RoundCount, next_counting}
pub use Rattle.script_text.specs.Command.{Says}
pub use Rattle.script_text.specs.Script.{Progress, LineDoes, LinesDo, lines_of, IsBadLine, AppendsEntry, IsFull, EventDoes, TurnDoes, TurnsDo, TurnFills, TurnsFill, with_checkpoint, CommandDoes, CommandFills, MeetsFullLog}
pub use Rattle.script_text.specs.declared.command.Command.{Command}
pub use Rattle.script_text.specs.declared.command.Command.TheVariants.{Tell, Drive, Scramble, Checkpoint}
pub use Rattle.seeded_turns.specs.DrawnEvents.{Draws, seeded_stream, drawn_step, drawn_fault}
pub use Rattle.step_log.specs.declared.fault.RecordFault.{RecordFault}
pub use Rattle.step_log.specs.declared.fault.RecordFault.TheVariants.{LogFull, Memory}
pub use Rattle.script_run.specs.Line.{with_text, StepEnds, TurnsWrite, CommandEndsAtOnce, CommandWrites, LineWrites}
pub use Rattle.script_run.specs.LineFaults.{fault_of}
pub use Rattle.script_run.specs.Outcome.{EndsScript, EndsFrom, LinesLeadTo, LinesReach, StopsAtLine}
pub use Rattle.script_run.specs.ReadProgress.{IsReadUpTo, PieceEnds}
pub use Rattle.script_run.specs.RunEnds.{SplitsOutput, TakesFirstTurns, TurnsLeadTo, EndsReading, ends_unwritten}
pub use Rattle.script_run.specs.WholeLines.{DoesWholeLines, ended_text}
pub use Rattle.script_run.specs.declared.fault.RunFault.{RunFault}
pub use Rattle.script_run.specs.declared.fault.RunFault.TheVariants.{BadLine, Write, Pool}
