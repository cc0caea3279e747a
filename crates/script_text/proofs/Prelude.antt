-- What the proofs of this crate import from the crates below and from its own definitions.
pub use Rattle.std.proofs.Common.{ℕ, ◌<◌, ◌≤◌, inl, List, length, codes, ap, length-append, arith, ◌≡◌, ◌==◌, Bool, true, false, if◌then◌else◌, [], ◌∷◌, ◌++◌, refl, ◌∙◌, zero, suc, ◌+◌, ◌*◌, ◌||◌, nat_eq, Option, None, Some, get_or, sym, subst, append_assoc, map, drop, Result, Ok, Err, IfOk, ⊎_elim, inr, ◌^◌, take, add-one}
pub use Rattle.std.proofs.lemmas.Bool.{eqb-true, true≢false}
pub use Rattle.std.proofs.lemmas.Fmt.{length-decimal-le, digits_decimal}
pub use Rattle.std.proofs.lemmas.Iterator.Adapters.{YieldsList-from_vec}
pub use Rattle.std.proofs.lemmas.Iterator.Consumers.{YieldsList-end}
pub use Rattle.std.proofs.lemmas.List.{append_cancel_left, append-nil, drop_all, take_rest, length-map}
pub use Rattle.std.proofs.lemmas.Str.Parse.{digit_from_value}
pub use Rattle.std.specs.Int.{IsInRange}
pub use Rattle.std.specs.Option.{option_map}
pub use Rattle.std.specs.Prelude.{slice_index}
pub use Rattle.std.specs.Str.Parse.{AllDigits}
pub use Rattle.byte_streams.specs.Lines.{IsLine}
pub use Rattle.machine_laws.proofs.Laws.{hsu_huang_charged, manne_charged}
pub use Rattle.machine_laws.proofs.Tables.{hsu_huang_table, manne_table}
pub use Rattle.machine_laws.specs.ChargeWords.{IsCharged}
pub use Rattle.daemon.specs.DrawnChoices.{choice_drawn}
pub use Rattle.line_text.proofs.Digits.{own}
pub use Rattle.line_text.proofs.EventLengths.{two_short, event_short}
pub use Rattle.line_text.proofs.EventsOnce.{spells_once}
pub use Rattle.line_text.specs.EventText.{event_text}
pub use Rattle.line_text.specs.Words.{number_text}
pub use Rattle.machine_laws.proofs.AcceptedEvents.{state_after_keeps}
pub use Rattle.machine_laws.proofs.LeastMoves.{IsTable}
pub use Rattle.machine_laws.proofs.Neighbours.{option_cases}
pub use Rattle.rand_core.specs.Stream.{Stream}
pub use Rattle.rule_machine.specs.HsuHuang.{hsu_huang}
pub use Rattle.rule_machine.specs.Least.{state_after}
pub use Rattle.rule_machine.specs.Manne.{manne}
pub use Rattle.rule_machine.specs.RuleTable.{RuleTable, enabled_names}
pub use Rattle.rule_machine.specs.Run.{Moment}
pub use Rattle.rule_machine.specs.State.{State, IsState}
pub use Rattle.rule_machine.specs.declared.choice.Item.{Item}
pub use Rattle.rule_machine.specs.declared.event.Event.{Event}
pub use Rattle.rule_machine.specs.declared.event.Event.TheVariants.{Link, Step}
pub use Rattle.seeded_turns.specs.DrawnEvents.{Draws, seeded_stream, drawn_step, drawn_fault}
pub use Rattle.script_text.specs.Command.{IsTurns, IsCommand, turns_text, command_text, SaysNothing, Says}
pub use Rattle.script_text.specs.Readers.{AllHold, FirstBadScript}
pub use Rattle.script_text.specs.Script.{lines_of, onto_first, Progress, AppendsEntry, TurnDoes, TurnsDo, CommandDoes, LineDoes, LinesDo, IsBadLine}
pub use Rattle.script_text.specs.Texts.{LineHolds, LinesHold, IsGoodLine, FirstBad, TextHolds, EndsInLine, IsReadSoFar, IsReadUntil}
pub use Rattle.script_text.specs.declared.command.Command.{Command}
pub use Rattle.script_text.specs.declared.command.Command.TheVariants.{Tell, Drive, Scramble, Checkpoint}
pub use Rattle.script_text.specs.declared.command.Turns.{Turns}
pub use Rattle.script_text.specs.declared.script.ScriptLine.{ScriptLine}
