-- What the proofs of this crate import from the crates below and from its own definitions.
pub use Rattle.std.proofs.Common.{◌≡◌, ℕ, ◌<◌, ◌∷◌, [], Bool, false, not, Option, None, Some, IfSome, IsSomeAnd, MatchOption, refl, is_some, ◌∙◌, suc, ◌+◌, List, ◌++◌, drop, slice_get, sym, ap, append_assoc, add-one, drop-cons, ◌≢◌, ◌↔◌, ◌≤◌, length, take, Result, Ok, Err, IfErr, OnOk, IsErrOf, ⊎_elim, subst, arith, All, length-drop, take_all, true, OnErr, true≢false, length-append, inl, inr, IsErr, IsErrAnd, get_or, ◌||◌, ap₂, append-nil, take-append-drop, IsNone, option_map, ◌-◌, vec_len, rules}
pub use Rattle.std.proofs.KnownBytes.{Appends-trans}
pub use Rattle.std.proofs.Math.Bool.{or-false}
pub use Rattle.std.proofs.Math.Seq.{take-append-add}
pub use Rattle.std.proofs.lemmas.Bool.{false≢true}
pub use Rattle.std.proofs.lemmas.List.{nil_from_length, take_more, append_cancel_left}
pub use Rattle.std.proofs.lemmas.List.Elements.{All-nil, All-cons, All-head, All-tail, All-weaker, All-append, All-push}
pub use Rattle.std.proofs.lemmas.List.Folds.{list_any_more, list_any-append}
pub use Rattle.std.proofs.lemmas.Option.{slice_get_within, get_or_from_slice_get}
pub use Rattle.std.specs.Io.KnownBytes.{Appends}
pub use Rattle.std.specs.Option.{option_or}
pub use Rattle.std.specs.Result.{result_err}
pub use mathlib.Core.List.{IsPrefix}
pub use Rattle.byte_streams.specs.PartialOutput.{AppendsLess}
pub use Rattle.daemon.specs.DrawnChoices.{choice_drawn}
pub use Rattle.line_text.specs.EventText.{IsEvent}
pub use Rattle.line_text.specs.ReplyText.{IsReply}
pub use Rattle.line_text.specs.EntryText.{entry_line, entry_lines}
pub use Rattle.line_text.specs.Words.{Extends, number_text}
pub use Rattle.locked_net.proofs.ReceiptAddition.{seen_few, front_more}
pub use Rattle.locked_net.proofs.Turns.{turns_on}
pub use Rattle.locked_net.specs.Calls.{Keeps, call_fault}
pub use Rattle.locked_net.specs.ChosenEvents.{ChoosesOn, IsChosenReply}
pub use Rattle.locked_net.specs.ClerkCalls.{some_of}
pub use Rattle.locked_net.specs.Nets.{setting_of, book_of, beginning_of, name_count_of, first_nodes_of, log_limit_of}
pub use Rattle.locked_net.specs.PublishedJournals.{PublishedJournalView}
pub use Rattle.locked_net.specs.Receipts.{ClerkView, front_of, base_from, seen_by, noted, HasNoteOf, IsOfBook, fresh, front_from, greater_base}
pub use Rattle.locked_net.specs.RoamResults.{AllEnd, AllRoam, RoamResult, KeepsNote, AllKeepNotes, MayEnd, MayMeetRoamFault, roam_call_fault}
pub use Rattle.locked_net.specs.Settings.{Setting, IsLogIn}
pub use Rattle.locked_net.specs.declared.fault.CallFault.{CallFault}
pub use Rattle.locked_net.specs.declared.fault.CallFault.TheVariants.{Behind, LogFull, Memory}
pub use Rattle.locked_net.specs.declared.fault.RoamFault.{RoamFault}
pub use Rattle.locked_net.specs.declared.fault.RoamFault.TheVariants.{ZeroWorkers, Thread}
pub use Rattle.logbook.specs.Pages.{Book}
pub use Rattle.rand_core.specs.Stream.{Stream}
pub use Rattle.rule_machine.specs.Base.{dropped}
pub use Rattle.rule_machine.specs.declared.base.Base.{Base}
pub use Rattle.rule_machine.specs.RuleTable.{RuleTable, enabled_names}
pub use Rattle.rule_machine.specs.Run.{Entry}
pub use Rattle.rule_machine.specs.State.{State}
pub use Rattle.rule_machine.specs.declared.choice.Item.{Item}
pub use Rattle.rule_machine.specs.declared.event.Event.{Event}
pub use Rattle.rule_machine.specs.declared.event.Event.TheVariants.{Step}
pub use Rattle.rule_machine.specs.declared.reply.Reply.{Reply}
pub use Rattle.script_run.specs.RunOptions.{OptionsView, asked_of}
pub use Rattle.script_text.specs.Readers.{AllHold}
pub use Rattle.script_text.specs.declared.command.Command.{Command}
pub use Rattle.script_text.specs.declared.command.Command.TheVariants.{Tell, Drive, Scramble, Checkpoint}
pub use Rattle.script_text.specs.declared.command.Turns.{Turns}
pub use Rattle.script_text.specs.declared.script.ScriptLine.{ScriptLine}
pub use Rattle.seeded_turns.specs.DrawnEvents.{Draws, seeded_stream, drawn_step, drawn_fault, pcg32_stream}
pub use Rattle.snapshots.proofs.Fronts.{prefix_trans}
pub use Rattle.snapshots.specs.Views.{PublishedLog}
pub use Rattle.step_log.specs.Headline.{Upholds}
pub use Rattle.step_log.specs.JournalViews.{kept_of}
pub use Rattle.step_log.specs.RetainedLogs.{RetainedLog, IsRetainedRun, last_number, next_receipt}
pub use Rattle.step_log.specs.declared.receipt.Receipt.{Receipt}
pub use Rattle.storm_runner.specs.Faults.{of_call}
pub use Rattle.storm_runner.specs.RetainedText.{IsWritableEntry, AreWritable}
pub use Rattle.storm_runner.specs.Outcome.{Leaves, LeavesText, EndsAllScripts, WritesKept, StormStart, start_setting}
pub use Rattle.storm_runner.specs.StormParts.{FailsToPlay, FailsToWrite}
pub use Rattle.storm_runner.specs.PlayedCommands.{AddsReceipts, AddsTurn, AllRoamedOnNotes, RoamResultOfNew, EndsTurn, FindsNothing, PlayedOn, ToldOn, IsBased, AllStop, scene_of, Plays, TakesTurnsUpTo}
pub use Rattle.storm_runner.specs.Storm.{IsFor, AreAbove, IsRoaming, IsOfStep, IsOfFault, IsPartOf, AreScriptReceipts, IsLastCheckpoint, StandsInPart, MayEndScript, is_checkpoint, has_checkpoint, AllPlayed, AllRoamed, IsStormResult}
pub use Rattle.storm_runner.specs.Turns.{Scene, IsTurn, AreTurns, AreDrawn, DrawnFrom, IsLogBehind, IsIdleBehind, DrawsNone, IsQuiet, IsEmpty}
pub use Rattle.storm_runner.specs.declared.fault.StormFault.{StormFault}
