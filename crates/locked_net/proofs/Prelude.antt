-- What the proofs of this crate import from the crates below and from its own definitions.
pub use Rattle.std.proofs.Common.{◌≡◌, ℕ, ◌+◌, ◌<◌, ◌≤◌, ◌⊎◌, ⊎_elim, inl, inr, Bool, true, false, IsTrue, nat_le, slice_index_or, le-leb, List, [], ◌∷◌, ◌++◌, length, fold, Option, None, Some, IfSome, if◌then◌else◌, nat_lt, refl, sym, ap, ◌∙◌, subst, arith, length-append, zero, suc, Result, Ok, Err, OnOk, nat_eq, IfOk, IfErr, IsNone, MatchOption, ◌↔◌, not, ◌&&◌, ◌||◌, get_or, is_some, ◌-◌, OnErr, ◌%◌, take, ap₂, append_assoc, drop, min}
pub use Rattle.std.proofs.Math.Seq.{get_or-append_seam}
pub use Rattle.std.proofs.lemmas.Bool.{and_from, and_left, and_right, lt-leb, ltb-true, ltb-false, eqb-true, ne_eqb, true≢false, cond-false, le-ltb, cases_lt, false≢true}
pub use Rattle.std.proofs.lemmas.Bool.Decides.{nat_tests}
pub use Rattle.std.proofs.lemmas.List.{get_or_append_left, take_all, append-nil, drop_all, drop_at, nil_from_length, take_at}
pub use Rattle.std.proofs.lemmas.List.Elements.{All-filter, filter_passes, recursion_from_All, All-nil, All-cons, All-append, All-more}
pub use Rattle.std.proofs.lemmas.List.Folds.{Any-from_list_any, list_any-append}
pub use Rattle.std.proofs.lemmas.Option.{same_Some, none-some, slice_get-get_or, slice_get_within, get_or_from_slice_get}
pub use Rattle.std.proofs.lemmas.Result.{IfErr-weaker}
pub use Rattle.std.specs.List.{slice_get, All, list_any, range_with_len, AllByRecursion}
pub use Rattle.std.specs.Option.{IsSomeAnd, option_or}
pub use Rattle.daemon.specs.DaemonLaws.{IsLawful, nodes_of}
pub use Rattle.enabled_set.specs.Members.{members, is_in}
pub use Rattle.logbook.specs.Pages.{Book}
pub use Rattle.machine_laws.proofs.LeastAnswers.{least_answers}
pub use Rattle.machine_laws.proofs.LeastMoves.{IsTable}
pub use Rattle.machine_laws.proofs.Runs.{runs_end_in_states, run_add}
pub use Rattle.machine_laws.proofs.Sizes.{runs_keep_size}
pub use Rattle.machine_laws.proofs.StatePreservation.{opening_is_state}
pub use Rattle.rule_engine.proofs.AscendingMoves.{one_least}
pub use Rattle.rule_machine.specs.Base.{dropped, base_of}
pub use Rattle.rule_machine.specs.declared.base.Base.{Base}
pub use Rattle.rule_machine.specs.Least.{least_moves, reply_by, move_in, outcome_of, outcome_at, reply_of, state_after, spent_by}
pub use Rattle.rule_machine.specs.Network.{Network, present, node_count, names}
pub use Rattle.rule_machine.specs.Refuse.{wish_refusal, rule_refusal, item_refusal, items_refusal, step_refusal}
pub use Rattle.rule_machine.specs.RuleTable.{RuleTable, enabled_names, rule_at, least_target}
pub use Rattle.rule_machine.specs.Run.{Entry, Moment, Run}
pub use Rattle.rule_machine.specs.State.{State, pointer, IsState}
pub use Rattle.rule_machine.specs.declared.act.Act.{Act}
pub use Rattle.rule_machine.specs.declared.act.Moved.{Moved}
pub use Rattle.rule_machine.specs.declared.choice.Item.{Item}
pub use Rattle.rule_machine.specs.declared.event.Event.{Event}
pub use Rattle.rule_machine.specs.declared.event.Event.TheVariants.{Step}
pub use Rattle.rule_machine.specs.declared.refusal.Refusal.TheVariants.{UnknownNode, ChosenTwice, EmptyChoice, NotCentral}
pub use Rattle.rule_machine.specs.declared.reply.Reply.{Reply}
pub use Rattle.rule_machine.specs.declared.reply.Reply.TheVariants.{Moves}
pub use Rattle.rule_machine.specs.declared.verdict.Outcome.TheVariants.{Absent}
pub use Rattle.snapshots.proofs.Fronts.{prefix_trans}
pub use Rattle.snapshots.proofs.Machine.{run_names, run_pointers}
pub use Rattle.snapshots.proofs.Rows.{effect_length}
pub use Rattle.snapshots.proofs.Starts.{start_row, start_here, start_size, row_places}
pub use Rattle.snapshots.specs.CopyViews.{found_in, found_after}
pub use Rattle.snapshots.specs.History.{AreComparable}
pub use Rattle.snapshots.specs.Row.{Row, BoardShape, pointer_in, partner_in, row_effect, row_at_start, here_by, pointers_after, here_after, IsRun}
pub use Rattle.snapshots.specs.Starts.{StartsAt}
pub use Rattle.snapshots.specs.Views.{BoardName, ReaderView, PublishedLog, BoardView}
pub use Rattle.step_log.proofs.AscendingNumbers.{rising_distinct}
pub use Rattle.step_log.specs.JournalViews.{JournalView, kept_of}
pub use Rattle.step_log.specs.Log.{max_entries}
pub use Rattle.step_log.specs.RetainedLogs.{RetainedLog, IsRetainedRun, checkpointed, kept_with, last_number, next_entry, next_receipt, moment_in}
pub use Rattle.step_log.specs.declared.receipt.Receipt.{Receipt}
pub use Rattle.locked_net.specs.Calls.{call_fault, checkpoint_fault, ExplainsCallFault, ExplainsStep, MayAnswer, MayAnswerStep, MayRefuseCheckpoint, RecordsEvent, Drives, Breaks, Keeps, KeepsStep, KeepsFault}
pub use Rattle.locked_net.specs.ChosenEvents.{ChoosesStep, ChoosesOn, ClerkTakes, HoldsAll, Refuses, RefusesCheckpoint, RefusesStep}
pub use Rattle.locked_net.specs.ClerkCalls.{some_of, HeldCall, Admits, AdmitsStep, each, ClerkCall, AddsReceipt}
pub use Rattle.locked_net.specs.Looks.{IsPublished}
pub use Rattle.locked_net.specs.Nets.{book_of, setting_of}
pub use Rattle.locked_net.specs.PublishedJournals.{PublishedJournalView, KeepsKey, IsPublishedJournal}
pub use Rattle.locked_net.specs.ReaderAnswers.{Shows}
pub use Rattle.locked_net.specs.Receipts.{ClerkView, noted, IsClerk, IsReceiptOf, NotesLast, StandsLastFrom, StandsLast, front_of, seen_by, front_from, RiseAbove, HasNoteOf, IsOfBook, seen_from, base_from}
pub use Rattle.locked_net.specs.RetainedParts.{IsPartNoted, log_over, IsLogAboveBase, TellsEnd}
pub use Rattle.locked_net.specs.RoamResults.{AllEnd, RowEnds, AllKeepNotes, IsLoneStep, Roams, AllRoam, RoamResult, MayMeetRoamFault, TakesTurns, AllTakeTurns, BreaksOff, MayEnd, HasOwnNote, EndsOnLog, roam_call_fault, roam_fault, KeepsNote, TakesTurn, MeetsFault}
pub use Rattle.locked_net.specs.RoamTurns.{mover, lone_items, lone_step, receipts_by, receipts_of_turn, FaultBy, fault_by, fault_of_turn, FaultInTurn}
pub use Rattle.locked_net.specs.Settings.{Setting, IsLogIn}
pub use Rattle.locked_net.specs.WholeLogs.{IsWholeLog}
pub use Rattle.locked_net.specs.declared.fault.CallFault.{CallFault}
pub use Rattle.locked_net.specs.declared.fault.CallFault.TheVariants.{Behind, LogFull, Memory}
pub use Rattle.locked_net.specs.declared.fault.RoamFault.{RoamFault}
pub use Rattle.locked_net.specs.declared.fault.StepFault.{StepFault}
