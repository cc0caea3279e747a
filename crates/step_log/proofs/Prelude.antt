-- What the proofs of this crate import from the crates below and from its own definitions.
pub use Rattle.std.proofs.Common.{◌≡◌, ℕ, suc, ◌<◌, false, List, [], ◌∷◌, get_or, nat_eq, arith, ◌≢◌, ◌+◌, ◌*◌, ◌≤◌, ◌++◌, length, map, drop, inl, inr, ◌⊎◌, All, append_assoc, refl, sym, ap, ap₂, ◌∙◌, subst, true, Some, cond, ◌&&◌, filter_map, Any, Option, None, is_some, is_none, nat_le, option_and_then, le-leb, rules, set, slice_index_or, take, zero, ⊎_elim, ◌-◌, ◌↔◌}
pub use Rattle.std.proofs.lemmas.Bool.{ne_eqb, false≢true, cases_eq, cases_lt, cases_order}
pub use Rattle.std.proofs.lemmas.List.{append-nil, get_or-map, map-append, length-map, length-append, get_or-set_other, get_or-set_same, length-set, take_all}
pub use Rattle.std.proofs.Common.{Bool}
pub use Rattle.std.proofs.lemmas.List.Elements.{recursion_from_All, All-weaker, All-push}
pub use Rattle.std.proofs.lemmas.List.FromFn.{length-range_with_len}
pub use Rattle.std.proofs.lemmas.List.Kept.{AllPairs-from_increasing}
pub use Rattle.std.proofs.lemmas.List.Sums.{list_all-from_AllPass, length-filter, count_by-le-length, get_or-le-sum_by, sum_by-cons, sum_by-set, sum_by_more}
pub use Rattle.std.proofs.lemmas.Option.{none-some, get_or_from_slice_get, same_Some, slice_get_read, slice_get_within}
pub use Rattle.std.proofs.lemmas.Result.{IfOk-weaker}
pub use Rattle.std.specs.List.{list_all, cons_option, range_with_len, count_by, slice_get, sum_by}
pub use Rattle.std.specs.List.Sorted.{IsStrictlyIncreasing}
pub use Rattle.std.specs.Option.{option_map}
pub use Rattle.std.specs.Prelude.{IfOk, IfSome}
pub use Rattle.machine_laws.proofs.Epochs.{epochs_are_bounded}
pub use Rattle.machine_laws.proofs.Laws.{moves_are_paid}
pub use Rattle.machine_laws.proofs.ChargesOfRuns.{Effect, rests, steps, disturbs, effect, step_network}
pub use Rattle.machine_laws.proofs.RunsFromBases.{begins_in_state, begins_once, begins_within, may_begin_again}
pub use Rattle.machine_laws.specs.ChargeWords.{charge_bound, IsCharged}
pub use Rattle.machine_laws.specs.Epochs.{IsPath, IsBoundedEpoch}
pub use Rattle.line_text.specs.EntryText.{entry_line}
pub use Rattle.log_entry.specs.Kinds.{fits, takes_target, is_move, are_moves}
pub use Rattle.machine_laws.proofs.AcceptedEvents.{state_after_keeps}
pub use Rattle.machine_laws.proofs.Bases.{run_splits}
pub use Rattle.machine_laws.proofs.Determinism.{answers_once}
pub use Rattle.machine_laws.proofs.LeastAnswers.{least_answers}
pub use Rattle.machine_laws.proofs.LeastMoves.{IsTable}
pub use Rattle.machine_laws.proofs.MaximalMatchings.{maximal_from_stable, stable_from_maximal}
pub use Rattle.machine_laws.proofs.Runs.{runs_end_in_states, run_add}
pub use Rattle.machine_laws.proofs.Sizes.{runs_keep_size}
pub use Rattle.machine_laws.specs.StatesAfterReplies.{followed}
pub use Rattle.round_laws.proofs.Counting.{answer_followed}
pub use Rattle.round_laws.proofs.RoundCounts.{counted_whole}
pub use Rattle.round_laws.specs.Rounds.{rounds_in}
pub use Rattle.round_laws.specs.RoundCounts.{RoundCount, count_of_log, first_count, next_count, next_counting, rounds_of}
pub use Rattle.machine_laws.specs.ChargeWords.{IsUndisturbed}
pub use Rattle.rule_engine.proofs.AscendingMoves.{rises_tail}
pub use Rattle.rule_machine.specs.Answer.{Answers, spent_after, Does, AnswersBy}
pub use Rattle.rule_machine.specs.Base.{begun_at, dropped, BeginsAt, base_of}
pub use Rattle.rule_machine.specs.Least.{reply_of, state_after, spent_by, outcome_of, move_in, item_of, least_moves, accepted_reply, reply_by}
pub use Rattle.rule_machine.specs.Network.{node_count, edge_count, Network, names, present}
pub use Rattle.rule_machine.specs.Refuse.{refusal_of}
pub use Rattle.rule_machine.specs.RuleTable.{RuleTable, enabled_names, enabled, rule_at}
pub use Rattle.rule_machine.specs.Run.{Entry, Moment, epochs_by, epochs_from, open_at, Run, beginning_with, moment_after}
pub use Rattle.rule_machine.specs.Stable.{IsStable, mutual_pairs, pair_above}
pub use Rattle.rule_machine.specs.State.{State, IsState, partner}
pub use Rattle.rule_machine.specs.Step.{IsTarget, IsMoveOf, IsStep}
pub use Rattle.rule_machine.specs.declared.act.Act.{Act}
pub use Rattle.rule_machine.specs.declared.act.Act.TheVariants.{Update, Marry, Seduce, Abandon}
pub use Rattle.rule_machine.specs.declared.act.Moved.{Moved}
pub use Rattle.rule_machine.specs.declared.base.Base.{Base}
pub use Rattle.rule_machine.specs.declared.base.EpochStart.{EpochStart}
pub use Rattle.rule_machine.specs.declared.choice.Item.{Item}
pub use Rattle.rule_machine.specs.declared.event.Event.{Event}
pub use Rattle.rule_machine.specs.declared.event.Event.TheVariants.{Step, Enabled, Matching, Status}
pub use Rattle.rule_machine.specs.declared.refusal.Refusal.{Refusal}
pub use Rattle.rule_machine.specs.declared.reply.Reply.{Reply}
pub use Rattle.rule_machine.specs.declared.reply.Reply.TheVariants.{Accepted, Refused, Moves}
pub use Rattle.step_log.specs.Epochs.{AreEpochs, IsEpochWithinBound, IsEpochPath, begun_by, ended_by, epoch_now, epochs_along, of_run, open_in, over_after, over_in, path_end}
pub use Rattle.step_log.specs.Headline.{Upholds, LeadsTo}
pub use Rattle.step_log.specs.JournalViews.{IsJournal, JournalView, kept_of, IsNextReceipt}
pub use Rattle.step_log.specs.Log.{max_entries}
pub use Rattle.step_log.specs.Recording.{Recording, IsRecording, entered}
pub use Rattle.step_log.specs.RetainedLogs.{RetainedLog, Begins, moment_in, IsRetainedRun, IsBaseOfGraph, kept_with, last_number, next_entry}
pub use Rattle.step_log.specs.declared.epoch.Epoch.{Epoch}
pub use Rattle.step_log.specs.declared.receipt.Receipt.{Receipt}
pub use Rattle.step_log.specs.Receipts.{ReceiptsView, RiseAbove, base_from, base_number}
pub use Rattle.step_log.specs.Settlements.{Agrees, HasReceiptNumber, IsEarlierReceipt, IsEntryAbove, IsFirstStranger, Settlement, StandsAt, Unsettles, entry_count, greatest_base, receipt_count, AreReceiptMarks, mark_of}
pub use Rattle.step_log.specs.declared.settle_fault.SettleFault.{SettleFault}
pub use Rattle.step_log.specs.declared.settle_fault.SettleFault.TheVariants.{BaseDiffers, CountDiffers, Stranger}
