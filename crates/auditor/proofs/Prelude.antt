-- What the proofs of this crate import from the crates below and from its own definitions.
pub use Rattle.std.proofs.Common.{◌≡◌, ℕ, ◌+◌, ◌≤◌, inr, List, [], ◌∷◌, ◌++◌, Option, Some, Err, take, sum_by, refl, sym, ap, subst, ◌∙◌, append_assoc, append-nil, arith, zero, suc, ◌<◌, length, ap₂, ◌≢◌, ◌⊎◌, true, false, None, Result, Ok, ⊎_elim, rules, ◌==◌, Bool, inl, eqb-true, All, map, drop, get_or, cond, if◌then◌else◌, ◌-◌, ◌^◌, IfSome, IfErr, OnOk, nat_eq, ◌*◌}
pub use Rattle.std.proofs.KnownBytes.{Consumes-trans, Consumes-nil, Consumes-whole}
pub use Rattle.std.proofs.Math.Logic.{∥∥₁_elim, ∥∥₁_map, ∥∥₁_prop}
pub use Rattle.std.proofs.Math.Seq.{drop-append_seam, take-append_seam}
pub use Rattle.std.proofs.Props.{props}
pub use Rattle.std.proofs.lemmas.Bool.{true≢false}
pub use Rattle.std.proofs.lemmas.List.{length-append, append_cancel_left, nil_from_length, length-map, map-append, take-append-drop, drop_more, append_cancel_right, take-append-le, take_all, get_or_append_left, length-drop}
pub use Rattle.std.proofs.lemmas.List.Sums.{sum_by-append, sum_by-cons}
pub use Rattle.std.proofs.lemmas.Option.{same_Some, none-some}
pub use Rattle.std.specs.Io.KnownBytes.{Consumes}
pub use Rattle.std.specs.List.{AllByRecursion}
pub use Rattle.std.specs.Prelude.{codes, IfOk, nat_lt, IsErrOf, MatchOption}
pub use Rattle.std.specs.Result.{result_err}
pub use Rattle.std.specs.declared.cmp.Ordering.TheVariants.{Less}
pub use Rattle.byte_streams.proofs.FirstLines.{first_line-splits, first_line-ended, first_line-is, first_line-then, no_first_line}
pub use Rattle.byte_streams.specs.Lines.{first_line}
pub use Rattle.machine_laws.proofs.CostsOfRuns.{hsu_huang_path_costs, manne_path_costs}
pub use Rattle.machine_laws.proofs.Epochs.{epochs_are_bounded}
pub use Rattle.machine_laws.proofs.Laws.{hsu_huang_charged, manne_charged}
pub use Rattle.machine_laws.proofs.RunsFromBases.{begins_once, begins_in_state, begins_within, may_begin_again}
pub use Rattle.machine_laws.proofs.Tables.{hsu_huang_table, manne_table, hsu_huang_flagless, manne_flagless}
pub use Rattle.machine_laws.specs.ChargeWords.{moves_in, moves_of, charge_bound, IsCharged, IsWithinBound}
pub use Rattle.machine_laws.specs.Costs.{answer_cost, path_cost, path_entries}
pub use Rattle.machine_laws.specs.Epochs.{IsPath}
pub use Rattle.entry_grammar.proofs.BaseBreaks.{first_breaks, node_breaks, edge_breaks, by_error}
pub use Rattle.entry_grammar.proofs.BaseLines.{spells_base_line_once}
pub use Rattle.entry_grammar.proofs.BaseLists.{NodesSoFar, EdgesSoFar, lines_break, no_lines, one_more}
pub use Rattle.entry_grammar.proofs.BaseOnce.{base_text_is, base_once, base_unbroken, breaks_once}
pub use Rattle.entry_grammar.proofs.Entries.{spells_entry_once}
pub use Rattle.entry_grammar.proofs.EntryLengths.{entry_short}
pub use Rattle.entry_grammar.proofs.FirstLines.{IsField, field_free, rules_free, line_free}
pub use Rattle.entry_grammar.proofs.Free.{free_number, cons_parts, free_by}
pub use Rattle.entry_grammar.proofs.Headers.{spells_header_once}
pub use Rattle.entry_grammar.proofs.Marks.{feed, apart_lack, both_lack, event_lacks, joined_lack, marked_lacks, name_lacks, number_lacks, target_lacks}
pub use Rattle.entry_grammar.proofs.RefusalsOnce.{refusal_small}
pub use Rattle.entry_grammar.specs.BaseLines.{base_lines, IsEdgeAbove, IsPlace, IsShaped, BreaksAt, EdgesRise, MayFollow}
pub use Rattle.entry_grammar.specs.BaseParts.{NodesRead}
pub use Rattle.entry_grammar.specs.Parsing.{Starts, IsFree}
pub use Rattle.entry_grammar.specs.Spelling.{AreCounts, numbers_text, SpellsHeader, IsOrderedPair, SpellsEntry, max_entries, IsMoved, IsEnabled, IsReply, SpellsBaseLine, base_line_text, IsBaseLine}
pub use Rattle.entry_grammar.specs.declared.base_line.BaseLine.{BaseLine}
pub use Rattle.entry_grammar.specs.declared.base_line.BaseLine.TheVariants.{Head}
pub use Rattle.entry_grammar.specs.declared.base_line.BaseNumbers.{BaseNumbers}
pub use Rattle.entry_grammar.specs.declared.header.Header.{Header}
pub use Rattle.line_text.specs.BaseText.{base_head, base_text, node_record_text, link_text}
pub use Rattle.line_text.specs.EntryText.{header_text, header_line, entry_text, entry_line, sizes_text}
pub use Rattle.line_text.specs.EventText.{event_text}
pub use Rattle.line_text.specs.ReplyText.{reply_text, act_word, enabled_text, move_text, mutual_text, refusal_words, field_text, fields_of, counts_text, IsCounts}
pub use Rattle.line_text.specs.Words.{lines_with_ends, number_text, marked_text, joined_or}
pub use Rattle.machine_laws.proofs.Bases.{passes_run}
pub use Rattle.machine_laws.proofs.Determinism.{answers_once}
pub use Rattle.machine_laws.proofs.LeastMoves.{IsTable}
pub use Rattle.machine_laws.proofs.UnusedFlags.{IsFlagless}
pub use Rattle.reply_checker.specs.ReplyVerdicts.{cost_by}
pub use Rattle.rule_machine.specs.Answer.{Answers, spent_after}
pub use Rattle.rule_machine.specs.Base.{LogPart, EntryPart, BasePart, NumberedMoment, base_of, entries_in, Passes, IsBaseMoment, node_record_at}
pub use Rattle.rule_machine.specs.Network.{pair_cmp, edge_count, names, node_count}
pub use Rattle.rule_machine.specs.Refuse.{refusal_number, refusal_text}
pub use Rattle.rule_machine.specs.RuleTable.{RuleTable}
pub use Rattle.rule_machine.specs.Run.{Entry, beginning_with, Epoch, Moment, epochs_by, epochs_from, epoch_at, open_at}
pub use Rattle.rule_machine.specs.State.{State, IsState, opening_with}
pub use Rattle.rule_machine.specs.Tables.{table_of, weight_of, rules_word}
pub use Rattle.rule_machine.specs.declared.act.Act.{Act}
pub use Rattle.rule_machine.specs.declared.act.Act.TheVariants.{Update}
pub use Rattle.rule_machine.specs.declared.act.Moved.{Moved}
pub use Rattle.rule_machine.specs.declared.base.Base.{Base}
pub use Rattle.rule_machine.specs.declared.base.EpochStart.{EpochStart}
pub use Rattle.rule_machine.specs.declared.base.EpochStart.TheVariants.{At}
pub use Rattle.rule_machine.specs.declared.base.NodeRecord.{NodeRecord}
pub use Rattle.rule_machine.specs.declared.event.Event.{Event}
pub use Rattle.rule_machine.specs.declared.refusal.Refusal.{Refusal}
pub use Rattle.rule_machine.specs.declared.refusal.Refusal.TheVariants.{UnknownNode}
pub use Rattle.rule_machine.specs.declared.reply.Reply.{Reply}
pub use Rattle.rule_machine.specs.declared.reply.Reply.TheVariants.{Accepted, Refused, Moves, Shown, EnabledAre, Pairs}
pub use Rattle.rule_machine.specs.declared.rule_set.RuleSet.{RuleSet}
pub use Rattle.rule_machine.specs.declared.rule_set.RuleSet.TheVariants.{Hh, Manne}
pub use Rattle.auditor.specs.AcceptedRuns.{Counts, IsAccepted, IsPositionAfter}
pub use Rattle.auditor.specs.AuditPieces.{HasReadPieces}
pub use Rattle.auditor.specs.Damage.{BeginsWithTranscript, TranscriptPrefix, BeginsBase, IsLineBehind, HasNoEntry, HasBadHeader, IsDamage, CommonPrefix, SpellsNoHead, SpellsNoHeader, line_feeds, HasBadStart, HasBrokenBase, HasImpossibleBase, EntryComes}
pub use Rattle.auditor.specs.EntryWindows.{IsMetBehind, EndsAt, IsStateAfter, HasTooFew, IsReplayFault, IsAskedBeyond, IsMetFirst, IsOpened, IsAskedWithin, IsLongEnough, falls_short, HasDroppedEntry, IsDamageWithin, IsMetDamage}
pub use Rattle.auditor.specs.Epochs.{AreCostedEpochs, ArePaid, costs_along, costs_by, first_epoch, paid_by, IsNextCost, IsWithinItsBound, costs_in, epochs_in, rows_at, rows_by, rounds_in_rows, rounds_ended_by, rounds_along, rounds_bound, HasFewRounds, changes, IsEntryAhead, start_at_part, log_at}
pub use Rattle.auditor.specs.CountedParts.{IsReadyAhead, FollowsAhead, KeepsCount}
pub use Rattle.auditor.specs.Parts.{Opening, Opens, opening_text, size_of, count_after, part_text, parts_text, Named, Based, IsOpening, present_of, base_in, StepsTo}
pub use Rattle.auditor.specs.Position.{Position, stand_of, position_at, counted_more, counted_part, GoodLine, LineJudged, IsFurther}
pub use Rattle.auditor.specs.Transcript.{IsTranscript, NextPart, disturbances_in, reply_moves, IsLogPart, epoch_count, move_count, SameRun}
pub use Rattle.auditor.specs.TranscriptCursors.{IsPassed, IsRead, IsIncrementalAudit, AreSameUpTo, ArePartedAt, HasCutStart, IsCursorAt, IsCompared, IsMetAt, IsUnended, StaysInPlace, AwaitsBase, base_wanted, IsCursorAfter, EndsIn, IsReadOf, IsReachable, IsUnderway}
pub use Rattle.auditor.specs.Verdict.{IsJudged, IsAuditFault, IsAuditResult, AcceptsRuns, NamesDamage}
pub use Rattle.auditor.specs.declared.epoch.CostedEpoch.{CostedEpoch}
pub use Rattle.auditor.specs.declared.fault.AuditFault.{AuditFault}
pub use Rattle.auditor.specs.declared.fault.AuditFault.TheVariants.{BadHeader, NotALine, OutOfOrder, NotTheMachines, BadBase, Read, Memory}
pub use Rattle.auditor.specs.declared.incremental_audit.IncrementalAudit.{IncrementalAudit}
pub use Rattle.auditor.specs.declared.replayed_run.ReplayFault.{ReplayFault}
pub use Rattle.auditor.specs.declared.replayed_run.ReplayFault.TheVariants.{Judged, TooFew, Forgotten}
pub use Rattle.auditor.specs.declared.replayed_run.ReplayedRun.{ReplayedRun}
pub use Rattle.auditor.specs.declared.transcript_cursor.TranscriptCursor.{TranscriptCursor}
pub use Rattle.auditor.specs.declared.summary.Summary.{Summary}
