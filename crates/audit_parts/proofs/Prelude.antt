-- What the proofs of this crate import from the crates below and from its own definitions.
pub use Rattle.std.proofs.Common.{◌≡◌, ℕ, ◌+◌, ◌≤◌, List, [], ◌∷◌, ◌++◌, length, refl, sym, ap, subst, ◌∙◌, append_assoc, append-nil, length-append, arith, ◌≢◌, ◌<◌, ◌⊎◌, inl, inr, Option, None, Some, ⊎_elim, zero, suc, get_or, map, Ok, Err, IfSome, ◌*◌, Bool, true, false, cond, not, T, filter, IsTrue, nat_eq, nat_le, ◌-◌}
pub use Rattle.std.proofs.lemmas.Bool.{cases_lt, and_parts, leb-false}
pub use Rattle.std.proofs.lemmas.List.{append_cancel_left, length-map}
pub use Rattle.std.proofs.lemmas.List.Sums.{sum_by-append, count_by-le-length, length-filter}
pub use Rattle.std.specs.Cmp.{ranked}
pub use Rattle.std.specs.FinMap.Entries.{is_sorted, below_all}
pub use Rattle.std.specs.List.{AllByRecursion, range_with_len}
pub use Rattle.std.specs.Ordering.{is_lt, nat_cmp, ordering_then}
pub use Rattle.std.specs.declared.cmp.Ordering.{Ordering}
pub use Rattle.std.specs.declared.cmp.Ordering.TheVariants.{Less, Equal, Greater}
pub use Rattle.auditor.proofs.Chains.{entry_line_is, entry_other, other_no_base, Chain, Stops, comes_once, nothing_stops}
pub use Rattle.auditor.proofs.Feedless.{entry_free, header_free}
pub use Rattle.auditor.proofs.LineCounts.{feed, feeds_first}
pub use Rattle.auditor.proofs.Openings.{follows_text, opening_once, parts_behind}
pub use Rattle.auditor.proofs.Spent.{begins_again, light}
pub use Rattle.auditor.proofs.Steps.{passes_first, passes_onto, passes_rise, step_count}
pub use Rattle.auditor.proofs.TextEnds.{Fails, FailsBehind, FailsFirst, Split, damage_fails, fails_some, first_good, split_of, followed, transcript_ends, whole, accepted_no_damage, begun, chain_behind, chain_same, comes_no_base, run_once, told_comes}
pub use Rattle.auditor.proofs.Windows.{begins_less, begins_more, breaks_more, feeds_append, feeds_broken, first_line-more, free_feeds}
pub use Rattle.auditor.specs.AcceptedRuns.{IsAccepted, Counts}
pub use Rattle.auditor.specs.Damage.{TranscriptPrefix, HasImpossibleBase, HasBrokenBase, EntryComes, BeginsWithTranscript, HasBadHeader, HasBadStart, HasNoEntry, IsDamage, IsLineBehind, CommonPrefix, line_feeds, BeginsBase}
pub use Rattle.auditor.specs.Parts.{Opening, Named, Based, Opens, StepsTo, opening_text, part_text, parts_text, size_of, count_after, IsOpening}
pub use Rattle.auditor.specs.Transcript.{IsLogPart, IsTranscript, disturbances_in, reply_moves}
pub use Rattle.auditor.specs.TranscriptEnds.{end_moment}
pub use Rattle.auditor.specs.Verdict.{IsJudged}
pub use Rattle.auditor.specs.declared.fault.AuditFault.{AuditFault}
pub use Rattle.auditor.specs.declared.fault.AuditFault.TheVariants.{BadHeader, NotALine, OutOfOrder, NotTheMachines, BadBase, Read, Memory}
pub use Rattle.auditor.specs.declared.summary.Summary.{Summary}
pub use Rattle.byte_streams.proofs.FirstLines.{first_line-splits, no_first_line}
pub use Rattle.byte_streams.specs.Lines.{first_line}
pub use Rattle.machine_laws.proofs.EdgesByNodes.{edges_without_repeats}
pub use Rattle.machine_laws.proofs.ListCounts.{IsIn, count_all, count_into}
pub use Rattle.machine_laws.proofs.Members.{edges_len, edges_contain, in_edges}
pub use Rattle.entry_grammar.proofs.BaseBreaks.{fit_both, fit_edges, fit_places}
pub use Rattle.entry_grammar.proofs.BaseLines.{spells_base_line_once}
pub use Rattle.entry_grammar.proofs.BaseOnce.{base_text_is, lines_follow, lines_text, same_numbers}
pub use Rattle.entry_grammar.proofs.FirstLines.{line_free}
pub use Rattle.entry_grammar.proofs.Free.{cons_parts, mark_once}
pub use Rattle.entry_grammar.specs.BaseLines.{LacksLines, MayFollow, base_lines, IsShaped, place_line, base_numbers, lines_of_base, EdgesFollow, NodesFollow, IsPlace, EdgesRise, IsEdgeAbove, NodesRise}
pub use Rattle.entry_grammar.specs.Parsing.{IsFree}
pub use Rattle.entry_grammar.specs.Spelling.{AreCounts, numbers_text, SpellsEntry, max_entries, IsBaseLine, base_line_text, IsOrderedPair}
pub use Rattle.entry_grammar.specs.declared.base_line.BaseLine.{BaseLine}
pub use Rattle.entry_grammar.specs.declared.base_line.BaseLine.TheVariants.{Head, Place, Link}
pub use Rattle.entry_grammar.specs.declared.base_line.BaseNumbers.{BaseNumbers}
pub use Rattle.line_text.specs.BaseText.{base_text, base_head, link_text, numbers_line, node_record_text}
pub use Rattle.line_text.specs.EntryText.{entry_text, header_text}
pub use Rattle.line_text.specs.Words.{lines_with_ends, IsName}
pub use Rattle.machine_laws.proofs.AcceptedEvents.{cond_none}
pub use Rattle.machine_laws.proofs.Bases.{passes_run}
pub use Rattle.machine_laws.proofs.Edges.{left_was, pair_total}
pub use Rattle.machine_laws.proofs.Neighbours.{linked_back, linked_present, present_range}
pub use Rattle.machine_laws.proofs.Pointers.{pointer_linked}
pub use Rattle.rule_machine.specs.Answer.{Answers, AnswersBy, Does, spent_after}
pub use Rattle.rule_machine.specs.Base.{LogPart, EntryPart, BasePart, NumberedMoment, Passes, base_of, entries_in, node_record_at}
pub use Rattle.rule_machine.specs.Network.{edge_count, node_count, pair_cmp, Network, edge, edge_list, is_end, linked, names, present}
pub use Rattle.rule_machine.specs.Refuse.{both_present, max_edges, refusal_of}
pub use Rattle.rule_machine.specs.RuleTable.{RuleTable}
pub use Rattle.rule_machine.specs.Run.{Entry, Moment, Run}
pub use Rattle.rule_machine.specs.State.{State, IsState, pointer}
pub use Rattle.rule_machine.specs.Tables.{table_of}
pub use Rattle.rule_machine.specs.declared.base.Base.{Base}
pub use Rattle.rule_machine.specs.declared.event.Event.{Event}
pub use Rattle.rule_machine.specs.declared.event.Event.TheVariants.{Unlink, Point, Flag, Step, Show, Enabled, Matching, Status, Join, Leave}
pub use Rattle.rule_machine.specs.declared.refusal.Refusal.{Refusal}
pub use Rattle.rule_machine.specs.declared.refusal.Refusal.TheVariants.{UnknownNode, SelfLoop, AlreadyLinked, TooManyEdges}
pub use Rattle.rule_machine.specs.declared.reply.Reply.{Reply}
pub use Rattle.rule_machine.specs.declared.reply.Reply.TheVariants.{Accepted, Moves, Shown, EnabledAre, Pairs}
pub use Rattle.rule_machine.specs.declared.rule_set.RuleSet.{RuleSet}
pub use Rattle.audit_parts.specs.Continuations.{ContinuesRun, base_at}
pub use Rattle.audit_parts.specs.FieldRanges.{AreLinesBefore}
pub use Rattle.audit_parts.specs.Laws.{AcceptedIsContinued, AcceptedIsShort, AcceptedIsWhole, HasShortLines, IsShortLine, AllPartsAreAccepted, AreParts, BasesAreSeams, ContinuedIsDamaged, EndBasesAreAccepted, EndsAreContinued, FirstDamageStays, HasVerdict, IsAcceptedText, JoinedIsAccepted, PartsAreAccepted, PartsAreJudged, SecondDamageMoves}
pub use Rattle.audit_parts.specs.Seams.{EndsLine, IsSeam, further, counted_both, Meets, Verdict, joined_verdict}
