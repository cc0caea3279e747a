-- What the proofs of this crate import from the crates below and from its own definitions.
pub use Rattle.std.proofs.Common.{◌≡◌, ℕ, ◌+◌, ◌*◌, ◌≤◌, List, [], ◌∷◌, length, Bool, All, Any, Contains, refl, sym, ap, ◌∙◌, subst, inl, inr, ⊎_elim, ◌⊎◌, arith, true, false, cond, Option, None, Some, IsTrue, find, filter_map, option_and_then, ◌++◌, IsSomeAnd, ◌<◌, map, set, fold, replicate, get_or, ◌≢◌, not, ◌&&◌, IsSome, Decides, nat_eq, is_some, nat_le, leb-true, zero, suc, nat_lt, ◌↔◌, min, max, ◌||◌, ap₂, filter, lt-ltb, ◌-◌, IfSome, count_by, sum_by, is_none, T, unwrap_or, subst₂}
pub use Rattle.std.proofs.Math.Bool.{and-false}
pub use Rattle.std.proofs.Math.ListN.{get_or-map}
pub use Rattle.std.proofs.lemmas.Bool.{cases_Bool, cond-true, cond-false, true≢false, cases_lt, false≢true, and_parts, and_from, or_parts, ltb-true, ltb-false, false_from_ne_true, eq-eqb, eqb-true, le-leb, cases_eq, or_left, or_cases, or_right, cases_order, and_left, ne_eqb, not_from_false, or_from, not-false, not-true, eqb-false, lt-ltb, le-ltb, not_from_true}
pub use Rattle.std.proofs.lemmas.Bool.Decides.{Decides-and, Decides-not, Decides-eqb, Decides-by_and}
pub use Rattle.std.proofs.lemmas.Cmp.{on_total, then_total, eq_by_cmp_equiv}
pub use Rattle.std.proofs.lemmas.List.{length-set, length-map, length-replicate, get_or-replicate, get_or_past, get_or-set_same, get_or-set_other, ext_get_or, set-set, set_past}
pub use Rattle.std.proofs.lemmas.List.Elements.{All-head, All-tail, All-weaker, recursion_from_All, All-from_recursion, All-map, Contains-get_or, Contains-push, Contains-push_cases, Contains-append_left, Contains-append_right, Contains-append_cases, All-nil, All-cons, All-append}
pub use Rattle.std.proofs.lemmas.List.Folds.{Any-from_list_any, list_any-from_Any, list_any-append}
pub use Rattle.std.proofs.lemmas.List.FromFn.{length-map-range_with_len, get_or-map-range_with_len, length-range_with_len, get_or-range_with_len}
pub use Rattle.std.proofs.lemmas.List.Kept.{IsStrictlyIncreasing-filter}
pub use Rattle.std.proofs.lemmas.List.Sums.{sum_by-cons, count_by-le-length, sum_by-le}
pub use Rattle.std.proofs.lemmas.Map.Keys.{IsDistinct-from_sorted, IsDistinct-head, IsDistinct-tail, sorted_from_strictly_increasing}
pub use Rattle.std.proofs.lemmas.Map.Lookups.{CmpEqualImpliesEq, exact_pairs, exact_unsigned}
pub use Rattle.std.proofs.lemmas.Map.Views.{tells_apart}
pub use Rattle.std.proofs.lemmas.Option.{none-some, same_Some, cond_some, option_and_then_some}
pub use Rattle.std.specs.Cmp.{both_ways, IsTotalOrder, nat_cmp_total}
pub use Rattle.std.specs.FinMap.Entries.{by_order, put, is_sorted, below_all}
pub use Rattle.std.specs.List.{AllByRecursion, cons_option, list_any, list_all, IsAllAdjacentAnswer, range_with_len, IsDistinct}
pub use Rattle.std.specs.List.Sorted.{IsStrictlyIncreasing}
pub use Rattle.std.specs.Option.{option_or}
pub use Rattle.std.specs.Ordering.{eq_by_cmp, nat_cmp, is_eq, is_lt}
pub use Rattle.std.specs.declared.cmp.Ordering.{Ordering}
pub use Rattle.std.specs.declared.cmp.Ordering.TheVariants.{Less, Equal, Greater}
pub use Rattle.rule_machine.specs.Answer.{Does, AnswersBy, Answers, spent_after}
pub use Rattle.rule_machine.specs.Base.{node_record_at, node_records, base_of, LogPart, EntryPart, BasePart, NumberedMoment, Passes, entries_in, IsBaseMoment, BeginsAt}
pub use Rattle.rule_machine.specs.Charge.{awaits, is_courted, hsu_huang_closed, manne_closed, hsu_huang_charge, manne_node_charge, manne_charge}
pub use Rattle.rule_machine.specs.Disturbance.{after_link, after_unlink, after_point, after_flag, after_join, after_leave, without_pointer, without_name, unless_at}
pub use Rattle.rule_machine.specs.HsuHuang.{hsu_huang, hsu_huang_opens}
pub use Rattle.rule_machine.specs.Least.{outcome_by, outcome_at, outcome_of, move_in, item_of, least_moves, accepted_state, state_by, state_after, accepted_reply, reply_by, reply_of}
pub use Rattle.rule_machine.specs.Manne.{manne, manne_opens, may_court}
pub use Rattle.rule_machine.specs.Network.{Network, linked, present, names, neighbours, edge, pair_cmp, edge_list, PairSet, IsNetwork, is_end, edgeless_with, with_edge, without_edge, with_node, without_node, edge_count, node_count}
pub use Rattle.rule_machine.specs.Refuse.{refusal_of, both_present, wish_refusal, rule_refusal, item_refusal, items_refusal, step_refusal}
pub use Rattle.rule_machine.specs.RuleTable.{RuleTable, rule_at, least_target, acts, enabled_names, is_open}
pub use Rattle.rule_machine.specs.Run.{Entry, Moment, Run, beginning_with, Epoch, epoch_at, epochs_by, epochs_from}
pub use Rattle.rule_machine.specs.Stable.{IsStable, IsMaximalMatching, ShareAnEnd, mutual_pairs, pair_above}
pub use Rattle.rule_machine.specs.State.{State, IsState, Registers, opening_with, is_at, pointer, pointer_of, flag_of, with_pointer, with_flag, married, holds_at, points, partner, flag, suits, has_suitor, is_mutual, first_suitor, is_unanswered, is_settled}
pub use Rattle.rule_machine.specs.Step.{after_moves, IsTarget, IsMoveOf, IsStep, written, after_move, IsAllowedTarget, registers_after}
pub use Rattle.rule_machine.specs.Table.{AsksForWork}
pub use Rattle.rule_machine.specs.Target.{target_by, takes_target, SameAt}
pub use Rattle.rule_machine.specs.declared.act.Act.{Act}
pub use Rattle.rule_machine.specs.declared.act.Act.TheVariants.{Update, Marry, Seduce, Abandon}
pub use Rattle.rule_machine.specs.declared.act.Moved.{Moved}
pub use Rattle.rule_machine.specs.declared.base.Base.{Base}
pub use Rattle.rule_machine.specs.declared.base.NodeRecord.{NodeRecord}
pub use Rattle.rule_machine.specs.declared.choice.Item.{Item}
pub use Rattle.rule_machine.specs.declared.event.Event.{Event}
pub use Rattle.rule_machine.specs.declared.event.Event.TheVariants.{Link, Unlink, Point, Flag, Step, Show, Enabled, Matching, Status, Join, Leave}
pub use Rattle.rule_machine.specs.declared.refusal.Refusal.{Refusal}
pub use Rattle.rule_machine.specs.declared.refusal.Refusal.TheVariants.{UnknownNode, SelfLoop, NotNeighbour, NoFlag, EmptyChoice, NotCentral, ChosenTwice, NotEnabled, BadTarget, AlreadyLinked, NotLinked, AlreadyPresent}
pub use Rattle.rule_machine.specs.declared.reply.Reply.{Reply}
pub use Rattle.rule_machine.specs.declared.reply.Reply.TheVariants.{Accepted, Moves, Shown, EnabledAre, Pairs, Counts, Refused}
pub use Rattle.rule_machine.specs.declared.verdict.Outcome.{Outcome}
pub use Rattle.machine_laws.specs.ChargeWords.{IsCharged, IsUndisturbed, moves_of, moves_in, IsWithinBound, charge_bound, steps_of, steps_in}
pub use Rattle.machine_laws.specs.ClosedByPointers.{hsu_huang_apart, hsu_huang_closes, manne_apart, manne_closes}
pub use Rattle.machine_laws.specs.Costs.{hsu_huang_cost, manne_leave_cost, manne_cost, answer_cost, path_cost, end_of_path, path_entries, hsu_huang_point_cost, manne_point_cost}
pub use Rattle.machine_laws.specs.Degrees.{degree, degree_at}
pub use Rattle.machine_laws.specs.Epochs.{IsPath, IsBoundedEpoch}
pub use Rattle.machine_laws.specs.HalfMatchings.{AreApart, IsMatching}
pub use Rattle.machine_laws.specs.MoveTests.{same_act, is_rule, suits_wish, is_target, is_move_of, is_asked, is_answered, are_of_items}
pub use Rattle.machine_laws.specs.SilentRuns.{IsDriven}
pub use Rattle.machine_laws.specs.TwoPasses.{IsMoveIn, is_answered_at, flag_read_by, flag_read, pointer_by, pointer_written}
