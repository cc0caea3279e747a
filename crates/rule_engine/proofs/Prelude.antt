-- What the proofs of this crate import from the crates below and from its own definitions.
pub use Rattle.std.proofs.Common.{◌≡◌, [], sym, subst, ℕ, ◌<◌, false, List, length, get_or, take, nat_eq, ap, ◌∙◌, arith, suc, ◌+◌, Bool, ◌∷◌, ◌++◌, map, filter_map, Contains, Option, None, Some, is_some, option_and_then, IsTrue, refl, ap₂, ⊎_elim, ◌≢◌, ◌≤◌, true, ◌&&◌, ◌||◌, drop, cond, filter, find, replicate, is_none, option_to_list, zero, not, nat_lt, set, reverse, ◌⊎◌, inl, inr, Result, Ok, Err, OnErr, All, IsSome, is_ok, option_map, IfSome, IfOk, OnOk, ◌*◌, count_by, sum_by, rules, ◌-◌, min}
pub use Rattle.std.proofs.Math.Bool.{or-false, or_assoc, and-false, or-true, or_comm}
pub use Rattle.std.proofs.lemmas.Bool.{ne_eqb, false≢true, or_parts, and_right, cases_eq, le-ltb, ltb-false, cases_Bool, cond-true, cond-false, eqb-true, eq-eqb, and_parts, true≢false, and_from, cases_lt, false_from_ne_true, le-leb, leb-true}
pub use Rattle.std.proofs.lemmas.Cmp.{nat_eq_equiv}
pub use Rattle.std.proofs.lemmas.List.{get_or-take, length-take-le, get_or-map, length-map, get_or_default, get_or-drop, length-drop, take-append-drop, length-replicate, nil_from_length, drop_more, take_more, get_or-set_same, get_or_past, length-set, get_or-set_other, reverse-append, append-nil, get_or-replicate, take_all}
pub use Rattle.std.proofs.lemmas.List.Elements.{All-push, All-from_get_or, filter_agree, filter_map-append, All-from_recursion, filter_passes, All-append}
pub use Rattle.std.proofs.lemmas.List.Folds.{list_any_none, list_any-append, list_any_more}
pub use Rattle.std.proofs.lemmas.List.Kept.{AllPairs-from_increasing, IsStrictlyIncreasing-filter}
pub use Rattle.std.proofs.lemmas.List.Sorted.{IsPermutation-refl, IsPermutation-map, IsPermutation-sym, Contains-permutation, IsNonDecreasingBy-from_sort_by_key}
pub use Rattle.std.proofs.lemmas.List.Sums.{length-filter, sum_by-cons}
pub use Rattle.std.proofs.lemmas.Map.Keys.{IsDistinct-IsPermutation, IsStrictlyIncreasing-from_distinct}
pub use Rattle.std.proofs.lemmas.Nat.{mul-le}
pub use Rattle.std.proofs.lemmas.Option.{option_and_then_some, none-some, same_Some}
pub use Rattle.std.proofs.lemmas.Result.{IfOk-weaker}
pub use Rattle.std.specs.Bool.{beq}
pub use Rattle.std.specs.List.{list_any, AllByRecursion, cons_option, range_with_len}
pub use Rattle.std.specs.List.Sorted.{IsPermutation, IsStrictlyIncreasing, IsNonDecreasing, IsNonDecreasingBy}
pub use Rattle.std.specs.Option.{option_or}
pub use Rattle.std.specs.declared.alloc.AllocError.{AllocError}
pub use Rattle.machine_laws.proofs.Laws.{beginning_is_within}
pub use Rattle.machine_laws.proofs.ListCounts.{IsIn, sum_add}
pub use Rattle.machine_laws.proofs.Members.{in_names}
pub use Rattle.machine_laws.proofs.ChargesOfRuns.{answer_within, run_lowers}
pub use Rattle.machine_laws.specs.ChargeWords.{IsCharged, IsUndisturbed, charge_bound, moves_in, moves_of}
pub use Rattle.containment_laws.proofs.AtRest.{rest_is, rest_from}
pub use Rattle.containment_laws.proofs.Containment.{disturbed_rests}
pub use Rattle.containment_laws.proofs.IdleNodes.{at_rest_idle, inside_from}
pub use Rattle.containment_laws.proofs.ReachSize.{reach_is_small}
pub use Rattle.containment_laws.specs.Reach.{is_in_reach, reach_size}
pub use Rattle.enabled_set.specs.Members.{is_in, members}
pub use Rattle.net_totals.proofs.NodeScans.{kept_twice, few_names, found_kept, pairs_scanned}
pub use Rattle.net_totals.specs.Contributions.{node_part, answered_by, is_lower_end}
pub use Rattle.machine_laws.proofs.AcceptedEvents.{taken_from_none, taken_at, choice_from_none}
pub use Rattle.machine_laws.proofs.Edges.{present_other, linked_comm}
pub use Rattle.machine_laws.proofs.HalfMatchings.{maximal_is_half}
pub use Rattle.machine_laws.proofs.LeastAnswers.{find_contains, filter_map_contains, filter_map_nodes, names_increasing, names_contains, least_answers}
pub use Rattle.machine_laws.proofs.LeastMoves.{makes_from_outcome, move_at, find_passes, IsTable, least_moves_in}
pub use Rattle.machine_laws.proofs.MaximalMatchings.{maximal_from_stable, stable_from_maximal}
pub use Rattle.machine_laws.proofs.Neighbours.{neighbours_range, present_range, option_cases, names_none}
pub use Rattle.machine_laws.proofs.Pairs.{contains_first, contains_rest, contains_empty, contains_cases, filter_map_from}
pub use Rattle.machine_laws.proofs.Runs.{answers_keep, run_add}
pub use Rattle.machine_laws.proofs.StatePreservation.{opening_is_state, join_keeps}
pub use Rattle.machine_laws.proofs.Writes.{if_some_at, is_at_from_some, some_from_is_at, pointer-with_pointer_other, flag-with_flag_other, if_some_from}
pub use Rattle.machine_laws.specs.StatesAfterReplies.{followed}
pub use Rattle.machine_laws.specs.TwoPasses.{IsMoveIn}
pub use Rattle.net_state.proofs.Rounds.{round_linked, round_unlinked}
pub use Rattle.net_state.specs.StateViews.{without_place, StateView}
pub use Rattle.net_state.specs.declared.change.Change.{Change}
pub use Rattle.net_state.specs.declared.change.Change.TheVariants.{Pointed, Flagged}
pub use Rattle.move_bounds.proofs.SmallerBound.{smaller_bounds}
pub use Rattle.move_bounds.specs.MovesLeft.{BoundsMoves, smaller_bound, moves_left}
pub use Rattle.round_counter.specs.Counting.{HasCounted, CanCount, count_in, is_step, log_after, start_after}
pub use Rattle.round_counter.specs.declared.counter.RoundCounter.{RoundCounter}
pub use Rattle.round_laws.proofs.Counting.{answer_followed}
pub use Rattle.round_laws.proofs.RoundCounts.{counted_whole}
pub use Rattle.round_laws.specs.Rounds.{rounds_in, rounds_by, rounds_from, round_turn, stays_pending}
pub use Rattle.round_laws.specs.RoundCounts.{RoundCount, count_of_log, next_count, next_counting, rounds_of}
pub use Rattle.rule_machine.specs.Answer.{Answers, Does, spent_after, AnswersBy}
pub use Rattle.rule_machine.specs.Disturbance.{after_link, after_join}
pub use Rattle.rule_machine.specs.Least.{outcome_of, move_in, item_of, least_moves, outcome_at, outcome_by, reply_of, state_after, reply_by, accepted_reply}
pub use Rattle.rule_machine.specs.Network.{names, present, Network, IsNetwork, linked, neighbours, with_edge, without_edge, with_node, node_count, edge_count, edge_list}
pub use Rattle.rule_machine.specs.Refuse.{item_refusal, items_refusal, refusal_of, step_refusal, rule_refusal, wish_refusal}
pub use Rattle.rule_machine.specs.RuleTable.{enabled_names, RuleTable, acts, rule_at, is_open, enabled}
pub use Rattle.rule_machine.specs.Run.{Entry, Moment, Run, beginning_with}
pub use Rattle.rule_machine.specs.Stable.{IsStable, mutual_pairs, pair_above}
pub use Rattle.rule_machine.specs.State.{State, IsState, suits, has_suitor, Registers, pointer, flag, points, is_at, married, is_unanswered, pointer_of, flag_of, with_pointer, with_flag}
pub use Rattle.rule_machine.specs.declared.act.Act.{Act}
pub use Rattle.rule_machine.specs.declared.act.Act.TheVariants.{Abandon}
pub use Rattle.rule_machine.specs.declared.act.Moved.{Moved}
pub use Rattle.rule_machine.specs.declared.choice.Item.{Item}
pub use Rattle.rule_machine.specs.declared.event.Event.{Event}
pub use Rattle.rule_machine.specs.declared.event.Event.TheVariants.{Step, Link, Unlink, Point, Flag, Show, Enabled, Matching, Status, Join, Leave}
pub use Rattle.rule_machine.specs.declared.refusal.Refusal.{Refusal}
pub use Rattle.rule_machine.specs.declared.refusal.Refusal.TheVariants.{UnknownNode, ChosenTwice, BadTarget, EmptyChoice, NotCentral}
pub use Rattle.rule_machine.specs.declared.reply.Reply.{Reply}
pub use Rattle.rule_machine.specs.declared.reply.Reply.TheVariants.{Refused, Moves, Accepted, Counts}
pub use Rattle.rule_machine.specs.declared.verdict.Outcome.{Outcome}
pub use Rattle.rule_machine.specs.declared.verdict.Verdict.{Verdict}
pub use Rattle.rule_machine.specs.ChargeInputs.{ends_open}
pub use Rattle.rule_machine.specs.LocalViews.{asks_for, AgreesLocally, reaches, is_reached, reaches_beside}
pub use Rattle.rule_machine.specs.Target.{SameAt}
pub use Rattle.suitor_index.specs.TurnedGuards.{may_turn, turns_with, TurnsNone}
pub use Rattle.rule_engine.specs.ChoiceMoves.{verdicts_from, verdicts_of, moves_by, AreLeast, refused_by, size_refusal, IsToldOf, HaveOutcomes}
pub use Rattle.rule_engine.specs.Costs.{disturbs, may_disturb}
pub use Rattle.rule_engine.specs.DerivedValues.{WereOn}
pub use Rattle.rule_engine.specs.DisturbanceReach.{would_reach, reach_of, Spares, StaysAtRest}
pub use Rattle.rule_engine.specs.EngineStates.{AreOn, is_enabled_at, moment, guard_at, marked_at}
pub use Rattle.rule_engine.specs.EventReplies.{IsWithinBudget, Prepares, stored_reply}
pub use Rattle.rule_engine.specs.GuardRefresh.{IsRefreshed, is_suitor, may_change_guard, is_null_target}
pub use Rattle.rule_engine.specs.Marks.{Ascend, is_named, AreMarks, HasPlace, HasMarks}
pub use Rattle.rule_engine.specs.PreparedEvents.{NetView, IsPrepared, net_moment, with_counting}
pub use Rattle.rule_engine.specs.Rounds.{CountsRounds, CountsRun, HasRounds, IsReady, counting_in, AreLeaversNoted}
