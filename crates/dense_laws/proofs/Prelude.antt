-- What the proofs of this crate import from the crates below and from its own definitions.
pub use Rattle.std.proofs.Common.{ℕ, ◌+◌, ◌-◌, ◌*◌, ◌/◌, ◌≤◌, List, arith, ◌≡◌, zero, suc, ◌<◌, nat_le, nat_eq, true, false, cond, ◌&&◌, replicate, Option, None, Some, IsTrue, refl, sym, ap, ◌∙◌, subst, ⊎_elim, not, length, inl, inr, ◌⊎◌, ◌≢◌, [], ◌∷◌, Bool, count_by, filter, is_none, is_some, Any, find}
pub use Rattle.std.proofs.lemmas.Bool.{and_from, or_left, cases_eq, cases_lt, true≢false, le-leb, eq-eqb, ne_eqb, cases_Bool, eqb-true, and_parts, not-true, not_from_false, false_from_ne_true}
pub use Rattle.std.proofs.lemmas.Cmp.{eq_by_cmp_equiv}
pub use Rattle.std.proofs.lemmas.List.{length-replicate, get_or_past}
pub use Rattle.std.proofs.lemmas.List.Elements.{All-head, All-tail, All-cons, All-nil}
pub use Rattle.std.proofs.lemmas.List.FromFn.{length-map-range_with_len, get_or-map-range_with_len, length-range_with_len}
pub use Rattle.std.proofs.lemmas.List.Sums.{length-filter, count_by-le-length, sum_by-cons}
pub use Rattle.std.proofs.lemmas.Option.{none-some, same_Some}
pub use Rattle.std.specs.List.{range_with_len}
pub use Rattle.std.specs.Option.{option_or}
pub use Rattle.std.specs.Ordering.{eq_by_cmp}
pub use Rattle.machine_laws.proofs.EdgesByNodes.{marked_once}
pub use Rattle.machine_laws.proofs.HsuHuangFalls.{one_mover, solo_from}
pub use Rattle.machine_laws.proofs.HsuHuangFalls.{IsSolo, SoloTurn, takes, courts, leaves, paired_stays}
pub use Rattle.machine_laws.proofs.ListCounts.{sum_le, count_all, count_agree, IsIn, IsWithoutRepeats, sum_add, sum_agree, count_none}
pub use Rattle.machine_laws.proofs.Members.{range_bounds, in_names, names_present, names_without_repeats}
pub use Rattle.machine_laws.proofs.LeastMoves.{find_passes}
pub use Rattle.machine_laws.proofs.NodeMoves.{IsDone, step_done}
pub use Rattle.machine_laws.proofs.PresentMovers.{pointer_present, hsu_huang_inside, holds_is}
pub use Rattle.machine_laws.proofs.ChargesOfRuns.{Effect, rests, steps, disturbs, effect}
pub use Rattle.machine_laws.proofs.SilentRuns.{IsBudget, driven_is_quiet}
pub use Rattle.machine_laws.proofs.Stances.{married_is, stance, is_paired, null_is, null_from, paired_from, paired_is, StanceCase, stance_cases, free_from, waiting_from, not_null}
pub use Rattle.machine_laws.proofs.Tables.{hsu_huang_table}
pub use Rattle.machine_laws.proofs.PaidMoves.{bit}
pub use Rattle.machine_laws.proofs.WritesOfSteps.{is_mover_in}
pub use Rattle.machine_laws.specs.ChargeWords.{moves_in, IsUndisturbed, moves_of}
pub use Rattle.machine_laws.specs.Costs.{end_of_path, path_entries}
pub use Rattle.machine_laws.specs.Epochs.{IsPath}
pub use Rattle.machine_laws.specs.SilentRuns.{IsDriven}
pub use Rattle.machine_laws.proofs.Edges.{pair_total, contains-insert, still_inserted, edgeless_is_network, with_edge_is_network}
pub use Rattle.machine_laws.proofs.Neighbours.{linked_back, present_range, linked_apart, linked_present, option_cases, near_found}
pub use Rattle.machine_laws.proofs.Pointers.{some_is, pointer_linked, suitor_linked, no_suitor, suitor_some, points_from, suitor_from}
pub use Rattle.machine_laws.proofs.Runs.{answers_keep, runs_end_in_states}
pub use Rattle.machine_laws.proofs.StatePreservation.{blank_flag, opening_is_state, link_keeps}
pub use Rattle.machine_laws.proofs.Writes.{if_some_from, some_from_is_at, is_at_from_some, pointer-with_pointer_same, pointer-with_pointer_other}
pub use Rattle.rule_machine.specs.Answer.{Answers, spent_after, AnswersBy}
pub use Rattle.rule_machine.specs.Disturbance.{after_link}
pub use Rattle.rule_machine.specs.HsuHuang.{hsu_huang, hsu_huang_opens, hsu_huang_guard}
pub use Rattle.rule_machine.specs.Network.{node_count, Network, IsNetwork, pair_cmp, edge, edgeless, linked, present, with_edge, names, neighbours}
pub use Rattle.rule_machine.specs.Refuse.{wish_refusal, rule_refusal, item_refusal, items_refusal, step_refusal}
pub use Rattle.rule_machine.specs.RuleTable.{acts, rule_at, is_open, enabled_names}
pub use Rattle.rule_machine.specs.Run.{Entry, Moment, Run}
pub use Rattle.rule_machine.specs.State.{IsState, State, pointer, opening, flag, married, has_suitor, is_at, holds_at, suits, with_pointer}
pub use Rattle.rule_machine.specs.Step.{IsStep, IsTarget, IsMoveOf, after_moves}
pub use Rattle.rule_machine.specs.declared.act.Act.{Act}
pub use Rattle.rule_machine.specs.declared.act.Act.TheVariants.{Marry, Seduce, Abandon}
pub use Rattle.rule_machine.specs.declared.act.Moved.{Moved}
pub use Rattle.rule_machine.specs.declared.choice.Item.{Item}
pub use Rattle.rule_machine.specs.declared.event.Event.{Event}
pub use Rattle.rule_machine.specs.declared.event.Event.TheVariants.{Step}
pub use Rattle.rule_machine.specs.declared.refusal.Refusal.{Refusal}
pub use Rattle.rule_machine.specs.declared.refusal.Refusal.TheVariants.{UnknownNode, BadTarget}
pub use Rattle.rule_machine.specs.declared.reply.Reply.{Reply}
pub use Rattle.rule_machine.specs.declared.reply.Reply.TheVariants.{Accepted, Moves}
pub use Rattle.dense_laws.specs.Bound.{dense_bound, HasLongRun}
pub use Rattle.dense_laws.specs.Potential.{unmarried_nodes, dense_charge}
