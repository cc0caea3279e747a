-- What the proofs of this crate import from the crates below and from its own definitions.
pub use Rattle.std.proofs.Common.{◌≡◌, ℕ, zero, suc, ◌+◌, ◌*◌, ◌≤◌, Bool, true, false, cond, not, ◌&&◌, List, [], ◌∷◌, Option, None, Some, nat_eq, get_or, set, IsTrue, IfSome, refl, ap, ◌∙◌, subst, ⊎_elim, arith, ◌≢◌, ◌<◌, ◌||◌, length, count_by, unwrap_or, sym, inl, inr, ◌⊎◌, is_some, is_none}
pub use Rattle.std.proofs.lemmas.Bool.{true_from_ne_false, and_from, cond-true, cond-false, cases_Bool, true≢false, and_parts, or_cases, or_left, or_parts, eqb-true, not-true, false_from_ne_true, ne_eqb, not_from_false, cases_eq}
pub use Rattle.std.proofs.lemmas.List.Sums.{length-filter}
pub use Rattle.std.proofs.lemmas.Option.{same_Some, none-some}
pub use Rattle.machine_laws.proofs.CostsOfRuns.{manne_one, leave_has, manne_disturbed, point_parts, hsu_huang_disturbed}
pub use Rattle.machine_laws.proofs.Disturbed.{uncrossed, no_nodes, one_node, same_network, IsSubNetwork, WaitsOnly, IsWritten, wed_stays, written_at, leave_waits, leave_within, unlink_waits, unlink_within}
pub use Rattle.machine_laws.proofs.EdgesByNodes.{at_both, at_node, at_upper, count_filter, edges_without_repeats}
pub use Rattle.machine_laws.proofs.Degrees.{one_between}
pub use Rattle.machine_laws.proofs.PresentMovers.{pointer_present}
pub use Rattle.machine_laws.proofs.HsuHuangCosts.{hsu_huang_grows}
pub use Rattle.machine_laws.proofs.PaidMoves.{IsSeen, seen}
pub use Rattle.machine_laws.proofs.Laws.{manne_charged, moves_are_paid, hsu_huang_charged}
pub use Rattle.machine_laws.proofs.ListCounts.{count_within, count_split, count_not, count_among, at_most_one, count_le, count_or, IsWithoutRepeats, IsIn, count_all, count_into, none_count, once}
pub use Rattle.machine_laws.proofs.ManneCosts.{manne_grows}
pub use Rattle.machine_laws.proofs.ManneStableCharge.{married_twice, manne_stable_charge, married_are_pairs, unmarried_charge}
pub use Rattle.machine_laws.proofs.Members.{names_len, in_names, names_present, names_without_repeats, edges_contain}
pub use Rattle.machine_laws.proofs.StableCharge.{an_end_paired, hsu_huang_stable_is_zero}
pub use Rattle.machine_laws.proofs.Stances.{married_is}
pub use Rattle.machine_laws.proofs.Tables.{manne_table, hsu_huang_table}
pub use Rattle.machine_laws.specs.ChargeWords.{IsUndisturbed, moves_in}
pub use Rattle.machine_laws.specs.Costs.{hsu_huang_cost, hsu_huang_point_cost, manne_cost, manne_point_cost}
pub use Rattle.machine_laws.specs.Degrees.{degree}
pub use Rattle.containment_laws.proofs.AtRest.{all_rest, rest_is_stable}
pub use Rattle.containment_laws.proofs.Containment.{answered_mild, run_keeps_network, run_keeps_pair, disturbed_rests, mild_weds}
pub use Rattle.containment_laws.proofs.Edits.{mutual_is, IsMild}
pub use Rattle.containment_laws.proofs.LostPairs.{most_if}
pub use Rattle.containment_laws.proofs.ExactReach.{unmarried_null}
pub use Rattle.containment_laws.proofs.Partings.{none_parted, main_node, spared}
pub use Rattle.containment_laws.proofs.Proved.{IsContaining, manne_contains}
pub use Rattle.containment_laws.specs.Reach.{is_hit, is_parted, parts_a_pair, is_in_reach}
pub use Rattle.machine_laws.proofs.Edges.{present_other, still_present}
pub use Rattle.machine_laws.proofs.Neighbours.{linked_back, linked_present, linked_apart, near_fails}
pub use Rattle.machine_laws.proofs.Pointers.{married_from, pointer_linked, points_from, married_some, null_unmarried, points_true, suitor_some}
pub use Rattle.machine_laws.proofs.Runs.{answers_keep, runs_end_in_states}
pub use Rattle.machine_laws.proofs.StatePreservation.{leave_keeps, unlink_keeps}
pub use Rattle.rule_machine.specs.Answer.{AnswersBy, Answers, Does}
pub use Rattle.rule_machine.specs.Charge.{awaits, is_courted, hsu_huang_closed, manne_charge, hsu_huang_charge}
pub use Rattle.rule_machine.specs.Disturbance.{after_leave, after_point, after_unlink}
pub use Rattle.rule_machine.specs.HsuHuang.{hsu_huang}
pub use Rattle.rule_machine.specs.Manne.{manne}
pub use Rattle.rule_machine.specs.Network.{Network, is_end, linked, names, present, node_count, edge_list}
pub use Rattle.rule_machine.specs.Refuse.{refusal_of}
pub use Rattle.rule_machine.specs.RuleTable.{RuleTable}
pub use Rattle.rule_machine.specs.Run.{Entry, Moment, Run}
pub use Rattle.rule_machine.specs.Stable.{IsStable, mutual_pairs}
pub use Rattle.rule_machine.specs.State.{State, IsState, has_suitor, is_at, is_unanswered, pointer, points, married, is_mutual}
pub use Rattle.rule_machine.specs.declared.event.Event.{Event}
pub use Rattle.rule_machine.specs.declared.event.Event.TheVariants.{Link, Unlink, Point, Flag, Join, Leave}
pub use Rattle.rule_machine.specs.declared.refusal.Refusal.{Refusal}
pub use Rattle.rule_machine.specs.declared.reply.Reply.TheVariants.{Accepted}
pub use Rattle.silence_laws.specs.Changes.{most_gained, most_lost, nodes_gone}
pub use Rattle.silence_laws.specs.Costs.{is_single_but, silent_cost, silent_point_cost, single_neighbours, single_neighbours_at, single_neighbours_but, manne_silent_cost, manne_silent_point_cost}
pub use Rattle.silence_laws.specs.Laws.{SilentCostIsLess, RewritingChangesNothing, FewAreGained, FewAreLost, ManneMovesArePaid, ManneSilentCostIsLess, ManneSilentCostPays, SilentCostPays, TurnedCostsLess, NobodyWaits}
