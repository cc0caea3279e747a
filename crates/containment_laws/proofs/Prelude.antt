-- What the proofs of this crate import from the crates below and from its own definitions.
pub use Rattle.std.proofs.Common.{◌≡◌, ◌≢◌, ℕ, Bool, true, false, cond, not, ◌&&◌, ◌||◌, Option, None, Some, is_none, find, IsTrue, refl, sym, ap, ◌∙◌, subst, inl, inr, ◌⊎◌, ⊎_elim, List, [], ◌∷◌, Contains, is_some, arith, map, nat_eq, get_or, ◌+◌, ◌≤◌, count_by, filter_map, Any, length}
pub use Rattle.std.proofs.Math.ListN.{get_or-map}
pub use Rattle.std.proofs.lemmas.Bool.{and_parts, and_from, or_cases, or_left, or_right, true≢false, cases_Bool, not-true, not-false, not_from_false, not_from_true, false_from_ne_true, or_parts, or_from, and_cases, cases_eq, eq-eqb, eqb-true, true_from_ne_false, and_left}
pub use Rattle.std.proofs.lemmas.Cmp.{eq_by_cmp_equiv}
pub use Rattle.std.proofs.lemmas.List.{get_or-set_other}
pub use Rattle.std.proofs.lemmas.List.Elements.{All-head, All-tail}
pub use Rattle.std.proofs.lemmas.Option.{none-some, same_Some}
pub use Rattle.std.specs.List.{cons_option}
pub use Rattle.std.specs.Ordering.{eq_by_cmp}
pub use Rattle.machine_laws.proofs.Asks.{hsu_huang_asks, manne_asks}
pub use Rattle.machine_laws.proofs.CostsOfRuns.{point_parts}
pub use Rattle.machine_laws.proofs.ListCounts.{IsIn, IsWithoutRepeats, count_into, count_all, none_count, once}
pub use Rattle.machine_laws.proofs.Members.{names_without_repeats, in_names}
pub use Rattle.machine_laws.proofs.NodeMoves.{IsInside, step_done, Deed, idles, updates, marries, seduces, abandons, IsDone}
pub use Rattle.machine_laws.proofs.PresentMovers.{pointer_present}
pub use Rattle.machine_laws.proofs.PresentNodes.{flagged_present}
pub use Rattle.machine_laws.proofs.ChargesOfRuns.{Effect, rests, steps, disturbs, effect}
pub use Rattle.machine_laws.proofs.Stances.{null_from, null_is}
pub use Rattle.machine_laws.proofs.Tables.{hsu_huang_table, manne_table}
pub use Rattle.machine_laws.proofs.WritesOfSteps.{is_mover_in}
pub use Rattle.machine_laws.specs.ChargeWords.{IsUndisturbed, moves_of}
pub use Rattle.machine_laws.specs.Costs.{end_of_path, path_entries}
pub use Rattle.machine_laws.specs.Degrees.{degree, degree_at}
pub use Rattle.machine_laws.specs.Epochs.{IsPath}
pub use Rattle.machine_laws.proofs.AcceptedEvents.{cond_none, true_from_not}
pub use Rattle.machine_laws.proofs.Edges.{inserted_cases, removed_was, edge_ends, contains-without, pair_total, contains-insert, still_removed, still_without}
pub use Rattle.machine_laws.proofs.EnabledNodes.{act_none}
pub use Rattle.machine_laws.proofs.LeastMoves.{IsTable}
pub use Rattle.machine_laws.proofs.LeaveSteps.{lowered}
pub use Rattle.machine_laws.proofs.Leaves.{nothing_left}
pub use Rattle.machine_laws.proofs.MaximalMatchings.{pairs_apart}
pub use Rattle.machine_laws.proofs.Neighbours.{option_cases, linked_present, near_none, near_fails, linked_back, near_found, present_range, linked_apart, near_some}
pub use Rattle.machine_laws.proofs.Pairs.{pair_from, pair_listed, contains_first, contains_rest, contains_cases, contains_empty}
pub use Rattle.machine_laws.proofs.Pointers.{suitor_linked, married_some, married_from, null_unmarried, points_true, points_from, some_is, pointer_linked, unanswered_unmarried}
pub use Rattle.machine_laws.proofs.Runs.{answers_keep, runs_end_in_states}
pub use Rattle.machine_laws.proofs.StatePreservation.{left_pointer}
pub use Rattle.machine_laws.proofs.Writes.{if_some_from, if_some_at, some_from_is_at, pointer-with_pointer_other, pointer-with_pointer_same, flag-with_flag_other, flag-with_flag_same, without_pointer_flags}
pub use Rattle.rule_machine.specs.Answer.{Answers, spent_after, Does}
pub use Rattle.rule_machine.specs.Disturbance.{after_link, after_unlink, after_point, after_flag, after_join, after_leave, without_pointer, without_name, unless_at}
pub use Rattle.rule_machine.specs.HsuHuang.{hsu_huang}
pub use Rattle.rule_machine.specs.Manne.{manne}
pub use Rattle.rule_machine.specs.Network.{linked, neighbours, present, Network, edge, without_node, pair_cmp, with_edge, names}
pub use Rattle.rule_machine.specs.Refuse.{refusal_of}
pub use Rattle.rule_machine.specs.RuleTable.{RuleTable, rule_at}
pub use Rattle.rule_machine.specs.Run.{Entry, Moment, Run}
pub use Rattle.rule_machine.specs.Stable.{IsStable, mutual_pairs, pair_above, ShareAnEnd}
pub use Rattle.rule_machine.specs.State.{State, IsState, pointer, flag, married, Registers, is_at, points, pointer_of, is_mutual}
pub use Rattle.rule_machine.specs.Step.{IsStep}
pub use Rattle.rule_machine.specs.declared.act.Act.{Act}
pub use Rattle.rule_machine.specs.declared.act.Act.TheVariants.{Update, Marry, Seduce, Abandon}
pub use Rattle.rule_machine.specs.declared.act.Moved.{Moved}
pub use Rattle.rule_machine.specs.declared.choice.Item.{Item}
pub use Rattle.rule_machine.specs.declared.event.Event.{Event}
pub use Rattle.rule_machine.specs.declared.event.Event.TheVariants.{Link, Unlink, Point, Flag, Join, Leave}
pub use Rattle.rule_machine.specs.declared.reply.Reply.{Reply}
pub use Rattle.rule_machine.specs.declared.reply.Reply.TheVariants.{Accepted, Moves}
pub use Rattle.rule_machine.specs.Table.{AsksForWork}
pub use Rattle.containment_laws.specs.Laws.{ReachIsExact, IsWithinTwo, ReachIsNear, ReachIsSmall}
pub use Rattle.containment_laws.specs.Movers.{moves_at, has_moved, is_reached_by, is_ever_reached, KeepsRegisters}
pub use Rattle.containment_laws.specs.Reach.{is_parted, is_hit, is_in_reach, parts_a_pair, partings_of, partings_in, lost_pairs, named_by}
pub use Rattle.containment_laws.specs.Rest.{is_surrounded, is_at_rest}
