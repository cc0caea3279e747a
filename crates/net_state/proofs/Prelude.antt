-- What the proofs of this crate import from the crates below and from its own definitions.
pub use Rattle.std.proofs.Common.{◌-◌, min, max, count_by, take, replicate, ◌≡◌, ◌≢◌, ℕ, ◌<◌, ◌≤◌, true, false, length, Some, IsTrue, refl, sym, ap, subst, ◌∙◌, arith, cond, not, ◌&&◌, ◌||◌, None, Result, Ok, Err, OnOk, OnErr, nat_eq, ⊎_elim, ◌+◌, Bool, List, [], ◌∷◌, ◌++◌, map, filter, filter_map, Option, SomeIff, option_to_list, set, find, is_some, fold, rules, drop, get_or, drop-cons, suc, add-one, ap₂, zero, nat_le, leb, ◌↔◌}
pub use Rattle.std.proofs.lemmas.Bool.{true≢false, false_from_ne_true, eq-eqb, ne_eqb, cases_eq, cases_lt, leb-true, and_parts, not-false, or_from, eqb-true, lt-ltb, or_left, or_parts}
pub use Rattle.std.proofs.lemmas.Grind.{common_steps}
pub use Rattle.std.proofs.lemmas.List.{map-id, length-map, length-set, length-replicate, get_or-set_other, get_or-set_same, with_items_is, length-take, take_more, take_all, take-map, get_or-map, map_more, map_push, nil_from_length, get_or-take, get_or_default}
pub use Rattle.std.proofs.lemmas.List.Elements.{filter_map-append, filter_passes}
pub use Rattle.std.proofs.lemmas.List.Folds.{list_any_at, list_any_none}
pub use Rattle.std.proofs.lemmas.List.FromFn.{map-range_with_len_more, length-range_with_len}
pub use Rattle.std.proofs.lemmas.List.Kept.{AllPairs-from_increasing}
pub use Rattle.std.proofs.lemmas.List.Sums.{length-filter, count_by-le-length}
pub use Rattle.std.proofs.lemmas.Map.Views.{tells_apart}
pub use Rattle.std.specs.Cmp.{tied_itself}
pub use Rattle.std.specs.FinMap.Entries.{is_sorted, below_all}
pub use Rattle.std.proofs.lemmas.Simd.{map-map}
pub use Rattle.std.specs.Int.{from_bool}
pub use Rattle.std.specs.List.{range_with_len, cons_option, list_any}
pub use Rattle.std.specs.List.Sorted.{IsStrictlyIncreasing}
pub use Rattle.std.specs.Ordering.{eq_by_cmp, ordering_reverse, is_eq, nat_cmp, ordering_then, is_lt}
pub use Rattle.std.specs.Prelude.{T}
pub use Rattle.std.specs.declared.cmp.Ordering.{Ordering}
pub use Rattle.std.specs.declared.cmp.Ordering.TheVariants.{Less, Greater, Equal}
pub use Rattle.enabled_set.proofs.Sums.{everywhere}
pub use Rattle.graph_store.proofs.AscendingLists.{part_of_names}
pub use Rattle.graph_store.proofs.Faults.{may_link}
pub use Rattle.graph_store.proofs.PresentRows.{first_names_at}
pub use Rattle.graph_store.specs.Fault.{link_fault}
pub use Rattle.graph_store.specs.Rows.{has}
pub use Rattle.machine_laws.proofs.EdgeChanges.{count_with, count_without, count_all_few}
pub use Rattle.machine_laws.proofs.Edges.{pair_exact, contains-insert, contains-remove, edge_ends, present_other, pair_total}
pub use Rattle.machine_laws.proofs.EdgesByEnds.{one_node_changes}
pub use Rattle.machine_laws.proofs.EdgesByNodes.{zeros, count_filter}
pub use Rattle.machine_laws.proofs.LeaveSteps.{lowered, lowered_leaves, leave_after_unlink, fewer_edges, parted_is_state}
pub use Rattle.machine_laws.proofs.ListCounts.{count_agree, none_count, IsIn}
pub use Rattle.machine_laws.proofs.Members.{in_names, names_present}
pub use Rattle.machine_laws.proofs.Neighbours.{linked_back, linked_present, present_range, linked_apart, neighbours_range, option_cases, names_none, names_some, linked_pair}
pub use Rattle.machine_laws.proofs.Pointers.{pointer_linked}
pub use Rattle.machine_laws.proofs.Search.{cond-none}
pub use Rattle.machine_laws.proofs.StatePreservation.{link_keeps, unlink_keeps, opening_is_state, point_keeps}
pub use Rattle.machine_laws.proofs.TwoPasses.{written_in_two, married_answered}
pub use Rattle.machine_laws.proofs.Writes.{if_some_from, is_at_from_some, pointer-with_pointer_same, some_from_is_at, without_pointer_was, without_pointer_gone, pointer-with_pointer_other, flag-with_flag_other, flag-with_flag_same, if_some_at}
pub use Rattle.machine_laws.specs.TwoPasses.{flag_read, pointer_written, flag_read_by, is_answered_at}
pub use Rattle.rule_machine.specs.Base.{node_record_at, node_records}
pub use Rattle.rule_machine.specs.Disturbance.{without_pointer, after_point, after_flag, after_leave, after_link}
pub use Rattle.rule_machine.specs.Network.{linked, present, Network, IsNetwork, pair_cmp, edge, with_edge, without_edge, PairSet, names, neighbours, edge_count, node_count, edge_list, edgeless_with, first_names}
pub use Rattle.rule_machine.specs.Refuse.{link_refusal, unlink_refusal, point_refusal}
pub use Rattle.rule_machine.specs.State.{State, IsState, is_at, Registers, points, pointer_of, with_pointer, partner, pointer, flag, married, has_suitor, with_flag, flag_of, opening_with}
pub use Rattle.rule_machine.specs.Step.{after_moves, registers_after}
pub use Rattle.rule_machine.specs.declared.act.Act.{Act}
pub use Rattle.rule_machine.specs.declared.act.Act.TheVariants.{Update, Marry, Seduce, Abandon}
pub use Rattle.rule_machine.specs.declared.act.Moved.{Moved}
pub use Rattle.rule_machine.specs.declared.base.NodeRecord.{NodeRecord}
pub use Rattle.rule_machine.specs.declared.refusal.Refusal.TheVariants.{UnknownNode, SelfLoop, AlreadyLinked, TooManyEdges, NotNeighbour}
pub use Rattle.net_state.specs.AffectedNames.{affected_by, IsUnaffected, AreNamesBelow}
pub use Rattle.net_state.specs.BaseLines.{NamesRise, EdgesAscend, NoStateHas}
pub use Rattle.net_state.specs.Changes.{IsChange, changed_state}
pub use Rattle.net_state.specs.EdgeStances.{are_open, end_at, open_among, open_edges, open_to, AreAllShut, CountsOpenEdges}
pub use Rattle.net_state.specs.StateViews.{StateView, state_of, place_in, IsUntouchedBy, without_place}
pub use Rattle.net_state.specs.declared.change.Change.{Change}
pub use Rattle.net_state.specs.declared.change.Change.TheVariants.{Pointed, Flagged, Linked, Unlinked, Joined, Removed}
pub use Rattle.net_state.specs.declared.edge_stance.EdgeStance.{EdgeStance}
pub use Rattle.net_state.specs.declared.edge_stance.EdgeStance.TheVariants.{Shut}
pub use Rattle.net_state.specs.declared.open_edges.OpenEdges.{OpenEdges}
