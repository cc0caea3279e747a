-- What the proofs of this crate import from the crates below and from its own definitions.
pub use Rattle.std.proofs.Common.{refl, subst, sym, ◌≡◌, ◌≢◌, ℕ, zero, suc, ◌+◌, ◌≤◌, Bool, true, false, cond, not, ◌&&◌, reverse, find, Option, Some, None, SomeIff, is_none, is_some, nat_eq, nat_lt, nat_le, IsTrue, MatchOption, ap, ap₂, ◌∙◌, ⊎_elim, arith, ◌<◌, ◌%◌, List, ◌||◌, length, get_or, take, ◌*◌, filter, ◌-◌, ◌++◌, IfSome, [], ◌∷◌, replicate, set, drop, inl, inr}
pub use Rattle.std.proofs.Math.Bool.{or-false}
pub use Rattle.std.proofs.Math.Seq.{take-append_seam}
pub use Rattle.std.proofs.lemmas.Bool.{and_parts, cases_eq, eq-eqb, false_from_ne_true, le-leb, lt-leb, lt-ltb, ne_eqb, true≢false, or_left, and_right, le-ltb, ltb-false, ltb-true, or_cases, or_parts, eqb-true}
pub use Rattle.std.proofs.lemmas.Cmp.{eq_by_cmp_equiv, nat_eq_equiv}
pub use Rattle.std.proofs.lemmas.List.{get_or-take, get_or_default, length-take, take_all, get_or-replicate, get_or-set_same, get_or-set_other, length-replicate, length-set, get_or_read_under}
pub use Rattle.std.proofs.lemmas.List.Folds.{Any-from_list_any, list_any_none, list_any_more, list_any_at}
pub use Rattle.std.proofs.lemmas.List.FromFn.{get_or-range_with_len, length-range_with_len}
pub use Rattle.std.proofs.lemmas.List.Kept.{AllPairs-from_increasing, IsStrictlyIncreasing-filter}
pub use Rattle.std.proofs.lemmas.List.Sorted.{IsPermutation-reverse, sum_by-IsPermutation}
pub use Rattle.std.proofs.lemmas.List.Sums.{sum_by-cons, sum_by-le}
pub use Rattle.std.proofs.lemmas.Map.Views.{any-filter_same, list_any-from_Contains}
pub use Rattle.std.specs.Bool.{beq}
pub use Rattle.std.specs.Cmp.{both_ways}
pub use Rattle.std.specs.List.{count_by, sum_by, list_any, range_with_len}
pub use Rattle.std.specs.List.Sorted.{IsStrictlyIncreasing}
pub use Rattle.std.specs.Ordering.{eq_by_cmp}
pub use Rattle.graph_store.proofs.Faults.{may_link}
pub use Rattle.machine_laws.proofs.Edges.{pair_total, contains-insert, contains-remove, linked_comm, contains-empty, present_other, with_node_is_network}
pub use Rattle.machine_laws.proofs.LeastAnswers.{names_increasing, names_contains}
pub use Rattle.machine_laws.proofs.ListCounts.{IsIn, IsWithoutRepeats, count_cons, sum_le, sum_agree}
pub use Rattle.machine_laws.proofs.Members.{in_names, names_without_repeats}
pub use Rattle.machine_laws.proofs.Neighbours.{near_found, near_some, linked_back, linked_present, present_range, linked_apart, neighbours_range}
pub use Rattle.machine_laws.proofs.Pointers.{points_true, pointer_linked, suitor_linked}
pub use Rattle.machine_laws.proofs.StatePreservation.{opening_is_state}
pub use Rattle.machine_laws.proofs.Writes.{pointer-with_pointer_other, pointer-with_pointer_same, flag-with_flag_other, flag-with_flag_same, if_some_from, is_at_from_some}
pub use Rattle.net_state.proofs.ChangedRounds.{size_kept}
pub use Rattle.net_state.proofs.EdgeCounts.{few_neighbours}
pub use Rattle.net_state.proofs.Edges.{linked_with_other, linked_without_other}
pub use Rattle.net_state.proofs.NetworkBuilding.{not_before}
pub use Rattle.net_state.specs.Changes.{IsChange}
pub use Rattle.net_state.specs.StateViews.{StateView, state_of}
pub use Rattle.net_state.specs.declared.change.Change.{Change}
pub use Rattle.net_state.specs.declared.change.Change.TheVariants.{Linked, Unlinked, Pointed, Flagged, Removed}
pub use Rattle.rule_machine.specs.Disturbance.{after_join}
pub use Rattle.rule_machine.specs.Network.{Network, IsNetwork, linked, neighbours, pair_cmp, edge, present, with_edge, without_edge, names, with_node}
pub use Rattle.rule_machine.specs.RuleTable.{is_open}
pub use Rattle.rule_machine.specs.State.{State, IsState, suits, has_suitor, first_suitor, Registers, points, pointer_of, flag_of, with_pointer, with_flag, opening_with, is_at, pointer, flag}
pub use Rattle.rule_machine.specs.LocalViews.{is_reached, asks_for}
pub use Rattle.suitor_index.specs.PriorIndexes.{WasIndexed}
pub use Rattle.suitor_index.specs.Tallies.{IsIndexed, suitor_count, tally_at, name_if, IsLoneSuitor, tally_of, IsIndexOf, empty_tally, reduced}
pub use Rattle.suitor_index.specs.TallyChanges.{one_if, CanTurn, IsTurned, AddsSuitor, IsAimed, IsRepointed, HasSuitor, HasTallyRoom, HasNoneAlone, is_null_with_none_but}
pub use Rattle.suitor_index.specs.TurnedGuards.{may_turn, turns_with, TurnsNoneWith}
pub use Rattle.suitor_index.specs.declared.tally.Tally.{Tally}
