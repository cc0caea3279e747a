-- What the proofs of this crate import from the crates below and from its own definitions.
pub use Rattle.std.proofs.Common.{◌≡◌, ℕ, ◌+◌, Bool, true, false, cond, not, ◌&&◌, List, length, count_by, None, Some, is_some, is_none, option_and_then, sym, ap, subst, ◌∙◌, arith, ◌≤◌, suc, ◌<◌, [], ◌∷◌, get_or, sum_by, filter, filter_map, Option, IsTrue, nat_eq, take, refl, ap₂, ⊎_elim, ◌≢◌, set, replicate, MatchOption, IfSome}
pub use Rattle.std.proofs.lemmas.Bool.{and_parts, eq-eqb, false_from_ne_true, true≢false, cases_eq, le-leb, lt-leb}
pub use Rattle.std.proofs.lemmas.List.{get_or-set_other, get_or-set_same, length-replicate, get_or-replicate, length-set, take_all}
pub use Rattle.std.proofs.lemmas.List.FromFn.{length-range_with_len}
pub use Rattle.std.proofs.lemmas.List.Sums.{sum_by_more, sum_by-cons, count_by-le-length, length-filter}
pub use Rattle.std.specs.List.{range_with_len, cons_option}
pub use Rattle.std.specs.List.{All}
pub use Rattle.std.specs.Result.{IfOk}
pub use Rattle.std.specs.declared.alloc.Global.{Global}
pub use Rattle.std.specs.declared.vec.Vec.{Vec}
pub use Rattle.machine_laws.proofs.ClosedByPointers.{at_once, closing_by_targets}
pub use Rattle.machine_laws.proofs.EdgesByEnds.{edges_agree}
pub use Rattle.machine_laws.proofs.EdgesByNodes.{count_filter}
pub use Rattle.machine_laws.proofs.ListCounts.{count_agree}
pub use Rattle.machine_laws.proofs.Members.{in_names, names_without_repeats}
pub use Rattle.enabled_set.proofs.MarkChanges.{one_fewer}
pub use Rattle.enabled_set.proofs.Members.{inside}
pub use Rattle.enabled_set.proofs.Sums.{summed, everywhere, one_byte, sum_fits}
pub use Rattle.enabled_set.specs.Members.{is_in, members}
pub use Rattle.net_state.specs.EdgeStances.{are_open, end_at, open_edges}
pub use Rattle.net_state.specs.declared.edge_stance.EdgeStance.{EdgeStance}
pub use Rattle.net_state.specs.declared.edge_stance.EdgeStance.TheVariants.{Shut, Courted, Free}
pub use Rattle.machine_laws.proofs.Neighbours.{linked_present, near_fails, option_cases}
pub use Rattle.machine_laws.proofs.Pointers.{points_true, no_suitor, pointer_linked, none_is, partner_from, null_unmarried, unanswered_unmarried, points_from}
pub use Rattle.machine_laws.proofs.StatePreservation.{opening_is_state}
pub use Rattle.net_state.proofs.ChangedRounds.{round_changed, size_kept, names_below}
pub use Rattle.net_state.proofs.Rounds.{IsSameRound, same_suitors, same_marriage}
pub use Rattle.net_state.specs.AffectedNames.{IsUnaffected, affected_by}
pub use Rattle.net_state.specs.Changes.{IsChange}
pub use Rattle.net_state.specs.StateViews.{StateView}
pub use Rattle.net_state.specs.declared.open_edges.OpenEdges.{OpenEdges}
pub use Rattle.net_state.proofs.EdgeCounts.{few_neighbours}
pub use Rattle.net_state.specs.declared.change.Change.{Change}
pub use Rattle.rule_machine.specs.Charge.{is_courted}
pub use Rattle.rule_machine.specs.Network.{neighbours, Network, IsNetwork, names, present, linked, edge_list, node_count}
pub use Rattle.rule_machine.specs.Stable.{pair_above, mutual_pairs}
pub use Rattle.rule_machine.specs.State.{State, IsState, holds_at, points, is_at, pointer, married, has_suitor, partner, is_mutual, opening_with}
pub use Rattle.rule_machine.specs.ChargeLaws.{AreNear}
pub use Rattle.rule_machine.specs.ChargeInputs.{IsSameChargeInput, ends_open}
pub use Rattle.suitor_index.proofs.Sums.{sum_filter}
pub use Rattle.suitor_index.specs.Tallies.{IsLoneSuitor, IsIndexed}
pub use Rattle.net_totals.specs.Contributions.{closing_at, IsExactAt, AreExactUnlessStale, answered_by, stance_of, is_lower_end, no_contribution, contribution_at, node_part, IsExactState, FitsSixteenBits}
pub use Rattle.net_totals.specs.declared.contribution.Contribution.{Contribution}
