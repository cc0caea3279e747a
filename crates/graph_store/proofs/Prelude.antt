-- What the proofs of this crate import from the crates below and from its own definitions.
pub use Rattle.std.proofs.Common.{◌≡◌, ◌≢◌, ℕ, ◌+◌, ◌*◌, ◌-◌, ◌<◌, ◌≤◌, suc, zero, Bool, true, false, not, cond, ◌&&◌, ◌||◌, List, [], ◌∷◌, ◌++◌, length, eqb, get_or, take, drop, sym, refl, ap, ◌∙◌, arith, add-one, ⊎_elim, map, set, append_assoc, Result, Ok, Err, MatchResult, None, Some, ◌/◌, ◌^◌, subst, min, max, leb, ltb, Option, count_by, replicate, ap₂, IfOk, OnOk, inl, inr, ◌⊎◌, slice_set, SomeIff}
pub use Rattle.std.proofs.Math.Bool.{and-false, or-false}
pub use Rattle.std.proofs.Math.Nat.{pow-succ'}
pub use Rattle.std.proofs.Math.Seq.{drop-cons, map-set_same, take-append-add}
pub use Rattle.std.proofs.lemmas.Bool.{ne_eqb, eq-eqb, eqb-true, or_from, cases_eq, cases_lt, true≢false, or_right, cases_Bool, leb-false, and_parts, or_cases, or_left, ltb-true, and_left, le-leb, lt-ltb, le-ltb, lt-leb, ltb-false, eqb-false}
pub use Rattle.std.proofs.lemmas.Bool.Decides.{nat_tests}
pub use Rattle.std.proofs.lemmas.Grind.{get_or_default_zero}
pub use Rattle.std.proofs.lemmas.List.{take-append-drop, get_or-take, get_or-drop, length-take, length-drop, get_or_default, map-set, get_or-map, get_or_past, length-map, ext_get_or, take_rest, length-take-le, take-take, take-append-le, drop-drop, get_or-set_other, length-set, get_or-set_same, length-replicate, append-nil, nil_from_length, take_more, get_or-replicate, with_items_is}
pub use Rattle.std.proofs.lemmas.List.Edits.{length-insert, get_or-insert_below, get_or-insert_at, get_or-insert_above, length-remove, get_or-remove_below, get_or-remove_above}
pub use Rattle.std.proofs.lemmas.List.Elements.{filter_agree}
pub use Rattle.std.proofs.lemmas.List.Folds.{list_any-append, list_any_at, list_any_none}
pub use Rattle.std.proofs.lemmas.List.FromFn.{length-range_with_len, length-map-range_with_len, get_or-map-range_with_len}
pub use Rattle.std.proofs.lemmas.List.Kept.{AllPairs-from_increasing}
pub use Rattle.std.proofs.lemmas.List.Sums.{length-filter, count_by-le-length}
pub use Rattle.std.proofs.lemmas.Map.Views.{All-from_any}
pub use Rattle.std.proofs.lemmas.Option.{slice_get-get_or}
pub use Rattle.std.proofs.lemmas.Result.{IfOk-weaker}
pub use Rattle.std.specs.Cmp.{nat_cmp_is, both_tied, unsigned_ties, nat_eq_equiv}
pub use Rattle.std.specs.FinMap.{len-entries}
pub use Rattle.std.specs.Int.{from_bool}
pub use Rattle.std.specs.List.{range_with_len, insert, remove, list_any}
pub use Rattle.std.specs.List.Sorted.{IsStrictlyIncreasing}
pub use Rattle.std.specs.Ordering.{is_lt, nat_cmp, ordering_then, eq_by_cmp}
pub use Rattle.std.specs.Prelude.{filter, nat_le, slice_get, MatchOption, nat_lt, All, IsTrue}
pub use Rattle.std.specs.Result.{is_ok, IsErrAnd}
pub use Rattle.std.specs.Vec.{vec_len, vec_capacity, with_items}
pub use Rattle.std.specs.declared.alloc.Global.{Global}
pub use Rattle.std.specs.declared.cmp.Ordering.TheVariants.{Less, Equal}
pub use Rattle.std.specs.declared.vec.Vec.{Vec}
pub use Rattle.machine_laws.proofs.EdgeChanges.{count_with, count_without, count_empty, count_all_few}
pub use Rattle.machine_laws.proofs.EdgesByEnds.{one_node_changes}
pub use Rattle.machine_laws.proofs.EdgesByNodes.{zeros, count_filter}
pub use Rattle.machine_laws.proofs.ListCounts.{count_agree}
pub use Rattle.enabled_set.specs.Members.{is_in, members}
pub use Rattle.machine_laws.proofs.Edges.{contains-without, pair_total, pair_exact, contains-insert, contains-remove, contains-empty}
pub use Rattle.machine_laws.proofs.Leaves.{unit_some}
pub use Rattle.machine_laws.proofs.Neighbours.{present_range, linked_back}
pub use Rattle.rule_machine.specs.Network.{Network, present, linked, edge, edge_count, PairSet, neighbours, is_end, without_edge, without_node, IsNetwork, names, pair_cmp, pair_set, first_names, edgeless_with, with_edge, edge_list, node_count}
pub use Rattle.rule_machine.specs.Refuse.{max_edges}
pub use Rattle.graph_store.specs.Fault.{ends_fault, link_fault, unlink_fault, leave_fault}
pub use Rattle.graph_store.specs.Graph.{Graph, HasRoomFor}
pub use Rattle.graph_store.specs.RowPools.{names_at, no_head, head_at, is_long, row_of, room_of, spare_at, lists_of, rooms_of, AreDisjointParts, IsPool, RowLists}
pub use Rattle.graph_store.specs.Rows.{has, IsPlaceOf, IsGapFor, contents, row_at, network_of, IsRows, IsPartFor, edges_of, IsStore, pairs_from, put_both, take_both}
pub use Rattle.graph_store.specs.declared.row_pool.Head.{Head}
pub use Rattle.graph_store.specs.declared.fault.GraphFault.TheVariants.{UnknownNode, SelfLoop, AlreadyLinked, NotLinked, TooManyEdges}
