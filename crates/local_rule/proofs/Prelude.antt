-- What the proofs of this crate import from the crates below and from its own definitions.
pub use Rattle.std.proofs.Common.{◌≡◌, ◌≢◌, ℕ, zero, suc, ◌+◌, ◌<◌, ◌≤◌, min, max, Bool, true, false, cond, not, ◌&&◌, ◌||◌, List, [], ◌∷◌, length, map, find, filter, get_or, drop, take, reverse, nat_eq, nat_le, nat_lt, Option, None, Some, is_some, is_none, IfSome, IsSome, IsTrue, All, Result, Ok, Err, IfOk, OnOk, OnErr, refl, sym, ap, ap₂, ◌∙◌, subst, inl, inr, ◌⊎◌, ⊎_elim, arith, add-one}
pub use Rattle.std.proofs.lemmas.Bool.{cases_Bool, cases_eq, cases_lt, true≢false, false≢true, false_from_ne_true, and_parts, and_from, or_left, or_right, or_cases, eq-eqb, eqb-true, ne_eqb, leb-true, leb-false, le-leb, cond-true, cond-false}
pub use Rattle.std.proofs.lemmas.Bool.Decides.{nat_tests}
pub use Rattle.std.proofs.lemmas.List.{get_or_past, length-map}
pub use Rattle.std.proofs.lemmas.List.Elements.{filter_agree, recursion_from_All, All-from_recursion}
pub use Rattle.std.proofs.lemmas.List.FromFn.{length-map-range_with_len, get_or-map-range_with_len}
pub use Rattle.std.proofs.lemmas.List.Kept.{IsStrictlyIncreasing-filter}
pub use Rattle.std.proofs.lemmas.Option.{none-some, same_Some}
pub use Rattle.std.specs.Cmp.{both_ways}
pub use Rattle.std.specs.List.{AllByRecursion, list_any, range_with_len}
pub use Rattle.std.specs.List.Sorted.{IsStrictlyIncreasing}
pub use Rattle.std.specs.Option.{option_or, option_map, option_and_then}
pub use Rattle.rule_machine.specs.declared.act.Act.{Act}
pub use Rattle.rule_machine.specs.declared.act.Act.TheVariants.{Update, Marry, Seduce, Abandon}
pub use Rattle.rule_machine.specs.declared.base.NodeRecord.{NodeRecord}
pub use Rattle.rule_machine.specs.Base.{node_record_at}
pub use Rattle.rule_machine.specs.Network.{Network, IsNetwork, present, linked, neighbours, names, edge, edgeless, with_edge}
pub use Rattle.rule_machine.specs.RuleTable.{RuleTable, rule_at, least_target, is_open, first_open, last_open_above, acts}
pub use Rattle.rule_machine.specs.State.{State, IsState, pointer, flag, pointer_of, flag_of, is_at, suits, points, first_suitor, has_suitor, married, holds_at}
pub use Rattle.rule_machine.specs.Target.{SameAt, IsNear, target_at, target_by, takes_target}
pub use Rattle.graph_store.specs.Rows.{has}
unfoldable pub use Rattle.graph_store.proofs.AscendingLists.{RisesFrom}
pub use Rattle.graph_store.proofs.AscendingLists.{rises_from, part_of_names}
pub use Rattle.graph_store.proofs.PairOrder.{same_pair, has-insert}
pub use Rattle.machine_laws.proofs.Edges.{contains-empty, edgeless_is_network, with_edge_is_network}
pub use Rattle.machine_laws.proofs.LeastAnswers.{names_increasing}
pub use Rattle.machine_laws.proofs.LeastMoves.{find_passes}
pub use Rattle.machine_laws.proofs.LocalAgreement.{same_find, same_pointer, same_suitor, same_married}
pub use Rattle.machine_laws.proofs.Neighbours.{option_cases, linked_apart, linked_back, linked_present, near_found, near_some, neighbours_range, present_range}
pub use Rattle.machine_laws.proofs.Pointers.{pointer_linked, some_is}
pub use Rattle.machine_laws.proofs.Writes.{is_at_from_some, some_from_is_at, if_some_from, if_some_at}
pub use Rattle.local_rule.specs.declared.fault.ViewFault.{ViewFault}
pub use Rattle.local_rule.specs.declared.fault.ViewFault.TheVariants.{NotAscending, OwnNeighbour, PointsAtItself, PointsAtStranger}
pub use Rattle.local_rule.specs.Faults.{row_fault, rows_fault, own_fault, first_fault}
pub use Rattle.local_rule.specs.Views.{ShowsAtNode, IsShown, IsNeverShown, record_of}
pub use Rattle.local_rule.specs.Star.{name_in, greatest_in, with_target_edge, star_network, record_in, target_found, flag_in, star_registers, star_of, star}
