-- What the proofs of this crate import from the crates below and from its own definitions.
pub use Rattle.std.proofs.Common.{◌≡◌, ◌≢◌, ℕ, zero, suc, ◌+◌, ◌-◌, ◌<◌, ◌≤◌, List, [], ◌∷◌, ◌++◌, length, set, sym, refl, ap, ◌∙◌, subst, ⊎_elim, append-nil, arith, cond, map, All, nat_eq, nat_lt, length-append, append_assoc, get_or, take, drop, unwrap_or, vec_len, Vec, Global, rules, ap₂, vec_capacity}
pub use Rattle.std.proofs.lemmas.Bool.{cases_lt, cases_eq}
pub use Rattle.std.proofs.lemmas.List.{map-append, get_or-map, length-map, get_or-set_same, get_or-set_other, length-set, map-id, same_lists, take-append-drop, take_all, take_more}
pub use Rattle.std.proofs.lemmas.List.Elements.{All-append, All-take, All-drop, All-map, All-pop, All-push, All-nil, All-cons}
pub use Rattle.std.proofs.lemmas.List.Folds.{fold-map}
pub use Rattle.std.proofs.lemmas.List.FromFn.{get_or-range_with_len, length-range_with_len, map-range_with_len_more}
pub use Rattle.std.proofs.lemmas.List.Sorted.{All-permutation, IsPermutation-swap_remove}
pub use Rattle.std.proofs.lemmas.List.Sums.{sum_by-append, sum_by-cons, sum_by-le, sum_by_push, sum_by-swap_remove}
pub use Rattle.std.proofs.lemmas.Option.{slice_get-get_or, unwrap_or-slice_get, get_or_from_slice_get}
pub use Rattle.std.proofs.lemmas.Result.{IfOk-at_ok}
pub use Rattle.std.specs.List.{sum_by, range_with_len, swap_remove}
pub use Rattle.std.specs.Prelude.{Option, Some, None, IfSome, MatchOption, if◌then◌else◌, slice_get, IsPermutation, slice_set}
pub use Rattle.crossbeam_deque.proofs.Lists.{at_set, at_snoc, set_else}
pub use Rattle.crossbeam_deque.specs.Handles.{worker_flavor, worker_view, view}
pub use Rattle.crossbeam_deque.specs.Tasks.{Pushes, Finds, FindsFew, Forks, Merges}
pub use Rattle.rule_engine.proofs.ItemVerdicts.{length-verdicts_of}
pub use Rattle.rule_engine.proofs.NodeScans.{ok_branch}
pub use Rattle.rule_engine.specs.ChoiceMoves.{verdicts_of, verdict_of, verdicts_from}
pub use Rattle.rule_machine.specs.RuleTable.{RuleTable}
pub use Rattle.rule_machine.specs.State.{State}
pub use Rattle.rule_machine.specs.declared.choice.Item.{Item}
pub use Rattle.rule_machine.specs.declared.verdict.Verdict.{Verdict}
pub use Rattle.steal_pool.specs.Ends.{end_taken, AreJoined, DequeName, owner_deque, owner_ledger, thief_deque, thief_ledger, end_deque, end_ledger, end_owners, EndView, end_hold, AreAllEnds}
pub use Rattle.steal_pool.specs.Hands.{hand_number, judged_places, all_taken, AreOf, AreJudged, hand_hold, judged_hold, AreShares, judged_verdicts}
pub use Rattle.steal_pool.specs.Ledgers.{ledger, first_places, block_places, places_in, Knows, Balanced, with_put, ArePlaces, Takes, KnowsAll, rest_of, part_of, joined_ledger, AreAllPlaces}
pub use Rattle.steal_pool.specs.Once.{times, StandOnce, AllStandOnce, places_of}
pub use Rattle.steal_pool.specs.VerdictTables.{laid, HavePlacesBelow, at_place, taken_in, IsVerdictTable, taken_by}
pub use Rattle.steal_pool.specs.declared.deque.block.Block.{Block}
pub use Rattle.steal_pool.specs.declared.deque.end.DequeEnd.{DequeEnd}
pub use Rattle.steal_pool.specs.declared.deque.owner.Owner.{Owner}
pub use Rattle.steal_pool.specs.declared.deque.thief.Thief.{Thief}
pub use Rattle.steal_pool.specs.declared.deque.ledger.Ledger.{Ledger}
pub use Rattle.steal_pool.specs.declared.hand.Hand.{Hand}
pub use Rattle.steal_pool.specs.declared.hand.Share.{Share}
