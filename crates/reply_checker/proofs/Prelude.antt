-- What the proofs of this crate import from the crates below and from its own definitions.
pub use Rattle.std.proofs.Common.{◌∙◌, ◌≤◌, Bool, List, ap, subst, sym, arith, ◌≡◌, ℕ, ◌+◌, ◌<◌, ◌↔◌, zero, suc, true, false, cond, nat_lt, [], ◌∷◌, drop, get_or, length, filter_map, Option, None, Some, is_some, IsTrue, refl, ⊎_elim, lt-ltb, ◌≢◌, find, set, nat_eq, ◌-◌, map, IfSome, nat_le, ◌*◌, not, ◌&&◌, count_by, sum_by, ap₂, replicate, ◌++◌, filter, take, rules, ◌||◌, is_none, Any, All, IsSomeAnd, eqb-true, of_calls}
pub use Rattle.std.proofs.lemmas.Bool.{cases_lt, true≢false, cases_eq, eq-eqb, ne_eqb, false_from_ne_true, le-leb, leb-true, and_parts, or_from, and_right, or_left, or_right, and_from, lt-leb, or_parts, or_cases, not-true, not_from_false}
pub use Rattle.std.proofs.lemmas.Fn.{always_returns_same}
pub use Rattle.std.proofs.lemmas.List.{get_or-set_other, drop_all, drop_more, get_or-set_same, length-set, get_or-replicate, length-replicate, take_more, take-append-drop, take_all, length-drop, get_or_past}
pub use Rattle.std.proofs.lemmas.List.Elements.{All-weaker, All-set}
pub use Rattle.std.proofs.lemmas.List.Folds.{sum_by-replicate, find-append, list_any-append}
pub use Rattle.std.proofs.lemmas.List.FromFn.{length-range_with_len}
pub use Rattle.std.proofs.lemmas.List.Sums.{length-filter, sum_by-cons, count_by-le-length, sum_by-le}
pub use Rattle.std.proofs.lemmas.Option.{none-some, cond_some}
pub use Rattle.std.specs.Cmp.{both_ways}
pub use Rattle.std.specs.List.{range_with_len, cons_option, list_any, list_all}
pub use Rattle.std.specs.Option.{option_map, option_or}
pub use Rattle.std.specs.Ordering.{is_lt, nat_cmp}
pub use Rattle.std.specs.declared.alloc.Global.{Global}
pub use Rattle.std.specs.declared.vec.Vec.{Vec}
pub use Rattle.machine_laws.proofs.Laws.{hsu_huang_bounded, manne_bounded}
pub use Rattle.machine_laws.proofs.ClosedByPointers.{hsu_huang_split, manne_split}
pub use Rattle.machine_laws.proofs.EdgesByEnds.{edges_agree}
pub use Rattle.machine_laws.proofs.ListCounts.{sum_agree, sum_add, none_count}
pub use Rattle.machine_laws.specs.ChargeWords.{charge_bound}
pub use Rattle.machine_laws.specs.ClosedByPointers.{hsu_huang_apart, manne_apart}
pub use Rattle.machine_laws.specs.Degrees.{degree}
pub use Rattle.enabled_set.proofs.MarkChanges.{one_fewer}
pub use Rattle.enabled_set.proofs.Members.{inside}
pub use Rattle.enabled_set.proofs.Sums.{summed, one_byte, sum_fits, sum_put, everywhere}
pub use Rattle.enabled_set.specs.Members.{is_in, members}
pub use Rattle.net_state.specs.EdgeStances.{end_at, are_open, open_edges, CountsOpenEdges}
pub use Rattle.net_state.specs.declared.edge_stance.EdgeStance.{EdgeStance}
pub use Rattle.net_state.specs.declared.edge_stance.EdgeStance.TheVariants.{Shut, Courted, Free}
pub use Rattle.machine_laws.proofs.AcceptedEvents.{IsStepChoice, choice_from_none, taken_at}
pub use Rattle.machine_laws.proofs.StepTests.{ascending_by, is_before}
pub use Rattle.machine_laws.proofs.Bases.{base_tells}
pub use Rattle.machine_laws.proofs.Neighbours.{present_range, linked_present, option_cases, linked_back, near_found, names_none, names_fails, near_fails, linked_apart, near_agree}
pub use Rattle.machine_laws.proofs.Pointers.{partner_from, partner_some, points_from, points_true, pointer_linked, married_from, none_is, null_unmarried, unanswered_unmarried}
pub use Rattle.machine_laws.proofs.StepTests.{step_from_tests, tests_from_step}
pub use Rattle.machine_laws.proofs.Writes.{if_some_at, if_some_from}
pub use Rattle.machine_laws.specs.MoveTests.{is_move_of, is_asked, is_answered}
pub use Rattle.machine_laws.specs.StatesAfterReplies.{followed}
pub use Rattle.machine_laws.specs.TwoPasses.{IsMoveIn}
pub use Rattle.net_state.proofs.ChangedRounds.{round_changed, names_below, size_kept}
pub use Rattle.net_state.proofs.Rounds.{IsSameRound, same_suitors, same_partner, same_marriage}
pub use Rattle.net_state.specs.BaseLines.{HasLines}
pub use Rattle.net_state.specs.StateViews.{StateView}
pub use Rattle.net_state.specs.declared.open_edges.OpenEdges.{OpenEdges}
pub use Rattle.rule_machine.specs.Answer.{Does}
pub use Rattle.rule_machine.specs.Base.{IsBaseMoment, base_of, node_record_at, node_records}
pub use Rattle.rule_machine.specs.Charge.{is_courted}
pub use Rattle.rule_machine.specs.HsuHuang.{hsu_huang, hsu_huang_opens}
pub use Rattle.rule_machine.specs.Least.{item_of}
pub use Rattle.rule_machine.specs.Manne.{manne, may_court}
pub use Rattle.rule_machine.specs.Network.{names, present, linked, neighbours, Network, edge_list, IsNetwork}
pub use Rattle.rule_machine.specs.Refuse.{refusal_of, step_refusal, items_refusal}
pub use Rattle.rule_machine.specs.RuleTable.{RuleTable, enabled, enabled_names, rule_at, is_open}
pub use Rattle.rule_machine.specs.Run.{Moment}
pub use Rattle.rule_machine.specs.Stable.{mutual_pairs, pair_above}
pub use Rattle.rule_machine.specs.State.{State, IsState, partner, points, flag, is_unanswered, married, suits, has_suitor, pointer, holds_at, is_at}
pub use Rattle.rule_machine.specs.Step.{IsTarget, IsMoveOf, IsStep}
pub use Rattle.rule_machine.specs.Tables.{table_of, weight_of}
pub use Rattle.rule_machine.specs.declared.act.Act.{Act}
pub use Rattle.rule_machine.specs.declared.act.Act.TheVariants.{Update, Marry, Seduce, Abandon}
pub use Rattle.rule_machine.specs.declared.act.Moved.{Moved}
pub use Rattle.rule_machine.specs.declared.base.Base.{Base}
pub use Rattle.rule_machine.specs.declared.base.NodeRecord.{NodeRecord}
pub use Rattle.rule_machine.specs.declared.choice.Item.{Item}
pub use Rattle.rule_machine.specs.declared.event.Event.{Event}
pub use Rattle.rule_machine.specs.declared.event.Event.TheVariants.{Link, Unlink, Point, Flag, Step, Show, Enabled, Matching, Status, Join, Leave}
pub use Rattle.rule_machine.specs.declared.refusal.Refusal.{Refusal}
pub use Rattle.rule_machine.specs.declared.reply.Reply.{Reply}
pub use Rattle.rule_machine.specs.declared.reply.Reply.TheVariants.{Moves, EnabledAre, Pairs}
pub use Rattle.rule_machine.specs.declared.rule_set.RuleSet.{RuleSet}
pub use Rattle.rule_machine.specs.declared.rule_set.RuleSet.TheVariants.{Hh, Manne}
pub use Rattle.reply_checker.specs.AscendingLists.{AreRising, lower_end_pair, ruled_node}
pub use Rattle.reply_checker.specs.Callers.{calls_by, hsu_huang_calls, manne_calls}
pub use Rattle.reply_checker.specs.Choices.{ruled_at, item_at, IsRuled, HasChosenItems, is_item_node, is_mover, HasOnlyItemsOf, refused_item, is_move_by}
pub use Rattle.reply_checker.specs.Contributions.{AreExactIfFresh, asks, AreAsking, AddsMember, edge_stance_by, closes, flag_charge, adds, absent_contribution, AreFresh, AreStatusSums, IsContributionAt, FitsTwoBits, contribution_of_name, IsShare}
pub use Rattle.reply_checker.specs.declared.choices.RuledItem.{RuledItem}
pub use Rattle.reply_checker.specs.declared.contribution.Contribution.{Contribution}
pub use Rattle.reply_checker.specs.Witnesses.{RestsOn}
