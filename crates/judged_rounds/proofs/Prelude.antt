-- What the proofs of this crate import from the crates below and from its own definitions.
pub use Rattle.std.proofs.Common.{◌≡◌, ◌≢◌, ℕ, suc, ◌+◌, ◌<◌, ◌≤◌, Bool, true, false, cond, ◌&&◌, ◌||◌, List, [], ◌∷◌, length, get_or, set, take, map, filter, find, replicate, nat_eq, Option, None, Some, is_some, IsTrue, min, max, refl, sym, ap, ◌∙◌, subst, inl, inr, ◌⊎◌, ⊎_elim, arith, fold, drop, ◌++◌}
pub use Rattle.std.proofs.Math.Seq.{take-append_seam}
pub use Rattle.std.proofs.lemmas.Bool.{and_from, or_left, or_right, or_parts, or_from, cases_eq, cases_lt, true≢false, false_from_ne_true, eq-eqb, ne_eqb}
pub use Rattle.std.proofs.lemmas.List.{length-set, length-map, get_or-map, map-set, get_or-set_same, get_or-set_other, get_or_past, get_or-replicate, length-replicate}
pub use Rattle.std.proofs.lemmas.List.Elements.{filter_agree}
pub use Rattle.std.proofs.lemmas.List.Folds.{list_any_more}
pub use Rattle.std.specs.List.{list_any, range_with_len}
pub use Rattle.machine_laws.proofs.Edges.{contains-without, present_other}
pub use Rattle.machine_laws.proofs.Leaves.{without_pointer_stays}
pub use Rattle.machine_laws.proofs.Neighbours.{linked_back, linked_present, present_range, neighbours_range, near_found}
pub use Rattle.machine_laws.proofs.Pointers.{pointer_linked}
pub use Rattle.machine_laws.proofs.Writes.{some_from_is_at, pointer-with_pointer_other, flag-with_flag_other, without_pointer_flags}
pub use Rattle.machine_laws.proofs.WritesOfSteps.{is_mover_in}
pub use Rattle.machine_laws.specs.StatesAfterReplies.{followed, disturbed}
pub use Rattle.enabled_set.proofs.MarkChanges.{one_fewer}
pub use Rattle.enabled_set.proofs.Members.{inside}
pub use Rattle.enabled_set.specs.Members.{is_in, members}
pub use Rattle.enabled_set.specs.RemovedNames.{AreNoted, RemovedNames}
pub use Rattle.graph_store.specs.Rows.{has}
pub use Rattle.net_state.proofs.Rounds.{round_linked, round_unlinked}
pub use Rattle.round_counter.specs.Counting.{HasCounted, is_step, log_after, start_after}
pub use Rattle.rule_machine.specs.Disturbance.{after_link, after_unlink, after_join, after_leave, unless_at, without_pointer}
pub use Rattle.rule_machine.specs.Network.{Network, IsNetwork, edge, linked, neighbours, present, without_node}
pub use Rattle.rule_machine.specs.RuleTable.{RuleTable, rule_at, enabled_names}
pub use Rattle.rule_machine.specs.State.{State, IsState, Registers, pointer, flag, pointer_of, flag_of, points, is_at, with_pointer, with_flag}
pub use Rattle.rule_machine.specs.Step.{written, after_move, registers_after}
pub use Rattle.rule_machine.specs.Tables.{table_of}
pub use Rattle.rule_machine.specs.Target.{SameAt, IsNear}
pub use Rattle.rule_machine.specs.declared.act.Act.{Act}
pub use Rattle.rule_machine.specs.declared.act.Act.TheVariants.{Update, Marry, Seduce, Abandon}
pub use Rattle.rule_machine.specs.declared.act.Moved.{Moved}
pub use Rattle.rule_machine.specs.declared.event.Event.{Event}
pub use Rattle.rule_machine.specs.declared.event.Event.TheVariants.{Link, Unlink, Point, Flag, Step, Show, Enabled, Matching, Status, Join, Leave}
pub use Rattle.rule_machine.specs.declared.reply.Reply.{Reply}
pub use Rattle.rule_machine.specs.declared.reply.Reply.TheVariants.{Accepted, Refused, Moves, Shown, EnabledAre, Pairs, Counts}
pub use Rattle.judged_rounds.specs.Around.{MarksAll, is_affected, is_affected_by, is_near, is_near_leaver, is_near_suitor, is_touched, witness_at}
pub use Rattle.judged_rounds.specs.Following.{AreOnBut}
pub use Rattle.reply_checker.specs.Witnesses.{AgreeAt, RestsOn, depends_on, is_on}
pub use Rattle.reply_checker.specs.declared.witness.Witness.{Witness}
