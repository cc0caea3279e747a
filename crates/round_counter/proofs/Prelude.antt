-- What the proofs of this crate import from the crates below and from its own definitions.
pub use Rattle.std.proofs.Common.{◌≡◌, ℕ, zero, suc, ◌+◌, ◌<◌, ◌≤◌, Bool, true, false, cond, not, ◌&&◌, ◌||◌, List, [], ◌∷◌, length, get_or, set, take, filter, nat_eq, is_some, IsTrue, ◌++◌, append_assoc, min, refl, sym, ap, ◌∙◌, subst, inl, inr, ⊎_elim, arith}
pub use Rattle.std.proofs.lemmas.Bool.{and_from, and_parts, cases_eq, true≢false, not_from_false, false_from_ne_true, eqb-true}
pub use Rattle.std.proofs.lemmas.List.{get_or-set_same, get_or-set_other, set_past, nil_from_length, get_or_past}
pub use Rattle.std.proofs.lemmas.List.Folds.{list_any_more}
pub use Rattle.std.specs.List.{list_any, range_with_len}
pub use Rattle.machine_laws.proofs.ListCounts.{IsIn}
pub use Rattle.machine_laws.proofs.Members.{in_names, names_present}
pub use Rattle.machine_laws.proofs.WritesOfSteps.{is_mover_in}
pub use Rattle.enabled_set.specs.Members.{is_in, members}
pub use Rattle.enabled_set.specs.RemovedNames.{AreNoted, RemovedNames}
pub use Rattle.round_laws.proofs.Compare.{kept_in}
pub use Rattle.round_laws.proofs.Counting.{in_kept}
pub use Rattle.round_laws.specs.RoundCounts.{RoundCount, first_count, next_count}
pub use Rattle.round_laws.specs.Rounds.{stays_pending, round_turn, rounds_by, rounds_from, rounds_in}
pub use Rattle.machine_laws.specs.StatesAfterReplies.{followed}
pub use Rattle.rule_machine.specs.Network.{Network, names, present}
pub use Rattle.rule_machine.specs.RuleTable.{RuleTable, rule_at, enabled_names}
pub use Rattle.rule_machine.specs.State.{State}
pub use Rattle.rule_machine.specs.Step.{after_moves}
pub use Rattle.rule_machine.specs.declared.act.Moved.{Moved}
pub use Rattle.rule_machine.specs.declared.event.Event.{Event}
pub use Rattle.rule_machine.specs.declared.reply.Reply.{Reply}
pub use Rattle.rule_machine.specs.declared.reply.Reply.TheVariants.{Accepted, Refused, Moves, Shown, EnabledAre, Pairs, Counts}
pub use Rattle.rule_machine.specs.Run.{Entry}
pub use Rattle.round_counter.specs.Counting.{AreEnabledIn, HasCounted, CanCount, count_in, is_step, log_after, pending_names, start_after}
pub use Rattle.round_counter.specs.declared.counter.RoundCounter.{RoundCounter}
