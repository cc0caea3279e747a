-- What the proofs of this crate import from the crates below and from its own definitions.
pub use Rattle.dense_laws.proofs.Prelude.{All-head, All-tail, All-cons, All-nil, count_by-le-length, sum_by-cons, none-some, same_Some, hsu_huang, hsu_huang_opens, linked, names, neighbours, node_count, present, Entry, Moment, Run, IsStep, IsMoveOf, after_moves, Act, Moved, Item, Event, Refusal, BadTarget, Reply, answers_keep, runs_end_in_states, IsSolo, SoloTurn, takes, courts, leaves, one_mover, solo_from, in_names, names_present, names_without_repeats, null_is, null_from, is_mover_in, unmarried_nodes}
pub use Rattle.std.proofs.Common.{ℕ, zero, suc, ◌+◌, ◌-◌, ◌*◌, ◌/◌, ◌≤◌, ◌<◌, ◌≡◌, ◌≢◌, Bool, true, false, cond, not, ◌&&◌, ◌||◌, List, [], ◌∷◌, ◌++◌, length, filter, find, count_by, All, Any, Option, None, Some, is_some, is_none, nat_eq, nat_le, nat_lt, IsTrue, refl, sym, ap, ◌∙◌, subst, inl, inr, ◌⊎◌, ⊎_elim, arith}
pub use Rattle.std.proofs.lemmas.Bool.{and_from, and_parts, or_left, or_right, cases_eq, cases_lt, cases_Bool, true≢false, not-true, not_from_false, false_from_ne_true, eq-eqb, ne_eqb, lt-ltb, ltb-true}
pub use Rattle.rule_machine.specs.Answer.{Does, AnswersBy, Answers, spent_after}
pub use Rattle.rule_machine.specs.Manne.{manne, manne_guard, may_court}
pub use Rattle.rule_machine.specs.Refuse.{refusal_of, wish_refusal}
pub use Rattle.rule_machine.specs.RuleTable.{RuleTable, acts, rule_at, enabled_names, is_open}
pub use Rattle.rule_machine.specs.State.{State, IsState, suits, pointer, flag, points, married, has_suitor, is_settled, is_at, holds_at}
pub use Rattle.rule_machine.specs.declared.act.Act.TheVariants.{Update, Marry, Seduce, Abandon}
pub use Rattle.rule_machine.specs.declared.event.Event.TheVariants.{Link, Unlink, Point, Flag, Step, Show, Enabled, Matching, Status, Join, Leave}
pub use Rattle.rule_machine.specs.declared.reply.Reply.TheVariants.{Accepted, Refused, Moves, Shown, EnabledAre, Pairs, Counts}
pub use Rattle.machine_laws.specs.StatesAfterReplies.{followed}
pub use Rattle.machine_laws.proofs.EnabledNodes.{no_act}
pub use Rattle.machine_laws.proofs.LeastMoves.{IsTable, find_passes}
pub use Rattle.machine_laws.proofs.Neighbours.{option_cases, names_none, names_some, linked_back, linked_apart, linked_present, near_found, near_some, near_fails, present_range}
pub use Rattle.machine_laws.proofs.Pointers.{some_is, pointer_linked, suitor_linked, no_suitor, suitor_some, suitor_from, points_from, null_unmarried, unanswered_unmarried, married_from, married_some}
pub use Rattle.rule_machine.specs.Table.{AsksForWork}
pub use Rattle.machine_laws.specs.ChargeWords.{IsUndisturbed, steps_of, steps_in}
pub use Rattle.machine_laws.proofs.Asks.{hsu_huang_asks, manne_asks}
pub use Rattle.machine_laws.proofs.ListCounts.{IsIn, count_agree, count_all, one_count}
pub use Rattle.machine_laws.proofs.NodeMoves.{IsDone, IsInside, step_done}
pub use Rattle.machine_laws.proofs.PresentMovers.{hsu_huang_inside, manne_inside, holds_is}
pub use Rattle.machine_laws.proofs.Tables.{hsu_huang_table, manne_table}
pub use Rattle.dense_laws.proofs.Counts.{count_exists, count_less_two, count_two}
pub use Rattle.dense_laws.proofs.Falls.{among_from}
pub use Rattle.dense_laws.proofs.NodeKinds.{stuck_from}
pub use Rattle.round_laws.specs.Rounds.{stays_pending, round_turn, rounds_by, rounds_from, rounds_in}
