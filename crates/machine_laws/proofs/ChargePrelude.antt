-- What the proofs on the charge import: the names of Imports, and lemmas of this crate.
pub mod Imports
pub use Imports.*
pub use Rattle.machine_laws.proofs.AcceptedEvents.{cond_none, none_cond, true_from_not}
pub use Rattle.machine_laws.proofs.Edges.{left_was, removed_was, inserted_cases, present_other, still_present, pair_total, pair_exact, contains-remove}
pub use Rattle.machine_laws.proofs.EnabledNodes.{no_act, quiet_at, quiet_from}
pub use Rattle.machine_laws.proofs.LeastAnswers.{makes_move_of}
pub use Rattle.machine_laws.proofs.LeastMoves.{IsTable, find_passes}
pub use Rattle.machine_laws.proofs.Leaves.{without_pointer_stays, nothing_left}
pub use Rattle.machine_laws.proofs.Neighbours.{linked_present, option_cases, linked_back, linked_apart, present_range, linked_pair, near_some, near_found, near_fails}
pub use Rattle.machine_laws.proofs.Pointers.{points_true, pointer_linked, suitor_linked, absent_null, null_unmarried, unanswered_unmarried, partner_some, no_suitor, points_from, partner_from, some_is, suitor_some, suitor_from, married_some, married_from}
pub use Rattle.machine_laws.proofs.Runs.{answers_keep, runs_end_in_states}
pub use Rattle.machine_laws.proofs.Sizes.{runs_keep_size}
pub use Rattle.machine_laws.proofs.StatePreservation.{unlinked_pointer, unlink_keeps, leave_keeps, opening_is_state, point_keeps, link_keeps, join_keeps, left_pointer, flag_keeps, moves_keep}
pub use Rattle.machine_laws.proofs.UnusedFlags.{IsFlagless, opening_is_unflagged, runs_stay_unflagged}
pub use Rattle.machine_laws.proofs.Writes.{if_some_from, pointer-with_pointer_other, pointer-with_pointer_same, some_from_is_at, without_pointer_was, without_pointer_gone, flag-with_flag_other, flag-with_flag_same, without_pointer_flags, if_some_at, is_at_from_some}
