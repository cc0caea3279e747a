-- What the proofs of this crate import from the crates below and from its own definitions.
pub use Rattle.std.proofs.Common.{◌≡◌, ℕ, suc, ◌<◌, Bool, true, false, List, [], ◌∷◌, filter, nat_eq, None, Some, is_some, find, refl, sym, ap, ap₂, ◌∙◌, inl, inr, ⊎_elim, arith, cond, not, ◌&&◌, ◌||◌, Option, IsTrue, subst, ◌⊎◌, zero, ◌+◌, ◌≤◌, min, ◌++◌, append_assoc, IfOk, Vec, Global, length, drop}
pub use Rattle.std.proofs.lemmas.Bool.{true≢false, false_from_ne_true, cases_eq, eq-eqb, ne_eqb, cond-true, cond-false, and_parts, and_from, or_cases, or_left, or_right, eqb-true, not-true, not_from_false}
pub use Rattle.std.proofs.lemmas.List.{append-nil}
pub use Rattle.std.proofs.lemmas.List.Elements.{filter_agree}
pub use Rattle.std.proofs.lemmas.Option.{same_Some, none-some}
pub use Rattle.std.specs.List.{range_with_len}
pub use Rattle.machine_laws.proofs.ListCounts.{IsIn}
pub use Rattle.machine_laws.proofs.Members.{in_names}
pub use Rattle.machine_laws.proofs.PresentMovers.{pointer_present}
pub use Rattle.containment_laws.proofs.AtRest.{rest_from, absent_rests}
pub use Rattle.containment_laws.proofs.Edits.{mutual_is}
pub use Rattle.containment_laws.proofs.ReachSize.{reach_cases}
pub use Rattle.containment_laws.specs.Reach.{is_parted, is_hit, is_in_reach, parts_a_pair}
pub use Rattle.containment_laws.specs.Rest.{is_at_rest}
pub use Rattle.machine_laws.proofs.Neighbours.{linked_present, near_fails, names_fails, linked_back, near_found}
pub use Rattle.machine_laws.proofs.Pointers.{married_some, none_is, points_from, unanswered_unmarried, pointer_linked, partner_some, married_from, null_unmarried, points_true, partner_from}
pub use Rattle.machine_laws.proofs.Search.{empty_from_find}
pub use Rattle.rule_machine.specs.Network.{Network, names, linked, neighbours, present}
pub use Rattle.rule_machine.specs.State.{State, IsState, points, pointer, partner, married, is_mutual}
pub use Rattle.rule_machine.specs.declared.event.Event.{Event}
pub use Rattle.rule_machine.specs.declared.event.Event.TheVariants.{Link, Unlink, Point, Flag, Step, Show, Enabled, Matching, Status, Join, Leave}
pub use Rattle.rule_machine.specs.declared.node.Node.{Node}
pub use Rattle.containment.specs.Candidates.{is_hit_or_parted, is_kept, least_head, without_head}
