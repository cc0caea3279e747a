-- What the proofs of this crate import from the crates below and from its own definitions.
pub use Rattle.std.proofs.Common.{◌≡◌, ℕ, zero, suc, ◌+◌, ◌-◌, ◌<◌, ◌≤◌, Bool, true, false, cond, List, [], ◌∷◌, length, get_or, IsTrue, None, refl, sym, ap, subst, ◌∙◌, arith, ⊎_elim, ◌↔◌, ◌||◌, drop, set, replicate, nat_eq, ◌%◌, take, Option, Some, rules, ◌++◌, vec_capacity, map}
pub use Rattle.std.proofs.Math.Seq.{drop-cons}
pub use Rattle.std.proofs.lemmas.Bool.{cases_Bool, eqb-true, eqb-false, true≢false}
pub use Rattle.std.proofs.lemmas.List.{get_or_read, get_or-set_same, get_or-set_other, drop_all, get_or-replicate, length-replicate, length-set, get_or-map, length-map}
pub use Rattle.std.proofs.lemmas.List.Elements.{All-nil, All-cons, All-from_recursion, recursion_from_All}
pub use Rattle.std.specs.List.{All, filter, range_with_len, AllByRecursion}
pub use Rattle.std.specs.List.Sorted.{IsStrictlyIncreasing}
pub use Rattle.std.specs.Prelude.{SomeIff, IsNone, IfSome}
pub use Rattle.enabled_set.specs.Members.{is_in, members}
pub use Rattle.rand_core.specs.Stream.{Stream, next_u32}
pub use Rattle.rule_machine.specs.declared.choice.Item.{Item}
pub use Rattle.daemon.specs.DaemonLaws.{nodes_of, plain, IsLawful}
pub use Rattle.daemon.specs.DrawnChoices.{choice_drawn, draw_one, keep_odd, draw_odd, or_one, draw_some}
pub use Rattle.daemon.specs.RecordedLists.{is_in_list, AreMarksOf, named_of, first_or_all, some_choice, list_choice, play_or, played}
