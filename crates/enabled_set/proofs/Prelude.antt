-- What the proofs of this crate import from the crates below and from its own definitions.
pub use Rattle.std.proofs.Common.{◌≡◌, ℕ, zero, suc, ◌+◌, ◌-◌, ◌*◌, ◌/◌, ◌%◌, ◌^◌, ◌<◌, Bool, true, false, sym, ap, ◌∙◌, arith, ◌≤◌, List, length, get_or, set, replicate, subst, ⊎_elim, cond, [], ◌∷◌, ◌++◌, map, Some, refl, Option, None, ap₂, min, max, add-one, sum_by, ◌⊎◌, inl, inr, not, ◌&&◌}
pub use Rattle.std.proofs.Math.Nat.{mod-lt, div-lt_iff_lt-mul, mul-suc, mul_comm, mul-div-le, le-div_iff_mul-le, le_trans}
pub use Rattle.std.proofs.lemmas.Bool.{cases_eq, cases_lt, false_from_ne_true, true≢false}
pub use Rattle.std.proofs.lemmas.List.{get_or-map, length-map, length-append, length-set, length-replicate, get_or_read, set-get_or, get_or-set_other, get_or-set_same, append-nil, map-id, length_push, get_or_past, get_or_push, get_or_append_left, ext_get_or, get_or-replicate}
pub use Rattle.std.proofs.lemmas.List.Elements.{All-set}
pub use Rattle.std.proofs.lemmas.List.FromFn.{fill_by_all, filter_of_map_range_with_len_more, length-map-range_with_len, get_or-map-range_with_len}
pub use Rattle.std.proofs.lemmas.List.Sums.{sum-map, get_or-le-sum_by, sum_by-cons, sum_by-le, sum_by-set}
pub use Rattle.std.proofs.lemmas.Nat.{shr-shr, mod-pow-add, ones_cat, one_shl, and_mask, pow_pos, ones_le_self, zero_from_ones, mul-le}
pub use Rattle.std.proofs.lemmas.Nat.Bits.{shr_and_one, bit_at-zero, bit_at_set_same, bit_at_set_other, bit_at_clear_same, bit_at_clear_other, bit_at-trailing_zeros, bit_at-lt, bit_at_and}
pub use Rattle.std.proofs.lemmas.Option.{slice_get-get_or, slice_get_past}
pub use Rattle.std.specs.Int.{bit_at, w64, trailing_zeros}
pub use Rattle.std.specs.List.{filter, range_with_len, All}
pub use Rattle.std.specs.Prelude.{◌≢◌, bit_and, bit_or, count_ones, nat_eq, slice_get, SomeIff}
pub use Rattle.enabled_set.specs.Counts.{tally, before, AreBlockCounts, HasRightCounts, below}
pub use Rattle.enabled_set.specs.MarkedNames.{AreListed}
pub use Rattle.enabled_set.specs.Members.{is_in, has_bit, first_bits, members, is_bit_on, HasOnlyNames}
pub use Rattle.enabled_set.specs.TrimmedWords.{AreTrimmed}
