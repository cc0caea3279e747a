-- What the proofs of this crate import from the crates below and from its own definitions.
pub use Rattle.std.proofs.Common.{◌≡◌, ℕ, zero, suc, ◌+◌, ◌-◌, ◌*◌, ◌/◌, ◌%◌, ◌<◌, ◌≤◌, Bool, true, ◌&&◌, T, eqb, eqb→eq, ◌∷◌, ◌++◌, get_or, inl, inr, eq-zero-or-pos, arith, List, length, take, drop, refl, sym, ap, subst, ◌∙◌, append_assoc, false, Option, None, Some, codes, length-append, ◌^◌, ap₂, ◌≢◌, Result, Ok, Err, OnErr, w64, add-one, []}
pub use Rattle.std.proofs.Math.Nat.{div-div-eq-div-mul}
pub use Rattle.std.proofs.Math.Seq.{take-append_seam, take-append-add}
pub use Rattle.std.proofs.lemmas.Bool.{cases_lt}
pub use Rattle.std.proofs.lemmas.Bool.Decides.{Decides-eqb}
pub use Rattle.std.proofs.lemmas.Fmt.{decimal_digit, digits_decimal, digits_value-decimal, decimal-digits_value, decimal_injective, decimal_nonempty, length-decimal-le, first_decimal, IsAscii-decimal, parse-decimal}
pub use Rattle.std.proofs.lemmas.Int.Digits.{digits_more, digits_value_more}
pub use Rattle.std.proofs.lemmas.List.{append-nil, take-append-drop, length-take-le, get_or-drop, get_or-take, append_cancel_left, take-take, take_rest}
pub use Rattle.std.proofs.lemmas.Nat.{le_bytes_8, mod-pow-add}
pub use Rattle.std.proofs.lemmas.Slice.{take-put_mid}
pub use Rattle.std.proofs.lemmas.Slice.Eq.{strip_prefix_is}
pub use Rattle.std.proofs.lemmas.Str.{digit_value_digit, IsUtf8-from_ascii}
pub use Rattle.std.proofs.lemmas.Str.Parse.{IsNumeralModel, numerals_by_value, tells_digits, digit_from_value, digits_value_short}
pub use Rattle.std.specs.Cmp.Lexicographic.{other_text}
pub use Rattle.std.specs.Fmt.{decimal}
pub use Rattle.std.specs.Int.{IsInRange, to_le_bytes, from_le_bytes}
pub use Rattle.std.specs.List.{AllByRecursion}
pub use Rattle.std.specs.Prelude.{slice_index, IfSome}
pub use Rattle.std.specs.Str.{IsAscii}
pub use Rattle.std.specs.Str.Parse.{AllDigits, digits_value}
pub use Rattle.itoa.proofs.Decimal.{pair, decimal_two, decimal_pair, decimal_four}
pub use Rattle.rule_machine.specs.declared.choice.Item.{Item}
pub use Rattle.rule_machine.specs.declared.event.Event.{Event}
pub use Rattle.rule_machine.specs.declared.event.Event.TheVariants.{Link, Unlink, Point, Flag, Step, Show, Enabled, Matching, Status, Join, Leave}
pub use Rattle.line_text.specs.EventText.{IsItem, IsEvent, pair_text, target_text, bool_text, flag_text, point_text, item_text, event_text, Spells, AreChoiceItems}
pub use Rattle.line_text.specs.Parsing.{NoDigit, NameThen, WordThen, NumberThen, ItemEnds, ItemThen, SpellsChoice}
pub use Rattle.line_text.specs.Words.{number_text, IsName, marked_text, spaced, joined_texts, joined_or, lines_with_ends, space_ended, Extends, six_digits}
pub use Rattle.line_text.specs.declared.room.TheConstants.{PAIRS}
