-- What the proofs of this crate import from the crates below and from its own definitions.
pub use Rattle.std.proofs.Common.{◌≡◌, ℕ, zero, suc, ◌+◌, ◌<◌, ◌≤◌, List, ◌∷◌, ◌++◌, length, length-append, map, refl, sym, ap, ap₂, subst, ◌∙◌, append_assoc, arith, Bool, None, Some, drop, get_or, true, if◌then◌else◌, ◌⊎◌, inl, inr, Option, ◌*◌, nat_le, ◌&&◌, leb-true, ◌≢◌, ◌-◌, not, take, false, cond, rules, []}
pub use Rattle.std.proofs.Math.Seq.{drop-cons}
pub use Rattle.std.proofs.lemmas.Bool.{and_parts, true≢false}
pub use Rattle.std.proofs.lemmas.Bool.Decides.{nat_tests, Decides-eqb}
pub use Rattle.std.proofs.lemmas.Fmt.{decimal_injective, length-decimal-le, digits_decimal}
pub use Rattle.std.proofs.lemmas.Grind.{flat_map-append, common_steps}
pub use Rattle.std.proofs.lemmas.List.{length-map, append_cancel_left, append-nil, take-append-drop, take_more, take_rest, append_cancel_right}
pub use Rattle.std.proofs.lemmas.Slice.Eq.{strip_suffix_is}
pub use Rattle.std.proofs.lemmas.Str.Parse.{digit_from_value}
pub use Rattle.std.specs.Int.{IsInRange}
pub use Rattle.std.specs.List.{AllByRecursion, list_all}
pub use Rattle.std.specs.Prelude.{Result, Ok, Err, IfErr, codes, IfSome, IsTrue, nat_eq, nat_lt, ⊤, slice_index_or}
pub use Rattle.std.specs.Result.{IsErrAnd}
pub use Rattle.std.specs.Str.Parse.{AllDigits}
pub use Rattle.byte_streams.specs.Lines.{IsLine}
pub use Rattle.line_text.proofs.Digits.{own, cons_parts, name_once}
pub use Rattle.line_text.proofs.EventLengths.{name_short, target_short, event_short}
pub use Rattle.line_text.proofs.EventsOnce.{spells_once}
pub use Rattle.line_text.proofs.FewDigits.{number_once}
pub use Rattle.line_text.proofs.Grammars.{IsReadBack, Always, Undigited, alone, after_word, apart_by, bool_back, for_fewer, name_back, nothing_ends, number_back, target_back, through, lines_back, IsList, Digital, both, digital_on, ended_by, joined_back, joined_or_back, name_digital, no_list, not_digital, wish_back, wish_last, wish_space}
pub use Rattle.line_text.specs.BaseText.{node_record_text, link_text, base_fields, base_head, numbers_line, base_text}
pub use Rattle.line_text.specs.EntryText.{entry_text, sizes_text}
pub use Rattle.line_text.specs.EventText.{bool_text, target_text, pair_text, IsEvent, event_text, IsItem, flag_text, item_text, point_text}
pub use Rattle.line_text.specs.Parsing.{NoDigit, ParsesAs, NumberThen, ItemEnds}
pub use Rattle.line_text.specs.ReplyText.{field_text, IsCountValue, IsCounts, counts_text, fields_of, reply_text, act_word, enabled_text, move_text, mutual_text, refusal_words, IsMoved, IsEnabled}
pub use Rattle.line_text.specs.Words.{lines_with_ends, number_text, IsName, joined_texts, spaced, marked_text, joined_or}
pub use Rattle.log_entry.specs.Kinds.{fits, is_move, are_moves}
pub use Rattle.rule_machine.specs.Refuse.{refusal_number, refusal_text}
pub use Rattle.rule_machine.specs.Tables.{rules_word}
pub use Rattle.rule_machine.specs.declared.act.Act.{Act}
pub use Rattle.rule_machine.specs.declared.act.Act.TheVariants.{Update, Marry, Seduce, Abandon}
pub use Rattle.rule_machine.specs.declared.act.Moved.{Moved}
pub use Rattle.rule_machine.specs.declared.base.NodeRecord.{NodeRecord}
pub use Rattle.rule_machine.specs.declared.choice.Item.{Item}
pub use Rattle.rule_machine.specs.declared.counts.Counts.{Counts}
pub use Rattle.rule_machine.specs.declared.event.Event.{Event}
pub use Rattle.rule_machine.specs.declared.event.Event.TheVariants.{Step, Enabled, Matching, Unlink, Point, Flag, Show, Status, Join, Leave}
pub use Rattle.rule_machine.specs.declared.refusal.Refusal.{Refusal}
pub use Rattle.rule_machine.specs.declared.refusal.Refusal.TheVariants.{UnknownNode, SelfLoop, AlreadyLinked, NotLinked, TooManyEdges, NotNeighbour, NoFlag, EmptyChoice, NotCentral, ChosenTwice, NotEnabled, BadTarget, AlreadyPresent}
pub use Rattle.rule_machine.specs.declared.reply.Reply.{Reply}
pub use Rattle.rule_machine.specs.declared.reply.Reply.TheVariants.{Accepted, Refused, Moves, Shown, EnabledAre, Pairs}
pub use Rattle.rule_machine.specs.declared.rule_set.RuleSet.{RuleSet}
pub use Rattle.rule_machine.specs.declared.rule_set.RuleSet.TheVariants.{Hh, Manne}
pub use Rattle.entry_grammar.specs.BaseLines.{IsEdgeAbove, NodesRise, EdgesRise, IsPlace, node_key, place_line, EdgesFollow, NodesFollow, MayFollow, BreaksAt, AscendByKey, IsNodeAbove, IsShaped, base_lines, base_numbers, lines_of_base, LacksLines}
pub use Rattle.entry_grammar.specs.BaseParts.{last_key, NodesRead, NodesBreak, EdgesBreak, LinesBreak, LinesRead}
pub use Rattle.entry_grammar.specs.Parsing.{Starts, IsFree, CutAt, rules_text, registers_text, FieldThen, PartsOf, reply_suits, EndsWord, TokenThen, deed_text, is_done, answers_step, is_shown, are_enabled, are_pairs, are_counts, first_byte, PairThen}
pub use Rattle.entry_grammar.specs.Spelling.{AreCounts, numbers_text, IsOrderedPair, IsBaseLine, base_line_text, SpellsBaseLine, IsReply, SpellsEntry, AreSizes, SpellsHeader}
pub use Rattle.entry_grammar.specs.declared.base_line.BaseLine.{BaseLine}
pub use Rattle.entry_grammar.specs.declared.base_line.BaseLine.TheVariants.{Base, Place, Link, Head}
pub use Rattle.entry_grammar.specs.declared.base_line.BaseNumbers.{BaseNumbers}
pub use Rattle.entry_grammar.specs.declared.header.Header.{Header}
pub use Rattle.entry_grammar.specs.declared.fault.BaseFault.TheVariants.{BadLine}
