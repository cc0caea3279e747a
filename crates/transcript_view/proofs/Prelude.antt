-- What the proofs of this crate import from the crates below and from its own definitions.
pub use Rattle.std.proofs.Common.{◌≡◌, ℕ, ◌+◌, ◌-◌, ◌≤◌, Bool, true, false, cond, List, [], ◌∷◌, ◌++◌, filter, sym, ap, ◌∙◌, append-nil, append_assoc, arith, Option, ap₂, take}
pub use Rattle.std.proofs.lemmas.List.{map-id}
pub use Rattle.std.proofs.lemmas.List.Concat.{flat_map-append}
pub use Rattle.std.proofs.lemmas.List.Elements.{filter-append}
pub use Rattle.std.proofs.lemmas.List.FromFn.{map-range_with_len_more}
pub use Rattle.std.specs.List.{range_with_len, flat_map}
pub use Rattle.std.specs.Prelude.{nat_lt, codes}
pub use Rattle.auditor.proofs.EqualPrefixes.{state_once, epochs_once}
pub use Rattle.auditor.proofs.SingleVerdicts.{good_no_damage, good_not_few, good_not_forgotten, few_once, few_no_damage, few_not_forgotten, forgotten_once, forgotten_no_damage}
pub use Rattle.auditor.proofs.TextEnds.{damage_once, no_damage}
pub use Rattle.auditor.specs.Damage.{IsDamage}
pub use Rattle.auditor.specs.declared.epoch.CostedEpoch.{CostedEpoch}
pub use Rattle.auditor.specs.declared.fault.AuditFault.{AuditFault}
pub use Rattle.reply_checker.proofs.ExactAnswers.{some_iff_at}
pub use Rattle.rule_machine.specs.Network.{present, neighbours}
pub use Rattle.rule_machine.specs.State.{State}
pub use Rattle.rule_machine.specs.Tables.{table_of}
pub use Rattle.rule_machine.specs.declared.rule_set.RuleSet.{RuleSet}
pub use Rattle.transcript_view.specs.Picture.{picture_of, edge_lines_at, edge_line, node_line}
pub use Rattle.transcript_view.specs.Table.{epoch_table, epoch_row}
pub use Rattle.transcript_view.specs.Views.{IsPicture, IsPictureOf, IsEpochTable, IsTableOf, SameView}
pub use Rattle.transcript_view.specs.declared.view.View.{View}
pub use Rattle.transcript_view.specs.declared.view.View.TheVariants.{Text, Refused, TooFew, Forgotten}
