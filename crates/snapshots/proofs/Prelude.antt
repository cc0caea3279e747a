-- What the proofs of this crate import from the crates below and from its own definitions.
pub use Rattle.std.proofs.Common.{◌≡◌, ◌≢◌, ℕ, ◌+◌, List, [], ◌∷◌, ◌++◌, length, set, Option, Some, None, ⊎_elim, refl, ap, sym, ◌∙◌, subst, arith, length-append, ◌<◌, map, fold, inr, ◌≤◌, take, drop, append_assoc, Bool, true, false, ◌==◌, inl, ◌-◌, ◌⊎◌, get_or, ◌&&◌, nat_le, find, replicate, is_some, nat_eq, cond}
pub use Rattle.std.proofs.lemmas.Bool.{cases_Bool, cases_lt, true≢false, le-leb, eq-eqb, eqb-true}
pub use Rattle.std.proofs.lemmas.Bool.Decides.{nat_tests}
pub use Rattle.std.proofs.lemmas.List.{append-nil, nil_from_length, take_at, take-append-drop, take-append-le, length-take, length-set, length-map, length-replicate, get_or-replicate, get_or-set_same, get_or-set_other, ext_get_or}
pub use Rattle.std.proofs.lemmas.List.FromFn.{map-range_with_len_more}
pub use Rattle.std.proofs.lemmas.List.Sums.{fold-append}
pub use Rattle.std.specs.Prelude.{slice_set, if◌then◌else◌}
pub use Rattle.atomic_table.proofs.Lists.{at_set, at_snoc}
pub use Rattle.crossbeam_utils.specs.Register.{Admits, TurnsAt, Forks, Merges}
pub use Rattle.logbook.specs.Pages.{Book, Cell, cell, keeps, no_nib, step, Goes}
pub use Rattle.rule_machine.specs.Answer.{Does, AnswersBy, Answers, spent_after}
pub use Rattle.rule_machine.specs.Base.{node_record_at, dropped}
pub use Rattle.rule_machine.specs.Disturbance.{without_pointer, unless_at}
pub use Rattle.rule_machine.specs.Network.{Network, present, names}
pub use Rattle.rule_machine.specs.Refuse.{refusal_of}
pub use Rattle.rule_machine.specs.RuleTable.{RuleTable}
pub use Rattle.rule_machine.specs.Run.{Entry, Moment, Run}
pub use Rattle.rule_machine.specs.State.{State, IsState, Registers, pointer, with_pointer, points, is_at}
pub use Rattle.rule_machine.specs.Step.{written, after_move}
pub use Rattle.rule_machine.specs.declared.act.Act.{Act}
pub use Rattle.rule_machine.specs.declared.act.Act.TheVariants.{Update, Marry, Seduce, Abandon}
pub use Rattle.rule_machine.specs.declared.act.Moved.{Moved}
pub use Rattle.rule_machine.specs.declared.base.Base.{Base}
pub use Rattle.rule_machine.specs.declared.base.NodeRecord.{NodeRecord}
pub use Rattle.rule_machine.specs.declared.event.Event.{Event}
pub use Rattle.rule_machine.specs.declared.event.Event.TheVariants.{Link, Unlink, Point, Flag, Step, Show, Enabled, Matching, Status, Join, Leave}
pub use Rattle.rule_machine.specs.declared.refusal.Refusal.{Refusal}
pub use Rattle.rule_machine.specs.declared.reply.Reply.{Reply}
pub use Rattle.rule_machine.specs.declared.reply.Reply.TheVariants.{Accepted, Moves, Shown, EnabledAre, Pairs, Counts, Refused}
pub use Rattle.snapshots.specs.Boards.{IsReader, entries_of, absorbed, IsPublishable, IsPostedLast, IsBoard}
pub use Rattle.snapshots.specs.CopyViews.{CopyView, copy_at_start, after, extent_of}
pub use Rattle.snapshots.specs.History.{shown, with_mark, published_and_posted, published, posted, max_marks, AreHistoryCells, AddsMark, but_last, IsOneLog, AreOneLog, AreComparable}
pub use Rattle.snapshots.specs.Origins.{origin_of, origin_nodes, origin_base, nodes_before, base_before}
pub use Rattle.snapshots.specs.declared.marks.Mark.{Mark}
pub use Rattle.snapshots.specs.declared.marks.Mark.TheVariants.{Beginning, Posting, Publication}
pub use Rattle.snapshots.specs.declared.marks.Origin.{Origin}
pub use Rattle.snapshots.specs.declared.marks.Origin.TheVariants.{FirstNames, FromBase}
pub use Rattle.snapshots.specs.Row.{BoardShape, pointers_after, row_effect, here_after, here_by, Row, without_pointer_at, moved_by, moved, effect_of, here_of, IsRun, pointer_in, disturbed_row, with_target, with_present, row_from, row_at_start, here_from, here_at_start}
pub use Rattle.snapshots.specs.Starts.{IsStart, StartsAt}
pub use Rattle.snapshots.specs.Rule.{ExtendsView, IsSound, Publishes, Sees}
pub use Rattle.snapshots.specs.Sharing.{posted_at, shown_in, known_in, pending_in}
pub use Rattle.snapshots.specs.Views.{BoardView}
pub use Rattle.snapshots.specs.declared.register_copy.Posted.{Posted}
pub use Rattle.snapshots.specs.declared.sharing.LonePost.{LonePost}
