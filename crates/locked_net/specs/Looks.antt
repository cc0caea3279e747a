-- Calls that look at the log under the lock and record nothing.
use Rattle.std.specs.Prelude.{◌≡◌, ℕ, Bool, List, None, IsTrue}
use Rattle.rule_machine.specs.declared.event.Event.{Event}
use Rattle.rule_machine.specs.RuleTable.{rule_at}
use Rattle.rule_machine.specs.State.{State}
use Rattle.containment_laws.specs.Rest.{is_at_rest}
use Rattle.rule_engine.specs.Costs.{disturbance_cost, BoundsGrowth}
use Rattle.rule_engine.specs.DisturbanceReach.{reach_of, Spares}
use Rattle.logbook.specs.Pages.{Book}
use Rattle.snapshots.specs.Views.{PublishedLog}
use Rattle.step_log.specs.RetainedLogs.{RetainedLog}
use Rattle.locked_net.specs.RetainedParts.{IsPartOfLog}
use Rattle.locked_net.specs.Settings.{Setting, IsLogIn}

-- The log under the lock is exactly the note's log, published in this history, and P is true of it.
pub record IsSeen (setting : Setting) (book : Book) (note : PublishedLog) (P : RetainedLog → Type 0) : Type 0 where
  pub log : RetainedLog
  pub own : IsLogIn setting log
  pub published : note.log ≡ log.entries
  pub in_book : note.book ≡ book
  pub holds : P log

-- After this log the event has this cost; if the event is accepted, the charge grows by at most this cost.
abbrev pub IsCostSeen : Setting → Book → (State → Event → ℕ) → Event → ℕ → PublishedLog → Type 0
IsCostSeen setting book weighs event cost note =
    IsSeen setting book note (λ log. (cost ≡ disturbance_cost setting.table weighs log.state event) × BoundsGrowth setting.table log.state log.spent event cost)

-- `rests` says whether the node is at rest after this log. If it is at rest, no rule is enabled at it.
abbrev pub IsRestSeen : Setting → Book → ℕ → Bool → PublishedLog → Type 0
IsRestSeen setting book v rests note =
    IsSeen setting book note (λ log. (rests ≡ is_at_rest setting.table.flags log.state v) × (IsTrue rests → rule_at setting.table log.state v ≡ None))

-- After this log the event would reach these nodes. If the event is accepted, each node at rest that is not
-- among these nodes stays at rest.
abbrev pub IsReachSeen : Setting → Book → Event → List ℕ → PublishedLog → Type 0
IsReachSeen setting book event reach note =
    IsSeen setting book note (λ log. (reach ≡ reach_of setting.table log.state event) × Spares setting.table log.state log.spent event reach)

-- The note's log is published in this history. Exactly the part of this log above the base is kept.
pub record IsPublished (setting : Setting) (book : Book) (kept : RetainedLog) (note : PublishedLog) : Type 0 where
  pub part : IsPartOfLog setting kept
  pub published : note.log ≡ part.log.entries
  pub in_book : note.book ≡ book
