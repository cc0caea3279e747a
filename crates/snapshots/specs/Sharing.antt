-- The copies of a board as contracts see them: one copy, or two of which readers use one.
use Rattle.std.specs.Prelude.{List, [], Option, None, Some, drop, map}
use Rattle.left_right.specs.Sides.{view}
use Rattle.snapshots.specs.declared.register_copy.Posted.{Posted}
use Rattle.snapshots.specs.declared.sharing.LonePost.{LonePost}
use Rattle.snapshots.specs.declared.sharing.Copies.{Copies}
use Rattle.snapshots.specs.declared.sharing.Copies.TheVariants.{One, Two}
use Rattle.snapshots.specs.History.{posted}
use Rattle.snapshots.specs.CopyViews.{CopyView}

-- the copy that readers see, or would see
abbrev pub shown_in : {L : Type 0} → Copies L → CopyView
shown_in (One lone) = lone.copy
shown_in (Two writer) = writer.desk.shown.value

-- what the writer knows of the copy that readers see
abbrev pub known_in : {L : Type 0} → Copies L → Option CopyView
known_in (One lone) = Some lone.copy
known_in (Two writer) = view writer.desk.place

-- the posted entry that a lone copy lacks, as the history has it
abbrev pub posted_at : LonePost → List Posted
posted_at at = map (λ entry. record { entry = entry; front = at.front; past = at.past }) (posted at.past.seen.log)

abbrev pub waiting : Option LonePost → List Posted
waiting None = []
waiting (Some at) = posted_at at

-- the entries that the copy for readers lacks
abbrev pub pending_in : {L : Type 0} → Copies L → List Posted
pending_in (One lone) = waiting lone.posted
pending_in (Two writer) = drop writer.behind writer.log.items
