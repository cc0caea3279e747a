use Rattle.suitor_index.proofs.Prelude.{subst, ◌≡◌, ℕ, Bool, List, Option, Change, StateView, Tally, WasIndexed}
use Rattle.suitor_index.proofs.RemovedNodes.{index_freed}
use Rattle.suitor_index.proofs.changes.count_change.Goals as goal

told_as : (above : Bool) (opens : Option ℕ → Bool → Bool) (tallies : List Tally) (now : StateView) (change same : Change) → change ≡ same → WasIndexed above opens tallies change now → WasIndexed above opens tallies same now
told_as above opens tallies now change same is = subst (λ (it : Change). WasIndexed above opens tallies it now) is

pub pointed-requires-clause-told : goal.pointed-requires-clause-told
pointed-requires-clause-told g c = told_as _ _ _ _ _ _ c.in-Pointed.is c.requires

pub flagged-requires-clause-told : goal.flagged-requires-clause-told
flagged-requires-clause-told g c = told_as _ _ _ _ _ _ c.in-Flagged.is c.requires

pub linked-requires-clause-told : goal.linked-requires-clause-told
linked-requires-clause-told g c = told_as _ _ _ _ _ _ c.in-Linked.is c.requires

pub unlinked-requires-clause-told : goal.unlinked-requires-clause-told
unlinked-requires-clause-told g c = told_as _ _ _ _ _ _ c.in-Unlinked.is c.requires

pub joined-requires-clause-told : goal.joined-requires-clause-told
joined-requires-clause-told g c = told_as _ _ _ _ _ _ c.in-Joined.is c.requires

pub returns-in-Removed-clause-index : goal.returns-in-Removed-clause-index
returns-in-Removed-clause-index g c = index_freed _ _ _ _ _ (told_as _ _ _ _ _ _ c.in-Removed.is c.requires)
