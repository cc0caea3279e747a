-- The ends of a deque in contracts.
use Rattle.std.specs.Prelude.{◌≡◌, ℕ, List, All}
use Rattle.std.specs.List.{sum_by}
use Rattle.std.specs.declared.alloc.Global.{Global}
use Rattle.crossbeam_deque.specs.Handles.{view, worker_deque, stealer_deque, worker_view}
use Rattle.steal_pool.specs.declared.deque.ledger.Ledger.{Ledger}
use Rattle.steal_pool.specs.declared.deque.owner.Owner.{Owner}
use Rattle.steal_pool.specs.declared.deque.thief.Thief.{Thief}
use Rattle.steal_pool.specs.declared.deque.end.DequeEnd.{DequeEnd}
use Rattle.steal_pool.specs.declared.deque.end.DequeEnd.TheVariants as end

-- the identity of a deque
abbrev pub DequeName : Type 0
DequeName = (ℕ × ℕ) × Global

abbrev pub owner_deque : Owner → DequeName
owner_deque o = worker_deque o.worker

abbrev pub owner_ledger : Owner → Ledger
owner_ledger o = worker_view o.worker

abbrev pub thief_deque : Thief → DequeName
thief_deque t = stealer_deque t.stealer

abbrev pub thief_ledger : Thief → Ledger
thief_ledger t = view t.pass

abbrev pub end_deque : DequeEnd → DequeName
end_deque (end.Owner o) = owner_deque o
end_deque (end.Thief t) = thief_deque t

abbrev pub end_ledger : DequeEnd → Ledger
end_ledger (end.Owner o) = owner_ledger o
end_ledger (end.Thief t) = thief_ledger t

-- 1 at the owner's end, 0 at any other
abbrev pub end_owners : DequeEnd → ℕ
end_owners (end.Owner o) = 1
end_owners (end.Thief t) = 0

-- what does not change of an end while it takes blocks: its deque, how many places were put, how many of the
-- deque's 64 parts the end has, and whether it is the owner's
pub record EndView : Type 0 where
  pub deque : DequeName
  pub count : ℕ
  pub parts : ℕ
  pub owners : ℕ

abbrev pub end_hold : DequeEnd → EndView
end_hold e = record { deque = end_deque e; count = (end_ledger e).count; parts = (end_ledger e).parts; owners = end_owners e }

-- the places that an end has taken, in the order taken
abbrev pub end_taken : DequeEnd → List ℕ
end_taken e = (end_ledger e).taken

-- these are all ends of one deque, on which `count` places were put
pub record AreAllEnds (count : ℕ) (holds : List EndView) : Type 0 where
  pub one : (deque : DequeName) × All (λ h. h.deque ≡ deque) holds
  pub size : All (λ h. h.count ≡ count) holds
  pub whole : sum_by (λ h. h.parts) holds ≡ 64
  pub owner : sum_by (λ h. h.owners) holds ≡ 1

-- the ledger after joining these ends: it knows what each end took, and has the whole
pub record AreJoined (count : ℕ) (ends : List DequeEnd) (v : Ledger) : Type 0 where
  pub size : v.count ≡ count
  pub whole : v.parts ≡ 64
  pub taken : (h : ℕ → ℕ) → sum_by h v.taken ≡ sum_by (λ e. sum_by h (end_taken e)) ends
