-- The rule of a deque of places: what is on the deque and what each pass knows.
use Rattle.std.specs.Prelude.{◌≡◌, ℕ, ◌+◌, ◌-◌, ◌<◌, ◌≤◌, List, [], ◌∷◌, ◌++◌, length}
use Rattle.std.specs.List.{sum_by, range_with_len}
use mathlib.Core.Option.{some}
use lib.ListN.{get_elem?}
use Rattle.steal_pool.specs.declared.deque.block.Block.{Block}
use Rattle.steal_pool.specs.declared.deque.ledger.Ledger.{Ledger}

abbrev pub ledger : ℕ → ℕ → List ℕ → Ledger
ledger parts count taken = record { parts = parts; count = count; taken = taken }

-- the places 0 to count - 1
abbrev pub first_places : ℕ → List ℕ
first_places count = range_with_len 0 count

-- the places of a block
abbrev pub block_places : Block → List ℕ
block_places b = range_with_len b.first (b.end - b.first)

-- the places of blocks, one block after another
abbrev pub places_in : List Block → List ℕ
places_in [] = []
places_in (b ∷ bs) = block_places b ++ places_in bs

-- a pass without a part has taken nothing, and a pass with a part knows how many places were put
abbrev pub Knows : ℕ → Ledger → Type 0
Knows count v = (v.parts ≡ 0 → v.taken ≡ []) × (0 < v.parts → v.count ≡ count)

-- For any weight of places, the places that the passes took and the places on the deque together have the
-- weight of the places put. So each place is in one of these lists, once. The parts of all passes make the
-- whole.
pub record Balanced (items : List Block) (views : List Ledger) : Type 0 where
  pub count : ℕ
  pub whole : sum_by (λ v. v.parts) views ≡ 64
  pub once : (h : ℕ → ℕ) → sum_by (λ v. sum_by h v.taken) views + sum_by h (places_in items) ≡ sum_by h (first_places count)
  pub known : (port : ℕ) (v : Ledger) → get_elem? views port ≡ some v → Knows count v

-- the places up to the end of a block were put
abbrev pub with_put : Ledger → List Block → Ledger
with_put v [] = v
with_put v (b ∷ bs) = ledger v.parts b.end v.taken

-- these are some of the places that were put, none twice
abbrev pub ArePlaces : ℕ → List ℕ → Type 0
ArePlaces count taken = (h : ℕ → ℕ) → sum_by h taken ≤ sum_by h (first_places count)

-- the places of these blocks were taken
abbrev pub Takes : Ledger → List Block → Ledger → Type 0
Takes v xs w = (w ≡ ledger v.parts v.count (v.taken ++ places_in xs)) × ArePlaces v.count w.taken

-- the block lies among the places that were put, and at most that many were taken
abbrev pub IsBlockWithin : Ledger → Ledger → Block → Type 0
IsBlockWithin before after block = (block.end ≤ before.count) × (length after.taken ≤ before.count)

-- these are all places that were put, each once
abbrev pub AreAllPlaces : ℕ → List ℕ → Type 0
AreAllPlaces count taken = (h : ℕ → ℕ) → sum_by h taken ≡ sum_by h (first_places count)

-- if a pass has the whole and finds no place, it knows that all were taken
abbrev pub KnowsAll : Ledger → Type 0
KnowsAll v = v.parts ≡ 64 → AreAllPlaces v.count v.taken

-- what a pass keeps when it is split in two, and what the new pass gets
abbrev pub rest_of : Ledger → Ledger
rest_of v = ledger (v.parts - 1) v.count v.taken

abbrev pub part_of : Ledger → Ledger
part_of v = ledger 1 v.count []

-- what a pass knows after joining another pass
abbrev pub joined_ledger : Ledger → Ledger → Ledger
joined_ledger v w = ledger (v.parts + w.parts) v.count (v.taken ++ w.taken)
