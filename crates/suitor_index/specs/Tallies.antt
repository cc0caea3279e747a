-- The tally (the counts) of a node, and a table of tallies with an entry for each name; entry 0 is unused.
use Rattle.std.specs.Prelude.{◌≡◌, ℕ, ◌+◌, ◌%◌, ◌≤◌, Bool, cond, ◌&&◌, List, length, Option, None, IsTrue, nat_eq, slice_index_or}
use Rattle.std.specs.List.{count_by, sum_by}
use Rattle.rule_machine.specs.Network.{linked, present, neighbours}
use Rattle.rule_machine.specs.State.{State, IsState, pointer, suits}
use Rattle.rule_machine.specs.LocalViews.{is_reached}
use Rattle.suitor_index.specs.declared.tally.Tally.{Tally}

-- all counts are 0, and the pointer is null
abbrev pub empty_tally : Tally
empty_tally = record { suitors = 0; reached = 0; sum = 0; pointer = None }

abbrev pub tally_of : List Tally → ℕ → Tally
tally_of tallies v = slice_index_or tallies v empty_tally

-- the name w if w passes the test, else 0
abbrev pub name_if : (ℕ → Bool) → ℕ → ℕ
name_if test w = cond (test w) w 0

-- the sum counts modulo 65,536
abbrev pub reduced : Tally → Tally
reduced t = record t { sum = t.sum % 65536 }

-- what a scan of v's neighbours counts: v's suitors, the open neighbours that v's guard asks for, and the
-- sum of the suitors' names, modulo 65,536; and v's pointer
abbrev pub tally_at : Bool → (Option ℕ → Bool → Bool) → State → ℕ → Tally
tally_at above opens s v = record {
  suitors = count_by (suits s v) (neighbours s.network v);
  reached = count_by (is_reached above opens s v) (neighbours s.network v);
  sum = sum_by (name_if (suits s v)) (neighbours s.network v) % 65536;
  pointer = pointer s v;
}

-- how many neighbours point at v
abbrev pub suitor_count : State → ℕ → ℕ
suitor_count s v = count_by (suits s v) (neighbours s.network v)

-- w is the only neighbour of v that points at v
pub record IsLoneSuitor (s : State) (v w : ℕ) : Type 0 where
  pub here : IsTrue (present s.network w)
  pub alone : (x : ℕ) → (linked s.network v x && suits s v x) ≡ nat_eq x w

-- the entry of each node has what a scan of the node's neighbours counts
pub record IsIndexOf (above : Bool) (opens : Option ℕ → Bool → Bool) (s : State) (tallies : List Tally) : Type 0 where
  pub places : length tallies ≡ s.network.size + 1
  pub counted : (v : ℕ) → IsTrue (present s.network v) → reduced (tally_of tallies v) ≡ tally_at above opens s v

-- the state is valid, its names are at most 65,535, and the tallies are its index
pub record IsIndexed (above : Bool) (opens : Option ℕ → Bool → Bool) (s : State) (tallies : List Tally) : Type 0 where
  pub is_state : IsState s
  pub index : IsIndexOf above opens s tallies
  pub few : s.network.size ≤ 65535
