-- How two tables of tallies differ by one node: by the node's target, and by the entries that count the
-- node as open.
use Rattle.std.specs.Prelude.{◌≡◌, ◌≢◌, ℕ, ◌+◌, ◌%◌, ◌<◌, ◌≤◌, Bool, true, false, ◌&&◌, cond, List, length, Option, is_none, nat_le}
use Rattle.rule_machine.specs.State.{is_at}
use Rattle.suitor_index.specs.declared.tally.Tally.{Tally}
use Rattle.suitor_index.specs.Tallies.{tally_of}

-- 1 if the test passes
abbrev pub one_if : Bool → ℕ
one_if b = cond b 1 0

-- the second table counts v as a suitor of the pointer's target, and the first does not
pub record AddsSuitor (pointer : Option ℕ) (v : ℕ) (without has : List Tally) : Type 0 where
  pub places : length has ≡ length without
  pub suitors : (k : ℕ) → (tally_of has k).suitors ≡ (tally_of without k).suitors + one_if (is_at pointer k)
  pub sum : (k : ℕ) → (tally_of has k).sum % 65536 ≡ ((tally_of without k).sum + cond (is_at pointer k) v 0) % 65536
  pub reached : (k : ℕ) → (tally_of has k).reached ≡ (tally_of without k).reached
  pub aims : (k : ℕ) → (tally_of has k).pointer ≡ (tally_of without k).pointer

-- the counts may include a suitor
abbrev pub HasSuitor : Tally → Type 0
HasSuitor t = 1 ≤ t.suitors

abbrev pub HasTallyRoom : Tally → Type 0
HasTallyRoom t = t.suitors < 65535

-- the count can follow a node's change: at least 1 if an open node closes, below 65,535 if a node opens
abbrev pub CanTurn : Bool → Bool → Tally → Type 0
CanTurn true false t = 1 ≤ t.reached
CanTurn false true t = t.reached < 65535
CanTurn true true t = Unit {0}
CanTurn false false t = Unit {0}

-- at each place that passes the test, the first table counts a node as it was, and the second as the node
-- is now
pub record IsTurned (near : ℕ → Bool) (was is : Bool) (before after : List Tally) : Type 0 where
  pub places : length after ≡ length before
  pub suitors : (k : ℕ) → (tally_of after k).suitors ≡ (tally_of before k).suitors
  pub sum : (k : ℕ) → (tally_of after k).sum ≡ (tally_of before k).sum
  pub reached : (k : ℕ) → (tally_of after k).reached + cond was (one_if (near k)) 0 ≡ (tally_of before k).reached + cond is (one_if (near k)) 0
  pub aims : (k : ℕ) → (tally_of after k).pointer ≡ (tally_of before k).pointer

-- the second table has v's new pointer
pub record IsAimed (v : ℕ) (target : Option ℕ) (before after : List Tally) : Type 0 where
  pub places : length after ≡ length before
  pub suitors : (k : ℕ) → (tally_of after k).suitors ≡ (tally_of before k).suitors
  pub sum : (k : ℕ) → (tally_of after k).sum ≡ (tally_of before k).sum
  pub reached : (k : ℕ) → (tally_of after k).reached ≡ (tally_of before k).reached
  pub aim : (tally_of after v).pointer ≡ target
  pub others : (k : ℕ) → k ≢ v → (tally_of after k).pointer ≡ (tally_of before k).pointer

-- the first table counts v as a suitor of v's old target, the second as a suitor of v's new target
pub record IsRepointed (was is : Option ℕ) (v : ℕ) (before after : List Tally) : Type 0 where
  pub places : length after ≡ length before
  pub suitors : (k : ℕ) → (tally_of after k).suitors + one_if (is_at was k) ≡ (tally_of before k).suitors + one_if (is_at is k)
  pub sum : (k : ℕ) → ((tally_of after k).sum + cond (is_at was k) v 0) % 65536 ≡ ((tally_of before k).sum + cond (is_at is k) v 0) % 65536
  pub reached : (k : ℕ) → (tally_of after k).reached ≡ (tally_of before k).reached
  pub aim : (tally_of after v).pointer ≡ is
  pub others : (k : ℕ) → k ≢ v → (tally_of after k).pointer ≡ (tally_of before k).pointer

-- the pointer is null, and the entry counts no open node but one that is open as the first argument says
abbrev pub is_null_with_none_but : Bool → Tally → Bool
is_null_with_none_but is t = is_none t.pointer && nat_le t.reached (one_if is)

-- no place that passes the test has such an entry
abbrev pub HasNoneAlone : (ℕ → Bool) → Bool → List Tally → Type 0
HasNoneAlone near is tallies = (k : ℕ) → (near k && is_null_with_none_but is (tally_of tallies k)) ≡ false
