-- On whose registers it depends whether a rule is enabled at a node.
use Rattle.std.specs.Prelude.{◌≡◌, ℕ, Bool, ◌&&◌, ◌||◌, Option, is_none, is_some, IsTrue}
use Rattle.rule_machine.specs.Network.{linked, neighbours, present}
use Rattle.rule_machine.specs.RuleTable.{RuleTable, rule_at}
use Rattle.rule_machine.specs.State.{State, IsState, flag, is_at, pointer}

-- whether v is a node with an enabled rule
abbrev pub is_on : RuleTable → State → ℕ → Bool
is_on t s v = present s.network v && is_some (rule_at t s v)

-- whether a node with this witness depends on its neighbour w: w is the witness, or no witness is known
abbrev pub depends_on : Option ℕ → ℕ → Bool
depends_on witness w = is_none witness || is_at witness w

-- Both states have v or have it not, with the same neighbours and registers. They also agree on the registers
-- of the neighbours that v depends on.
pub record AgreeAt (s u : State) (v : ℕ) (witness : Option ℕ) : Type 0 where
  pub presence : present s.network v ≡ present u.network v
  pub neighbours : neighbours s.network v ≡ neighbours u.network v
  pub links : (w : ℕ) → linked s.network v w ≡ linked u.network v w
  pub own_pointer : pointer s v ≡ pointer u v
  pub own_flag : flag s v ≡ flag u v
  pub pointers : (w : ℕ) → IsTrue (linked s.network v w) → IsTrue (depends_on witness w) → pointer s w ≡ pointer u w
  pub flags : (w : ℕ) → IsTrue (linked s.network v w) → IsTrue (depends_on witness w) → flag s w ≡ flag u w

-- In each state that agrees with s at v, a rule is enabled at v exactly if one is in s.
abbrev pub RestsOn : RuleTable → State → ℕ → Option ℕ → Type 0
RestsOn t s v witness = (u : State) → IsState u → AgreeAt s u v witness → is_on t u v ≡ is_on t s v
