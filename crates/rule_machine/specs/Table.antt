-- What every rule set's table guarantees of its targets, and what each rule requires.
use Rattle.std.specs.Prelude.{◌≡◌, ◌≢◌, ℕ, None, Some, IsSome, IsTrue}
use Rattle.rule_machine.specs.declared.act.Act.{Act}
use Rattle.rule_machine.specs.declared.act.Act.TheVariants.{Update, Marry, Seduce, Abandon}
use Rattle.rule_machine.specs.Network.{linked}
use Rattle.rule_machine.specs.State.{State, IsState, pointer, flag, married}
use Rattle.rule_machine.specs.RuleTable.{RuleTable, least_target}
use Rattle.rule_machine.specs.Target.{takes_target}

-- An allowed target is a neighbour, and its rule takes a target. An enabled rule that takes a target
-- has an allowed target.
pub record IsTable (t : RuleTable) : Type 0 where
  pub allowed_is_neighbour : (s : State) (v : ℕ) (act : Act) (w : ℕ) → IsTrue (t.allowed s v act w) → IsTrue (linked s.network v w)
  pub allowed_takes_target : (s : State) (v : ℕ) (act : Act) (w : ℕ) → IsTrue (t.allowed s v act w) → IsTrue (takes_target act)
  pub has_target : (s : State) (v : ℕ) (act : Act) → IsState s → IsTrue (t.guard s v act) → IsTrue (takes_target act) → IsSome (least_target t s v act)

-- What each rule requires at its node: `Update` a wrong flag; `Marry` a null pointer and a suitor;
-- `Seduce` a null pointer and a neighbour whose pointer is null; `Abandon` an unanswered pointer.
pub record AsksForWork (t : RuleTable) : Type 0 where
  pub update : (s : State) (v : ℕ) → IsTrue (t.guard s v Update) → IsTrue t.flags × (flag s v ≢ married s v)
  pub marry : (s : State) (v : ℕ) → IsTrue (t.guard s v Marry) → (pointer s v ≡ None) × ((w : ℕ) × (pointer s w ≡ Some v))
  pub seduce : (s : State) (v : ℕ) → IsTrue (t.guard s v Seduce) → (pointer s v ≡ None) × ((w : ℕ) × IsTrue (linked s.network v w) × (pointer s w ≡ None))
  pub abandon : (s : State) (v : ℕ) → IsTrue (t.guard s v Abandon) → (w : ℕ) × (pointer s v ≡ Some w) × (pointer s w ≢ Some v)
