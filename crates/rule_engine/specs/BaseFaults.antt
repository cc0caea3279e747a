-- Why no network can begin at a base: the first demand that the base breaks, in a fixed order.
use Rattle.std.specs.Prelude.{◌≡◌, ℕ, ◌+◌, ◌<◌, ◌≤◌, true, false, length}
use Rattle.std.specs.List.{list_any}
use Rattle.rule_machine.specs.declared.base.Base.{Base}
use Rattle.rule_machine.specs.State.{State, IsState, flag}
use Rattle.rule_machine.specs.RuleTable.{RuleTable}
use Rattle.machine_laws.specs.ChargeWords.{charge_bound}
use Rattle.net_state.specs.BaseLines.{HasLines, NoStateHas}
use Rattle.rule_engine.specs.declared.base_fault.BaseFault.{BaseFault}
use Rattle.rule_engine.specs.declared.base_fault.BaseFault.TheVariants.{TooManyNames, TooManyEdges, NotAState, HasFlags, AboveBound, Memory}

-- the names and edges are as many as a network may have
pub record IsBaseOfNetwork (size : ℕ) (base : Base) : Type 0 where
  pub names : size ≤ 65535
  pub edges : length base.edges ≤ 1048576

-- the base's lines are those of the state s
pub record IsStateOf (size : ℕ) (base : Base) (s : State) : Type 0 where
  pub few : IsBaseOfNetwork size base
  pub is_state : IsState s
  pub lines : HasLines size base.nodes base.edges s

-- what holds of the base if the call gives this error
abbrev pub ExplainsBaseFault : RuleTable → ℕ → ℕ → Base → BaseFault → Type 0
ExplainsBaseFault t weight size base TooManyNames = 65535 < size
ExplainsBaseFault t weight size base TooManyEdges = (size ≤ 65535) × (1048576 < length base.edges)
ExplainsBaseFault t weight size base NotAState = IsBaseOfNetwork size base × NoStateHas size base.nodes base.edges
ExplainsBaseFault t weight size base HasFlags =
    (s : State) × IsStateOf size base s × (t.flags ≡ false) × (list_any (λ node. node.flagged) base.nodes ≡ true)
ExplainsBaseFault t weight size base AboveBound =
    (s : State) × IsStateOf size base s × (t.flags ≡ false → (v : ℕ) → flag s v ≡ false) × (charge_bound weight s.network < base.spent + t.charge s)
ExplainsBaseFault t weight size base Memory = IsBaseOfNetwork size base
