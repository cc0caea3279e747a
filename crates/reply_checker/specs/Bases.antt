-- The bases at which a judge begins, and which a judge returns.
use Rattle.std.specs.Prelude.{ℕ, ◌≤◌, length}
use Rattle.rule_machine.specs.declared.base.Base.{Base}
use Rattle.rule_machine.specs.declared.rule_set.RuleSet.{RuleSet}
use Rattle.rule_machine.specs.State.{State}
use Rattle.rule_machine.specs.Base.{IsBaseMoment}
use Rattle.rule_machine.specs.Run.{Moment}
use Rattle.rule_machine.specs.Tables.{table_of, weight_of}
use Rattle.machine_laws.specs.ChargeWords.{charge_bound}
pub use Rattle.net_state.specs.BaseLines.{NamesRise, EdgesAscend}

-- a run may begin at a base in this state, and the base has at most as many edges as a network may have
abbrev pub BeginsInState : RuleSet → ℕ → Base → State → Type 0
BeginsInState rules size base s =
    IsBaseMoment (table_of rules) (charge_bound (weight_of rules)) size base (record { state = s; spent = base.spent }) × (length base.edges ≤ 1048576)

-- no run may begin at the base, or the base has more edges than a network may have
abbrev pub BeginsNowhere : RuleSet → ℕ → Base → Type 0
BeginsNowhere rules size base =
    (start : Moment) → IsBaseMoment (table_of rules) (charge_bound (weight_of rules)) size base start → length base.edges ≤ 1048576 → ⊥
