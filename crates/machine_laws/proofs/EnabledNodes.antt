-- When no node is enabled.
use Rattle.machine_laws.proofs.ChargePrelude.Imports.{◌≡◌, ℕ, Bool, false, [], None, is_some, find, IsTrue, Act, names, present, State, RuleTable, acts, rule_at, enabled_names, arith}
use Rattle.machine_laws.proofs.Search.{cond-none, find_from_empty, empty_from_find}
use Rattle.machine_laws.proofs.Neighbours.{names_none, names_fails}
use Rattle.machine_laws.proofs.Pointers.{none_is}

-- no rule passes
pub no_act : (g : Act → Bool) → find g acts ≡ None → (act : Act) → g act ≡ false
no_act g e = grind (arith, cond-none)

pub act_none : (g : Act → Bool) → ((act : Act) → g act ≡ false) → find g acts ≡ None
act_none g h = grind arith

-- with no node enabled, no rule is enabled at any
pub quiet_at : (t : RuleTable) (s : State) → enabled_names t s ≡ [] → (v : ℕ) → IsTrue (present s.network v) → (act : Act) → t.guard s v act ≡ false
quiet_at t s e v here =
    let none = find_from_empty (λ v. is_some (rule_at t s v)) (names s.network) e in
    let fails = names_none s.network (λ v. is_some (rule_at t s v)) none v here in
    no_act (t.guard s v) (none_is (rule_at t s v) fails)

pub quiet_from : (t : RuleTable) (s : State) → ((v : ℕ) → IsTrue (present s.network v) → (act : Act) → t.guard s v act ≡ false) → enabled_names t s ≡ []
quiet_from t s h = grind (arith, empty_from_find, names_fails, act_none)
