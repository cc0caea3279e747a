-- What follows if each rule asks for work: no rule is enabled at a node at rest, nor at an absent one.
use Rattle.containment_laws.proofs.Prelude.{◌≡◌, ◌≢◌, ℕ, None, IsTrue, cases_Bool, false_from_ne_true, true_from_ne_false, Act, Update, Marry, Seduce, Abandon, present, State, IsState, flag, married, RuleTable, rule_at, act_none, linked_present, married_some, suitor_linked, IsInside, pointer_present, AsksForWork, is_at_rest, arith}
use Rattle.rule_machine.specs.Table.{IsTable}
use Rattle.containment_laws.proofs.AtRest.{IsAtRest, rest_is, rest_answered, rest_no_null, rest_no_suitor}

-- no rule is enabled at a node at rest
pub rest_idles : (t : RuleTable) → AsksForWork t → (s : State) (v : ℕ) → IsState s → IsAtRest t.flags s v → (act : Act) → IsTrue (t.guard s v act) → ⊥
rest_idles t asks s v good rest Update h = let work = asks.update s v h in work.1 (rest.right work.0)
rest_idles t asks s v good rest Marry h = let work = asks.marry s v h in rest_no_suitor t.flags s v work.1.0 good rest work.0 work.1.1
rest_idles t asks s v good rest Seduce h = let work = asks.seduce s v h in rest_no_null t.flags s v work.1.0 rest work.0 work.1.1 work.1.2
rest_idles t asks s v good rest Abandon h = let work = asks.abandon s v h in work.2 (rest_answered t.flags s v work.0 rest work.1)

pub rest_not_enabled : (t : RuleTable) → AsksForWork t → (s : State) (v : ℕ) → IsState s → IsAtRest t.flags s v → rule_at t s v ≡ None
rest_not_enabled t asks s v good rest = act_none (t.guard s v) (λ act. false_from_ne_true (t.guard s v act) (rest_idles t asks s v good rest act))

pub at_rest_idle : (t : RuleTable) → AsksForWork t → (s : State) (v : ℕ) → IsState s → IsTrue (is_at_rest t.flags s v) → rule_at t s v ≡ None
at_rest_idle t asks s v good rest = rest_not_enabled t asks s v good (rest_is t.flags s v good rest)

-- a node with a wrong flag is present: its flag is set, or it is married
wrong_present : (s : State) (v : ℕ) → IsState s → flag s v ≢ married s v → IsTrue (present s.network v)
wrong_present s v good wrong = grind (arith, married_some, pointer_present, true_from_ne_false, cases_Bool)

-- so only a present node has an enabled rule
pub inside_from : (t : RuleTable) → IsTable t → AsksForWork t → IsInside t
inside_from t table asks = grind (arith, wrong_present, linked_present, suitor_linked, pointer_present)
