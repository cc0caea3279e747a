-- An event that disturbs is not refused.
use Rattle.rule_engine.proofs.Prelude.{◌≡◌, true, Option, None, Some, is_none, refl, sym, and_parts, true≢false, Event, State, RuleTable, refusal_of, disturbs, may_disturb}

none_is : {X : Type 0} (o : Option X) → is_none o ≡ true → o ≡ None
none_is None h = refl
none_is (Some x) h = absurd (true≢false (sym h))

-- it is not refused
pub not_refused : (t : RuleTable) (s : State) (event : Event) → disturbs t s event ≡ true → refusal_of t s event ≡ None
not_refused t s event h = none_is (refusal_of t s event) (and_parts (may_disturb event) (is_none (refusal_of t s event)) h).1
