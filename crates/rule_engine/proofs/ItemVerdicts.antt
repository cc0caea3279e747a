-- What verdicts say of the items that they are of.
use Rattle.rule_engine.proofs.Prelude.{◌≡◌, ℕ, suc, ◌+◌, Bool, true, false, cond, not, ◌&&◌, List, [], ◌∷◌, length, get_or, zero, subst, Option, None, Some, nat_eq, nat_lt, refl, sym, ap, ◌∙◌, list_any, option_or, Act, Item, Refusal, UnknownNode, ChosenTwice, BadTarget, EmptyChoice, NotCentral, Verdict, present, State, RuleTable, rule_at, item_refusal, items_refusal, step_refusal, rule_refusal, wish_refusal, outcome_of, outcome_at, outcome_by, verdicts_from, verdicts_of, refused_by, size_refusal, HaveOutcomes}
use Rattle.std.specs.Prelude.{IfSome, slice_get}
use Rattle.rule_machine.specs.declared.verdict.Outcome.TheVariants as outcome

by_wish : (t : RuleTable) (s : State) (v : ℕ) (act : Act) (wish : Option ℕ) → wish_refusal (t.allowed s v act) wish ≡ refused_by (outcome_by t s v act wish) false
by_wish t s v act None = refl
by_wish t s v act (Some w) =
    elim (t.allowed s v act w) as (λ b. cond b None (Some BadTarget) ≡ refused_by (cond b (outcome.Moves (record { node = v; act = act; target = Some w })) outcome.Wrong) false) [
      | true ↦ refl
      | false ↦ refl
    ]

by_wish_twice : (t : RuleTable) (s : State) (v : ℕ) (act : Act) (wish : Option ℕ) → Some ChosenTwice ≡ refused_by (outcome_by t s v act wish) true
by_wish_twice t s v act None = refl
by_wish_twice t s v act (Some w) =
    elim (t.allowed s v act w) as (λ b. Some ChosenTwice ≡ refused_by (cond b (outcome.Moves (record { node = v; act = act; target = Some w })) outcome.Wrong) true) [
      | true ↦ refl
      | false ↦ refl
    ]

by_rule : (t : RuleTable) (s : State) (item : Item) (twice : Bool) (act : Option Act) → cond twice (Some ChosenTwice) (rule_refusal t s item act) ≡ refused_by (outcome_at t s item act) twice
by_rule t s item true None = refl
by_rule t s item false None = refl
by_rule t s item true (Some act) = by_wish_twice t s item.node act item.wish
by_rule t s item false (Some act) = by_wish t s item.node act item.wish

-- why an item is refused, from its outcome and whether its node is named earlier
pub item_refusal-outcome : (t : RuleTable) (s : State) (earlier : List Item) (item : Item) → item_refusal t s earlier item ≡ refused_by (outcome_of t s item) (list_any (λ i. nat_eq i.node item.node) earlier)
item_refusal-outcome t s earlier item =
    elim (present s.network item.node) as (λ b. cond (not b) (Some UnknownNode) (cond (list_any (λ i. nat_eq i.node item.node) earlier) (Some ChosenTwice) (rule_refusal t s item (rule_at t s item.node))) ≡ refused_by (cond b (outcome_at t s item (rule_at t s item.node)) outcome.Absent) (list_any (λ i. nat_eq i.node item.node) earlier)) [
      | true ↦ by_rule t s item (list_any (λ i. nat_eq i.node item.node) earlier) (rule_at t s item.node)
      | false ↦ refl
    ]

length-verdicts_from : (t : RuleTable) (s : State) (place : ℕ) (items : List Item) → length (verdicts_from t s place items) ≡ length items
length-verdicts_from t s place [] = refl
length-verdicts_from t s place (item ∷ items) = ap suc (length-verdicts_from t s (place + 1) items)

-- the outcome of a verdict is that of its item
judged_from : (t : RuleTable) (s : State) (place : ℕ) (items : List Item) (k : ℕ) (d : Item) → IfSome (slice_get (verdicts_from t s place items) k) (λ verdict. verdict.outcome ≡ outcome_of t s (get_or items k d))
judged_from t s place [] k d = tt
judged_from t s place (item ∷ items) zero d = refl
judged_from t s place (item ∷ items) (suc k) d = judged_from t s (place + 1) items k d

pub judged_of : (t : RuleTable) (s : State) (items : List Item) (verdicts : List Verdict) → verdicts ≡ verdicts_of t s items → HaveOutcomes t s items verdicts
judged_of t s items verdicts are place item is =
    subst (λ (i : Item). IfSome (slice_get verdicts place) (λ verdict. verdict.outcome ≡ outcome_of t s i)) (sym is)
    (subst (λ (l : List Verdict). IfSome (slice_get l place) (λ verdict. verdict.outcome ≡ outcome_of t s (get_or items place item))) (sym are) (judged_from t s 0 items place item))

-- a step is refused for its size, or else for its first item that is
pub step_refusal-parts : (t : RuleTable) (s : State) (items : List Item) → step_refusal t s items ≡ option_or (size_refusal t.central (length items)) (items_refusal t s [] items)
step_refusal-parts t s items = parts (nat_eq (length items) 0) (t.central && nat_lt 1 (length items)) (items_refusal t s [] items)
  where
    parts : (empty wide : Bool) (o : Option Refusal) → cond empty (Some EmptyChoice) (cond wide (Some NotCentral) o) ≡ option_or (cond empty (Some EmptyChoice) (cond wide (Some NotCentral) None)) o
    parts true wide o = refl
    parts false true o = refl
    parts false false o = refl

pub length-verdicts_of : (t : RuleTable) (s : State) (items : List Item) → length (verdicts_of t s items) ≡ length items
length-verdicts_of t s items = length-verdicts_from t s 0 items

-- of one item
pub one_refusal : (t : RuleTable) (s : State) (item : Item) → items_refusal t s [] (item ∷ []) ≡ refused_by (outcome_of t s item) false
one_refusal t s item = or_nothing (item_refusal t s [] item) ∙ item_refusal-outcome t s [] item
  where
    or_nothing : (o : Option Refusal) → option_or o None ≡ o
    or_nothing None = refl
    or_nothing (Some refusal) = refl
