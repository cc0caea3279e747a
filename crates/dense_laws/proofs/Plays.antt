-- Runs that exist, by any rule set: one node moves alone, by the first of its rules whose guard holds.
use Rattle.dense_laws.proofs.Prelude.{◌≡◌, ℕ, ◌+◌, ◌<◌, Bool, cond, not, List, [], ◌∷◌, length, Any, Option, None, Some, IsTrue, refl, ap, ◌∙◌, sym, subst, arith, All-cons, All-nil, option_or, Act, Moved, Item, Step, Refusal, UnknownNode, Moves, present, State, IsState, pointer, flag, married, with_pointer, rule_at, IsTarget, IsMoveOf, IsStep, after_moves, wish_refusal, rule_refusal, item_refusal, items_refusal, step_refusal, AnswersBy, Answers, present_range, pointer-with_pointer_same, pointer-with_pointer_other, step_done}
use Rattle.std.proofs.Math.Bool.{and-false}
use Rattle.rule_machine.specs.RuleTable.{RuleTable}
use Rattle.rule_machine.specs.declared.act.Act.TheVariants.{Update}
use Rattle.rule_machine.specs.declared.refusal.Refusal.TheVariants.{NotCentral}
use Rattle.machine_laws.proofs.NodeMoves.{IsInside}
use Rattle.machine_laws.proofs.Writes.{flag-with_flag_same, flag-with_flag_other}

abbrev pub then : State → Moved → State
then s m = after_moves s (m ∷ [])

-- v may move alone, and have this target and this flag then
pub record IsPlayed (t : RuleTable) (s : State) (v : ℕ) (target : Option ℕ) (value : Bool) : Type 0 where
  pub items : List Item
  pub m : Moved
  pub node : m.node ≡ v
  pub answers : (n : ℕ) → Answers t s n (Step items) (Moves (m ∷ [])) (then s m)
  pub is_state : IsState (then s m)
  pub here : pointer (then s m) v ≡ target
  pub others : (u : ℕ) → (u ≡ v → ⊥) → pointer (then s m) u ≡ pointer s u
  pub flag_here : flag (then s m) v ≡ value
  pub flag_others : (u : ℕ) → (u ≡ v → ⊥) → flag (then s m) u ≡ flag s u

-- ---- a move by a rule

not_refused : (t : RuleTable) (s : State) (item : Item) (act : Act) → IsTrue (present s.network item.node) → rule_at t s item.node ≡ Some act → wish_refusal (t.allowed s item.node act) item.wish ≡ None → step_refusal t s (item ∷ []) ≡ None
not_refused t s item act has rule wish =
    ap (λ b. cond b (Some NotCentral) (items_refusal t s [] (item ∷ []))) (and-false t.central)
    ∙ or_none (item_refusal t s [] item)
    (ap (λ b. cond (not b) (Some UnknownNode) (rule_refusal t s item (rule_at t s item.node))) has
    ∙ ap (rule_refusal t s item) rule ∙ wish)
  where
    or_none : (o : Option Refusal) → o ≡ None → option_or o None ≡ None
    or_none o e = ap (λ x. option_or x None) e

single_step : (t : RuleTable) (s : State) (item : Item) (m : Moved) → IsMoveOf t s item m → IsStep t s (item ∷ []) (m ∷ []) (then s m)
single_step t s item m asked = record {
  some = λ none. let len : ◌≡◌ {A = ℕ} 1 0 = ap length none in omega (arith, len);
  alone = λ central. refl;
  ascending = λ k below. absurd (omega (arith, below));
  each = All-cons (λ m. Any (λ item. IsMoveOf t s item m) (item ∷ [])) m [] (0, item, omega arith, refl, asked) (All-nil (λ m. Any (λ item. IsMoveOf t s item m) (item ∷ [])));
  all = All-cons (λ item. Any (λ m. IsMoveOf t s item m) (m ∷ [])) item [] (0, m, omega arith, refl, asked) (All-nil (λ item. Any (λ m. IsMoveOf t s item m) (m ∷ [])));
  after = refl;
}

answered : (t : RuleTable) (s : State) (item : Item) (m : Moved) → step_refusal t s (item ∷ []) ≡ None → IsStep t s (item ∷ []) (m ∷ []) (then s m) → (n : ℕ) → Answers t s n (Step (item ∷ [])) (Moves (m ∷ [])) (then s m)
answered t s item m none step n = subst (λ r. AnswersBy t s n (Step (item ∷ [])) r (Moves (m ∷ [])) (then s m)) (sym none) step

below_size : (s : State) → IsState s → (v : ℕ) → IsTrue (present s.network v) → v < s.network.size + 1
below_size s good v has = let range = present_range s.network v has in omega (arith, range)

-- by a rule that writes the pointer
pub played_by : (t : RuleTable) → IsInside t → (s : State) → IsState s → (v : ℕ) (act : Act) (target : Option ℕ) → IsTrue (present s.network v) → rule_at t s v ≡ Some act → wish_refusal (t.allowed s v act) target ≡ None → IsTarget t s v act target target → then s (record { node = v; act = act; target = target }) ≡ record s { registers = with_pointer s.registers v target } → IsPlayed t s v target (flag s v)
played_by t inside s good v act target has rule wish is after = record {
  items = item ∷ [];
  m = m;
  node = refl;
  answers = answered t s item m (not_refused t s item act has rule wish) step;
  is_state = (step_done t inside s good (item ∷ []) (m ∷ []) (then s m) step).is_state;
  here = ap (λ u. pointer u v) after ∙ pointer-with_pointer_same s.registers v target (let below = below_size s good v has in let len = good.pointers_len in omega (arith, below, len));
  others = λ u apart. ap (λ x. pointer x u) after ∙ pointer-with_pointer_other s.registers v target u apart;
  flag_here = ap (λ x. flag x v) after;
  flag_others = λ u apart. ap (λ x. flag x u) after;
}
  where
    item : Item
    item = record { node = v; wish = target }

    m : Moved
    m = record { node = v; act = act; target = target }

    step : IsStep t s (item ∷ []) (m ∷ []) (then s m)
    step = single_step t s item m (record { node = refl; rule = rule; target = is })

-- by the rule that writes the flag
pub updated_by : (t : RuleTable) → IsInside t → (s : State) → IsState s → (v : ℕ) → IsTrue (present s.network v) → rule_at t s v ≡ Some Update → IsPlayed t s v (pointer s v) (married s v)
updated_by t inside s good v has rule = record {
  items = item ∷ [];
  m = m;
  node = refl;
  answers = answered t s item m (not_refused t s item Update has rule refl) step;
  is_state = (step_done t inside s good (item ∷ []) (m ∷ []) (then s m) step).is_state;
  here = refl;
  others = λ u apart. refl;
  flag_here = flag-with_flag_same s.registers v (married s v) (let below = below_size s good v has in let len = good.flags_len in omega (arith, below, len));
  flag_others = λ u apart. flag-with_flag_other s.registers v (married s v) u apart;
}
  where
    item : Item
    item = record { node = v; wish = None }

    m : Moved
    m = record { node = v; act = Update; target = None }

    step : IsStep t s (item ∷ []) (m ∷ []) (then s m)
    step = single_step t s item m (record { node = refl; rule = rule; target = refl })
