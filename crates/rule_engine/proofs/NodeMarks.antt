-- Marks that are made and cleared one by one.
use Rattle.rule_engine.proofs.Prelude.{◌≡◌, ℕ, ◌+◌, ◌<◌, Bool, true, false, cond, ◌||◌, List, [], ◌∷◌, ◌++◌, length, get_or, take, drop, set, IsTrue, None, option_to_list, Some, is_some, IsSome, nat_eq, refl, sym, ap, ◌∙◌, ⊎_elim, arith, or-false, or-true, list_any, option_or, cases_Bool, cases_eq, ne_eqb, true≢false, get_or-set_same, get_or-set_other, drop_more, length-set, list_any_more, Item, Moved, Refusal, Outcome, present, State, RuleTable, rule_at, items_refusal, move_in, outcome_of, outcome_at, present_range, is_in, moves_by, refused_by, AreMarks, HasPlace, is_named, eq-eqb, get_or-take, length-take-le, All-from_get_or, list_any_none, Ascend}
use Rattle.rule_machine.specs.declared.verdict.Outcome.TheVariants as outcome
use Rattle.rule_engine.proofs.NodeScans.{found_next, push_is_take}
use Rattle.rule_engine.proofs.ItemVerdicts.{item_refusal-outcome}

-- an outcome that is not refused is a move
pub move_from_accepted : (o : Outcome) (twice : Bool) → refused_by o twice ≡ None → IsSome (move_in o)
move_from_accepted outcome.Absent twice none = absurd cc
move_from_accepted outcome.Idle true none = absurd cc
move_from_accepted outcome.Idle false none = absurd cc
move_from_accepted outcome.Wrong true none = absurd cc
move_from_accepted outcome.Wrong false none = absurd cc
move_from_accepted (outcome.Moves m) twice none = refl

mark_made : (marks : List Bool) (w v : ℕ) → w < length marks → is_in (set marks w true) v ≡ (is_in marks v || nat_eq w v)
mark_made marks w v within =
    ⊎_elim
    (λ (same : w ≡ v).
    ap (is_in (set marks w true)) (sym same) ∙ get_or-set_same marks w true false within ∙ sym (or-true (is_in marks v)) ∙ ap (λ b. is_in marks v || b) (sym (eq-eqb w v same)))
    (λ (other : w ≡ v → ⊥).
    get_or-set_other marks w v true false (λ e. other (sym e)) ∙ sym (or-false (is_in marks v)) ∙ ap (λ b. is_in marks v || b) (sym (ne_eqb w v other)))
    (cases_eq w v)

-- the nodes of items
abbrev pub is_among : {X : Type 0} → (X → ℕ) → List X → ℕ → Bool
is_among node xs v = list_any (λ x. nat_eq (node x) v) xs

-- the marks of one more item
marks_more : {X : Type 0} (node : X → ℕ) (xs : List X) (i : ℕ) (x : X) (marks marks' : List Bool) → i < length xs → x ≡ get_or xs i x → node x < length marks → marks' ≡ set marks (node x) true → AreMarks (is_among node (take i xs)) marks → AreMarks (is_among node (take (i + 1) xs)) marks'
marks_more node xs i x marks marks' within is placed made so_far = λ v.
    ap (λ m. is_in m v) made
    ∙ mark_made marks (node x) v placed
    ∙ ap (λ b. b || nat_eq (node x) v) (so_far v)
    ∙ ap (λ y. is_among node (take i xs) v || nat_eq (node y) v) is
    ∙ sym (list_any_more (λ y. nat_eq (node y) v) xs i x within)

-- after one more item that is not refused: no earlier one is of its node, and it is marked
pub record Passes {X : Type 0} (node : X → ℕ) (xs : List X) (i : ℕ) (x : X) (o : Outcome) (before after : List Bool) : Type 0 where
  pub accepted : refused_by o (is_among node (take i xs) (node x)) ≡ None
  pub marks : AreMarks (is_among node (take (i + 1) xs)) after
  pub len : length after ≡ length before

pub passes : {X : Type 0} (node : X → ℕ) (xs : List X) (i : ℕ) (x : X) (o : Outcome) (marks marks' : List Bool) → i < length xs → x ≡ get_or xs i x → HasPlace (length marks) (node x) o → refused_by o (is_in marks (node x)) ≡ None → marks' ≡ set marks (node x) true → AreMarks (is_among node (take i xs)) marks → Passes node xs i x o marks marks'
passes node xs i x o marks marks' within is placed accepted made so_far =
    let here : node x < length marks = placed (move_from_accepted o (is_in marks (node x)) accepted) in
    record {
      accepted = ap (refused_by o) (sym (so_far (node x))) ∙ accepted;
      marks = marks_more node xs i x marks marks' within is here made so_far;
      len = ap length made ∙ length-set marks (node x) true;
    }

-- an item after those that are not refused decides, if it is refused
pub item_refused : (t : RuleTable) (s : State) (items : List Item) (k : ℕ) (item : Item) (twice : Bool) (refusal : Refusal) → k < length items → item ≡ get_or items k item → refused_by (outcome_of t s item) twice ≡ Some refusal → twice ≡ is_named (take k items) item.node → Some refusal ≡ items_refusal t s (take k items) (drop k items)
item_refused t s items k item twice refusal within is judged named =
    ap (λ o. option_or o (items_refusal t s (take k items ++ item ∷ []) (drop (k + 1) items))) (sym judged ∙ ap (refused_by (outcome_of t s item)) named ∙ sym (item_refusal-outcome t s (take k items) item))
    ∙ ap (λ i. items_refusal t s (take k items) (i ∷ drop (k + 1) items)) is
    ∙ ap (items_refusal t s (take k items)) (sym (drop_more items k item within))

-- one more item that is not refused
items_refusal_more : (t : RuleTable) (s : State) (items : List Item) (k : ℕ) (item : Item) → k < length items → item ≡ get_or items k item → refused_by (outcome_of t s item) (is_named (take k items) item.node) ≡ None → items_refusal t s (take (k + 1) items) (drop (k + 1) items) ≡ items_refusal t s (take k items) (drop k items)
items_refusal_more t s items k item within is none =
    ap (λ front. items_refusal t s front (drop (k + 1) items)) (sym (push_is_take items k item within is))
    ∙ ap (λ o. option_or o (items_refusal t s (take k items ++ item ∷ []) (drop (k + 1) items))) (sym (item_refusal-outcome t s (take k items) item ∙ none))
    ∙ ap (λ i. items_refusal t s (take k items) (i ∷ drop (k + 1) items)) is
    ∙ ap (items_refusal t s (take k items)) (sym (drop_more items k item within))

-- the items before the index are not refused, and these are their moves, if memory has lasted
pub record AreTaken (t : RuleTable) (s : State) (items : List Item) (k : ℕ) (whole : Bool) (made : List Moved) : Type 0 where
  pub rest : items_refusal t s (take k items) (drop k items) ≡ items_refusal t s [] items
  pub moves : IsTrue whole → made ≡ moves_by t s (take k items)

pub taken_more : (t : RuleTable) (s : State) (items : List Item) (k : ℕ) (item : Item) (o : Outcome) (whole whole' : Bool) (made made' : List Moved) → k < length items → item ≡ get_or items k item → o ≡ outcome_of t s item → refused_by o (is_named (take k items) item.node) ≡ None → (IsTrue whole' → IsTrue whole) → (IsTrue whole' → made' ≡ made ++ option_to_list (move_in o)) → AreTaken t s items k whole made → AreTaken t s items (k + 1) whole' made'
taken_more t s items k item o whole whole' made made' within at is accepted lasts added so_far = record {
  rest = items_refusal_more t s items k item within at (ap (λ (q : Outcome). refused_by q (is_named (take k items) item.node)) (sym is) ∙ accepted) ∙ so_far.rest;
  moves = λ yes.
      found_next (λ (i : Item). move_in (outcome_of t s i)) made made' items k item within at (so_far.moves (lasts yes)) (added yes ∙ ap (λ (q : Outcome). made ++ option_to_list (move_in q)) is);
}

-- the node of an item that moves is present, and so has a place
pub item_placed : (t : RuleTable) (s : State) (item : Item) (places : ℕ) → places ≡ s.network.size + 1 → HasPlace places item.node (outcome_of t s item)
item_placed t s item places count = λ moves.
    ⊎_elim
    (λ (has : present s.network item.node ≡ true). let bounds = present_range s.network item.node has in omega (arith, bounds.1, count))
    (λ (none : present s.network item.node ≡ false). absurd (true≢false (sym moves ∙ ap (λ b. is_some (move_in (cond b (outcome_at t s item (rule_at t s item.node)) outcome.Absent))) none)))
    (cases_Bool (present s.network item.node))

-- no item names the node of an earlier one
pub unnamed : (items : List Item) (k : ℕ) (item : Item) → Ascend items → k < length items → item ≡ get_or items k item → is_named (take k items) item.node ≡ false
unnamed items k item ascend within is =
    list_any_none (λ i. nat_eq i.node item.node) (take k items)
    (All-from_get_or (λ i. nat_eq i.node item.node ≡ false) (take k items) item (λ j below.
    let len = length-take-le k items (omega arith) in
    let low : j < k = omega (arith, below, len) in
    let under = ascend j k item low within in
    let here : item.node ≡ (get_or items k item).node = ap (λ i. i.node) is in
    ap (λ (i : Item). nat_eq i.node item.node) (get_or-take k items j item low) ∙ ne_eqb (get_or items j item).node item.node (λ same. omega (arith, under, here, same))))
