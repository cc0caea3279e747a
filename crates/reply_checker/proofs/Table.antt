-- A table of the items of a choice with their rules.
use Rattle.reply_checker.proofs.Prelude.{◌≡◌, ℕ, zero, suc, ◌+◌, ◌<◌, Bool, true, false, cond, ◌&&◌, ◌||◌, List, [], ◌∷◌, ◌++◌, length, get_or, take, drop, set, find, Option, None, Some, is_some, is_none, nat_eq, IfSome, IsTrue, refl, sym, ap, ◌∙◌, subst, ⊎_elim, arith, eqb-true, list_any, list_all, option_or, both_ways, or_parts, or_from, or_left, or_right, or_cases, cases_eq, ne_eqb, and_parts, get_or-set_same, get_or-set_other, take_more, drop_more, find-append, Act, Item, Moved, present, State, RuleTable, Refusal, step_refusal, items_refusal, item_of, choice_from_none, taken_at, none_is, is_move_of, is_asked, is_answered, RuledItem, ruled_at, item_at, IsRuled, HasChosenItems, is_item_node, is_mover, HasOnlyItemsOf, refused_item, is_move_by}
use Rattle.std.proofs.Common.{option_map, eq-eqb}

-- ---- searches

pub found_any : {X : Type 0} (p : X → Bool) (xs : List X) → is_some (find p xs) ≡ list_any p xs
found_any p [] = refl
found_any p (x ∷ xs) = elim (p x) as (λ b. is_some (cond b (Some x) (find p xs)) ≡ (b || list_any p xs)) [ true ↦ refl | false ↦ found_any p xs ]

not_found : {X : Type 0} (p : X → Bool) (xs : List X) → list_any p xs ≡ false → find p xs ≡ None
not_found p xs e = none_is (find p xs) (found_any p xs ∙ e)

beginning_fails : {X : Type 0} (p : X → Bool) (xs : List X) (k : ℕ) → list_any p xs ≡ false → list_any p (take k xs) ≡ false
beginning_fails p xs zero e = refl
beginning_fails p [] (suc k) e = refl
beginning_fails p (x ∷ xs) (suc k) e =
    let parts = or_parts (p x) (list_any p xs) e in or_from _ _ parts.0 (beginning_fails p xs k parts.1)

-- ---- items that are put into the table

same_some : (o : Option RuledItem) → is_some o ≡ is_some (option_map (λ r. r.item) o)
same_some None = refl
same_some (Some r) = refl

no_item : (o : Option RuledItem) → option_map (λ r. r.item) o ≡ None → o ≡ None
no_item None e = refl
no_item (Some r) e = cc

-- why the next item is refused
pub item_refused : (t : RuleTable) (s : State) (items : List Item) (k : ℕ) (item : Item) (table : List (Option RuledItem)) → HasChosenItems t s table (take k items) → refused_item t s item (is_some (ruled_at table item.node)) ≡ refused_item t s item (is_item_node (take k items) item.node)
item_refused t s items k item table held =
    ap (refused_item t s item) (same_some (ruled_at table item.node) ∙ ap is_some (held.first item.node) ∙ found_any (λ i. nat_eq i.node item.node) (take k items))

-- one more item that is not refused
pub refusal_more : (t : RuleTable) (s : State) (items : List Item) (k : ℕ) (item : Item) → k < length items → item ≡ get_or items k item → refused_item t s item (is_item_node (take k items) item.node) ≡ None → items_refusal t s (take (k + 1) items) (drop (k + 1) items) ≡ items_refusal t s (take k items) (drop k items)
refusal_more t s items k item within is none =
    ap (λ front. items_refusal t s front (drop (k + 1) items)) (take_more items k item within ∙ ap (λ i. take k items ++ i ∷ []) (sym is))
    ∙ ap (λ o. option_or o (items_refusal t s (take k items ++ item ∷ []) (drop (k + 1) items))) (sym none)
    ∙ ap (λ i. items_refusal t s (take k items) (i ∷ drop (k + 1) items)) is
    ∙ ap (items_refusal t s (take k items)) (sym (drop_more items k item within))

-- the next item that is refused
pub refusal_here : (t : RuleTable) (s : State) (items : List Item) (k : ℕ) (item : Item) (refusal : Option Refusal) → k < length items → item ≡ get_or items k item → refused_item t s item (is_item_node (take k items) item.node) ≡ refusal → is_some refusal ≡ true → items_refusal t s (take k items) (drop k items) ≡ refusal
refusal_here t s items k item None within is same some = cc
refusal_here t s items k item (Some r) within is same some =
    ap (items_refusal t s (take k items)) (drop_more items k item within)
    ∙ ap (λ i. items_refusal t s (take k items) (i ∷ drop (k + 1) items)) (sym is)
    ∙ ap (λ o. option_or o (items_refusal t s (take k items ++ item ∷ []) (drop (k + 1) items))) same

-- the node of an item that is not refused is present, and no earlier item names it
pub item_taken : (t : RuleTable) (s : State) (item : Item) (twice : Bool) → refused_item t s item twice ≡ None → IsTrue (present s.network item.node) × (twice ≡ false)
item_taken t s item twice none = (grind arith, grind arith)

option_or-none : {X : Type 0} (o : Option X) → option_or o None ≡ o
option_or-none None = refl
option_or-none (Some x) = refl

first_more : (t : RuleTable) (s : State) (table : List (Option RuledItem)) (items : List Item) (k : ℕ) (item : Item) (act : Act) → HasChosenItems t s table (take k items) → k < length items → item ≡ get_or items k item → item.node < length table → is_item_node (take k items) item.node ≡ false → (v : ℕ) → item_at (set table item.node (Some (record { item = item; act = act }))) v ≡ item_of (take (k + 1) items) v
first_more t s table items k item act held within is place fresh v =
    let front = take k items in
    let ruled : Option RuledItem = Some (record { item = item; act = act }) in
    let more : take (k + 1) items ≡ front ++ item ∷ [] = take_more items k item within ∙ ap (λ i. front ++ i ∷ []) (sym is) in
    let apart : item_of (take (k + 1) items) v ≡ option_or (item_of front v) (cond (nat_eq item.node v) (Some item) None) = ap (λ l. item_of l v) more ∙ find-append (λ i. nat_eq i.node v) front (item ∷ []) in
    let none = not_found (λ i. nat_eq i.node item.node) front fresh in
    let here = get_or-set_same table item.node ruled None place in
    let other = get_or-set_other table item.node v ruled None in
    let was = held.first v in
    let same = eq-eqb item.node v in
    let differs = ne_eqb item.node v in
    let kept = option_or-none (item_of front v) in
    grind arith

-- the table holds one more item, at a place that it has, with the rule of its node
pub held_more : (t : RuleTable) (s : State) (table : List (Option RuledItem)) (items : List Item) (k : ℕ) (item : Item) (act : Act) → HasChosenItems t s table (take k items) → IsRuled t s item act → k < length items → item ≡ get_or items k item → item.node < length table → is_item_node (take k items) item.node ≡ false → HasChosenItems t s (set table item.node (Some (record { item = item; act = act }))) (take (k + 1) items)
held_more t s table items k item act held mine within is place fresh =
    let ruled : Option RuledItem = Some (record { item = item; act = act }) in
    record {
      first = first_more t s table items k item act held within is place fresh;
      ruled = λ v.
          ⊎_elim
          (λ (same : v ≡ item.node). subst (λ o. IfSome o (λ r. IsRuled t s r.item r.act)) (sym (ap (ruled_at (set table item.node ruled)) same ∙ get_or-set_same table item.node ruled None place)) mine)
          (λ (other : v ≡ item.node → ⊥). subst (λ o. IfSome o (λ r. IsRuled t s r.item r.act)) (sym (get_or-set_other table item.node v ruled None other)) (held.ruled v))
          (cases_eq v item.node);
    }

-- a table of the first items has no entry if no item names the node
pub within_from_held : (t : RuleTable) (s : State) (table : List (Option RuledItem)) (items : List Item) (k : ℕ) → HasChosenItems t s table (take k items) → HasOnlyItemsOf table items
within_from_held t s table items k held v none =
    no_item (ruled_at table v) (held.first v ∙ not_found (λ i. nat_eq i.node v) (take k items) (beginning_fails (λ i. nat_eq i.node v) items k none))

pub within_from_all : (t : RuleTable) (s : State) (table : List (Option RuledItem)) (items : List Item) → HasChosenItems t s table items → HasOnlyItemsOf table items
within_from_all t s table items held v none =
    no_item (ruled_at table v) (held.first v ∙ not_found (λ i. nat_eq i.node v) items none)

-- ---- moves of a choice that is not refused

-- each item is the one at its node
own_item : (t : RuleTable) (s : State) (items : List Item) → step_refusal t s items ≡ None → (k : ℕ) (d : Item) → k < length items → item_of items (get_or items k d).node ≡ Some (get_or items k d)
own_item t s items none k d below = (taken_at t s [] items (choice_from_none t s items none).taken k d below).1

-- what holds of each item holds of those in the rest
pub record Own (items : List Item) (all : List Item) : Type 0 where
  pub own : (k : ℕ) (d : Item) → k < length items → item_of all (get_or items k d).node ≡ Some (get_or items k d)

own_rest : (item : Item) (items all : List Item) → Own (item ∷ items) all → Own items all
own_rest item items all o = record { own = λ k d below. o.own (suc k) d (omega (arith, below)) }

-- a move that an item asks for is of its node
of_node : (t : RuleTable) (s : State) (item : Item) (m : Moved) → is_move_of t s item m ≡ true → item.node ≡ m.node
of_node t s item m e = sym (eqb-true m.node item.node (and_parts _ _ e).0)

-- no item of the rest is the one at the move's node, or it is what is asked
asked_in : (t : RuleTable) (s : State) (m : Moved) (items all : List Item) → Own items all → list_any (λ i. is_move_of t s i m) items ≡ true → is_move_by t s (item_of all m.node) m ≡ true
asked_in t s m [] all own e = cc
asked_in t s m (item ∷ items) all own e =
    ⊎_elim
    (λ yes. ap (λ o. is_move_by t s o m) (ap (item_of all) (sym (of_node t s item m yes)) ∙ own.own 0 item (omega arith)) ∙ yes)
    (λ later. asked_in t s m items all (own_rest item items all own) later)
    (or_cases (is_move_of t s item m) (list_any (λ i. is_move_of t s i m) items) e)

any_found : (t : RuleTable) (s : State) (m : Moved) (items : List Item) → is_move_by t s (item_of items m.node) m ≡ true → list_any (λ i. is_move_of t s i m) items ≡ true
any_found t s m [] e = cc
any_found t s m (item ∷ items) e =
    (elim (nat_eq item.node m.node) as (λ b. is_move_by t s (cond b (Some item) (item_of items m.node)) m ≡ true → (is_move_of t s item m || list_any (λ i. is_move_of t s i m) items) ≡ true) [
      | true ↦ λ yes. or_left _ _ yes
      | false ↦ λ later. or_right _ _ (any_found t s m items later)
    ]) e

pub own_items : (t : RuleTable) (s : State) (items : List Item) → step_refusal t s items ≡ None → Own items items
own_items t s items none = record { own = own_item t s items none }

-- the moves are asked for exactly if the item at each one's node asks for it
pub asked_by : (t : RuleTable) (s : State) (items : List Item) (moves : List Moved) (table : List (Option RuledItem)) → step_refusal t s items ≡ None → HasChosenItems t s table items → list_all (λ m. is_move_by t s (item_at table m.node) m) moves ≡ list_all (λ m. is_asked t s items m) moves
asked_by t s items moves table none held =
    let each : (m : Moved) → is_move_by t s (item_at table m.node) m ≡ is_asked t s items m = λ m.
    ap (λ o. is_move_by t s o m) (held.first m.node) ∙ both_ways _ _ (any_found t s m items) (asked_in t s m items items (own_items t s items none)) in
    λ i. list_all (λ m. each m i) moves

-- if the item at each move's node asks for it, a mover is answered
mover_answered : (t : RuleTable) (s : State) (item : Item) (all : List Item) (moves : List Moved) → item_of all item.node ≡ Some item → list_all (λ m. is_move_by t s (item_of all m.node) m) moves ≡ true → is_mover moves item.node ≡ true → is_answered t s moves item ≡ true
mover_answered t s item all [] own asked e = cc
mover_answered t s item all (m ∷ moves) own asked e =
    let parts = and_parts (is_move_by t s (item_of all m.node) m) (list_all (λ m. is_move_by t s (item_of all m.node) m) moves) asked in
    ⊎_elim
    (λ here. or_left _ _ (sym (ap (λ o. is_move_by t s o m) (ap (item_of all) (eqb-true m.node item.node here) ∙ own)) ∙ parts.0))
    (λ later. or_right _ _ (mover_answered t s item all moves own parts.1 later))
    (or_cases (nat_eq m.node item.node) (is_mover moves item.node) e)

answered_mover : (t : RuleTable) (s : State) (item : Item) (moves : List Moved) → is_answered t s moves item ≡ true → is_mover moves item.node ≡ true
answered_mover t s item [] e = cc
answered_mover t s item (m ∷ moves) e =
    ⊎_elim
    (λ yes. or_left (nat_eq m.node item.node) _ (and_parts (nat_eq m.node item.node) _ yes).0)
    (λ later. or_right (nat_eq m.node item.node) _ (answered_mover t s item moves later))
    (or_cases (is_move_of t s item m) (is_answered t s moves item) e)

none_left : (b : Bool) (o : Option RuledItem) (item : Item) → option_map (λ r. r.item) o ≡ Some item → is_none (cond b None o) ≡ b
none_left true o item e = refl
none_left false None item e = cc
none_left false (Some r) item e = refl

left_in : (t : RuleTable) (s : State) (items all : List Item) (moves : List Moved) (table left : List (Option RuledItem)) → Own items all → HasChosenItems t s table all → list_all (λ m. is_move_by t s (item_of all m.node) m) moves ≡ true → ((v : ℕ) → ruled_at left v ≡ cond (is_mover moves v) None (ruled_at table v)) → list_all (λ i. is_none (ruled_at left i.node)) items ≡ list_all (λ i. is_answered t s moves i) items
left_in t s [] all moves table left own held asked out = refl
left_in t s (item ∷ items) all moves table left own held asked out =
    let mine = own.own 0 item (omega arith) in
    let here : is_none (ruled_at left item.node) ≡ is_answered t s moves item =
    ap is_none (out item.node) ∙ none_left (is_mover moves item.node) (ruled_at table item.node) item (held.first item.node ∙ mine)
    ∙ both_ways _ _ (mover_answered t s item all moves mine asked) (answered_mover t s item moves) in
    ap (λ b. b && list_all (λ i. is_none (ruled_at left i.node)) items) here
    ∙ ap (λ b. is_answered t s moves item && b) (left_in t s items all moves table left (own_rest item items all own) held asked out)

-- after the movers' items are removed, each item has a move exactly if none is left
pub left_answered : (t : RuleTable) (s : State) (items : List Item) (moves : List Moved) (table left : List (Option RuledItem)) → step_refusal t s items ≡ None → HasChosenItems t s table items → list_all (λ m. is_move_by t s (item_at table m.node) m) moves ≡ true → ((v : ℕ) → ruled_at left v ≡ cond (is_mover moves v) None (ruled_at table v)) → list_all (λ i. is_none (ruled_at left i.node)) items ≡ list_all (λ i. is_answered t s moves i) items
left_answered t s items moves table left none held asked out =
    left_in t s items items moves table left (own_items t s items none) held
    (sym (λ i. list_all (λ m. is_move_by t s (held.first m.node i) m) moves) ∙ asked) out

-- the rest is at nodes of items
pub within_left : (t : RuleTable) (s : State) (items : List Item) (moves : List Moved) (table left : List (Option RuledItem)) → HasChosenItems t s table items → ((v : ℕ) → ruled_at left v ≡ cond (is_mover moves v) None (ruled_at table v)) → HasOnlyItemsOf left items
within_left t s items moves table left held out v none =
    let before = within_from_all t s table items held v none in
    let after = out v in
    grind arith
