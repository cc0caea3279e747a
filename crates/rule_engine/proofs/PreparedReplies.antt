-- Replies that are prepared.
use Rattle.rule_engine.proofs.Prelude.{◌≡◌, Bool, true, false, List, [], ◌∷◌, length, Option, None, Some, Result, Ok, Err, IfOk, OnOk, OnErr, IsTrue, refl, sym, ap, subst, ◌∙◌, option_or, NetView, Item, Step, Moved, Reply, Refused, Moves, Refusal, State, RuleTable, items_refusal, step_refusal, reply_by, least_moves, Prepares, size_refusal, moves_by, IsToldOf}
use Rattle.rule_engine.proofs.ItemVerdicts.{step_refusal-parts}

-- the moves of a choice that is not refused
chosen_prepares : {E : Type 0} (t : RuleTable) (n : NetView) (items : List Item) (moves : List Moved) → step_refusal t n.state items ≡ None → moves ≡ least_moves t n.state items → Prepares {E = E} t n (Step items) (Ok (Moves moves)) n
chosen_prepares t n items moves none is = record {
  reply = ap Moves is ∙ ap (reply_by t n.state n.spent (Step items)) (sym none);
  room = tt;
  kept = refl;
  counting = refl;
  want = tt;
}

-- a step that is refused for its size
pub sized_prepares : {E : Type 0} (t : RuleTable) (n : NetView) (items : List Item) (refusal : Refusal) → size_refusal t.central (length items) ≡ Some refusal → Prepares {E = E} t n (Step items) (Ok (Refused refusal)) n
sized_prepares t n items refusal sized = record {
  reply = ap (reply_by t n.state n.spent (Step items)) (sym (step_refusal-parts t n.state items ∙ ap (λ o. option_or o (items_refusal t n.state [] items)) sized));
  room = tt;
  kept = refl;
  counting = refl;
  want = tt;
}

-- the result for the items of a step that is not refused for its size: why it is refused, or else its moves,
-- if memory lasted for all
pub record IsTaken (t : RuleTable) (s : State) (items : List Item) (refused : Option Refusal) (whole : Bool) (made : List Moved) : Type 0 where
  pub size : size_refusal t.central (length items) ≡ None
  pub refusal : items_refusal t s [] items ≡ refused
  pub moves : refused ≡ None → IsTrue whole → made ≡ moves_by t s items

pub taken_prepares : {E : Type 0} (t : RuleTable) (n : NetView) (items : List Item) (refused : Option Refusal) (whole : Bool) (made : List Moved) (result : Result Reply E) → IsTaken t n.state items refused whole made → IfOk result (IsToldOf refused made) → OnOk result (refused ≡ None → IsTrue whole) → OnErr result (refused ≡ None) → Prepares t n (Step items) result n
taken_prepares {E = E} t n items refused whole made result taken told all want =
    by_reply refused result (step_refusal-parts t n.state items ∙ ap (λ o. option_or o (items_refusal t n.state [] items)) taken.size ∙ taken.refusal) taken.moves told all want
  where
    by_reply : (q : Option Refusal) (r : Result Reply E) → step_refusal t n.state items ≡ q → (q ≡ None → IsTrue whole → made ≡ moves_by t n.state items) → IfOk r (IsToldOf q made) → OnOk r (q ≡ None → IsTrue whole) → OnErr r (q ≡ None) → Prepares t n (Step items) r n
    by_reply (Some refusal) (Ok reply) is moves told all want = record { reply = told ∙ ap (reply_by t n.state n.spent (Step items)) (sym is); room = tt; kept = refl; counting = refl; want = tt }
    by_reply None (Ok reply) is moves told all want =
        subst (λ r. Prepares {E = E} t n (Step items) (Ok r) n) (sym told.2) (chosen_prepares t n items told.0 is (told.1 t n.state items (moves refl (all refl)) is))
    by_reply q (Err e) is moves told all want = record { reply = tt; room = tt; kept = refl; counting = refl; want = (is ∙ want, refl) }

-- a step of one item, which has one look
pub one_prepares : {E : Type 0} (t : RuleTable) (n : NetView) (item : Item) (reply : Reply) → IsToldOf (items_refusal t n.state [] (item ∷ [])) (moves_by t n.state (item ∷ [])) reply → Prepares {E = E} t n (Step (item ∷ [])) (Ok reply) n
one_prepares {E = E} t n item reply told =
    let taken : IsTaken t n.state (item ∷ []) (items_refusal t n.state [] (item ∷ [])) true (moves_by t n.state (item ∷ [])) = record { size = sized t.central; refusal = refl; moves = λ none whole. refl } in
    taken_prepares {E = E} t n (item ∷ []) (items_refusal t n.state [] (item ∷ [])) true (moves_by t n.state (item ∷ [])) (Ok reply) taken told (λ none. refl) tt
  where
    sized : (central : Bool) → size_refusal central 1 ≡ None
    sized true = refl
    sized false = refl
