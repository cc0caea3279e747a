-- The neighbours that ask for a node become due one after another.
use Rattle.reply_checker.proofs.Prelude.{◌≡◌, ◌≢◌, ℕ, ◌+◌, ◌<◌, ◌≤◌, Bool, true, false, cond, List, ◌∷◌, length, find, drop, get_or, set, nat_eq, Some, is_some, IsTrue, refl, sym, ap, ◌∙◌, ⊎_elim, arith, cases_eq, eq-eqb, ne_eqb, false_from_ne_true, true≢false, drop_all, drop_more, get_or-set_other, get_or-set_same, length-set, is_in, linked, neighbours, present, State, IsState, linked_back, linked_present, near_found, asks, AreAsking, AddsMember}

-- v and the neighbours that ask for it are marked, except for some that are to come
pub record AreAskingBut (s : State) (v : ℕ) (was is : List Bool) (rest : List ℕ) : Type 0 where
  pub places : length is ≡ length was
  pub others : (x : ℕ) → is_in is x ≡ false → (is_in was x ≡ false) × (x ≢ v)
  pub asking : (x : ℕ) → is_in is x ≡ false → asks s x v ≡ true → is_some (find (λ w. nat_eq w x) rest) ≡ true

-- a set with v
pub is_marked : (was is : List Bool) (v : ℕ) → v < length was → is ≡ set was v true → AddsMember was is v
is_marked was is v there put = record {
  places = ap length put ∙ length-set was v true;
  others = λ w none.
      ⊎_elim
      (λ (same : w ≡ v). absurd (true≢false (sym (ap (is_in is) same ∙ ap (λ l. is_in l v) put ∙ get_or-set_same was v true false there) ∙ none)))
      (λ (apart : w ≢ v). (sym (ap (λ l. is_in l w) put ∙ get_or-set_other was v w true false apart) ∙ none, apart))
      (cases_eq w v);
}

-- another name that asks for v is a neighbour
asking_linked : (s : State) (x v : ℕ) → x ≢ v → asks s x v ≡ true → IsTrue (linked s.network v x)
asking_linked s x v apart asked =
    let differs = ne_eqb x v apart in
    let near : linked s.network x v ≡ true = grind arith in
    linked_back s.network v x ∙ near

pub asking_first : (s : State) (v : ℕ) (was is : List Bool) (items : List ℕ) → IsState s → AddsMember was is v → items ≡ neighbours s.network v → AreAskingBut s v was is items
asking_first s v was is items good marked all = record {
  places = marked.places;
  others = marked.others;
  asking = λ x none asked.
      ap (λ l. is_some (find (λ w. nat_eq w x) l)) all
      ∙ ap is_some (near_found s.network (λ w. nat_eq w x) v x good.is_network (asking_linked s x v (marked.others x none).1 asked) (eq-eqb x x refl)).1;
}

pub asking_next : (s : State) (v : ℕ) (was is is' : List Bool) (items : List ℕ) (i w : ℕ) → i < length items → w ≡ get_or items i w → length is' ≡ length is → ((x : ℕ) → is_in is' x ≡ false → (is_in is x ≡ false) × (x ≡ w → asks s w v ≡ false)) → AreAskingBut s v was is (drop i items) → AreAskingBut s v was is' (drop (i + 1) items)
asking_next s v was is is' items i w within at places further so_far = record {
  places = places ∙ so_far.places;
  others = λ x none. so_far.others x (further x none).0;
  asking = λ x none asked.
      let fact = further x none in
      let rest = drop (i + 1) items in
      let found = sym (ap (λ l. is_some (find (λ y. nat_eq y x) l)) (drop_more items i w within ∙ ap (λ y. y ∷ rest) (sym at))) ∙ so_far.asking x fact.0 asked in
      let apart : w ≢ x = λ same. true≢false (sym asked ∙ ap (λ y. asks s y v) (sym same) ∙ fact.1 (sym same)) in
      sym (ap (λ b. is_some (cond b (Some w) (find (λ y. nat_eq y x) rest))) (ne_eqb w x apart)) ∙ found;
}

pub asking_end : (s : State) (v : ℕ) (was is : List Bool) (items : List ℕ) (i : ℕ) → length items ≤ i → AreAskingBut s v was is (drop i items) → AreAsking s v was is
asking_end s v was is items i end so_far = record {
  places = so_far.places;
  others = λ x none. (
    (so_far.others x none).0,
    false_from_ne_true (asks s x v) (λ asked. true≢false (sym (so_far.asking x none asked) ∙ ap (λ (l : List ℕ). is_some (find (λ w. nat_eq w x) l)) (drop_all i items end))),
  );
}

-- no other name asks for one without a node
pub asking_none : (s : State) (v : ℕ) (was is : List Bool) → IsState s → present s.network v ≡ false → AddsMember was is v → AreAsking s v was is
asking_none s v was is good absent marked = record {
  places = marked.places;
  others = λ x none. let fact = marked.others x none in (
    fact.0,
    false_from_ne_true (asks s x v) (λ asked. true≢false (sym (linked_present s.network v x good.is_network (asking_linked s x v fact.1 asked)) ∙ absent)),
  );
}
