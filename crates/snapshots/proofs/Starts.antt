-- The pointers and present nodes at the moment where the entries of a board begin.
use Rattle.snapshots.proofs.Prelude.{◌≡◌, ℕ, ◌+◌, ◌<◌, ◌≤◌, Bool, true, false, cond, ◌&&◌, List, [], ◌∷◌, length, map, fold, find, replicate, get_or, Option, Some, None, is_some, nat_eq, ⊎_elim, refl, ap, sym, ◌∙◌, subst, arith, slice_set, length-set, length-replicate, get_or-replicate, get_or-set_same, get_or-set_other, ext_get_or, cases_Bool, cases_lt, true≢false, le-leb, eq-eqb, eqb-true, NodeRecord, Base, node_record_at, Network, present, names, State, IsState, pointer, RuleTable, Moment, Row, BoardShape, with_target, with_present, row_from, row_at_start, here_from, here_at_start, IsStart, StartsAt}
use Rattle.machine_laws.proofs.Neighbours.{option_cases, names_none, names_some, linked_present}
use Rattle.machine_laws.proofs.Pointers.{pointer_linked}

-- ---- a list after writes at some names

module _ {X : Type 0} (f : ℕ → X) where
  abbrev write_at : List X → ℕ → List X
  write_at xs v = slice_set xs v (f v)

  abbrev writes : List X → List ℕ → List X
  writes xs vs = fold write_at xs vs

  writes_length : (vs : List ℕ) (xs : List X) → length (writes xs vs) ≡ length xs
  writes_length [] xs = refl
  writes_length (v ∷ vs) xs = writes_length vs (write_at xs v) ∙ length-set xs v (f v)

  abbrev has : ℕ → List ℕ → Bool
  has v vs = is_some (find (λ x. nat_eq x v) vs)

  -- each name that was written has its value, any other place is as it was
  writes_at : (vs : List ℕ) (xs : List X) (v : ℕ) (d : X) → v < length xs → get_or (writes xs vs) v d ≡ cond (has v vs) (f v) (get_or xs v d)
  writes_at [] xs v d inside = refl
  writes_at (x ∷ vs) xs v d inside =
      writes_at vs (write_at xs x) v d (rw (length-set xs x (f x)) inside) ∙ step (nat_eq x v) refl (find (λ x. nat_eq x v) vs)
    where
      step : (b : Bool) → nat_eq x v ≡ b → (o : Option ℕ) → cond (is_some o) (f v) (get_or (write_at xs x) v d) ≡ cond (is_some (cond b (Some x) o)) (f v) (get_or xs v d)
      step true is None =
          let same : x ≡ v = eqb-true x v is in
          subst (λ y. get_or (slice_set xs y (f y)) v d ≡ f v) (sym same) (get_or-set_same xs v (f v) d inside)
      step true is (Some y) = refl
      step false is None = get_or-set_other xs x v (f x) d (λ same. true≢false (sym (eq-eqb x v (sym same)) ∙ is))
      step false is (Some y) = refl

-- ---- the nodes of a base

targets_written : (s : State) (vs : List ℕ) (row : Row) → fold with_target row (map (node_record_at s) vs) ≡ writes (pointer s) row vs
targets_written s [] row = refl
targets_written s (v ∷ vs) row = targets_written s vs (slice_set row v (pointer s v))

nodes_marked : (s : State) (vs : List ℕ) (here : List Bool) → fold with_present here (map (node_record_at s) vs) ≡ writes (λ _. true) here vs
nodes_marked s [] here = refl
nodes_marked s (v ∷ vs) here = nodes_marked s vs (slice_set here v true)

name_found : (net : Network) (v : ℕ) → is_some (find (λ x. nat_eq x v) (names net)) ≡ present net v
name_found net v =
    ⊎_elim
    (λ none. ap is_some none ∙ sym (⊎_elim (λ (there : present net v ≡ true). absurd (true≢false (sym (eq-eqb v v refl) ∙ names_none net (λ x. nat_eq x v) none v there))) (λ (away : present net v ≡ false). away) (cases_Bool (present net v))))
    (λ some. let at = names_some net (λ x. nat_eq x v) some.0 some.1 in ap is_some some.1 ∙ sym (subst (λ y. present net y ≡ true) (eqb-true some.0 v at.1) at.0))
    (option_cases (find (λ x. nat_eq x v) (names net)))

-- a name that is not present points nowhere
null_if_absent : (s : State) (v : ℕ) → IsState s → cond (present s.network v) (pointer s v) None ≡ pointer s v
null_if_absent s v good =
    ⊎_elim
    (λ (there : present s.network v ≡ true). ap (λ b. cond b (pointer s v) None) there)
    (λ (away : present s.network v ≡ false).
    ⊎_elim
    (λ none. ap (λ b. cond b (pointer s v) None) away ∙ sym none)
    (λ some. absurd (true≢false (sym (linked_present s.network v some.0 good.is_network (pointer_linked s v some.0 good some.1)) ∙ away)))
    (option_cases (pointer s v)))
    (cases_Bool (present s.network v))

-- the entry at a name says whether it is present
here_at_name : (s : State) (v : ℕ) → IsState s → v < s.network.size + 1 → cond (present s.network v) true false ≡ get_or s.network.here v false
here_at_name s v good inside =
    ⊎_elim
    (λ (none : v < 1). let zero_is : v ≡ 0 = omega arith in ap (λ x. cond (present s.network x) true false) zero_is ∙ sym (ap (λ x. get_or s.network.here x false) zero_is ∙ good.is_network.nobody))
    (λ (low : 1 ≤ v). both_sides (present s.network v) ∙ (λ i. le-leb 1 v low i && (le-leb v s.network.size (omega (arith, inside)) i && get_or s.network.here v false)))
    (cases_lt v 1)
  where
    both_sides : (b : Bool) → cond b true false ≡ b
    both_sides true = refl
    both_sides false = refl

-- ---- the start of a board

pub row_places : (extent : BoardShape) → length (row_at_start extent) ≡ extent.places
row_places extent = go extent.base
  where
    written : (nodes : List NodeRecord) (row : Row) → length (fold with_target row nodes) ≡ length row
    written [] row = refl
    written (at ∷ nodes) row = written nodes (with_target row at) ∙ length-set row at.node at.target

    go : (o : Option Base) → length (row_from extent.places o) ≡ extent.places
    go None = length-replicate extent.places None
    go (Some base) = written base.nodes (replicate extent.places None) ∙ length-replicate extent.places None

module _ (t : RuleTable) (places size : ℕ) (base : Base) (start : Moment) (is : places ≡ size + 1) (h : IsStart t size base start) where
  nodes_are : base.nodes ≡ map (node_record_at start.state) (names start.state.network)
  nodes_are = ap (λ (b : Base). b.nodes) h.lines

  base_row : start.state.registers.pointers ≡ fold with_target (replicate places None) base.nodes
  base_row =
      let s = start.state in
      let vs = names s.network in
      let blank : Row = replicate places None in
      let len : length s.registers.pointers ≡ places = h.is_state.pointers_len ∙ ap (λ n. n + 1) h.size_is ∙ sym is in
      let long : length blank ≡ places = length-replicate places None in
      ext_get_or None s.registers.pointers (writes (pointer s) blank vs) (len ∙ sym (writes_length (pointer s) vs blank ∙ long)) (λ v inside.
      let below : v < places = omega (arith, inside, len) in
      sym (writes_at (pointer s) vs blank v None (omega (arith, below, long))
      ∙ ap (λ b. cond b (pointer s v) (get_or blank v None)) (name_found s.network v)
      ∙ ap (λ (o : Option ℕ). cond (present s.network v) (pointer s v) o) (get_or-replicate places v None None below)
      ∙ null_if_absent s v h.is_state))
      ∙ sym (targets_written s vs blank) ∙ ap (λ nodes. fold with_target blank nodes) (sym nodes_are)

  base_here : start.state.network.here ≡ fold with_present (replicate places false) base.nodes
  base_here =
      let s = start.state in
      let vs = names s.network in
      let nobody : List Bool = replicate places false in
      let yes : ℕ → Bool = λ _. true in
      let len : length s.network.here ≡ places = h.is_state.is_network.here_len ∙ ap (λ n. n + 1) h.size_is ∙ sym is in
      let long : length nobody ≡ places = length-replicate places false in
      ext_get_or false s.network.here (writes yes nobody vs) (len ∙ sym (writes_length yes vs nobody ∙ long)) (λ v inside.
      let below : v < places = omega (arith, inside, len) in
      sym (writes_at yes vs nobody v false (omega (arith, below, long))
      ∙ ap (λ b. cond b true (get_or nobody v false)) (name_found s.network v)
      ∙ ap (λ (b : Bool). cond (present s.network v) true b) (get_or-replicate places v false false below)
      ∙ here_at_name s v h.is_state (omega (arith, inside, h.is_state.is_network.here_len))))
      ∙ sym (nodes_marked s vs nobody) ∙ ap (λ nodes. fold with_present nobody nodes) (sym nodes_are)

module _ (t : RuleTable) (size : ℕ) (extent : BoardShape) (start : Moment) (is : extent.places ≡ size + 1) where
  pub start_row : StartsAt t size extent.present extent.base start → start.state.registers.pointers ≡ row_at_start extent
  start_row = go extent.base
    where
      go : (o : Option Base) → StartsAt t size extent.present o start → start.state.registers.pointers ≡ row_from extent.places o
      go None h = ap (λ (m : Moment). m.state.registers.pointers) h ∙ ap (λ n. replicate n None) (sym is)
      go (Some base) h = base_row t extent.places size base start is h

  pub start_here : StartsAt t size extent.present extent.base start → start.state.network.here ≡ here_at_start extent
  start_here = go extent.base
    where
      go : (o : Option Base) → StartsAt t size extent.present o start → start.state.network.here ≡ here_from extent.places extent.present o
      go None h = ap (λ (m : Moment). m.state.network.here) h ∙ ap (λ n. here_from n extent.present None) (sym is)
      go (Some base) h = base_here t extent.places size base start is h

pub start_size : (t : RuleTable) (size first : ℕ) (o : Option Base) (start : Moment) → StartsAt t size first o start → start.state.network.size ≡ size
start_size t size first None start h = ap (λ (m : Moment). m.state.network.size) h
start_size t size first (Some base) start h = h.size_is
