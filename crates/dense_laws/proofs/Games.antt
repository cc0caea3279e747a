-- What may be said of a run, move by move from its end: how many moves it has, and how many rounds. A round is
-- played as a row of moves, each of the next node.
use Rattle.dense_laws.proofs.Prelude.{◌≡◌, ◌≢◌, ℕ, zero, suc, ◌+◌, ◌*◌, ◌<◌, ◌≤◌, Bool, true, false, cond, List, [], ◌∷◌, Option, is_some, IsTrue, refl, sym, ap, ◌∙◌, subst, inl, inr, ◌⊎◌, cases_eq, filter, arith, find_passes, some_is, acts, All-cons, All-nil, sum_by-cons, Act, Step, Accepted, Moves, present, names, State, rule_at, enabled_names, hsu_huang, Entry, Moment, Run, names_present, IsIn, moves_of, moves_in, IsUndisturbed}
use Rattle.rule_machine.specs.RuleTable.{RuleTable}
use Rattle.dense_laws.proofs.Plays.{IsPlayed, then}

-- the elements that a test keeps
pub kept_in : (p : ℕ → Bool) (v : ℕ) (xs : List ℕ) → IsIn v (filter p xs) → IsTrue (p v) × IsIn v xs
kept_in p v [] at = absurd at
kept_in p v (x ∷ xs) at = go (p x) refl (λ there. kept_in p v xs there) at
  where
    go : (b : Bool) → p x ≡ b → (IsIn v (filter p xs) → IsTrue (p v) × IsIn v xs) → IsIn v (cond b (x ∷ filter p xs) (filter p xs)) → IsTrue (p v) × IsIn v (x ∷ xs)
    go true e more (inl same) = (sym (ap p same) ∙ e, inl same)
    go true e more (inr there) = ((more there).0, inr (more there).1)
    go false e more there = ((more there).0, inr (more there).1)

-- an enabled node is present, and has a guard that holds
pub enabled_is : (t : RuleTable) (s : State) (v : ℕ) → IsIn v (enabled_names t s) → IsTrue (present s.network v) × ((act : Act) × IsTrue (t.guard s v act))
enabled_is t s v there =
    let kept = kept_in (λ v. is_some (rule_at t s v)) v (names s.network) there in
    let rule = some_is (rule_at t s v) kept.0 in
    (names_present s.network v kept.1, (rule.0, find_passes (t.guard s v) acts rule.0 rule.1))

-- all nodes
abbrev pub anyone : ℕ → Type 0
anyone v = Unit {0}

-- those after j, up to b, and w
abbrev pub To : ℕ → ℕ → ℕ → ℕ → Type 0
To j b w v = ((j < v) × (v ≤ b)) ⊎ (v ≡ w)

pub to_all : (j b w v : ℕ) → j < v → v ≤ w → w ≡ b + 1 → To j b w v
to_all j b w v low high e = grind (arith, cases_eq v w)

-- Game spent s todo q k speaks of a run from s, where `spent` moves were made before: q is at most twice its moves
-- plus one, and it completes k rounds if, in s, the pending nodes are among `todo`.
pub record IsGame (t : RuleTable) (Game : ℕ → State → (ℕ → Type 0) → ℕ → ℕ → Type 0) : Type 1 where
  pub at_once : (spent : ℕ) (s : State) (todo : ℕ → Type 0) → Game spent s todo 1 0
  pub less : (spent : ℕ) (s : State) (todo : ℕ → Type 0) (q q' k k' : ℕ) → q' ≤ q → k' ≤ k → Game spent s todo q k → Game spent s todo q' k'
  pub among : (spent : ℕ) (s : State) (todo todo' : ℕ → Type 0) (q k : ℕ) → ((v : ℕ) → IsIn v (enabled_names t s) → todo v → todo' v) → Game spent s todo' q k → Game spent s todo q k
  -- a move in a round, and the last one of a round
  pub goes_on : (s : State) (v : ℕ) (target : Option ℕ) (value : Bool) (p : IsPlayed t s v target value) (spent q k : ℕ) (todo todo' : ℕ → Type 0) → ((u : ℕ) → todo u → (u ≡ v → ⊥) → todo' u) → Game (spent + 1) (then s p.m) todo' q k → Game spent s todo (q + 2) k
  pub ends : (s : State) (v : ℕ) (target : Option ℕ) (value : Bool) (p : IsPlayed t s v target value) (spent q k : ℕ) (todo : ℕ → Type 0) → ((u : ℕ) → todo u → (u ≡ v → ⊥) → ⊥) → Game (spent + 1) (then s p.m) anyone q k → Game spent s todo (q + 2) (k + 1)

-- v may move alone, to a state like this
pub record IsTurn (t : RuleTable) (s : State) (v : ℕ) (Then : State → Type 0) : Type 0 where
  pub target : Option ℕ
  pub value : Bool
  pub played : IsPlayed t s v target value
  pub next : Then (then s played.m)

module _ (t : RuleTable) (Game : ℕ → State → (ℕ → Type 0) → ℕ → ℕ → Type 0) (game : IsGame t Game) where
  pub turn_on : (s : State) (v : ℕ) (Then : State → Type 0) (q k : ℕ) (todo todo' : ℕ → Type 0) → IsTurn t s v Then → ((u : ℕ) → todo u → (u ≡ v → ⊥) → todo' u) → ((spent : ℕ) (u : State) → Then u → Game spent u todo' q k) → (spent : ℕ) → Game spent s todo (q + 2) k
  turn_on s v Then q k todo todo' turn more rest spent =
      game.goes_on s v turn.target turn.value turn.played spent q k todo todo' more (rest (spent + 1) (then s turn.played.m) turn.next)

  pub turn_ends : (s : State) (v : ℕ) (Then : State → Type 0) (q k : ℕ) (todo : ℕ → Type 0) → IsTurn t s v Then → ((u : ℕ) → todo u → (u ≡ v → ⊥) → ⊥) → ((spent : ℕ) (u : State) → Then u → Game spent u anyone q k) → (spent : ℕ) → Game spent s todo (q + 2) (k + 1)
  turn_ends s v Then q k todo turn none rest spent =
      game.ends s v turn.target turn.value turn.played spent q k todo none (rest (spent + 1) (then s turn.played.m) turn.next)

  -- the nodes from j + 1 to b move one after another, then w does, and the round ends
  pub row : (b w : ℕ) (In : ℕ → State → Type 0) (Then : State → Type 0) → ((j : ℕ) (s : State) → j < b → In j s → IsTurn t s (j + 1) (In (j + 1))) → ((s : State) → In b s → IsTurn t s w Then) → (q k : ℕ) → ((spent : ℕ) (s : State) → Then s → Game spent s anyone q k) → (r j : ℕ) → j + r ≡ b → (spent : ℕ) (s : State) → In j s → Game spent s (To j b w) (q + 2 * r + 2) (k + 1)
  row b w In Then one last q k rest zero j e spent s it =
      game.less spent s (To j b w) (q + 2) (q + 2 * zero + 2) (k + 1) (k + 1) (omega arith) (omega arith)
      (turn_ends s w Then q k (To j b w) (last s (subst (λ x. In x s) (let is : j ≡ b = omega (arith, e) in is) it)) (λ u to apart. to_none j b w u to apart e) rest spent)
    where
      to_none : (j b w u : ℕ) → To j b w u → (u ≡ w → ⊥) → j + 0 ≡ b → ⊥
      to_none j b w u to apart e = grind arith
  row b w In Then one last q k rest (suc r) j e spent s it =
      game.less spent s (To j b w) (q + 2 * r + 2 + 2) (q + 2 * suc r + 2) (k + 1) (k + 1) (omega arith) (omega arith)
      (turn_on s (j + 1) (In (j + 1)) (q + 2 * r + 2) (k + 1) (To j b w) (To (j + 1) b w) (one j s (omega (arith, e)) it) (λ u to apart. to_next j b w u to apart)
      (row b w In Then one last q k rest r (j + 1) (omega (arith, e))) spent)
    where
      to_next : (j b w u : ℕ) → To j b w u → (u ≡ j + 1 → ⊥) → To (j + 1) b w u
      to_next j b w u to apart = grind arith

  -- a round in which these nodes move, and no others are enabled
  pub round : (j r b w : ℕ) (In : ℕ → State → Type 0) (Then : State → Type 0) → j + r ≡ b → ((j : ℕ) (s : State) → j < b → In j s → IsTurn t s (j + 1) (In (j + 1))) → ((s : State) → In b s → IsTurn t s w Then) → ((s : State) (v : ℕ) → In j s → IsIn v (enabled_names t s) → To j b w v) → (q k : ℕ) → ((spent : ℕ) (s : State) → Then s → Game spent s anyone q k) → (spent : ℕ) (s : State) → In j s → Game spent s anyone (q + 2 * r + 2) (k + 1)
  round j r b w In Then e one last within q k rest spent s it =
      game.among spent s anyone (To j b w) (q + 2 * r + 2) (k + 1) (λ v there all. within s v it there) (row b w In Then one last q k rest r j e spent s it)

-- ---- moves alone

-- a run without a disturbance from this state, with these moves spent, that is long: q is at most twice its
-- moves plus one
pub record IsLong (spent : ℕ) (s : State) (q : ℕ) : Type 0 where
  pub log : List Entry
  pub last : Moment
  pub run : Run hsu_huang (record { state = s; spent = spent }) log last
  pub calm : IsUndisturbed log
  pub enough : q ≤ 2 * moves_in log + 1

long_less : (spent : ℕ) (s : State) (q q' : ℕ) → q' ≤ q → IsLong spent s q → IsLong spent s q'
long_less spent s q q' le it = record { log = it.log; last = it.last; run = it.run; calm = it.calm; enough = let enough = it.enough in omega (arith, enough, le) }

long_by : (s : State) (v : ℕ) (target : Option ℕ) (value : Bool) (p : IsPlayed hsu_huang s v target value) (spent q : ℕ) → IsLong (spent + 1) (then s p.m) q → IsLong spent s (q + 2)
long_by s v target value p spent q rest = record {
  log = entry ∷ rest.log;
  last = rest.last;
  run = (then s p.m, p.answers spent, rest.run);
  calm = All-cons (λ e. e.1 ≢ Accepted) entry rest.log (λ e. absurd cc) rest.calm;
  enough = let whole = sum_by-cons (λ (e : Entry). moves_of e.1) entry rest.log in let more = rest.enough in omega (arith, whole, more);
}
  where
    entry : Entry
    entry = (Step p.items, Moves (p.m ∷ []))

abbrev pub Long : ℕ → State → (ℕ → Type 0) → ℕ → ℕ → Type 0
Long spent s todo q k = IsLong spent s q

pub long_game : IsGame hsu_huang Long
long_game = record {
  at_once = λ spent s todo. record { log = []; last = record { state = s; spent = spent }; run = refl; calm = All-nil (λ e. e.1 ≢ Accepted); enough = omega arith };
  less = λ spent s todo q q' k k' le few it. long_less spent s q q' le it;
  among = λ spent s todo todo' q k more it. it;
  goes_on = λ s v target value p spent q k todo todo' more it. long_by s v target value p spent q it;
  ends = λ s v target value p spent q k todo none it. long_by s v target value p spent q it;
}
