-- Runs that complete many rounds: single moves, each before a run from the state that the move leads to.
use Rattle.round_laws.proofs.Prelude.{◌≡◌, ◌≢◌, ℕ, ◌+◌, ◌≤◌, Bool, false, not, List, [], ◌∷◌, nat_eq, Option, IsTrue, refl, sym, ◌∙◌, inl, arith, or_left, eq-eqb, not-true, true≢false, All-cons, All-nil, Moved, Step, Accepted, Moves, node_count, State, IsState, RuleTable, enabled_names, Entry, Moment, Run, IsUndisturbed, IsIn, is_mover_in, rounds_from, rounds_in}
use Rattle.round_laws.specs.LongRuns.{HasRun}
use Rattle.dense_laws.proofs.Plays.{IsPlayed, then}
use Rattle.dense_laws.proofs.Games.{anyone, IsGame}
use Rattle.round_laws.proofs.Counting.{left}
use Rattle.round_laws.proofs.Compare.{IsWithin, left_is, left_enabled, enabled_near, compares, rounds_on}

-- A run from s that completes k rounds or more, whichever enabled nodes are pending, if all those are to do.
pub record Plays (t : RuleTable) (spent : ℕ) (s : State) (todo : ℕ → Type 0) (k : ℕ) : Type 0 where
  pub log : List Entry
  pub last : Moment
  pub run : Run t (record { state = s; spent = spent }) log last
  pub calm : IsUndisturbed log
  pub counts : (xs : List ℕ) → IsWithin xs (enabled_names t s) → ((v : ℕ) → IsIn v xs → todo v) → k ≤ rounds_from t s xs log

on_counts : (t : RuleTable) (s : State) (log : List Entry) (todo : ℕ → Type 0) (k : ℕ) (xs : List ℕ) → IsWithin xs (enabled_names t s) → ((v : ℕ) → IsIn v xs → todo v) → ((xs : List ℕ) → IsWithin xs (enabled_names t s) → ((v : ℕ) → IsIn v xs → todo v) → k ≤ rounds_from t s xs log) → k ≤ rounds_on t s log xs
on_counts t s log todo k [] near all counts =
    let few = counts [] (λ v there. absurd there) (λ v there. absurd there) in
    let it = compares t s log in
    let close = it.close [] (enabled_names t s) (enabled_near t s) in
    omega (arith, few, close)
on_counts t s log todo k (x ∷ xs) near all counts = let le = counts (x ∷ xs) near all in omega (arith, le)

on_ends : (t : RuleTable) (s : State) (log : List Entry) (k : ℕ) (xs : List ℕ) → ((v : ℕ) → IsIn v xs → ⊥) → k ≤ rounds_from t s (enabled_names t s) log → k + 1 ≤ rounds_on t s log xs
on_ends t s log k [] none le = omega (arith, le)
on_ends t s log k (x ∷ xs) none le = absurd (none x (inl refl))

-- a node left pending is not the mover
not_mover : (m : Moved) (v u : ℕ) → m.node ≡ v → IsTrue (not (is_mover_in (m ∷ []) u)) → u ≡ v → ⊥
not_mover m v u node idle same =
    true≢false (sym (or_left (nat_eq m.node u) false (eq-eqb m.node u (node ∙ sym same))) ∙ not-true (is_mover_in (m ∷ []) u) idle)

-- a run from the state that a move leads to, and the move before it
after_move : (t : RuleTable) (s : State) (v : ℕ) (target : Option ℕ) (value : Bool) (p : IsPlayed t s v target value) (spent k k' : ℕ) (todo todo' : ℕ → Type 0) → ((log : List Entry) (xs : List ℕ) → IsWithin xs (enabled_names t (then s p.m)) → ((u : ℕ) → IsIn u xs → todo u × (u ≡ v → ⊥)) → ((xs : List ℕ) → IsWithin xs (enabled_names t (then s p.m)) → ((u : ℕ) → IsIn u xs → todo' u) → k' ≤ rounds_from t (then s p.m) xs log) → k ≤ rounds_on t (then s p.m) log xs) → Plays t (spent + 1) (then s p.m) todo' k' → Plays t spent s todo k
after_move t s v target value p spent k k' todo todo' counts rest = record {
  log = (Step p.items, Moves (p.m ∷ [])) ∷ rest.log;
  last = rest.last;
  run = (then s p.m, p.answers spent, rest.run);
  calm = All-cons (λ e. e.1 ≢ Accepted) (Step p.items, Moves (p.m ∷ [])) rest.log (λ e. absurd cc) rest.calm;
  counts = λ xs near all. counts rest.log (left t (p.m ∷ []) (then s p.m) xs)
      (left_enabled t (p.m ∷ []) (then s p.m) xs (λ u there. enabled_near t s u (near u there)))
      (λ u there. let is = left_is t (p.m ∷ []) (then s p.m) xs u there in (all u is.2, not_mover p.m v u p.node is.0))
      rest.counts;
}

-- the same run with another count
again : (t : RuleTable) (spent : ℕ) (s : State) (todo todo' : ℕ → Type 0) (k k' : ℕ) (it : Plays t spent s todo k) → ((xs : List ℕ) → IsWithin xs (enabled_names t s) → ((v : ℕ) → IsIn v xs → todo' v) → k' ≤ rounds_from t s xs it.log) → Plays t spent s todo' k'
again t spent s todo todo' k k' it counts = record { log = it.log; last = it.last; run = it.run; calm = it.calm; counts = counts }

abbrev pub Rounds : RuleTable → ℕ → State → (ℕ → Type 0) → ℕ → ℕ → Type 0
Rounds t spent s todo q k = Plays t spent s todo k

pub rounds_game : (t : RuleTable) → IsGame t (Rounds t)
rounds_game t = record {
  at_once = λ spent s todo. record { log = []; last = record { state = s; spent = spent }; run = refl; calm = All-nil (λ e. e.1 ≢ Accepted); counts = λ xs near all. omega arith };
  less = λ spent s todo q q' k k' le few it. again t spent s todo todo k k' it (λ xs near all. let counts = it.counts xs near all in omega (arith, counts, few));
  among = λ spent s todo todo' q k more it. again t spent s todo' todo k k it (λ xs near all. it.counts xs near (λ v there. more v (near v there) (all v there)));
  goes_on = λ s v target value p spent q k todo todo' more it. after_move t s v target value p spent k k todo todo'
      (λ log xs near all counts. on_counts t (then s p.m) log todo' k xs near (λ u there. more u (all u there).0 (all u there).1) counts) it;
  ends = λ s v target value p spent q k todo none it. after_move t s v target value p spent (k + 1) k todo anyone
      (λ log xs near all counts. on_ends t (then s p.m) log k xs (λ u there. none u (all u there).0 (all u there).1) (counts (enabled_names t (then s p.m)) (λ u there. there) (λ u there. tt))) it;
}

-- with as many rounds as any run from there may have
pub reached : (t : RuleTable) (n k : ℕ) (s : State) → IsState s → node_count s.network ≡ n → ((log : List Entry) (last : Moment) → Run t (record { state = s; spent = 0 }) log last → IsUndisturbed log → rounds_in t s log ≤ k) → Plays t 0 s anyone k → HasRun t n k
reached t n k s good nodes few it = record {
  start = record { state = s; spent = 0 };
  is_state = good;
  nodes = nodes;
  log = it.log;
  last = it.last;
  run = it.run;
  calm = it.calm;
  rounds_are =
      let enough = it.counts (enabled_names t s) (λ v there. there) (λ v there. tt) in
      let most = few it.log it.last it.run it.calm in
      omega (arith, enough, most);
}
