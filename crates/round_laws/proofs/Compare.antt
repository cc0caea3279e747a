-- Which nodes are pending changes the number of rounds by little: with fewer of them a log completes no fewer
-- rounds, and whichever they are, at most one more or less.
use Rattle.round_laws.proofs.Prelude.{ℕ, ◌+◌, ◌≤◌, not, List, [], ◌∷◌, is_some, IsTrue, refl, inl, arith, and_parts, Moved, Event, Reply, Accepted, Moves, names, State, RuleTable, rule_at, enabled_names, Entry, followed, IsIn, is_mover_in, stays_pending, round_turn, rounds_from}
pub use Rattle.dense_laws.proofs.Games.{kept_in}
use Rattle.round_laws.proofs.Counting.{left, in_kept}

abbrev pub IsWithin : List ℕ → List ℕ → Type 0
IsWithin xs ys = (v : ℕ) → IsIn v xs → IsIn v ys

-- a node left pending was pending, and is enabled
pub left_is : (t : RuleTable) (moves : List Moved) (s : State) (pending : List ℕ) (v : ℕ) → IsIn v (left t moves s pending) → IsTrue (not (is_mover_in moves v)) × IsTrue (is_some (rule_at t s v)) × IsIn v pending
left_is t moves s pending v there =
    let kept = kept_in (stays_pending t moves s) v pending there in
    let both = and_parts (not (is_mover_in moves v)) (is_some (rule_at t s v)) kept.0 in
    (both.0, both.1, kept.1)

left_within : (t : RuleTable) (moves : List Moved) (s : State) (xs ys : List ℕ) → IsWithin xs ys → IsWithin (left t moves s xs) (left t moves s ys)
left_within t moves s xs ys within v there =
    let kept = kept_in (stays_pending t moves s) v xs there in in_kept (stays_pending t moves s) v ys kept.0 (within v kept.1)

pub left_enabled : (t : RuleTable) (moves : List Moved) (s : State) (xs : List ℕ) → IsWithin xs (names s.network) → IsWithin (left t moves s xs) (enabled_names t s)
left_enabled t moves s xs near v there =
    let is = left_is t moves s xs v there in in_kept (λ v. is_some (rule_at t s v)) v (names s.network) is.1 (near v is.2)

pub enabled_near : (t : RuleTable) (s : State) → IsWithin (enabled_names t s) (names s.network)
enabled_near t s v there = (kept_in (λ v. is_some (rule_at t s v)) v (names s.network) there).1

-- how pending nodes matter to the rounds of a log from s
pub record Compares (t : RuleTable) (s : State) (log : List Entry) : Type 0 where
  pub fewer : (xs ys : List ℕ) → IsWithin xs ys → IsWithin ys (names s.network) → rounds_from t s ys log ≤ rounds_from t s xs log
  pub close : (xs ys : List ℕ) → IsWithin ys (names s.network) → rounds_from t s xs log ≤ rounds_from t s ys log + 1

-- the rounds from a step on that led to s and left these nodes pending
abbrev pub rounds_on : RuleTable → State → List Entry → List ℕ → ℕ
rounds_on t s log xs = (round_turn t s xs).0 + rounds_from t s (round_turn t s xs).1 log

on_fewer : (t : RuleTable) (s : State) (log : List Entry) → Compares t s log → (xs ys : List ℕ) → IsWithin xs ys → IsWithin ys (enabled_names t s) → rounds_on t s log ys ≤ rounds_on t s log xs
on_fewer t s log it [] [] within near = omega arith
on_fewer t s log it [] (y ∷ ys) within near = let le = it.close (y ∷ ys) (enabled_names t s) (enabled_near t s) in omega (arith, le)
on_fewer t s log it (x ∷ xs) [] within near = absurd (within x (inl refl))
on_fewer t s log it (x ∷ xs) (y ∷ ys) within near =
    let le = it.fewer (x ∷ xs) (y ∷ ys) within (λ v there. enabled_near t s v (near v there)) in omega (arith, le)

on_close : (t : RuleTable) (s : State) (log : List Entry) → Compares t s log → (xs ys : List ℕ) → IsWithin ys (enabled_names t s) → rounds_on t s log xs ≤ rounds_on t s log ys + 1
on_close t s log it [] [] near = omega arith
on_close t s log it [] (y ∷ ys) near = let le = it.fewer (y ∷ ys) (enabled_names t s) near (enabled_near t s) in omega (arith, le)
on_close t s log it (x ∷ xs) [] near = let le = it.close (x ∷ xs) (enabled_names t s) (enabled_near t s) in omega (arith, le)
on_close t s log it (x ∷ xs) (y ∷ ys) near = let le = it.close (x ∷ xs) (y ∷ ys) (λ v there. enabled_near t s v (near v there)) in omega (arith, le)

compare_entry : (t : RuleTable) (s : State) (event : Event) (reply : Reply) (log : List Entry) → Compares t (followed s event reply) log → Compares t s ((event, reply) ∷ log)
compare_entry t s event (Moves moves) log after = record {
  fewer = λ xs ys within near. on_fewer t (followed s event (Moves moves)) log after (left t moves (followed s event (Moves moves)) xs) (left t moves (followed s event (Moves moves)) ys) (left_within t moves (followed s event (Moves moves)) xs ys within) (left_enabled t moves (followed s event (Moves moves)) ys near);
  close = λ xs ys near. on_close t (followed s event (Moves moves)) log after (left t moves (followed s event (Moves moves)) xs) (left t moves (followed s event (Moves moves)) ys) (left_enabled t moves (followed s event (Moves moves)) ys near);
}
compare_entry t s event Accepted log after = record { fewer = λ xs ys within near. omega arith; close = λ xs ys near. omega arith }
compare_entry t s event reply log after = record {
  fewer = λ xs ys within near. let le = after.fewer xs ys within near in omega (arith, le);
  close = λ xs ys near. let le = after.close xs ys near in omega (arith, le);
}

pub compares : (t : RuleTable) (s : State) (log : List Entry) → Compares t s log
compares t s [] = record { fewer = λ xs ys within near. omega arith; close = λ xs ys near. omega arith }
compares t s (entry ∷ log) = compare_entry t s entry.0 entry.1 log (compares t (followed s entry.0 entry.1) log)
