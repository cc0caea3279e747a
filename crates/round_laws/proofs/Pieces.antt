-- A log completes as many rounds as it can be cut into pieces that each serve all nodes enabled at its start.
use Rattle.round_laws.proofs.Prelude.{◌≡◌, ◌≢◌, ℕ, zero, suc, ◌+◌, ◌≤◌, Bool, true, false, not, ◌||◌, List, [], ◌∷◌, ◌++◌, length, Option, is_some, is_none, IsTrue, refl, sym, ap, ◌∙◌, subst, inl, inr, ◌⊎◌, ⊎_elim, arith, and_from, or_right, true≢false, not-true, not_from_false, All-head, All-tail, All-cons, All-nil, sum_by-cons, Act, Moved, Event, Reply, Accepted, Moves, names, State, RuleTable, rule_at, enabled_names, Entry, followed, steps_of, steps_in, IsUndisturbed, IsIn, in_names, names_present, is_mover_in, stays_pending, rounds_from, rounds_in}
use Rattle.round_laws.proofs.Counting.{left, in_kept}
use Rattle.round_laws.proofs.Compare.{IsWithin, kept_in, left_is, left_enabled, enabled_near, compares, rounds_on}
use Rattle.round_laws.specs.Pieces.{is_served, state_from, AreWhole, joined, IsCut}

enabled_rule : (t : RuleTable) (s : State) (v : ℕ) → IsIn v (enabled_names t s) → IsTrue (is_some (rule_at t s v))
enabled_rule t s v there = (kept_in (λ v. is_some (rule_at t s v)) v (names s.network) there).0

some_not_none : {X : Type 0} (o : Option X) → IsTrue (is_some o) → is_none o ≡ false
some_not_none o some = grind arith

-- ---- each whole piece has a round

-- If xs are pending in s, the log has at least `low` rounds. It has one more if the piece that it begins with
-- serves xs, and moves a node or xs are some.
abbrev IsWorth : RuleTable → State → List Entry → List Entry → ℕ → List ℕ → Type 0
IsWorth t s piece log low xs =
    (low ≤ rounds_from t s xs log) × ((1 ≤ steps_in piece) ⊎ ((v : ℕ) × IsIn v xs) → ((v : ℕ) → IsIn v xs → IsTrue (is_served t s piece v)) → 1 + low ≤ rounds_from t s xs log)

turn_worth : (t : RuleTable) (s : State) (piece log : List Entry) (low : ℕ) (xs : List ℕ) → IsWithin xs (enabled_names t s) → ((ys : List ℕ) → IsWithin ys (enabled_names t s) → IsWorth t s piece log low ys) → (low ≤ rounds_on t s log xs) × (((v : ℕ) → IsIn v xs → IsTrue (is_served t s piece v)) → 1 + low ≤ rounds_on t s log xs)
turn_worth t s piece log low [] near later = let le = (later (enabled_names t s) (λ v there. there)).0 in (omega (arith, le), λ serves. omega (arith, le))
turn_worth t s piece log low (x ∷ xs) near later =
    let it = later (x ∷ xs) near in
    (omega (arith, it.0), λ serves. let le = it.1 (inr (x, inl refl)) serves in omega (arith, le))

-- a node left pending by an entry was not served by it
served_later : (moved none later : Bool) → moved || (none || later) ≡ true → moved ≡ false → none ≡ false → later ≡ true
served_later moved none later h a b = grind arith

entry_worth : (t : RuleTable) (s : State) (event : Event) (reply : Reply) (piece rest : List Entry) → reply ≢ Accepted → ((ys : List ℕ) → IsWithin ys (enabled_names t (followed s event reply)) → IsWorth t (followed s event reply) piece (piece ++ rest) (rounds_in t (state_from (followed s event reply) piece) rest) ys) → (xs : List ℕ) → IsWithin xs (enabled_names t s) → IsWorth t s ((event, reply) ∷ piece) ((event, reply) ∷ piece ++ rest) (rounds_in t (state_from (followed s event reply) piece) rest) xs
entry_worth t s event (Moves moves) piece rest calm later xs near =
    let next = followed s event (Moves moves) in
    let it = turn_worth t next piece (piece ++ rest) (rounds_in t (state_from next piece) rest) (left t moves next xs) (left_enabled t moves next xs (λ v there. enabled_near t s v (near v there))) later in (
      it.0,
      λ some serves. it.1 (λ v there.
          let is = left_is t moves next xs v there in
          served_later (is_mover_in moves v) (is_none (rule_at t next v)) (is_served t next piece v) (serves v is.2) (not-true (is_mover_in moves v) is.0) (some_not_none (rule_at t next v) is.1)),
    )
entry_worth t s event Accepted piece rest calm later xs near = absurd (calm refl)
entry_worth t s event reply piece rest calm later xs near =
    let it = later xs near in
    let whole = sum_by-cons (λ (e : Entry). steps_of e.1) (event, reply) piece in (
      omega (arith, it.0),
      λ some serves.
          let le = it.1 (⊎_elim (λ (steps : 1 ≤ steps_in ((event, reply) ∷ piece)). inl (omega (arith, steps, whole))) (λ one. inr one) some)
          (λ v there. served_later false (is_none (rule_at t s v)) (is_served t s piece v) (serves v there) refl (some_not_none (rule_at t s v) (enabled_rule t s v (near v there)))) in
          omega (arith, le),
    )

piece_worth : (t : RuleTable) (s : State) (piece rest : List Entry) → IsUndisturbed piece → (xs : List ℕ) → IsWithin xs (enabled_names t s) → IsWorth t s piece (piece ++ rest) (rounds_in t (state_from s piece) rest) xs
piece_worth t s [] rest calm xs near = (
  let it = compares t s rest in it.fewer xs (enabled_names t s) near (enabled_near t s),
  λ some serves. absurd (⊎_elim (λ (steps : 1 ≤ steps_in []). omega (arith, steps)) (λ (one : (v : ℕ) × IsIn v xs). true≢false (sym (serves one.0 one.1))) some),
)
piece_worth t s (entry ∷ piece) rest calm xs near =
    entry_worth t s entry.0 entry.1 piece rest (All-head (λ e. e.1 ≢ Accepted) entry piece calm) (piece_worth t (followed s entry.0 entry.1) piece rest (All-tail (λ e. e.1 ≢ Accepted) entry piece calm)) xs near

pub pieces_have_rounds : (t : RuleTable) (s : State) (pieces : List (List Entry)) (rest : List Entry) → AreWhole t s pieces → length pieces ≤ rounds_in t s (joined pieces rest)
pieces_have_rounds t s [] rest whole = omega arith
pieces_have_rounds t s (piece ∷ pieces) rest (first, whole) =
    let more = pieces_have_rounds t (state_from s piece) pieces rest whole in
    let one = (piece_worth t s piece (joined pieces rest) first.calm (enabled_names t s) (λ v there. there)).1 (inl first.moves)
    (λ v there. first.serves v (names_present s.network v (enabled_near t s v there)) (enabled_rule t s v there)) in
    omega (arith, more, one)

-- ---- a log is cut into its rounds

-- the first piece, and the cut after it
record IsFirst (t : RuleTable) (s : State) (xs : List ℕ) (log : List Entry) (k : ℕ) : Type 0 where
  piece : List Entry
  rest : List Entry
  calm : IsUndisturbed piece
  log_is : piece ++ rest ≡ log
  moves : 1 ≤ steps_in piece
  serves : (v : ℕ) → IsIn v xs → IsTrue (is_served t s piece v)
  after : IsCut t (state_from s piece) rest k

abbrev Begins : RuleTable → State → List Entry → Type 0
Begins t s log = (xs : List ℕ) (k : ℕ) → rounds_from t s xs log ≡ suc k → IsFirst t s xs log k

cut_of : (t : RuleTable) (s : State) (log : List Entry) (k : ℕ) → Begins t s log → rounds_in t s log ≡ k → IsCut t s log k
cut_of t s log zero begins is = record { pieces = []; rest = log; are_whole = tt; count_is = refl; log_is = refl }
cut_of t s log (suc k) begins is = by_first (begins (enabled_names t s) k is)
  where
    by_first : IsFirst t s (enabled_names t s) log k → IsCut t s log (suc k)
    by_first it = let after = it.after in record {
      pieces = it.piece ∷ after.pieces;
      rest = after.rest;
      are_whole = (record { calm = it.calm; moves = it.moves; serves = λ v has rule. it.serves v (in_kept (λ v. is_some (rule_at t s v)) v (names s.network) rule (in_names s.network v has)) }, after.are_whole);
      count_is = let count = after.count_is in omega (arith, count);
      log_is = ap (λ l. it.piece ++ l) after.log_is ∙ it.log_is;
    }

-- an entry before a first piece
prepend : (t : RuleTable) (s : State) (event : Event) (reply : Reply) (xs ys : List ℕ) (log : List Entry) (k : ℕ) → reply ≢ Accepted → ((piece : List Entry) → ((v : ℕ) → IsIn v ys → IsTrue (is_served t (followed s event reply) piece v)) → (v : ℕ) → IsIn v xs → IsTrue (is_served t s ((event, reply) ∷ piece) v)) → IsFirst t (followed s event reply) ys log k → IsFirst t s xs ((event, reply) ∷ log) k
prepend t s event reply xs ys log k calm onward it = record {
  piece = (event, reply) ∷ it.piece;
  rest = it.rest;
  calm = All-cons (λ e. e.1 ≢ Accepted) (event, reply) it.piece calm it.calm;
  log_is = ap (λ l. (event, reply) ∷ l) it.log_is;
  moves = let whole = sum_by-cons (λ (e : Entry). steps_of e.1) (event, reply) it.piece in let moves = it.moves in omega (arith, whole, moves);
  serves = onward it.piece it.serves;
  after = it.after;
}

-- a pending node is served by a step, or left pending
by_left : (t : RuleTable) (s : State) (event : Event) (moves : List Moved) (piece : List Entry) (xs : List ℕ) → ((v : ℕ) → IsIn v (left t moves (followed s event (Moves moves)) xs) → IsTrue (is_served t (followed s event (Moves moves)) piece v)) → (v : ℕ) → IsIn v xs → IsTrue (is_served t s ((event, Moves moves) ∷ piece) v)
by_left t s event moves piece xs later v there =
    served_by (is_mover_in moves v) (rule_at t (followed s event (Moves moves)) v) (is_served t (followed s event (Moves moves)) piece v)
    (λ idle some. later v (in_kept (stays_pending t moves (followed s event (Moves moves))) v xs (and_from (not (is_mover_in moves v)) (is_some (rule_at t (followed s event (Moves moves)) v)) (not_from_false (is_mover_in moves v) idle) some) there))
  where
    served_by : (moved : Bool) (rule : Option Act) (later : Bool) → (moved ≡ false → IsTrue (is_some rule) → IsTrue later) → IsTrue (moved || (is_none rule || later))
    served_by moved rule later h = grind arith

entry_begins : (t : RuleTable) (s : State) (event : Event) (reply : Reply) (log : List Entry) → reply ≢ Accepted → Begins t (followed s event reply) log → Begins t s ((event, reply) ∷ log)
entry_begins t s event (Moves moves) log calm later xs k is = by_rest (left t moves next xs) refl is
  where
    next : State
    next = followed s event (Moves moves)

    by_rest : (ys : List ℕ) → left t moves next xs ≡ ys → rounds_on t next log ys ≡ suc k → IsFirst t s xs ((event, Moves moves) ∷ log) k
    by_rest [] none is = record {
      piece = (event, Moves moves) ∷ [];
      rest = log;
      calm = All-cons (λ e. e.1 ≢ Accepted) (event, Moves moves) [] calm (All-nil (λ e. e.1 ≢ Accepted));
      log_is = refl;
      moves = omega arith;
      serves = by_left t s event moves [] xs (λ v there. absurd (subst (λ zs. IsIn v zs) none there));
      after = cut_of t next log k later (omega (arith, is));
    }
    by_rest (y ∷ ys) some is =
        prepend t s event (Moves moves) xs (y ∷ ys) log k calm (λ piece all. by_left t s event moves piece xs (λ v there. all v (subst (λ zs. IsIn v zs) some there))) (later (y ∷ ys) k (omega (arith, is)))
entry_begins t s event Accepted log calm later xs k is = absurd (calm refl)
entry_begins t s event reply log calm later xs k is =
    prepend t s event reply xs xs log k calm (λ piece all v there. or_right (is_none (rule_at t s v)) (is_served t s piece v) (all v there)) (later xs k (omega (arith, is)))

begins : (t : RuleTable) (s : State) (log : List Entry) → IsUndisturbed log → Begins t s log
begins t s [] calm xs k is = absurd (omega (arith, is))
begins t s (entry ∷ log) calm xs k is =
    entry_begins t s entry.0 entry.1 log (All-head (λ e. e.1 ≢ Accepted) entry log calm) (begins t (followed s entry.0 entry.1) log (All-tail (λ e. e.1 ≢ Accepted) entry log calm)) xs k is

pub rounds_are_pieces : (t : RuleTable) (s : State) (log : List Entry) → IsUndisturbed log → IsCut t s log (rounds_in t s log)
rounds_are_pieces t s log calm = cut_of t s log (rounds_in t s log) (begins t s log calm) refl

-- and into no more
pub no_more_pieces : (t : RuleTable) (s : State) (log : List Entry) (count : ℕ) → IsCut t s log count → count ≤ rounds_in t s log
no_more_pieces t s log count it =
    let most = pieces_have_rounds t s it.pieces it.rest it.are_whole in
    let same = ap (rounds_in t s) it.log_is in
    let count_is = it.count_is in
    omega (arith, most, same, count_is)
