-- A count is the number of rounds of the entries since it began.
use Rattle.round_laws.proofs.Prelude.{◌≡◌, ◌≢◌, ◌+◌, List, [], ◌∷◌, ◌++◌, refl, sym, ap, ◌∙◌, arith, All-head, All-tail, Event, Reply, Accepted, State, RuleTable, Entry, followed, IsUndisturbed, rounds_by, rounds_from, rounds_in}
use Rattle.round_laws.specs.Pieces.{state_from}
use Rattle.round_laws.specs.RoundCounts.{RoundCount, count_of_log, first_count, last_count, next_count}

-- an entry that is no disturbance adds what it completes
pub next_is : (t : RuleTable) (reply : Reply) (s : State) (c : RoundCount) → reply ≢ Accepted → next_count t reply s c ≡ record { rounds = c.rounds + (rounds_by t c.pending reply s).0; pending = (rounds_by t c.pending reply s).1 }
next_is t reply s c calm = grind arith

-- without a disturbance the rounds of the log are added
pub calm_count : (t : RuleTable) (s : State) (log : List Entry) (c : RoundCount) → IsUndisturbed log → (last_count t s log c).rounds ≡ c.rounds + rounds_from t s c.pending log
calm_count t s [] c calm = omega arith
calm_count t s (entry ∷ log) c calm =
    let next = followed s entry.0 entry.1 in
    let turn = rounds_by t c.pending entry.1 next in
    let first = ap (λ (d : RoundCount). (last_count t next log d).rounds) (next_is t entry.1 next c (All-head (λ (e : Entry). e.1 ≢ Accepted) entry log calm)) in
    let rest = calm_count t next log (record { rounds = c.rounds + turn.0; pending = turn.1 }) (All-tail (λ (e : Entry). e.1 ≢ Accepted) entry log calm) in
    omega (arith, first, rest)

pub counted_whole : (t : RuleTable) (s : State) (log : List Entry) → IsUndisturbed log → (count_of_log t s log).rounds ≡ rounds_in t s log
counted_whole t s log calm = omega (arith, calm_count t s log (first_count t s) calm)

-- one log after another
pub last_after : (t : RuleTable) (s : State) (some rest : List Entry) (c : RoundCount) → last_count t s (some ++ rest) c ≡ last_count t (state_from s some) rest (last_count t s some c)
last_after t s [] rest c = refl
last_after t s (entry ∷ some) rest c = last_after t (followed s entry.0 entry.1) some rest (next_count t entry.1 (followed s entry.0 entry.1) c)

state_after_all : (s : State) (before : List Entry) (entry : Entry) → state_from s (before ++ entry ∷ []) ≡ followed (state_from s before) entry.0 entry.1
state_after_all s [] entry = refl
state_after_all s (first ∷ before) entry = state_after_all (followed s first.0 first.1) before entry

-- the entries before the last accepted disturbance do not count
pub counted_since : (t : RuleTable) (s : State) (before : List Entry) (event : Event) (log : List Entry) (c : RoundCount) → IsUndisturbed log → (last_count t s (before ++ (event, Accepted) ∷ log) c).rounds ≡ rounds_in t (state_from s (before ++ (event, Accepted) ∷ [])) log
counted_since t s before event log c calm =
    ap (λ (d : RoundCount). d.rounds) (last_after t s before ((event, Accepted) ∷ log) c)
    ∙ counted_whole t (followed (state_from s before) event Accepted) log calm
    ∙ ap (λ (u : State). rounds_in t u log) (sym (state_after_all s before (event, Accepted)))
