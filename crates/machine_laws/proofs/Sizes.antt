-- No answer changes how many names there are.
use Rattle.machine_laws.proofs.ChargePrelude.Imports.{◌≡◌, ℕ, List, [], ◌∷◌, Option, ap, Event, Refusal, Reply, State, RuleTable, AnswersBy, spent_after, Entry, Moment, Run, arith}

size_by : (t : RuleTable) (s : State) (n : ℕ) (event : Event) (r : Option Refusal) (reply : Reply) (s' : State) → AnswersBy t s n event r reply s' → s'.network.size ≡ s.network.size
size_by t s n event r reply s' does = grind arith

-- a run ends with as many names as it began with
pub runs_keep_size : (t : RuleTable) (start : Moment) (log : List Entry) (end : Moment) → Run t start log end → end.state.network.size ≡ start.state.network.size
runs_keep_size t start [] end run = ap (λ (m : Moment). m.state.network.size) run
runs_keep_size t start (entry ∷ log) end (next, answers, run) = grind (arith, runs_keep_size t (record { state = next; spent = spent_after start.spent entry.1 }) log end run, size_by)
