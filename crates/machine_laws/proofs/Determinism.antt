-- The state after an event is determined by its reply.
use Rattle.machine_laws.proofs.ChargePrelude.Imports.{◌≡◌, ℕ, Option, Event, Refusal, Reply, State, RuleTable, refusal_of, AnswersBy, Answers, arith}

answers_by_once : (t : RuleTable) (s : State) (n : ℕ) (event : Event) (refusal : Option Refusal) (reply : Reply) (u v : State) → AnswersBy t s n event refusal reply u → AnswersBy t s n event refusal reply v → u ≡ v
answers_by_once t s n event refusal reply u v x y = grind arith

-- an event and its reply lead to one state
pub answers_once : (t : RuleTable) (s : State) (n : ℕ) (event : Event) (reply : Reply) (u v : State) → Answers t s n event reply u → Answers t s n event reply v → u ≡ v
answers_once t s n event reply u v x y = answers_by_once t s n event (refusal_of t s event) reply u v x y
