-- The moments that a network goes through.
use Rattle.rule_engine.proofs.Prelude.{◌≡◌, ℕ, ◌+◌, List, [], ◌∷◌, refl, sym, ap, ◌∙◌, subst, Event, Reply, State, IsState, RuleTable, Answers, spent_after, reply_of, state_after, Moment, beginning_with, opening_is_state, IsTable, least_answers, answers_keep, IsCharged, beginning_is_within, answer_within, IsWithinBudget, moment, NetView, IsPrepared, Bool, HasMarks}
use Rattle.machine_laws.proofs.Sizes.{runs_keep_size}
use Rattle.machine_laws.proofs.UnusedFlags.{IsFlagless, opening_is_unflagged, runs_stay_unflagged}

-- ---- what is spent

pub beginning_is_paid : (t : RuleTable) (weight : ℕ) → IsCharged t weight → (size count : ℕ) → IsWithinBudget t weight (beginning_with size count)
beginning_is_paid t weight charged size count = record {
  is_state = opening_is_state size count;
  within = beginning_is_within t weight charged size count;
  unflagged = λ unused. opening_is_unflagged size count;
}

-- an answer of the machine, and what its reply spends
pub answer_is_paid : (t : RuleTable) (weight : ℕ) → IsTable t → IsCharged t weight → IsFlagless t → (m : Moment) → IsWithinBudget t weight m → (event : Event) (reply : Reply) (s : State) → Answers t m.state m.spent event reply s → IsWithinBudget t weight (moment s (spent_after m.spent reply))
answer_is_paid t weight table charged flagless m paid event reply s answers = record {
  is_state = answers_keep t table m.state paid.is_state m.spent event reply s answers;
  within = answer_within t weight table charged m paid.is_state paid.within event reply s answers;
  unflagged = λ unused. runs_stay_unflagged t unused (flagless unused) m (paid.unflagged unused) ((event, reply) ∷ []) (moment s (spent_after m.spent reply)) (s, answers, refl);
}

-- the machine's reply and state
pub turn_answers : (t : RuleTable) → IsTable t → (m : Moment) → IsState m.state → (event : Event) (reply : Reply) (s : State) → reply ≡ reply_of t m.state m.spent event → s ≡ state_after t m.state event → Answers t m.state m.spent event reply s
turn_answers t table m good event reply s told is =
    subst (λ q. Answers t m.state m.spent event q s) (sym told) (subst (λ u. Answers t m.state m.spent event (reply_of t m.state m.spent event) u) (sym is) (least_answers t table m.state good m.spent event))

pub turn_is_paid : (t : RuleTable) (weight : ℕ) → IsTable t → IsCharged t weight → IsFlagless t → (m : Moment) → IsWithinBudget t weight m → (event : Event) (reply : Reply) (s : State) → reply ≡ reply_of t m.state m.spent event → s ≡ state_after t m.state event → IsWithinBudget t weight (moment s (spent_after m.spent reply))
turn_is_paid t weight table charged flagless m paid event reply s told is =
    answer_is_paid t weight table charged flagless m paid event reply s (turn_answers t table m paid.is_state event reply s told is)

-- so it is with a reply that was prepared
pub prepared_is_paid : (t : RuleTable) (weight : ℕ) → IsTable t → IsCharged t weight → IsFlagless t → (inside net : NetView) → inside ≡ net → IsWithinBudget t weight (moment inside.state inside.spent) → (event : Event) (reply : Reply) → IsPrepared t net event reply → (s : State) → s ≡ state_after t inside.state event → IsWithinBudget t weight (moment s (spent_after inside.spent reply))
prepared_is_paid t weight table charged flagless inside net same paid event reply ready s is =
    turn_is_paid t weight table charged flagless (moment inside.state inside.spent) paid event reply s (subst (λ (n : NetView). reply ≡ reply_of t n.state n.spent event) (sym same) ready.reply_is) is

-- an event adds no name, so marks keep their places
pub answer_keeps_marks : (t : RuleTable) (m : Moment) (event : Event) (reply : Reply) (s : State) (marks : List Bool) → Answers t m.state m.spent event reply s → HasMarks m.state marks → HasMarks s marks
answer_keeps_marks t m event reply s marks answers has =
    has ∙ ap (λ n. n + 1) (sym (runs_keep_size t m ((event, reply) ∷ []) (moment s (spent_after m.spent reply)) (s, answers, refl)))
