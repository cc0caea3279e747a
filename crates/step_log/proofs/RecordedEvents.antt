-- A recording after an event.
use Rattle.step_log.proofs.Prelude.{◌≡◌, ◌∙◌, ◌+◌, ◌<◌, Option, ap₂, sym, subst, arith, Event, Reply, IsState, RuleTable, RoundCount, next_counting, Answers, reply_of, Moment, moment_after, IsTable, least_answers, state_after_keeps, Recording, IsRecording, entered}

-- with one more entry it is one
pub entered_is_recording : (t : RuleTable) → IsTable t → (r : Recording) → IsRecording r → r.len < r.limit → (event : Event) (m : Moment) (counting : Option RoundCount) → m ≡ moment_after t (record { state = r.state; spent = r.spent }) event → IsRecording (record { state = m.state; spent = m.spent; len = r.len + 1; limit = r.limit; present = r.present; counting = counting })
entered_is_recording t table r is below event m counting after = record {
  is_state = subst (λ (n : Moment). IsState n.state) (sym after) (state_after_keeps t table r.state is.is_state event);
  room = omega (arith, below);
  limit = is.limit;
}

-- the reply with the least targets is one that the machine may give
pub reply_answers : (t : RuleTable) → IsTable t → (m m' : Moment) → IsState m.state → (event : Event) (reply : Reply) → reply ≡ reply_of t m.state m.spent event → m' ≡ moment_after t m event → Answers t m.state m.spent event reply m'.state
reply_answers t table m m' good event reply replies after =
    subst (λ (r : Reply). Answers t m.state m.spent event r m'.state) (sym replies)
    (subst (λ (n : Moment). Answers t m.state m.spent event (reply_of t m.state m.spent event) n.state) (sym after) (least_answers t table m.state good m.spent event))

-- the recording after the event's entry, by its parts
pub entered_is : (t : RuleTable) (r : Recording) (event : Event) (m : Moment) (reply : Reply) (counting : Option RoundCount) → m ≡ moment_after t (record { state = r.state; spent = r.spent }) event → reply ≡ reply_of t r.state r.spent event → counting ≡ next_counting t reply m.state r.counting
    → ◌≡◌ {A = Recording} (record { state = m.state; spent = m.spent; len = r.len + 1; limit = r.limit; present = r.present; counting = counting }) (entered t r event)
entered_is t r event m reply counting after replies counted =
    let all = counted ∙ ap₂ (λ (a : Reply) (n : Moment). next_counting t a n.state r.counting) replies after in
    λ i. record { state = (after i).state; spent = (after i).spent; len = r.len + 1; limit = r.limit; present = r.present; counting = all i }
