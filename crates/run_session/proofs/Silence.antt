-- A drive of as many turns as the charge, all of them taken, ends with no node enabled.
use Rattle.run_session.proofs.Prelude.{◌≡◌, ◌∙◌, ℕ, ◌≤◌, List, [], ap, sym, subst, arith, Stream, IsState, RuleTable, enabled_names, IsTable, IsCharged, seeded_stream, drawn_step, Command, Drive, Turns, Says, Progress, CommandDoes, TurnsDo, says_once, head_of, turns_end_silent}

-- an empty line is no drive
pub empty_is_no_drive : (line : List ℕ) (turns : Turns) → line ≡ [] → Says line (Drive turns) → ⊥
empty_is_no_drive line turns none (fits, says) = omega (arith, ap head_of (sym none ∙ says))

module _ (t : RuleTable) (weight : ℕ) (table : IsTable t) (charged : IsCharged t weight) where
  pub drive_done_silent : (limit turns : ℕ) (stream : Stream) (before after : Progress) → TurnsDo drawn_step t limit turns stream before after → IsState before.moment.state
      → t.charge before.moment.state ≤ turns → enabled_names t after.moment.state ≡ []
  drive_done_silent limit turns stream before after does good few = turns_end_silent t weight table charged limit turns stream before after good few does

  pub followed_silent : (limit : ℕ) (line : List ℕ) (command : Command) (before after : Progress) → CommandDoes t limit command before after → Says line command → IsState before.moment.state
      → (turns : Turns) → Says line (Drive turns) → t.charge before.moment.state ≤ turns.count → enabled_names t after.moment.state ≡ []
  followed_silent limit line command before after does said good turns says few =
      turns_end_silent t weight table charged limit turns.count (seeded_stream turns.seed) before after good few
      (subst (λ (c : Command). CommandDoes t limit c before after) (says_once line command (Drive turns) said says) does)
