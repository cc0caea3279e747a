-- Whether a node moves in a log, and whether a disturbance along a path reaches it.
use Rattle.std.specs.Prelude.{◌≡◌, ℕ, Bool, false, ◌||◌, List, [], ◌∷◌, nat_eq}
use Rattle.std.specs.List.{list_any}
use Rattle.rule_machine.specs.declared.event.Event.{Event}
use Rattle.rule_machine.specs.declared.reply.Reply.{Reply}
use Rattle.rule_machine.specs.declared.reply.Reply.TheVariants.{Accepted, Moves}
use Rattle.rule_machine.specs.State.{State, pointer, flag}
use Rattle.rule_machine.specs.Run.{Entry}
use Rattle.containment_laws.specs.Reach.{is_in_reach}

-- whether a reply has a move of v
abbrev pub moves_at : ℕ → Reply → Bool
moves_at v (Moves moves) = list_any (λ m. nat_eq m.node v) moves
moves_at v reply = false

-- whether v moves in a log
abbrev pub has_moved : List Entry → ℕ → Bool
has_moved log v = list_any (λ entry. moves_at v entry.1) log

-- whether the entry is an accepted disturbance that has v in its reach
abbrev pub is_reached_by : State → Event → Reply → ℕ → Bool
is_reached_by s event Accepted v = is_in_reach s event v
is_reached_by s event reply v = false

-- whether v is in the reach of a disturbance of a path from this state, each reach taken in the state
-- before the disturbance
abbrev pub is_ever_reached : State → List (Entry × State) → ℕ → Bool
is_ever_reached s [] v = false
is_ever_reached s (step ∷ path) v = is_reached_by s step.0.0 step.0.1 v || is_ever_reached step.1 path v

-- v has the same registers in both states
abbrev pub KeepsRegisters : State → State → ℕ → Type 0
KeepsRegisters s s' v = (pointer s' v ≡ pointer s v) × (flag s' v ≡ flag s v)
