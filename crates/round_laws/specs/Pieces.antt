-- Pieces of a log that are whole rounds or longer: each serves all nodes that are enabled at its start.
use Rattle.std.specs.Prelude.{◌≡◌, ℕ, ◌≤◌, Bool, false, ◌||◌, List, [], ◌∷◌, ◌++◌, length, is_some, is_none, nat_eq, IsTrue}
use Rattle.std.specs.List.{list_any}
use Rattle.rule_machine.specs.declared.reply.Reply.{Reply}
use Rattle.rule_machine.specs.declared.reply.Reply.TheVariants.{Moves}
use Rattle.rule_machine.specs.Network.{present}
use Rattle.rule_machine.specs.State.{State}
use Rattle.rule_machine.specs.RuleTable.{RuleTable, rule_at}
use Rattle.rule_machine.specs.Run.{Entry}
use Rattle.machine_laws.specs.StatesAfterReplies.{followed}
use Rattle.machine_laws.specs.ChargeWords.{steps_in, IsUndisturbed}

-- whether a reply has a move of v
abbrev pub has_move : Reply → ℕ → Bool
has_move (Moves moves) v = list_any (λ m. nat_eq m.node v) moves
has_move reply v = false

-- whether v moves in a log from s, or is not enabled in some state after one of its entries
abbrev pub is_served : RuleTable → State → List Entry → ℕ → Bool
is_served t s [] v = false
is_served t s (entry ∷ log) v =
    let next = followed s entry.0 entry.1 in
    has_move entry.1 v || (is_none (rule_at t next v) || is_served t next log v)

-- the state after a log from s
abbrev pub state_from : State → List Entry → State
state_from s [] = s
state_from s (entry ∷ log) = state_from (followed s entry.0 entry.1) log

-- a part of a log, from s, without a disturbance and with a step, that serves each node enabled in s
pub record IsWhole (t : RuleTable) (s : State) (piece : List Entry) : Type 0 where
  pub calm : IsUndisturbed piece
  pub moves : 1 ≤ steps_in piece
  pub serves : (v : ℕ) → IsTrue (present s.network v) → IsTrue (is_some (rule_at t s v)) → IsTrue (is_served t s piece v)

-- one after another, from s, all are whole
abbrev pub AreWhole : RuleTable → State → List (List Entry) → Type 0
AreWhole t s [] = Unit {0}
AreWhole t s (piece ∷ pieces) = IsWhole t s piece × AreWhole t (state_from s piece) pieces

-- the pieces one after another, and then the rest
abbrev pub joined : List (List Entry) → List Entry → List Entry
joined [] rest = rest
joined (piece ∷ pieces) rest = piece ++ joined pieces rest

-- the log is cut into this many whole pieces, and a rest
pub record IsCut (t : RuleTable) (s : State) (log : List Entry) (count : ℕ) : Type 0 where
  pub pieces : List (List Entry)
  pub rest : List Entry
  pub are_whole : AreWhole t s pieces
  pub count_is : length pieces ≡ count
  pub log_is : joined pieces rest ≡ log
