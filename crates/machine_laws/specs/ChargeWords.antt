-- The terms of the charge's laws: what it means that the charge pays for moves, and what is bounded in
-- runs.
use Rattle.std.specs.Prelude.{◌≢◌, ℕ, ◌+◌, ◌≤◌, List, length, sum_by, All}
use Rattle.rule_machine.specs.declared.reply.Reply.{Reply}
use Rattle.rule_machine.specs.declared.reply.Reply.TheVariants.{Accepted, Moves}
use Rattle.rule_machine.specs.RuleTable.{RuleTable}
use Rattle.rule_machine.specs.Run.{Entry, Moment}
pub use Rattle.rule_machine.specs.ChargeLaws.{charge_bound, IsCharged}

-- how many moves a reply has
abbrev pub moves_of : Reply → ℕ
moves_of (Moves moves) = length moves
moves_of reply = 0

-- how many moves a log has
abbrev pub moves_in : List Entry → ℕ
moves_in log = sum_by (λ entry. moves_of entry.1) log

-- 1 if a reply is that of an accepted step, else 0
abbrev pub steps_of : Reply → ℕ
steps_of (Moves moves) = 1
steps_of reply = 0

-- how many accepted steps a log has
abbrev pub steps_in : List Entry → ℕ
steps_in log = sum_by (λ entry. steps_of entry.1) log

-- no entry of the log is an accepted disturbance
abbrev pub IsUndisturbed : List Entry → Type 0
IsUndisturbed log = All (λ entry. entry.1 ≢ Accepted) log

-- moves spent plus the charge are within the bound of the network
abbrev pub IsWithinBound : RuleTable → ℕ → Moment → Type 0
IsWithinBound t weight m = m.spent + t.charge m.state ≤ charge_bound weight m.state.network
