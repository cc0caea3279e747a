-- Logs that begin at a network's moment.
use Rattle.std.specs.Prelude.{ℕ, [], max, min, Some}
use Rattle.rule_machine.specs.Base.{base_of}
use Rattle.rule_machine.specs.Network.{node_count}
use Rattle.rule_machine.specs.Run.{Moment}
use Rattle.step_log.specs.Recording.{max_entries}
use Rattle.step_log.specs.RetainedLogs.{RetainedLog}

-- what is kept where a network goes on at this moment after `number` entries: the moment as the base, and no
-- entry
abbrev pub resumed_log : Moment → ℕ → ℕ → RetainedLog
resumed_log m number limit =
    record { state = m.state; spent = m.spent; base = Some (base_of number m); entries = []; limit = max number (min limit max_entries); present = node_count m.state.network }
