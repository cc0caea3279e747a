-- Where a run or a storm goes on.
use Rattle.std.specs.Prelude.{ℕ, [], None}
use Rattle.rule_machine.specs.declared.rule_set.RuleSet.{RuleSet}
use Rattle.rule_machine.specs.Network.{node_count}
use Rattle.rule_machine.specs.State.{State}
use Rattle.script_text.specs.Script.{Progress, with_checkpoint}
use Rattle.script_run.specs.RunOptions.{OptionsView}
use Rattle.script_run.specs.declared.restart.Restart.{Restart}

-- the rule set, the state, the moves spent, the number of the last entry, the limit of entries, the workers for
-- a step, and the roaming workers with their turns
pub record RestartView : Type 0 where
  pub rules : RuleSet
  pub state : State
  pub spent : ℕ
  pub number : ℕ
  pub limit : ℕ
  pub workers : ℕ
  pub roamers : ℕ
  pub turns : ℕ

abbrev pub restart_of : Restart → RestartView
restart_of r = record { rules = r.rules; state = r.net.state; spent = r.spent; number = r.number; limit = r.limit; workers = r.workers; roamers = r.roamers; turns = r.turns }

-- the progress of a run that goes on: the moment reached, the number of entries, and the base as text
abbrev pub restarted : Restart → Progress
restarted r = with_checkpoint (record { rules = r.rules; moment = record { state = r.net.state; spent = r.spent }; count = r.number; text = []; counting = None })

-- the options of a run on the restart's network: its names, and its nodes as those at the start
abbrev pub options_at : RestartView → OptionsView
options_at r =
    record { rules = r.rules; nodes = r.state.network.size; present = node_count r.state.network; limit = r.limit; workers = r.workers; roamers = r.roamers; turns = r.turns }
