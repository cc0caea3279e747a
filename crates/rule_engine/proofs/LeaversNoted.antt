-- The names that left the set of enabled nodes since a step began are noted.
use Rattle.rule_engine.proofs.Prelude.{◌∙◌, true, List, Bool, Option, None, Some, IsTrue, sym, ap, false≢true, is_some, cond, rule_at, RuleTable, Moment, Reply, RoundCounter, CountsRounds, IsReady, AreOn, is_step, AreLeaversNoted}
use Rattle.enabled_set.specs.RemovedNames.{KeepsNotes, RemovedNames}

-- before a step each pending node is enabled
pub none_left : (t : RuleTable) (m : Moment) (reply : Reply) (rounds : Option RoundCounter) (bits : List Bool) (removed : RemovedNames) → AreOn t m.state bits → CountsRounds t m rounds → IsReady reply rounds → AreLeaversNoted reply rounds bits removed
none_left t m reply None bits removed on it ready = tt
none_left t m reply (Some c) bits removed on it ready = λ step v there off.
    let both = it.counted.enabled (ready step) v there in
    absurd (false≢true (sym off ∙ on.each v ∙ ap (λ (b : Bool). is_some (cond b (rule_at t m.state v) None)) both.0 ∙ both.1))

pub leavers_noted : (reply : Reply) (rounds : Option RoundCounter) (bits bits' : List Bool) (removed removed' : RemovedNames) → (IsTrue (is_step reply) → KeepsNotes bits removed bits' removed') → AreLeaversNoted reply rounds bits removed → AreLeaversNoted reply rounds bits' removed'
leavers_noted reply None bits bits' removed removed' keeps noted = tt
leavers_noted reply (Some c) bits bits' removed removed' keeps noted = λ step. keeps step c.pending (noted step)
