use Rattle.storm_runner.proofs.Prelude.{setting_of, StandsInPart, scene_of}
use Rattle.storm_runner.proofs.LogExtension.{stands_last, base_lasts}
use Rattle.storm_runner.proofs.ScriptProgress.{stands_next, stands_part, based_next, placed_next, stops}
use Rattle.storm_runner.proofs.storm_context.play_script.Goals as goal

pub returns-in_err-play-clause-played : goal.returns-in_err-play-clause-played
returns-in_err-play-clause-played g c =
    let new = c.play.new.clerk in
    let stands = stands_last _ _ _ c.play.ensures.grows _ _ _ c.loop-line.invariant.stands in
    let placed = base_lasts _ _ _ c.play.ensures.grows _ _ _ c.loop-line.invariant.placed in
    let part : StandsInPart (scene_of (setting_of g.R.Rules.table c.args.context.now.net.now) new) c.lines-line-items.result.now new =
    stands_part _ _ c.loop-line.line-index c.line-item.result c.loop-line.clerk new c.loop-line-test.true c.line-item.is stands c.in_err-play.ensures.plays c.loop-line.invariant.based placed c.in_err-play.ensures.kept in
    stops _ c.args.script.now new c.from_residual.result c.from_residual.ensures.0 (rw c.lines-line-items.ensures at part)

pub loop-line-preserved : goal.loop-line-preserved
loop-line-preserved g c =
    let mid = c.loop-line.clerk in
    let new = c.play.new.clerk in
    let stands = stands_last _ _ _ c.play.ensures.grows _ _ _ c.loop-line.invariant.stands in
    let placed = base_lasts _ _ _ c.play.ensures.grows _ _ _ c.loop-line.invariant.placed in
    record {
      stands = stands_next _ mid.base _ c.loop-line.line-index c.line-item.result mid.receipts new.receipts c.loop-line-test.true c.line-item.is stands c.in_ok-play.ensures.plays;
      note = c.play.ensures.note;
      based = based_next (setting_of g.R.Rules.table c.args.context.now.net.now) _ c.loop-line.line-index c.line-item.result mid new c.loop-line-test.true c.line-item.is c.loop-line.invariant.based c.in_ok-play.ensures.base;
      placed = placed_next (setting_of g.R.Rules.table c.args.context.now.net.now) _ _ c.loop-line.line-index c.line-item.result mid new c.loop-line-test.true c.line-item.is stands c.in_ok-play.ensures.plays c.in_ok-play.ensures.base placed;
    }
