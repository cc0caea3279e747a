use Rattle.storm_runner.proofs.Prelude.{◌≡◌, IfSome, take, is_some, book_of, setting_of, IsOfBook, AreScriptReceipts, IsLastCheckpoint, has_checkpoint, scene_of}
use Rattle.storm_runner.proofs.storm_context.play_script.Given as goal

abbrev pub invariant-loop-line : goal.invariant-loop-line
invariant-loop-line g l =
    record {
      stands : AreScriptReceipts (scene_of (setting_of g.R.Rules.table l.fn.context.net.now) l.clerk) 0 (take l.line-index l.line-items) l.clerk.receipts;
      note : IsOfBook (book_of l.fn.context.net.now) l.clerk;
      based : is_some l.clerk.base ≡ has_checkpoint (take l.line-index l.line-items);
      placed : IfSome l.clerk.base (IsLastCheckpoint (scene_of (setting_of g.R.Rules.table l.fn.context.net.now) l.clerk) (take l.line-index l.line-items) l.clerk.receipts);
    }
