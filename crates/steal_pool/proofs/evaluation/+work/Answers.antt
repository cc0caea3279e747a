use Rattle.steal_pool.proofs.Prelude.{All, Vec, Global, sym, subst, All-append, IfOk-at_ok, Share, AreJudged, AreShares}
use Rattle.steal_pool.proofs.VerdictTables.{halves_held}
use Rattle.steal_pool.proofs.evaluation.+work.Goals as goal

pub returns : goal.returns
returns g t c =
    let judged = AreJudged g.R.Rules.table c.args.net.now.state c.args.choice.now in
    let cut = c.in_ok-high.ensures in
    let ours = IfOk-at_ok (λ (v : Vec Share Global). AreShares g.R.Rules.table c.args.net.now.state c.args.choice.now _ v.items) c.in_ok-shares.was c.join-ours.ensures.first in
    let theirs = IfOk-at_ok (λ (v : Vec Share Global). AreShares g.R.Rules.table c.args.net.now.state c.args.choice.now _ v.items) c.in_ok-others.was c.join-ours.ensures.second in
    record {
      hold = halves_held _ c.args.low.items _ c.in_ok-high.high.items c.in_ok-shares.shares.items c.in_ok-others.others.items _ cut.items cut.tail ours.0 theirs.0 c.in_ok-append.ensures.items;
      judged = subst (All judged) (sym c.in_ok-append.ensures.items) (All-append judged _ _ ours.1 theirs.1);
    }
