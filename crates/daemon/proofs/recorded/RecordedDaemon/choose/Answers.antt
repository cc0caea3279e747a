use Rattle.daemon.proofs.Prelude.{rules, ◌≡◌, members, played}
use Rattle.daemon.proofs.RecordedPlay.{lawful_played, none_played}
use Rattle.daemon.proofs.recorded.RecordedDaemon.choose.Goals as goal

pub returns-clause-lawful : goal.returns-clause-lawful
returns-clause-lawful c =
    let same : c.in_ok-next.choice ≡ (played c.args.central (members c.args.set.now) c.args.self.now).0 = search rules in
    lawful_played c.args.set.now c.args.central c.args.self.now c.in_ok-next.choice same

pub returns-clause-none : goal.returns-clause-none
returns-clause-none c =
    let same : c.in_ok-next.choice ≡ (played c.args.central (members c.args.set.now) c.args.self.now).0 = search rules in
    none_played c.args.central (members c.args.set.now) c.args.self.now c.in_ok-next.choice same
