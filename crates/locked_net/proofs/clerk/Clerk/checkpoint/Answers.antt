use Rattle.locked_net.proofs.Prelude.{seen_by, setting_of}
use Rattle.locked_net.proofs.ChosenEvents.{holds_all, refuses_checkpoint}
use Rattle.locked_net.proofs.clerk.Clerk.checkpoint.Goals as goal

pub returns-clause-number : goal.returns-clause-number
returns-clause-number g c =
    let told = c.checkpoint-answer in
    holds_all (setting_of g.R.Rules.table c.args.net.now) (seen_by c.args.self.now) c.hold-held.result.log told.result c.hold-held.ensures.own told.ensures.number told.ensures.admitted

pub returns-clause-refused : goal.returns-clause-refused
returns-clause-refused g c =
    refuses_checkpoint (setting_of g.R.Rules.table c.args.net.now) (seen_by c.args.self.now) c.hold-held.result.log c.checkpoint-answer.result c.hold-held.ensures.own c.checkpoint-answer.ensures.admitted
