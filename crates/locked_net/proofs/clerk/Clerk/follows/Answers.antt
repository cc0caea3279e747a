use Rattle.locked_net.specs.Receipts.{noted}
use Rattle.locked_net.proofs.ClerkNotes.{none_begins, none_follows}
use Rattle.locked_net.proofs.clerk.Clerk.follows.Goals as goal

pub returns-in_default-own-clause-notes : goal.returns-in_default-own-clause-notes
returns-in_default-own-clause-notes c = none_follows c.note-own.result _ c.args.self.now.note (noted c.args.before.now) c.in_default-own.not-Some c.note-own.ensures.note

pub returns-in_default-clause-notes : goal.returns-in_default-clause-notes
returns-in_default-clause-notes c = none_begins c.args.before.now (noted c.args.self.now.note) c.in_default.not-Some
