use Rattle.locked_net.proofs.Prelude.{ap, noted, BoardName, book_of, setting_of}
use Rattle.locked_net.proofs.Turns.{turn_taken, turn_keeps, turn_own, fault_met}
use Rattle.locked_net.proofs.roaming.take_turn.Goals as goal

pub returns-clause-turn : goal.returns-clause-turn
returns-clause-turn g c =
    let told = c.roam-answer in
    turn_taken (setting_of g.R.Rules.table c.args.net.now) (noted c.sees.new.self.note) c.args.turn told.result c.hold-held.result.log c.args.clerk.now told.new.clerk c.hold-held.ensures.own (rw c.note.ensures.0 at c.sees.ensures.seen) told.ensures.free told.ensures.receipt

pub returns-clause-fault : goal.returns-clause-fault
returns-clause-fault g c =
    fault_met (setting_of g.R.Rules.table c.args.net.now) c.args.turn c.roam-answer.result c.hold-held.result.log c.args.clerk.now c.hold-held.ensures.own c.roam-answer.ensures.fault

pub returns-clause-note : goal.returns-clause-note
returns-clause-note g c =
    let told = c.roam-answer in
    turn_keeps g.R.Rules.table (book_of c.args.net.now) c.args.turn c.hold-held.result told.new.self c.args.clerk.now told.new.clerk told.result (ap (λ (n : BoardName). n.book) c.hold-held.ensures.name) told.ensures.call told.ensures.free told.ensures.receipt

pub returns-clause-own : goal.returns-clause-own
returns-clause-own g c =
    let told = c.roam-answer in
    turn_own (book_of c.args.net.now) c.hold-held.result told.new.self c.args.clerk.now told.new.clerk told.result (ap (λ (n : BoardName). n.book) c.hold-held.ensures.name) told.ensures.call
