use Rattle.judged_rounds.proofs.Prelude.{◌≡◌, ℕ, arith, subst, List, Witness, table_of, is_affected, MarksAll}
use Rattle.judged_rounds.proofs.Sets.{followed_on, members_on, pending_noted}
use Rattle.judged_rounds.proofs.count.JudgedRounds.prepare.Goals as goal

pub returns-clause-ready : goal.returns-clause-ready
returns-clause-ready c start log counts =
    let self = c.args.self.now in
    let t = table_of self.rules in
    let s = c.args.judge.now in
    let event = c.args.event.now in
    let reply = c.args.reply.now in
    let witnesses = self.witnesses.items in
    let size : self.size ≡ s.network.size = let one = self.due_places in let two = counts.on.due_places in omega (arith, one, two) in
    let marks = subst (λ (n : ℕ). MarksAll n (is_affected s witnesses event reply) self.due c.mark_affected.new.due) size (subst (λ (ws : List Witness). MarksAll self.size (is_affected s ws event reply) self.due c.mark_affected.new.due) c.deref.ensures.value c.mark_affected.ensures) in
    let counted = c.begin.ensures.counted t start log s (members_on t s self.enabled self.due witnesses counts.none_due counts.on) counts.counted in
    record {
      sound = counts.sound;
      on = λ good'. followed_on t s event reply self.enabled self.due c.mark_affected.new.due witnesses counts.sound good' counts.none_due marks counts.on;
      ready = c.begin.ensures.ready;
      noted = λ step. pending_noted t s self.enabled self.due c.begin.new.counter.pending witnesses self.removals counts.none_due counts.on (counted.enabled (c.begin.ensures.ready step));
      counted = counted;
    }
