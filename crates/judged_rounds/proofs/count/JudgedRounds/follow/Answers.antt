use Rattle.judged_rounds.proofs.Prelude.{◌∙◌, ◌≡◌, IsState, ap, arith, length, subst, sym, table_of, enabled_names, followed, log_after, start_after, AreOnBut, HasCounted}
use Rattle.judged_rounds.proofs.Sets.{members_on, put_back}
use Rattle.judged_rounds.proofs.count.JudgedRounds.follow.Goals as goal

pub returns-clause-counts : goal.returns-clause-counts
returns-clause-counts c start log s event ready to few =
    let rules = c.args.self.now.rules in
    let t = table_of rules in
    let reply = c.args.reply.now in
    let now = c.args.judge.now in
    let good' : IsState (followed s event reply) = subst IsState to c.net.ensures.sound in
    let witnesses = c.args.self.now.witnesses.items in
    let before : AreOnBut t now c.args.self.now.enabled c.args.self.now.due witnesses = subst (λ u. AreOnBut t u c.args.self.now.enabled c.args.self.now.due witnesses) (sym to) (ready.on good') in
    let same : witnesses ≡ c.deref_mut.result.now = sym c.deref_mut.ensures.value in
    let on = c.look_again.ensures.on (subst (AreOnBut t now c.args.self.now.enabled c.args.self.now.due) same before) in
    let is = members_on t now c.look_again.new.enabled c.look_again.new.due c.look_again.new.witnesses c.look_again.ensures.none on ∙ ap (λ u. enabled_names t u) to in
    let kept = put_back c.args.self.now.witnesses.len c.look_again.new.witnesses witnesses (omega (arith, c.look_again.ensures.witness_places, c.deref_mut.ensures.len, ap length c.deref_mut.ensures.value)) in
    record {
      sound = c.net.ensures.sound;
      on = subst (AreOnBut t now c.look_again.new.enabled c.look_again.new.due) (sym kept) on;
      none_due = c.look_again.ensures.none;
      counted = subst (λ u. HasCounted t (start_after start reply u) (log_after log event reply) u c.follow.new.self) (sym to)
          (c.follow.ensures.counted t start log s event is (λ step. (ready.ready step, few)) (λ step. c.look_again.ensures.noted c.args.self.now.counter.pending (ready.noted step)) ready.counted);
    }
