use Rattle.round_counter.proofs.Prelude.{◌∙◌, arith, true, eqb-true, length, members, refl, subst, sym}
use Rattle.round_counter.proofs.Counting.{begins_anew, counted_next, follows_last, follows_more, some_in, unchanged}
use Rattle.round_counter.proofs.Serving.{LeavesPending}
use Rattle.round_counter.proofs.counter.RoundCounter.follow.Goals as goal

pub returns-then-is_empty-clause-count : goal.returns-then-is_empty-clause-count
returns-then-is_empty-clause-count c t s event is may noted = (
    follows_last c.args.enabled.now c.args.removals.now c.args.reply.now c.in-Moves.moves c.args.self.now
    (record { rounds = c.saturating_add-self.result; is_new = true; pending = c.serve_all.new.pending }) c.in-Moves.is
    (subst (λ moves. LeavesPending c.args.enabled.now c.args.removals.now moves c.args.self.now.pending c.serve_all.new.pending) c.as_slice.ensures (record { stay = c.serve_all.ensures.stay; left = c.serve_all.ensures.left; off = c.serve_all.ensures.off }))
    (eqb-true (length (members c.serve_all.new.pending)) 0 (sym c.is_empty.ensures ∙ c.if-is_empty.true)) c.saturating_add-self.ensures refl t s event is may noted).0

pub returns-then-is_empty-clause-counted : goal.returns-then-is_empty-clause-counted
returns-then-is_empty-clause-counted c t start log s event is may noted it =
    counted_next t start log s event c.args.reply.now c.args.self.now _ (
    follows_last c.args.enabled.now c.args.removals.now c.args.reply.now c.in-Moves.moves c.args.self.now
    (record { rounds = c.saturating_add-self.result; is_new = true; pending = c.serve_all.new.pending }) c.in-Moves.is
    (subst (λ moves. LeavesPending c.args.enabled.now c.args.removals.now moves c.args.self.now.pending c.serve_all.new.pending) c.as_slice.ensures (record { stay = c.serve_all.ensures.stay; left = c.serve_all.ensures.left; off = c.serve_all.ensures.off }))
    (eqb-true (length (members c.serve_all.new.pending)) 0 (sym c.is_empty.ensures ∙ c.if-is_empty.true)) c.saturating_add-self.ensures refl t s event is may noted) it

pub returns-else-is_empty : goal.returns-else-is_empty
returns-else-is_empty c =
    let next = follows_more c.args.enabled.now c.args.removals.now c.args.reply.now c.in-Moves.moves c.args.self.now
    (record { rounds = c.args.self.now.rounds; is_new = c.args.self.now.is_new; pending = c.serve_all.new.pending }) c.in-Moves.is
    (subst (λ moves. LeavesPending c.args.enabled.now c.args.removals.now moves c.args.self.now.pending c.serve_all.new.pending) c.as_slice.ensures (record { stay = c.serve_all.ensures.stay; left = c.serve_all.ensures.left; off = c.serve_all.ensures.off }))
    (some_in (length (members c.serve_all.new.pending)) (sym c.is_empty.ensures ∙ c.if-is_empty.false)) refl refl in
    record {
      few = omega arith;
      count = λ t s event is may noted. (next t s event is may noted).0;
      counted = λ t start log s event is may noted it. counted_next t start log s event c.args.reply.now c.args.self.now _ (next t s event is may noted) it;
    }

pub returns-in-Accepted : goal.returns-in-Accepted
returns-in-Accepted c = record {
  few = omega arith;
  count = λ t s event is may noted. (begins_anew t s event c.args.reply.now c.args.self.now (record { rounds = 0; is_new = true; pending = c.args.self.now.pending }) c.in-Accepted.is refl refl).0;
  counted = λ t start log s event is may noted it.
      counted_next t start log s event c.args.reply.now c.args.self.now _ (
      begins_anew t s event c.args.reply.now c.args.self.now (record { rounds = 0; is_new = true; pending = c.args.self.now.pending }) c.in-Accepted.is refl refl) it;
}

pub returns-in_default-clause-counted : goal.returns-in_default-clause-counted
returns-in_default-clause-counted c t start log s event is may noted it =
    counted_next t start log s event c.args.reply.now c.args.self.now _ (
    unchanged t s event c.args.reply.now c.args.self.now c.in_default.not-Moves c.in_default.not-Accepted it.enabled) it
