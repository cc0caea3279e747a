use Rattle.rule_engine.proofs.Prelude.{◌≡◌, ◌∙◌, ap, sym, subst, arith, reply_of, charge_bound, IsWithinBudget, Moment, moment, NetView, next_counting, Answers}
use Rattle.rule_engine.proofs.Moments.{answer_keeps_marks, turn_answers, prepared_is_paid}
use Rattle.rule_engine.proofs.EnabledRefresh.{members_on}
use Rattle.rule_engine.proofs.LeaversNoted.{leavers_noted, none_left}
use Rattle.rule_engine.specs.PreparedEvents.{event_of}
use Rattle.rule_engine.proofs.net.Net.commit_to.Goals as goal

pub spent_after-self-inside-requires : goal.spent_after-self-inside-requires
spent_after-self-inside-requires g c =
    let laws = g.R.Rules.laws in
    omega (arith, (prepared_is_paid g.R.Rules.table g.R.Rules.NODE_WEIGHT laws.table laws.charged laws.no_update _ _ c.self.view_is c.self.invariant.0.budget (event_of c.args.cause) c.args.reply.now c.requires c.carry_out.new.net.state c.carry_out.ensures.state).within, ap (charge_bound g.R.Rules.NODE_WEIGHT) c.store.ensures.network)

pub invariant_of-self : goal.invariant_of-self
invariant_of-self g c =
    let laws = g.R.Rules.laws in
    let t = g.R.Rules.table in
    let inside = c.self.inside in
    let event = event_of c.args.cause in
    let reply = c.args.reply.now in
    let before : Moment = moment inside.net.state inside.spent in
    let told : reply ≡ reply_of t before.state before.spent event = subst (λ (n : NetView). reply ≡ reply_of t n.state n.spent event) (sym c.self.view_is) c.requires.reply_is in
    let was = c.begin.ensures.counts t before (members_on t _ _ c.self.invariant.1.0.enabled) c.self.invariant.0.counts in
    let noted = leavers_noted reply _ _ _ _ _ c.carry_out.ensures.noted (none_left t before reply _ _ _ c.self.invariant.1.0.enabled was c.begin.ensures.ready) in
    let answers = turn_answers t laws.table before c.self.invariant.0.budget.is_state event reply c.carry_out.new.net.state told c.carry_out.ensures.state in (
      record {
        budget = subst (λ n. IsWithinBudget t g.R.Rules.NODE_WEIGHT (moment c.carry_out.new.net.state n)) (sym c.spent_after-self-inside.ensures) (prepared_is_paid t g.R.Rules.NODE_WEIGHT laws.table laws.charged laws.no_update _ _ c.self.view_is c.self.invariant.0.budget event reply c.requires c.carry_out.new.net.state c.carry_out.ensures.state);
        counts = (c.follow.ensures before event c.carry_out.new.net.state (members_on t _ _ c.carry_out.ensures.fits.enabled) c.self.invariant.0.budget.is_state answers
            c.spent_after-self-inside.ensures c.begin.ensures.ready noted was).0;
      },
      (c.carry_out.ensures.fits, answer_keeps_marks t before event reply c.carry_out.new.net.state c.self.inside.chosen answers c.self.invariant.1.1),
    )

pub returns-clause-machine : goal.returns-clause-machine
returns-clause-machine g c =
    let laws = g.R.Rules.laws in
    let t = g.R.Rules.table in
    let event = event_of c.args.cause in
    let reply = c.args.reply.now in
    let told : reply ≡ reply_of t c.self.inside.net.state c.self.inside.spent event = subst (λ (n : NetView). reply ≡ reply_of t n.state n.spent event) (sym c.self.view_is) c.requires.reply_is in
    subst (λ (n : NetView). Answers t n.state n.spent event reply c.carry_out.new.net.state) c.self.view_is
    (turn_answers t laws.table (moment c.self.inside.net.state c.self.inside.spent) c.self.invariant.0.budget.is_state event reply c.carry_out.new.net.state told c.carry_out.ensures.state)

pub returns-clause-counting : goal.returns-clause-counting
returns-clause-counting g c =
    let laws = g.R.Rules.laws in
    let t = g.R.Rules.table in
    let inside = c.self.inside in
    let event = event_of c.args.cause in
    let reply = c.args.reply.now in
    let before : Moment = moment inside.net.state inside.spent in
    let told : reply ≡ reply_of t before.state before.spent event = subst (λ (n : NetView). reply ≡ reply_of t n.state n.spent event) (sym c.self.view_is) c.requires.reply_is in
    let was = c.begin.ensures.counts t before (members_on t _ _ c.self.invariant.1.0.enabled) c.self.invariant.0.counts in
    let noted = leavers_noted reply _ _ _ _ _ c.carry_out.ensures.noted (none_left t before reply _ _ _ c.self.invariant.1.0.enabled was c.begin.ensures.ready) in
    (c.follow.ensures before event c.carry_out.new.net.state (members_on t _ _ c.carry_out.ensures.fits.enabled) c.self.invariant.0.budget.is_state
    (turn_answers t laws.table before c.self.invariant.0.budget.is_state event reply c.carry_out.new.net.state told c.carry_out.ensures.state)
    c.spent_after-self-inside.ensures c.begin.ensures.ready noted was).1
    ∙ ap (next_counting t reply c.carry_out.new.net.state) (c.begin.ensures.same t before.state (members_on t _ _ c.self.invariant.1.0.enabled))
    ∙ ap (λ (n : NetView). next_counting t reply c.carry_out.new.net.state n.counting) c.self.view_is
