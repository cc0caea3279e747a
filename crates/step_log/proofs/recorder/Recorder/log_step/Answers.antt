use Rattle.step_log.proofs.Prelude.{◌<◌, ◌∙◌, ap, subst, arith, Step, Answers, Moment, Recording, entered}
use Rattle.step_log.proofs.RecordedEvents.{entered_is, entered_is_recording, reply_answers}
use Rattle.step_log.proofs.recorder.Recorder.log_step.Goals as goal

pub invariant_of-self-2 : goal.invariant_of-self-2
invariant_of-self-2 g c =
    let laws = g.R.Rules.laws in
    let inside = c.self.inside in
    let after : Moment = record { state = c.apply_step.new.self.state; spent = c.apply_step.new.self.spent } in
    let below : inside.len < inside.limit = grind arith in
    entered_is_recording g.R.Rules.table laws.table _ c.self.invariant below (Step c.args.choice.now) after _ c.in_ok-reply.ensures.state

pub returns-clause-recording : goal.returns-clause-recording
returns-clause-recording g c =
    let t = g.R.Rules.table in
    let inside = c.self.inside in
    let event = Step c.args.choice.now in
    let after : Moment = record { state = c.apply_step.new.self.state; spent = c.apply_step.new.self.spent } in
    let was : Recording = record { state = inside.net.state; spent = inside.net.spent; len = inside.len; limit = inside.limit; present = inside.present; counting = inside.net.counting } in
    entered_is t was event after c.in_ok-reply.reply c.apply_step.new.self.counting c.in_ok-reply.ensures.state c.in_ok-reply.ensures.reply c.in_ok-reply.ensures.counting
    ∙ ap (λ (r : Recording). entered t r event) c.self.view_is

pub returns-clause-machine : goal.returns-clause-machine
returns-clause-machine g c =
    let laws = g.R.Rules.laws in
    let inside = c.self.inside in
    let before : Moment = record { state = inside.net.state; spent = inside.net.spent } in
    let after : Moment = record { state = c.apply_step.new.self.state; spent = c.apply_step.new.self.spent } in
    subst (λ (r : Recording). Answers g.R.Rules.table r.state r.spent (Step c.args.choice.now) c.in_ok-reply.reply c.apply_step.new.self.state) c.self.view_is
    (reply_answers g.R.Rules.table laws.table before after c.self.invariant.is_state (Step c.args.choice.now) c.in_ok-reply.reply c.in_ok-reply.ensures.reply c.in_ok-reply.ensures.state)
