use Rattle.step_log.proofs.Prelude.{◌≡◌, ◌<◌, ◌+◌, ◌∙◌, ◌++◌, ap, subst, arith, Reply, reply_of, Moment, moment_after, entry_line, Recording, entered, next_counting}
use Rattle.step_log.proofs.RecordedEvents.{entered_is, entered_is_recording}
use Rattle.step_log.proofs.recorder.Recorder.log_entry.Goals as goal

pub invariant_of-self-2 : goal.invariant_of-self-2
invariant_of-self-2 g c =
    let laws = g.R.Rules.laws in
    let t = g.R.Rules.table in
    let inside = c.self.inside in
    let event = c.args.event.now in
    let after : Moment = record { state = c.commit.new.self.state; spent = c.commit.new.self.spent } in
    let below : inside.len < inside.limit = grind arith in
    entered_is_recording t laws.table _ c.self.invariant below event after _ (c.commit.ensures.state ∙ ap (λ (m : Moment). moment_after t m event) c.in_ok-prepare_into.ensures.kept)

pub returns-clause-recording : goal.returns-clause-recording
returns-clause-recording g c =
    let t = g.R.Rules.table in
    let inside = c.self.inside in
    let event = c.args.event.now in
    let reply = c.prepare_into.new.reply in
    let after : Moment = record { state = c.commit.new.self.state; spent = c.commit.new.self.spent } in
    let was : Recording = record { state = inside.net.state; spent = inside.net.spent; len = inside.len; limit = inside.limit; present = inside.present; counting = inside.net.counting } in
    let to = c.commit.ensures.state ∙ ap (λ (m : Moment). moment_after t m event) c.in_ok-prepare_into.ensures.kept in
    let counted = c.commit.ensures.counting ∙ ap (next_counting t reply after.state) c.in_ok-prepare_into.ensures.counting in
    entered_is t was event after reply c.commit.new.self.counting to c.in_ok-prepare_into.ensures.reply counted
    ∙ ap (λ (r : Recording). entered t r event) c.self.view_is

pub returns-clause-text : goal.returns-clause-text
returns-clause-text g c =
    let inside = c.self.inside in
    let t = g.R.Rules.table in
    let event = c.args.event.now in
    let text = c.args.text.now.items in
    subst (λ (r : Recording). c.put_text.new.out.items ≡ text ++ entry_line (r.len + 1) event (reply_of t r.state r.spent event)) c.self.view_is
    (c.in_ok-put_text.ensures.ok ∙ ap (λ (reply : Reply). text ++ entry_line (inside.len + 1) event reply) c.in_ok-prepare_into.ensures.reply)
