use Rattle.step_log.proofs.Prelude.{ℕ, ap, ap₂, ◌∙◌, Reply, reply_of, fits, JournalView, RetainedLog}
use Rattle.step_log.proofs.LogGrowth.{next_fits}
use Rattle.step_log.proofs.journal.Journal.prepare.Goals as goal

pub new-requires : goal.new-requires
new-requires g c =
    let laws = g.R.Rules.laws in
    ap (fits c.args.event) c.in_ok-reply.ensures.reply ∙ next_fits g.R.Rules.table g.R.Rules.NODE_WEIGHT laws.table _ c.self.invariant.journal.is_kept c.args.event

pub returns-clause-receipt : goal.returns-clause-receipt
returns-clause-receipt g c =
    let t = g.R.Rules.table in
    let event = c.args.event in
    let replies = c.in_ok-reply.ensures.reply
    ∙ ap (λ (held : JournalView). reply_of t held.state held.spent event) c.self.view_is
    ∙ ap (λ (kept : RetainedLog). reply_of t kept.state kept.spent event) c.make_room.ensures.kept in
    c.in_ok-new.ensures
    ∙ ap₂ (λ (n : ℕ) (reply : Reply). record { seq = n; event = event; reply = reply }) c.in_ok-seq.ensures.number replies
