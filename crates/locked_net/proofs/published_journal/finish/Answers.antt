use Rattle.locked_net.proofs.Prelude.{◌++◌, [], ap, ◌∙◌, BoardView, Receipt}
use Rattle.locked_net.proofs.JournalPublication.{is_run_posted, post_room, log_after, published_after}
use Rattle.locked_net.proofs.published_journal.finish.Goals as goal

pub post-requires-clause-room : goal.post-requires-clause-room
post-requires-clause-room g c = post_room g.R.Rules.table _ c.args.board.now c.requires.published c.requires.ready.below

pub publish-note-requires-clause-law : goal.publish-note-requires-clause-law
publish-note-requires-clause-law g c =
    let laws = g.R.Rules.laws in
    let t = g.R.Rules.table in
    let next = c.entry-entry.ensures ∙ ap (λ (r : Receipt). (c.args.prepared.event, r.reply)) c.requires.ready.next in
    is_run_posted t laws.table _ c.args.board.now c.post.new.self c.args.prepared.event c.entry-entry.result.now c.requires.published c.requires.ready.below next c.in_ok-post.ensures.posted

pub returns-clause-published : goal.returns-clause-published
returns-clause-published g c =
    let laws = g.R.Rules.laws in
    let t = g.R.Rules.table in
    let next = c.entry-entry.ensures ∙ ap (λ (r : Receipt). (c.args.prepared.event, r.reply)) c.requires.ready.next in
    let shown = c.publish-note.ensures.published ∙ ap (λ (b : BoardView). record b { list = b.list ++ b.posted; posted = [] }) c.in_ok-post.ensures.posted in
    published_after t laws.table _ _ c.args.board.now c.publish-note.new.self c.args.prepared.event c.entry-entry.result.now c.requires.published c.requires.ready.below next c.commit.ensures.log shown

pub returns-clause-log : goal.returns-clause-log
returns-clause-log g c =
    let next = c.entry-entry.ensures ∙ ap (λ (r : Receipt). (c.args.prepared.event, r.reply)) c.requires.ready.next in
    let shown = c.publish-note.ensures.published ∙ ap (λ (b : BoardView). record b { list = b.list ++ b.posted; posted = [] }) c.in_ok-post.ensures.posted in
    log_after g.R.Rules.table _ _ c.args.board.now c.publish-note.new.self c.args.prepared.event c.entry-entry.result.now next c.commit.ensures.log shown
