use Rattle.locked_net.proofs.Prelude.{◌≡◌, ◌+◌, ◌∙◌, ℕ, [], ap, sym, subst, Option, Base, BoardShape, IsRun, kept_of, log_over}
use Rattle.rule_machine.specs.Network.{Network}
use Rattle.rule_machine.specs.State.{State}
use Rattle.locked_net.proofs.JournalPublication.{begun_published, kept_is_whole, none_is_run}
use Rattle.locked_net.proofs.CountedLogs.{counted_before}
use Rattle.locked_net.proofs.published_journal.PublishedJournal.begin.Goals as goal

abbrev shape : ℕ → ℕ → Option Base → BoardShape
shape size present base = record { places = size + 1; present = present; base = base }

same_shape : (g : _) (c : goal.After-capacity g) → shape c.args.journal.state.network.size c.args.journal.present c.args.journal.base ≡ shape c.capacity.result c.args.present c.args.base.now
same_shape g c =
    let names : c.capacity.result ≡ c.args.journal.state.network.size = c.capacity.ensures.size ∙ ap (λ (n : Network). n.size) (c.store.ensures.network ∙ ap (λ (s : State). s.network) c.net.ensures.state) in
    ap (λ n. shape n c.args.journal.present c.args.journal.base) (sym names)
    ∙ ap (λ n. shape c.capacity.result n c.args.journal.base) c.requires.present
    ∙ ap (shape c.capacity.result c.args.present) c.requires.base

pub board_at-requires-clause-law : goal.board_at-requires-clause-law
board_at-requires-clause-law g c =
    subst (λ e. IsRun g.R.Rules.table e []) (same_shape g c) (none_is_run g.R.Rules.table (kept_of c.args.journal) (kept_is_whole g.R.Rules.table g.R.Rules.NODE_WEIGHT (kept_of c.args.journal) c.net.ensures.run) c.requires.none)

pub invariant_of-result : goal.invariant_of-result
invariant_of-result g c =
    let blank = c.in_ok-board.ensures in
    (begun_published g.R.Rules.table (kept_of c.args.journal) c.in_ok-board.board (kept_is_whole g.R.Rules.table g.R.Rules.NODE_WEIGHT (kept_of c.args.journal) c.net.ensures.run) c.requires.none (blank.0, blank.1, blank.2 ∙ sym (same_shape g c.before.before.before)), counted_before g.R.Rules.table (log_over (kept_of c.args.journal) c.in_ok-board.board) c.args.journal.counting blank.0)
