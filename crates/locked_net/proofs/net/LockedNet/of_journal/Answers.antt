use Rattle.locked_net.proofs.Prelude.{◌≡◌, ◌∙◌, ℕ, length, IfSome, sym, ap, subst, State, node_count, Base, kept_of}
use Rattle.locked_net.proofs.JournalPublication.{base_counts}
use Rattle.locked_net.proofs.net.LockedNet.of_journal.Goals as goal

pub share-requires-clause-counted : goal.share-requires-clause-counted
share-requires-clause-counted g c =
    let journal = c.args.journal in
    let base = c.in_ok-base.base in
    let here : c.nodes-present.result ≡ node_count journal.state.network =
    c.nodes-present.ensures.count ∙ ap node_count (c.store.ensures.network ∙ ap (λ (s : State). s.network) c.net.ensures.state) in
    subst (λ (n : ℕ). IfSome base (λ (b : Base). n ≡ length b.nodes)) (sym here)
    (base_counts g.R.Rules.table g.R.Rules.NODE_WEIGHT (kept_of journal) base c.net.ensures.run c.requires.none (sym c.in_ok-base.ensures))
