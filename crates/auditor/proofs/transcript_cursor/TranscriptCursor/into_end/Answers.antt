use Rattle.auditor.proofs.Prelude.{◌≤◌, ◌∙◌, ◌+◌, ◌*◌, refl, ap, arith, ∥∥₁_elim, props, State, edge_count, node_count}
use Rattle.auditor.proofs.Spent.{reached_within}
use Rattle.auditor.proofs.TranscriptEnds.{end_is, goes_on}
use Rattle.auditor.proofs.transcript_cursor.TranscriptCursor.into_end.Goals as goal

pub overflow_cast-result : goal.overflow_cast-result
overflow_cast-result c =
    let net = c.args.self.audit.state.network in
    let bounded : c.args.self.audit.spent ≤ 2 * edge_count net + 3 * node_count net = ∥∥₁_elim c.requires (search props) (λ at. reached_within at.bytes _ _ _ _ at.at.reached) in
    let same = c.into_net-net.ensures ∙ c.into_judge.ensures in
    let edges = c.edges.ensures.count ∙ ap (λ (s : State). edge_count s.network) same in
    let nodes = c.nodes.ensures.count ∙ ap (λ (s : State). node_count s.network) same in
    omega (arith, bounded, c.spent-spent.ensures.spent, edges, nodes, c.nodes.ensures.few, c.edges.ensures.few)

pub returns-clause-ended : goal.returns-clause-ended
returns-clause-ended c bytes at =
    end_is bytes c.args.self _ refl
    (λ i. record { moment = record { state = (c.into_net-net.ensures ∙ c.into_judge.ensures) i; spent = c.spent-spent.ensures.spent i }; count = c.number-number.ensures i })
    c.counted-summary.ensures.counted at

pub returns-clause-goes_on : goal.returns-clause-goes_on
returns-clause-goes_on c = record {
  within = ∥∥₁_elim c.requires (search props) (λ at. (goes_on _ _ (returns-clause-ended c at.bytes at.at)).within);
  unflagged = λ off v. ∥∥₁_elim c.requires (search props) (λ at. (goes_on _ _ (returns-clause-ended c at.bytes at.at)).unflagged off v);
  few = ∥∥₁_elim c.requires (search props) (λ at. (goes_on _ _ (returns-clause-ended c at.bytes at.at)).few);
}
