use Rattle.rule_engine.proofs.Prelude.{◌≤◌, length, subst, arith}
use Rattle.rule_engine.proofs.NetworkStarts.{names_out_of_order, edges_out_of_order}
use Rattle.rule_engine.proofs.from_base.state_of.Goals as goal

pub returns-then-not-names_rise-clause-fault : goal.returns-then-not-names_rise-clause-fault
returns-then-not-names_rise-clause-fault g c = (
  record { names = omega arith; edges = subst (λ edges. length edges ≤ 1048576) c.as_slice-edges.ensures c.if-edges.false },
  names_out_of_order c.args.size c.args.base.now c.as_slice-nodes.result.now c.names_rise.result c.as_slice-nodes.ensures c.names_rise.ensures c.if-not-names_rise.true,
)

pub returns-then-not-edges_ascend-clause-fault : goal.returns-then-not-edges_ascend-clause-fault
returns-then-not-edges_ascend-clause-fault g c = (
  record { names = omega arith; edges = subst (λ edges. length edges ≤ 1048576) c.as_slice-edges.ensures c.if-edges.false },
  edges_out_of_order c.args.size c.args.base.now c.as_slice-edges.result.now c.edges_ascend.result c.as_slice-edges.ensures c.edges_ascend.ensures c.if-not-edges_ascend.true,
)
