use Rattle.net_state.proofs.Prelude.{subst, IsChange}
use Rattle.net_state.proofs.EdgeCounts.{counts_linked, counts_unlinked, open_number}
use Rattle.net_state.proofs.open_edges.OpenEdges.follow.Goals as goal

pub returns-in-Linked-clause-counts : goal.returns-in-Linked-clause-counts
returns-in-Linked-clause-counts c =
    let it = c.args.self.now in
    let a = c.in-Linked.a in
    let b = c.in-Linked.b in
    let one = open_number it.stances.items c.deref.result.now a b c.from.result c.are_open.result c.from.ensures c.are_open.ensures c.deref.ensures.value in
    counts_linked c.requires.0 c.args._net.now a b c.from.result it (subst (λ change. IsChange c.requires.0 change c.args._net.now) c.in-Linked.is c.requires.1.0) c.requires.1.1 one

pub overflow_sub-self : goal.overflow_sub-self
overflow_sub-self c =
    let it = c.args.self.now in
    let a = c.in-Unlinked.a in
    let b = c.in-Unlinked.b in
    let one = open_number it.stances.items c.deref-in-Unlinked.result.now a b c.from-in-Unlinked.result c.are_open-in-Unlinked.result c.from-in-Unlinked.ensures c.are_open-in-Unlinked.ensures c.deref-in-Unlinked.ensures.value in
    (counts_unlinked c.requires.0 c.args._net.now a b c.from-in-Unlinked.result it (subst (λ change. IsChange c.requires.0 change c.args._net.now) c.in-Unlinked.is c.requires.1.0) c.requires.1.1 one).0

pub returns-in-Unlinked-clause-counts : goal.returns-in-Unlinked-clause-counts
returns-in-Unlinked-clause-counts c =
    let it = c.args.self.now in
    let a = c.in-Unlinked.a in
    let b = c.in-Unlinked.b in
    let one = open_number it.stances.items c.deref-in-Unlinked.result.now a b c.from-in-Unlinked.result c.are_open-in-Unlinked.result c.from-in-Unlinked.ensures c.are_open-in-Unlinked.ensures c.deref-in-Unlinked.ensures.value in
    (counts_unlinked c.requires.0 c.args._net.now a b c.from-in-Unlinked.result it (subst (λ change. IsChange c.requires.0 change c.args._net.now) c.in-Unlinked.is c.requires.1.0) c.requires.1.1 one).1
