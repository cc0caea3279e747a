use Rattle.net_state.proofs.Prelude.{◌∙◌, refl, sym, ap, present}
use Rattle.std.specs.FinMap as finmap
use Rattle.net_state.proofs.NetworkBuilding.{nobody_there, names_of, names_same, nothing_listed}
use Rattle.net_state.proofs.net.NetState.from_lines.Goals as goal

pub join_all-requires-clause-empty : goal.join_all-requires-clause-empty
join_all-requires-clause-empty c = λ v. ap (λ s. present s.network v) c.in-Ok.ensures.ok ∙ nobody_there c.args.size v

pub link_all-requires-clause-bare : goal.link_all-requires-clause-bare
link_all-requires-clause-bare c = ap finmap.keys (c.join_all.ensures.edges ∙ ap (λ s. s.network.edges) c.in-Ok.ensures.ok) ∙ nothing_listed

pub returns-then-not-branch-clause-none : goal.returns-then-not-branch-clause-none
returns-then-not-branch-clause-none c = λ none s good lines.
    c.in_ok-link_all.ensures.stranger c.if-not-branch.true s good (names_of s c.args.nodes.now lines.nodes_are ∙ sym (c.if-not-join_all.ensures.joined refl)) lines.edges_are

pub returns-then-not-write_all-clause-none : goal.returns-then-not-write_all-clause-none
returns-then-not-write_all-clause-none c = λ none s good lines.
    c.write_all.ensures.stranger c.if-not-write_all.true s good
    (names_of s c.args.nodes.now lines.nodes_are ∙ sym (c.if-not-join_all.ensures.joined refl) ∙ sym (names_same c.link_all.new.net.state.network c.join_all.new.net.state.network c.link_all.ensures.size c.link_all.ensures.here))
    (lines.edges_are ∙ sym (c.in_ok-link_all.ensures.linked c.if-not-branch.false))
    lines.nodes_are
