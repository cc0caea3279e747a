use Rattle.net_state.proofs.Prelude.{◌∙◌, ap, subst, IsState, lowered_leaves, without_place}
use Rattle.net_state.proofs.disturb.leave.Goals as goal

pub returns-clause-value : goal.returns-clause-value
returns-clause-value g c =
    c.remove_node.ensures.value ∙ ap (λ u. without_place u c.args.v) c.set_flag.ensures.value
    ∙ lowered_leaves c.unlink_all.new.net.state c.args.v (subst IsState c.set_flag.ensures.value c.set_flag.ensures.sound) c.unlink_all.ensures.alone
    ∙ c.unlink_all.ensures.left
