use Rattle.locked_net.proofs.Prelude.{◌≡◌, ◌∙◌, ap}
use Rattle.std.proofs.lemmas.Result.{IfOk-weaker}
use Rattle.rule_machine.specs.Network.{Network}
use Rattle.rule_machine.specs.State.{State}
use Rattle.keyed_lock.specs.Locks.{key_of}
use Rattle.locked_net.specs.Nets.{beginning_of, first_nodes_of, log_limit_of, name_count_of}
use Rattle.locked_net.specs.declared.net_key.NetKey.{NetKey}
use Rattle.locked_net.proofs.sharing.share.Goals as goal

pub returns : goal.returns
returns g c =
    let names : c.capacity-nodes.result ≡ c.args.journal.state.network.size = c.capacity-nodes.ensures.size ∙ ap (λ (n : Network). n.size) (c.store.ensures.network ∙ ap (λ (s : State). s.network) c.net.ensures.state) in
    let key : NetKey = record { nodes = c.capacity-nodes.result; present = c.args.present; limit = c.limit-limit.result; beginning = c.args.beginning; opening = c.note-opening.result } in
    IfOk-weaker c.lock.result (λ net. key_of net.lock ≡ key)
    (λ net. (name_count_of net ≡ c.args.journal.state.network.size) × (first_nodes_of net ≡ c.args.present) × (log_limit_of net ≡ c.args.journal.limit) × (beginning_of net ≡ c.args.beginning))
    (λ net e. (ap (λ (k : NetKey). k.nodes) e ∙ names, ap (λ (k : NetKey). k.present) e, ap (λ (k : NetKey). k.limit) e ∙ c.limit-limit.ensures, ap (λ (k : NetKey). k.beginning) e)) c.lock.ensures
