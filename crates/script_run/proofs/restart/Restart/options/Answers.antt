use Rattle.std.proofs.Common.{arith}
use Rattle.std.proofs.lemmas.List.FromFn.{length-range_with_len}
use Rattle.std.proofs.lemmas.List.Sums.{length-filter, count_by-le-length}
use Rattle.std.specs.List.{range_with_len}
use Rattle.rule_machine.specs.Network.{present}
use Rattle.script_run.proofs.restart.Restart.options.Goals as goal

pub invariant_of-result-clause-within : goal.invariant_of-result-clause-within
invariant_of-result-clause-within c =
    let net = c.args.self.now.net.state.network in
    let all = range_with_len 1 net.size in
    omega (arith, c.nodes.ensures.count, c.capacity.ensures.size, length-filter (present net) all, count_by-le-length (present net) all, length-range_with_len 1 net.size)
