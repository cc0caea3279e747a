use Rattle.std.proofs.Common.{◌≡◌, filter, not, take}
use Rattle.rudekpi_c.specs.ReachCalls.{rests_at}
use Rattle.rudekpi_c.proofs.session.Session.restless.Given as goal

abbrev pub invariant-loop-v : goal.invariant-loop-v
invariant-loop-v l = l.list.items ≡ filter (λ v. not (rests_at l.self v)) (take l.v-index l.all)
