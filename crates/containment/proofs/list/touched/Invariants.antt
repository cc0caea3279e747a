use Rattle.containment.proofs.Prelude.{◌≡◌, ℕ, Bool, ◌+◌, filter, length, names, is_hit_or_parted}
use Rattle.containment.proofs.MergedLists.{Remains}
use Rattle.containment.proofs.list.touched.Given as goal

abbrev pub invariant-loop-v : goal.invariant-loop-v
invariant-loop-v l = (p q : ℕ → Bool) → l.fn.xs ≡ filter p (names l.net.state.network) → l.fn.ys ≡ filter q (names l.net.state.network)
    → Remains (names l.net.state.network) p q (is_hit_or_parted l.net.state l.event) l.first l.second l.list.items

abbrev pub decreases-loop-v : goal.decreases-loop-v
decreases-loop-v l = length l.first + length l.second
