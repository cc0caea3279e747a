use Rattle.enabled_set.proofs.Prelude.{◌≡◌, ◌*◌, is_bit_on, below}
use Rattle.enabled_set.proofs.set.EnabledSet.to_list.Given as goal

abbrev pub invariant-loop-place : goal.invariant-loop-place
invariant-loop-place l = l.list.items ≡ below (is_bit_on l.self-inside.words.items) (64 * l.place)
