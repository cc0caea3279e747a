use Rattle.snapshots.proofs.Prelude.{◌≡◌, None, here_at_start}
use Rattle.snapshots.proofs.register_copy.here_at_start.Given as goal

abbrev pub invariant-loop-place : goal.invariant-loop-place
invariant-loop-place l = l.here.items ≡ here_at_start (record { places = l.place; present = l.fn.present; base = None })
