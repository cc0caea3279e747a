use Rattle.round_counter.proofs.Prelude.{◌≡◌, ℕ, ◌&&◌, not, take, list_any, nat_eq, is_in}
use Rattle.round_counter.proofs.pending.remove_movers.Given as goal

abbrev pub invariant-loop-moved : goal.invariant-loop-moved
invariant-loop-moved l = (u : ℕ) → is_in l.pending u ≡ (is_in l.fn.pending u && not (list_any (λ m. nat_eq m.node u) (take l.moved-index l.moves)))
