use Rattle.suitor_index.proofs.Prelude.{◌≡◌, ℕ, Bool, find, take, reverse, ◌&&◌, nat_lt, pointer_of, flag_of}
use Rattle.suitor_index.proofs.scan.last_open_above.Given as goal

-- nothing was found after the index
abbrev pub invariant-loop-place : goal.invariant-loop-place
invariant-loop-place g l =
    let test : ℕ → Bool = λ w. g.R.Rules.table.opens (pointer_of l.net.state.registers w) (flag_of l.net.state.registers w) && nat_lt l.v w in
    find test (reverse (take l.place l.nodes)) ≡ find test (reverse l.nodes)
