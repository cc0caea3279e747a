use Rattle.suitor_index.proofs.Prelude.{◌≡◌, ℕ, find, drop, pointer_of, flag_of}
use Rattle.suitor_index.proofs.scan.first_open.Given as goal

abbrev pub invariant-loop-w : goal.invariant-loop-w
invariant-loop-w g l =
    let test = λ (w : ℕ). g.R.Rules.table.opens (pointer_of l.net.state.registers w) (flag_of l.net.state.registers w) in
    find test (drop l.w-index l.nodes) ≡ find test l.nodes
