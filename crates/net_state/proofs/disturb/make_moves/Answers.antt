use Rattle.net_state.proofs.Prelude.{◌≡◌, ◌∙◌, List, fold, ap, Moved, State, IsState, after_moves, registers_after, flag_read, pointer_written, written_in_two}
use Rattle.net_state.proofs.disturb.make_moves.Goals as goal

-- the state with these registers
carried : (s u : State) → IsState s → (moves : List Moved) → u.network ≡ s.network → u.registers ≡ fold pointer_written (fold flag_read s.registers moves) moves → u ≡ after_moves s moves
carried s u good moves network wrote =
    let registers : u.registers ≡ registers_after s moves = wrote ∙ written_in_two s good moves in
    λ i. record { network = network i; registers = registers i }

pub returns-clause-value : goal.returns-clause-value
returns-clause-value g c =
    carried c.args.net.now.state c.write_pointers.new.net.state c.registers.ensures.sound c.args.moves.now (c.write_pointers.ensures.network ∙ c.write_flags.ensures.network)
    (c.write_pointers.ensures.registers ∙ ap (λ r. fold pointer_written r c.args.moves.now) c.write_flags.ensures.registers)
