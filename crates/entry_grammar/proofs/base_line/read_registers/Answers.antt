use Rattle.entry_grammar.proofs.Free.{free_no_cut, cut_once}
use Rattle.entry_grammar.proofs.BaseLines.{registers_cut}
use Rattle.entry_grammar.proofs.base_line.read_registers.Goals as goal

pub returns-in_err-pointer : goal.returns-in_err-pointer
returns-in_err-pointer c = rw c.from_residual.ensures (λ target flag f e. free_no_cut c.in_err-pointer.ensures (registers_cut target flag f e))

pub returns-in_err-target : goal.returns-in_err-target
returns-in_err-target c = rw c.from_residual-in_err-target.ensures (λ target flag f e. c.in_err-target.ensures target f (cut_once c.in_ok-pointer.ensures (registers_cut target flag f e)).0)

pub returns-in_err-flag : goal.returns-in_err-flag
returns-in_err-flag c = rw c.from_residual-in_err-flag.ensures (λ target flag f e. c.in_err-flag.ensures flag tt (cut_once c.in_ok-pointer.ensures (registers_cut target flag f e)).1)
