use Rattle.entry_grammar.proofs.Free.{free_no_cut, cut_once}
use Rattle.entry_grammar.proofs.CountsOnce.{field_cut}
use Rattle.entry_grammar.proofs.counts.read_next.Goals as goal

pub returns-in_err-field : goal.returns-in_err-field
returns-in_err-field c = rw c.from_residual.ensures (λ n rest h. free_no_cut c.in_err-field.ensures (field_cut c.requires h))

pub returns-in_err-number : goal.returns-in_err-number
returns-in_err-number c = rw c.from_residual-in_err-number.ensures (λ n rest h. c.in_err-number.ensures n h.fits (cut_once c.in_ok-field.ensures (field_cut c.requires h)).0)
