use Rattle.entry_grammar.proofs.Free.{free_no_cut, cut_once}
use Rattle.entry_grammar.proofs.BaseLines.{rules_cut}
use Rattle.entry_grammar.proofs.base_line.read_head.Goals as goal

pub returns-in_err-word : goal.returns-in_err-word
returns-in_err-word c = rw c.from_residual.ensures (λ rules size f e. free_no_cut c.in_err-word.ensures (rules_cut rules size e))

pub returns-in_err-rules : goal.returns-in_err-rules
returns-in_err-rules c = rw c.from_residual-in_err-rules.ensures (λ rules size f e. c.in_err-rules.ensures rules tt (cut_once c.in_ok-word.ensures (rules_cut rules size e)).0)

pub returns-in_err-size : goal.returns-in_err-size
returns-in_err-size c = rw c.from_residual-in_err-size.ensures (λ rules size f e. c.in_err-size.ensures size f (cut_once c.in_ok-word.ensures (rules_cut rules size e)).1)
