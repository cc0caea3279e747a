use Rattle.entry_grammar.proofs.Prelude.{◌∷◌, ◌++◌, arith, codes, number_once}
use Rattle.entry_grammar.proofs.Free.{cut_once, free_no_cut}
use Rattle.entry_grammar.proofs.Entries.{parts_number, parts_behind, parts_made}
use Rattle.entry_grammar.proofs.entry.parts.Goals as goal

pub returns-in_err-number : goal.returns-in_err-number
returns-in_err-number c = rw c.from_residual.ensures (λ n e r f p.
    c.in_err-number.ensures n (32 ∷ (e ++ codes " = " ++ r)) (parts_number c.args.line.now n e r f p))

pub returns-in_err-rest : goal.returns-in_err-rest
returns-in_err-rest c = rw c.from_residual-in_err-rest.ensures (λ n e r f p.
    let same = number_once c.args.line.now c.in_ok-number.number n c.in_ok-number.numbered.now (32 ∷ (e ++ codes " = " ++ r)) c.in_ok-number.ensures (parts_number c.args.line.now n e r f p) in
    c.in_err-rest.ensures (e ++ codes " = " ++ r) (grind (arith, same.1)))

pub returns-in_err-asked : goal.returns-in_err-asked
returns-in_err-asked c = rw c.from_residual-in_err-asked.ensures (λ n e r f p.
    free_no_cut c.in_err-asked.ensures (parts_behind n c.in_ok-number.ensures (grind arith) f p).1)

pub returns-in_err-event : goal.returns-in_err-event
returns-in_err-event c = rw c.from_residual-in_err-event.ensures (λ n e r f p.
    let q = cut_once c.in_ok-asked.ensures (parts_behind n c.in_ok-number.ensures (grind arith) f p).1 in
    c.in_err-event.ensures e (grind (arith, q.0)))

pub returns-in_err-reply : goal.returns-in_err-reply
returns-in_err-reply c = rw c.from_residual-in_err-reply.ensures (λ n e r f p.
    let q = cut_once c.in_ok-asked.ensures (parts_behind n c.in_ok-number.ensures (grind arith) f p).1 in
    c.in_err-reply.ensures r (grind (arith, q.1)))

pub returns : goal.returns
returns c = (c.in_ok-number.ensures.fits, parts_made c.in_ok-event.event.now c.in_ok-reply.reply.now c.in_ok-number.ensures (grind arith) c.in_ok-asked.ensures (grind arith) (grind arith))
