use Rattle.entry_grammar.proofs.Headers.{header_found, header_parts, header_words}
use Rattle.entry_grammar.proofs.Free.{free_no_cut}
use Rattle.entry_grammar.proofs.header.find_header.Goals as goal

pub returns-in_err-word : goal.returns-in_err-word
returns-in_err-word c = rw c.from_residual-in_err-word.ensures (λ header h.
    free_no_cut c.in_err-word.ensures (header_words c.args.line.now c.in_ok-words.words.now header c.in_ok-words.ensures h))

pub returns-in_err-rules : goal.returns-in_err-rules
returns-in_err-rules c = rw c.from_residual-in_err-rules.ensures (λ header h.
    let p = header_parts c.args.line.now c.in_ok-words.words.now c.in_ok-word.word.now c.in_ok-word.sizes.now header c.in_ok-words.ensures c.in_ok-word.ensures h in
    c.in_err-rules.ensures header.rules tt p.0)

pub returns : goal.returns
returns c =
    header_found c.args.line.now c.in_ok-words.words.now c.in_ok-word.word.now c.in_ok-word.sizes.now c.in_ok-rules.rules _ c.in_ok-words.ensures c.in_ok-word.ensures c.in_ok-rules.ensures.1 c.read_sizes.ensures
