use Rattle.entry_grammar.proofs.Prelude.{◌∙◌, append-nil, arith, nothing_ends, []}
use Rattle.entry_grammar.proofs.TokensOnce.{pair_rest}
use Rattle.entry_grammar.proofs.tokens.read_ends.Goals as goal

pub returns-then-not-is_empty : goal.returns-then-not-is_empty
returns-then-not-is_empty c p f e =
    let same = pair_rest c.args.mark c.args.bytes.now c.in-Some.pair p c.in-Some.rest.now [] c.requires c.in-Some.ensures (record { fits = f; ends = nothing_ends; is = e ∙ simp append-nil }) in
    absurd (grind arith)
