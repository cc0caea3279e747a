use Rattle.script_text.proofs.Prelude.{[], ◌∷◌, ◌+◌, append_assoc, ◌∙◌, arith, take_rest, number_text}
use Rattle.script_text.proofs.Once.{turns_cut}
use Rattle.script_text.proofs.read.read_turns.Goals as goal

pub returns-in_default-read_number : goal.returns-in_default-read_number
returns-in_default-read_number c turns few e =
    let first = c.in-Some.ensures in
    let cut = turns_cut c.args.bytes.now turns.seed turns.count c.in-Some.at (omega (arith, few.0)) (e ∙ append_assoc (number_text turns.seed) (32 ∷ []) (number_text turns.count)) (λ j below. first.0.before j (omega arith) below) first.1 in
    c.in_default-read_number.ensures turns.seed few.0 cut.0

pub returns-in_default-read_number-2 : goal.returns-in_default-read_number-2
returns-in_default-read_number-2 c turns few e =
    let first = c.in-Some.ensures in
    let cut = turns_cut c.args.bytes.now turns.seed turns.count c.in-Some.at (omega (arith, few.0)) (e ∙ append_assoc (number_text turns.seed) (32 ∷ []) (number_text turns.count)) (λ j below. first.0.before j (omega arith) below) first.1 in
    c.in_default-read_number-2.ensures turns.count (omega (arith, few.1, c.from.ensures)) (take_rest c.args.bytes.now (c.in-Some.at + 1) ∙ cut.1)
