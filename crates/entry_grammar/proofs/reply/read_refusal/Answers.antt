use Rattle.entry_grammar.proofs.Prelude.{rules, ◌≡◌, sym, ap, ◌∙◌, arith, common_steps, refusal_number, refusal_text}
use Rattle.entry_grammar.proofs.Free.{cut_once, free_no_cut}
use Rattle.entry_grammar.proofs.RefusalsOnce.{refusal_cut, refusal_small, refusal_once, number_same, refusal_read}
use Rattle.entry_grammar.proofs.reply.read_refusal.Goals as goal

pub returns-in_err-digits : goal.returns-in_err-digits
returns-in_err-digits c = rw c.from_residual.ensures (λ r u e. free_no_cut c.in_err-digits.ensures (refusal_cut r e))

pub returns-in_err-number : goal.returns-in_err-number
returns-in_err-number c = rw c.from_residual-in_err-number.ensures (λ r u e. c.in_err-number.ensures (refusal_number r) (refusal_small r) (cut_once c.in_ok-digits.ensures (refusal_cut r e)).0)

pub returns-in_err-refusal : goal.returns-in_err-refusal
returns-in_err-refusal c = rw c.from_residual-in_err-refusal.ensures (λ r u e.
    let n = c.in_ok-number.ensures in
    c.in_err-refusal.ensures r (number_same c.in_ok-digits.digits.now r c.in_ok-number.number n.0 (cut_once c.in_ok-digits.ensures (refusal_cut r e)).0 n.1))

pub returns-then-ne : goal.returns-then-ne
returns-then-ne c r u e =
    let p = cut_once c.in_ok-digits.ensures (refusal_cut r e) in
    let n = c.in_ok-number.ensures in
    let same = refusal_once r c.in_ok-refusal.refusal (number_same c.in_ok-digits.digits.now r c.in_ok-number.number n.0 p.0 n.1 ∙ sym c.in_ok-refusal.ensures) in
    let is : c.in_ok-digits.text.now ≡ c.as_bytes.result.now = p.1 ∙ ap refusal_text same ∙ sym c.text.ensures ∙ sym c.as_bytes.ensures.value in
    grind (arith, common_steps)

pub returns : goal.returns
returns c =
    let n = c.in_ok-number.ensures in
    let text : c.in_ok-digits.text.now ≡ c.as_bytes.result.now = search rules in
    (tt, refusal_read c.args.bytes.now c.in_ok-digits.digits.now c.in_ok-digits.text.now c.in_ok-number.number c.in_ok-refusal.refusal c.in_ok-digits.ensures n.1 c.in_ok-refusal.ensures (text ∙ c.as_bytes.ensures.value ∙ c.text.ensures))
