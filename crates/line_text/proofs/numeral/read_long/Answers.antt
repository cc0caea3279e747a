use Rattle.line_text.proofs.Prelude.{arith, ◌≡◌, sym, subst, ap, ◌∙◌, IsAscii, other_text, IsUtf8-from_ascii, IsAscii-decimal, parse-decimal, number_text}
use Rattle.line_text.proofs.numeral.read_long.Goals as goal

pub returns-in_default : goal.returns-in_default
returns-in_default c n small e =
    c.in_default.ensures.cases.0 (IsUtf8-from_ascii c.args.bytes.now (subst IsAscii (sym e) (IsAscii-decimal n small)))

pub returns-in_default-from_str_radix : goal.returns-in_default-from_str_radix
returns-in_default-from_str_radix c n small e =
    c.in_default-from_str_radix.not-Ok n (parse-decimal 64 n c.in-Ok.digits.now c.from_str_radix.result small small (c.in-Ok.ensures.cases.0 ∙ e) c.from_str_radix.ensures.value)

pub returns-then-ne : goal.returns-then-ne
returns-then-ne c n small e =
    let parsed = parse-decimal 64 n c.in-Ok.digits.now c.from_str_radix.result small small (c.in-Ok.ensures.cases.0 ∙ e) c.from_str_radix.ensures.value in
    let same : c.in-Ok-from_str_radix.number ≡ n = cc (c.in-Ok-from_str_radix.is) in
    other_text c.as_bytes.result.now c.args.bytes.now (grind (arith, c.if-ne.ensures)) (c.as_bytes.ensures.value ∙ c.format.ensures.text ∙ ap number_text same ∙ sym e)
