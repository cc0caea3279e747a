use Rattle.auditor.proofs.Prelude.{◌≡◌, ◌∙◌, ◌+◌, false, refl, ap, arith, Position, counted_more, spent_after}
use Rattle.auditor.proofs.check.Audit.check_line.Goals as goal

pub returns-then-not-right : goal.returns-then-not-right
returns-then-not-right c =
    let number : c.in-Ok.found.0 ≡ c.args.self.now.number + 1 = grind arith in
    let wrong : c.in-Ok-judged.right ≡ false = grind arith in (
      refl,
      record {
        entry = c.in-Ok.found.1;
        spells = rw number at c.in-Ok.ensures.ok;
        never = λ s answers. (c.in-Ok-judged.ensures.wrong wrong).0 s (rw (c.event.ensures.value, c.reply.ensures.value) (rw (← c.self.view_is) at answers));
      },
    )

pub returns : goal.returns
returns c =
    let entry = c.in-Ok.found.1 in
    let number : c.in-Ok.found.0 ≡ c.args.self.now.number + 1 = grind arith in
    record {
      entry = entry;
      spells = rw number at c.in-Ok.ensures.ok;
      answers = rw (← c.self.view_is) (rw (c.event.ensures.value, c.reply.ensures.value) at (c.in-Ok-judged.ensures.right (grind arith)));
      spends = c.spent_after-self-inside.ensures ∙ ap (spent_after c.self.inside.spent) c.reply-2.ensures.value ∙ ap (λ (p : Position). spent_after p.spent entry.1) c.self.view_is;
      number = number;
      counted = c.with_reply-self-inside.ensures.value ∙ ap (counted_more c.self.inside.counted) c.reply-3.ensures.value ∙ ap (λ (p : Position). counted_more p.counted entry.1) c.self.view_is;
    }
