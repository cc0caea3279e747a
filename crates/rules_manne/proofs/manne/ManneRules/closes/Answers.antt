use Rattle.std.proofs.Common.{◌≡◌, ◌&&◌, ◌∙◌, Bool, true, false, not, nat_lt, refl, sym, rules}
use Rattle.rules_manne.specs.Charge.{closes_standing}
use Rattle.rules_manne.proofs.manne.ManneRules.closes.Goals as goal

last_holds : (b : Bool) → (b && true && true) ≡ b
last_holds true = refl
last_holds false = refl

pub returns : goal.returns
returns c = λ s good stands at.
    let below : c.lt.result ≡ nat_lt c.args.node c.args.target.now.node = search rules in
    below
    ∙ sym (closes_standing s c.args.node c.args.target.now good stands at
    ∙ (λ i. nat_lt c.args.node c.args.target.now.node && not (c.if-target.false i) && not (c.if-target-2.false i))
    ∙ last_holds (nat_lt c.args.node c.args.target.now.node))
