use Rattle.machine_laws.proofs.ChargePrelude.Imports.{◌≡◌, true, false, cond, not, None, is_some, sym, ap, ap₂, ◌∙◌, pointer, has_suitor, married, is_settled}
use Rattle.rule_machine.specs.RuleTable.{last_open_above}
use Rattle.rules_manne.specs.GreatestTarget.{greatest}
use Rattle.rules_manne.specs.Rule.{null_rule, settled_from_test}
use Rattle.rules_manne.proofs.manne.ManneRules.guard.Goals as goal

pub returns-in-None-2 : goal.returns-in-None-2
returns-in-None-2 g c =
    let s = g.L.Local.state c.args.local.now in
    let v = c.args.v in
    let settled : is_settled s v ≡ true = sym (ap₂ (λ f m. cond m f (not f)) c.flag.ensures (c.married.ensures ∙ ap (married s) c.requires.at)) ∙ settled_from_test c.married.result c.flag.result c.if-flag-married.false in
    let null : pointer s v ≡ None = sym c.in-None.ensures in
    let alone : has_suitor s v ≡ false = sym (c.has_suitor.ensures ∙ ap (has_suitor s) c.requires.at) ∙ c.if-has_suitor.false in
    let reaches : is_some (greatest s v) ≡ true = sym (c.has_open_above.ensures ∙ ap₂ (λ o n. is_some (last_open_above o s n)) c.requires.opens c.requires.at) ∙ c.if-has_open_above.true in
    sym (null_rule s v false true c.requires.state settled null alone reaches)

pub returns-in-None-3 : goal.returns-in-None-3
returns-in-None-3 g c =
    let s = g.L.Local.state c.args.local.now in
    let v = c.args.v in
    let settled : is_settled s v ≡ true = sym (ap₂ (λ f m. cond m f (not f)) c.flag.ensures (c.married.ensures ∙ ap (married s) c.requires.at)) ∙ settled_from_test c.married.result c.flag.result c.if-flag-married.false in
    let null : pointer s v ≡ None = sym c.in-None.ensures in
    let alone : has_suitor s v ≡ false = sym (c.has_suitor.ensures ∙ ap (has_suitor s) c.requires.at) ∙ c.if-has_suitor.false in
    let reaches : is_some (greatest s v) ≡ false = sym (c.has_open_above.ensures ∙ ap₂ (λ o n. is_some (last_open_above o s n)) c.requires.opens c.requires.at) ∙ c.if-has_open_above.false in
    sym (null_rule s v false false c.requires.state settled null alone reaches)
