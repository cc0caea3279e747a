use Rattle.machine_laws.proofs.ChargePrelude.Imports.{◌≡◌, ◌&&◌, ◌||◌, is_none, true, false, Some, sym, ap, ap₂, ◌∙◌, cond-true, cond-false, is_at, suits, linked, manne}
use Rattle.std.specs.Option.{option_or}
use Rattle.rule_machine.specs.State.{first_suitor}
use Rattle.rule_machine.specs.RuleTable.{last_open_above}
use Rattle.rule_machine.specs.Target.{target_at}
use Rattle.rules_manne.specs.GreatestTarget.{greatest}
use Rattle.rules_manne.specs.Target.{is_free_node}
use Rattle.rules_manne.proofs.Target.{may_point, bound_target, bound_wish, manne_free_target, manne_free_wish}
use Rattle.rules_manne.proofs.manne.ManneRules.target.Goals as goal

pub returns-in-None : goal.returns-in-None
returns-in-None g c =
    let s = g.L.Local.state c.args.local.now in
    let v = c.args.v in
    let free : is_free_node s v ≡ true = sym c.is_free-free.ensures ∙ c.if-free.true in
    let least : c.least_target.result ≡ option_or (first_suitor s v) (greatest s v) = c.least_target.ensures ∙ ap₂ (λ o n. option_or (first_suitor s n) (last_open_above o s n)) c.requires.opens c.requires.at in
    sym (ap (target_at manne s v) c.in-None.is ∙ manne_free_target s v c.requires.state free c.requires.enabled ∙ ap Some (sym least))

pub returns-in-None-2 : goal.returns-in-None-2
returns-in-None-2 g c =
    let s = g.L.Local.state c.args.local.now in
    let v = c.args.v in
    let bound : is_free_node s v ≡ false = sym c.is_free-free.ensures ∙ c.if-free.false in
    sym (ap (target_at manne s v) c.in-None-2.is ∙ bound_target s v bound c.requires.enabled)

pub returns-in-Some : goal.returns-in-Some
returns-in-Some g c =
    let s = g.L.Local.state c.args.local.now in
    let v = c.args.v in
    let bound : is_free_node s v ≡ false = sym c.is_free-free.ensures ∙ c.if-not-free.true in
    sym (ap (target_at manne s v) c.in-Some.is ∙ bound_wish s v c.in-Some.field-0 bound c.requires.enabled)

pub returns-in-Some-2 : goal.returns-in-Some-2
returns-in-Some-2 g c =
    let s = g.L.Local.state c.args.local.now in
    let v = c.args.v in
    let w = c.in-Some-2.w in
    let free : is_free_node s v ≡ true = sym c.is_free-free.ensures ∙ c.if-not-free.false in
    let allowed : may_point s v w ≡ true = sym (c.is_allowed.ensures ∙ ap₂ (λ o n. (linked s.network n w && suits s n w) || (is_none (first_suitor s n) && is_at (last_open_above o s n) w)) c.requires.opens c.requires.at) ∙ c.if-is_allowed.true in
    sym (ap (target_at manne s v) c.in-Some-2.is ∙ manne_free_wish s v w c.requires.state free c.requires.enabled ∙ cond-true _ _ _ allowed)

pub returns-in-Some-3 : goal.returns-in-Some-3
returns-in-Some-3 g c =
    let s = g.L.Local.state c.args.local.now in
    let v = c.args.v in
    let w = c.in-Some-2.w in
    let free : is_free_node s v ≡ true = sym c.is_free-free.ensures ∙ c.if-not-free.false in
    let refused : may_point s v w ≡ false = sym (c.is_allowed.ensures ∙ ap₂ (λ o n. (linked s.network n w && suits s n w) || (is_none (first_suitor s n) && is_at (last_open_above o s n) w)) c.requires.opens c.requires.at) ∙ c.if-is_allowed.false in
    sym (ap (target_at manne s v) c.in-Some-2.is ∙ manne_free_wish s v w c.requires.state free c.requires.enabled ∙ cond-false _ _ _ refused)
