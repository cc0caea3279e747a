use Rattle.machine_laws.proofs.ChargePrelude.Imports.{◌≡◌, ◌&&◌, ◌||◌, true, None, Some, is_none, not, sym, ap, ap₂, ◌∙◌, or_left, or_right, and_from, cond-true, pointer, suits, linked, is_open, hsu_huang, hsu_huang_opens}
use Rattle.std.specs.Option.{option_or}
use Rattle.std.proofs.lemmas.Bool.{false≢true}
use Rattle.rule_machine.specs.State.{first_suitor}
use Rattle.rule_machine.specs.RuleTable.{first_open}
use Rattle.rule_machine.specs.Target.{target_at}
use Rattle.rules_hsu_huang.proofs.Target.{held_target, hsu_huang_free_target, hsu_huang_free_wish}
use Rattle.rules_hsu_huang.proofs.hsu_huang.HsuHuangRules.target.Goals as goal
use Rattle.rules_hsu_huang.proofs.hsu_huang.HsuHuangRules.target.Goals.{then-is_suitor, else-is_suitor+then-is_none, else-is_suitor+else-is_none}

pub returns-in-Some-None : goal.returns-in-Some-None
returns-in-Some-None g c =
    let s = g.L.Local.state c.args.local.now in
    let there : pointer s c.args.v ≡ Some c.in-Some-None.field-0-0 = sym c.in-Some-None.ensures in
    sym (ap (target_at hsu_huang s c.args.v) c.in-Some-None.is-1 ∙ (held_target s c.args.v c.in-Some-None.field-0-0 there c.requires.enabled).1)

pub returns-in-None : goal.returns-in-None
returns-in-None g c =
    let s = g.L.Local.state c.args.local.now in
    let null : pointer s c.args.v ≡ None = sym c.in-None-None.ensures in
    let suitor : first_suitor s c.args.v ≡ None = sym (c.in-None.ensures ∙ ap (first_suitor s) c.requires.at) in
    let near : c.first_open.result ≡ first_open hsu_huang_opens s c.args.v = c.first_open.ensures ∙ ap₂ (λ o v. first_open o s v) c.requires.opens c.requires.at in
    sym (ap (target_at hsu_huang s c.args.v) c.in-None-None.is-1 ∙ hsu_huang_free_target s c.args.v null c.requires.enabled ∙ ap₂ (λ a b. Some (option_or a b)) suitor (sym near))

pub returns-in-Some : goal.returns-in-Some
returns-in-Some g c =
    let s = g.L.Local.state c.args.local.now in
    let null : pointer s c.args.v ≡ None = sym c.in-None-None.ensures in
    let suitor : first_suitor s c.args.v ≡ Some c.in-Some.w = sym (c.in-Some.ensures ∙ ap (first_suitor s) c.requires.at) in
    sym (ap (target_at hsu_huang s c.args.v) c.in-None-None.is-1 ∙ hsu_huang_free_target s c.args.v null c.requires.enabled ∙ ap (λ a. Some (option_or a (first_open hsu_huang_opens s c.args.v))) suitor)

pub returns-then-is_open : goal.returns-then-is_open
returns-then-is_open g c =
    let s = g.L.Local.state c.args.local.now in
    let v = c.args.v in
    let x = c.in-None-Some.w in
    let null : pointer s v ≡ None = sym c.in-None-Some.ensures in
    let suitor : c.is_suitor.result ≡ (linked s.network v x && suits s v x) = c.is_suitor.ensures ∙ ap (λ n. linked s.network n x && suits s n x) c.requires.at in
    let passes : ((linked s.network v x && suits s v x) || (is_none (first_suitor s v) && (linked s.network v x && is_open hsu_huang_opens s x))) ≡ true = elim c.if-is_suitor.branch [
      | then-is_suitor w ↦ or_left _ _ (sym suitor ∙ w.if-is_suitor.true)
      | else-is_suitor+then-is_none w ↦ or_right _ _ (
          and_from _ _
          (ap is_none (sym (w.first_suitor-else-is_suitor.ensures ∙ ap (first_suitor s) c.requires.at)) ∙ ap not w.is_none.ensures ∙ ap (λ b. not (not b)) w.if-is_none.true)
          (ap₂ (λ o n. linked s.network n x && is_open o s x) (sym c.requires.opens) (sym c.requires.at) ∙ sym w.is_open.ensures ∙ sym w.value-is ∙ c.if-is_open.true)
          )
      | else-is_suitor+else-is_none w ↦ absurd (false≢true (sym w.if-is_none.false ∙ sym w.value-is ∙ c.if-is_open.true))
    ] in
    sym (ap (target_at hsu_huang s v) c.in-None-Some.is-1 ∙ hsu_huang_free_wish s v x c.requires.state null c.requires.enabled ∙ cond-true _ _ _ passes ∙ ap Some (sym c.in-None-Some.is-1))
