use Rattle.local_rule.proofs.Prelude.{map, ◌≤◌, is_some, refl, sym, ap, ap₂, ◌∙◌, subst, option_or, recursion_from_All, own_fault}
use Rattle.local_rule.proofs.Alike.{never_shown}
use Rattle.local_rule.proofs.Rows.{none_before}
use Rattle.local_rule.proofs.Stars.{shown_without_fault}
use Rattle.local_rule.proofs.fault.fault_of.Goals as goal

pub returns-in-Some-clause-never : goal.returns-in-Some-clause-never
returns-in-Some-clause-never g c fault =
    never_shown c.args.own.now (map g.T.AsRecord.shows c.args.around.now) (ap (λ o. is_some (option_or o (own_fault (map g.T.AsRecord.shows c.args.around.now) c.args.own.now.target))) (sym c.in-Some.ensures.fault))

pub returns-in-None-clause-shown : goal.returns-in-None-clause-shown
returns-in-None-clause-shown g c none =
    shown_without_fault c.args.own.now (map g.T.AsRecord.shows c.args.around.now) (subst (λ n. 1 ≤ n) c.name.ensures.same c.name.ensures.named.0) (recursion_from_All _ _ (c.in-None.ensures.named refl))
    (none_before _ _ (sym c.in-None.ensures.fault) (sym c.own_fault.ensures ∙ none))

pub returns-in-None-clause-never : goal.returns-in-None-clause-never
returns-in-None-clause-never g c fault =
    never_shown c.args.own.now (map g.T.AsRecord.shows c.args.around.now) (ap₂ (λ a b. is_some (option_or a b)) (sym c.in-None.ensures.fault) (sym c.own_fault.ensures) ∙ fault)
