use Rattle.rule_engine.proofs.Prelude.{◌≡◌, ◌∙◌, ◌∷◌, [], Option, false, None, Some, refl, sym, ap, subst, Refusal, Moves, Outcome, move_in, outcome_of, items_refusal, AreLeast, IsToldOf, moves_by, refused_by}
use Rattle.rule_engine.proofs.AscendingMoves.{one_least}
use Rattle.rule_engine.proofs.ItemVerdicts.{one_refusal}
use Rattle.rule_engine.proofs.guard.put_reply_to_one.Goals as goal

pub returns-in-Ok : goal.returns-in-Ok
returns-in-Ok g c =
    let t = g.R.Rules.table in
    let s = c.args.state.now.state in
    let item = c.args.item in
    let m = c.in-Ok.moved in
    let none : items_refusal t s [] (item ∷ []) ≡ None = one_refusal t s item ∙ ap (λ (o : Outcome). refused_by o false) (sym c.outcome.ensures) ∙ c.in-Ok.ensures.0 in
    let move : move_in (outcome_of t s item) ≡ Some m = ap (λ (o : Outcome). move_in o) (sym c.outcome.ensures) ∙ c.in-Ok.ensures.1 in
    subst (λ (q : Option Refusal). IsToldOf q (moves_by t s (item ∷ [])) (Moves c.one.result)) (sym none)
    (c.one.result, subst (AreLeast (moves_by t s (item ∷ []))) (sym c.one.ensures) (one_least t s item m move), refl)
