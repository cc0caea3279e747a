use Rattle.rule_engine.proofs.Prelude.{rules, refl, sym, subst, IsNonDecreasingBy-from_sort_by_key, Option, Moved, Moves, Refusal, AreLeast, IsToldOf}
use Rattle.rule_engine.proofs.AscendingMoves.{least_from_sorted}
use Rattle.rule_engine.proofs.collected_moves.step_reply.Goals as goal

pub returns-clause-told : goal.returns-clause-told
returns-clause-told c =
    let made = c.args.gathered.moves.items in
    let sorted = c.sort_unstable_by_key.new.self.items in
    subst (λ (q : Option Refusal). IsToldOf q made (Moves c.from_vec.result)) (sym c.in_default.is) (
      c.from_vec.result,
      subst (AreLeast made) (sym c.from_vec.ensures)
          (least_from_sorted made sorted c.sort_unstable_by_key.ensures.permutation (IsNonDecreasingBy-from_sort_by_key (λ (m : Moved). m.node) sorted c.sort_unstable_by_key.ensures.sorted (λ a r q k. search rules))),
      refl,
    )
