use Rattle.reply_checker.proofs.Prelude.{◌∙◌, List, length, ap, sym, subst, arith, CountsOpenEdges, Contribution, contribution_of_name}
use Rattle.reply_checker.proofs.StoredContributions.{told_of_none}
use Rattle.reply_checker.proofs.counted_net.CountedNet.use_rules.Goals as goal

pub invariant_of-self : goal.invariant_of-self
invariant_of-self c =
    let it = c.args.self.now in
    let now = c.go_by.new.self in
    let called = c.go_by.ensures in
    record {
      told = told_of_none now.rules it.net.state now.open_edges now.each.items now.touched now.due it.told.sound
          (ap length called.kept.0 ∙ it.told.places) (ap length called.kept.1 ∙ it.told.touched_places)
          (called.places ∙ it.told.due_places)
          (ap (λ (l : List Contribution). contribution_of_name l 0) called.kept.0 ∙ it.told.nobody)
          (λ v low high. called.due v low (omega (arith, high, it.told.due_places)))
          (subst (CountsOpenEdges it.net.state.network) (sym called.open) it.told.counted);
    }
