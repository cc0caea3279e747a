use Rattle.reply_checker.proofs.Prelude.{◌+◌, ◌∙◌, ℕ, List, length, ap, sym, arith, length-replicate, everywhere, Contribution, absent_contribution, contribution_of_name}
use Rattle.reply_checker.proofs.StoredContributions.{told_of_none}
use Rattle.reply_checker.proofs.counted_net.CountedNet.new.Goals as goal

pub invariant_of-result : goal.invariant_of-result
invariant_of-result c =
    let it = c.in_ok-shares.shares in
    let made = c.in_ok-shares.ensures in
    let size = c.capacity.ensures.size in
    let places = ap (λ (n : ℕ). n + 1) size in
    record {
      told = told_of_none it.rules c.args.net.state it.open_edges it.each.items it.touched it.due c.capacity.ensures.sound
          (ap length made.each ∙ length-replicate _ absent_contribution ∙ places) (ap length made.touched ∙ length-replicate _ _ ∙ places) (made.places ∙ places)
          (ap (λ (l : List Contribution). contribution_of_name l 0) made.each ∙ everywhere _ 0 absent_contribution)
          (λ v low high. made.due v low (omega (arith, high, size)))
          (made.open c.args.net.state.network (sym size));
    }
