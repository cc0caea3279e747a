use Rattle.reply_checker.proofs.Prelude.{ℕ, cond, arith, sum_by-le, Contribution}
use Rattle.reply_checker.proofs.ChargeSums.{counted, IsCounted}
use Rattle.reply_checker.proofs.ContributionSums.{few_tests}
use Rattle.reply_checker.proofs.counted_net.CountedNet.count.Goals as goal

-- what the sums are
sums : (c : goal.After-count) → IsCounted c.args.self.now.shares.rules c.args.self.now.net.state c.args.self.now.shares.open_edges.stances.items c.args.self.now.shares.pairs c.args.self.now.shares.enabled c.args.self.now.shares.added c.args.self.now.shares.closing
sums c =
    let it = c.args.self.now in
    counted it.shares.rules it.net.state it.shares.open_edges it.shares.each.items it.shares.touched it.shares.due it.shares.pairs it.shares.enabled it.shares.added it.shares.closing it.told c.requires it.shares.summed

pub overflow_add-charge : goal.overflow_add-charge
overflow_add-charge c =
    let it = c.args.self.now.shares in
    let most = sum_by-le (λ (x : Contribution). x.added) 3 it.each.items it.light in
    omega (arith, most, it.few, it.summed.in_all, c.count.ensures.few c.args.self.now.net.state.network c.args.self.now.told.counted)

pub overflow_mul-charge-2 : goal.overflow_mul-charge-2
overflow_mul-charge-2 c =
    let it = c.args.self.now.shares in
    let most = sum_by-le (λ (x : Contribution). cond {A = ℕ} x.closes 1 0) 3 it.each.items (λ k d within. few_tests _) in
    omega (arith, most, it.few, it.summed.closed)

pub overflow_sub-charge : goal.overflow_sub-charge
overflow_sub-charge c = omega (arith, (sums c).charged, c.count.ensures.count c.args.self.now.net.state.network c.args.self.now.told.counted)

pub returns : goal.returns
returns c = record {
  pairs = (sums c).paired;
  enabled = (sums c).ruled;
  charge = omega (arith, (sums c).charged, c.count.ensures.count c.args.self.now.net.state.network c.args.self.now.told.counted);
}
