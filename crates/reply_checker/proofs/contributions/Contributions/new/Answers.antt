use Rattle.reply_checker.proofs.Prelude.{◌+◌, ◌∙◌, length, ap, arith, length-replicate, absent_contribution}
use Rattle.reply_checker.proofs.ContributionSums.{none_light, none_summed}
use Rattle.reply_checker.proofs.contributions.Contributions.new.Goals as goal

pub invariant_of-result : goal.invariant_of-result
invariant_of-result c =
    let n = c.args.nodes + 1 in
    let places = ap length c.in_ok-each.ensures ∙ length-replicate n absent_contribution in
    record {
      few = omega (arith, places, c.requires);
      light = none_light c.in_ok-each.each.items n c.in_ok-each.ensures;
      summed = none_summed c.in_ok-each.each.items n c.in_ok-each.ensures;
    }
