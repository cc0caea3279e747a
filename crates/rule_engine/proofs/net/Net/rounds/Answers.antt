use Rattle.rule_engine.proofs.Prelude.{◌∙◌, ℕ, Option, Some, IfSome, ap, subst, sym, CountsRounds, CountsRun, HasRounds, Moment, NetView, RoundCounter, counting_in, moment, net_moment, rounds_of}
use Rattle.rule_engine.proofs.CountedRounds.{exact_rounds}
use Rattle.rule_engine.proofs.net.Net.rounds.Goals as goal

pub returns-in-Some : goal.returns-in-Some
returns-in-Some g c =
    let t = g.R.Rules.table in
    let m : Moment = moment c.self.inside.net.state c.self.inside.spent in
    let counts : CountsRun t m c.in-Some.counter = subst (λ (o : Option RoundCounter). CountsRounds t m o) c.in-Some.is c.self.invariant.0.counts in
    let told = ap (λ (n : ℕ). Some n) c.rounds.ensures
    ∙ sym (ap (λ (o : Option RoundCounter). rounds_of (counting_in t c.self.inside.net.state o)) c.in-Some.is)
    ∙ ap (λ (n : NetView). rounds_of n.counting) c.self.view_is in
    record {
      count = told;
      exact = λ start log calm is. exact_rounds t start log _ _ told calm is;
      some = subst (λ (n : NetView). IfSome n.counting (λ count. HasRounds t (net_moment n) count)) c.self.view_is
          (subst (λ (o : Option RoundCounter). IfSome (counting_in t m.state o) (λ count. HasRounds t m count)) (sym c.in-Some.is) (record {
            start = counts.start;
            is_state = counts.is_state;
            log = counts.log;
            run = counts.run;
            calm = counts.calm;
            rounds_are = counts.counted.rounds;
            later = counts.counted.later;
          }));
    }
