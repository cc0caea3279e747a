use Rattle.rule_engine.proofs.Prelude.{◌∙◌, ◌≤◌, CountsRounds, CountsRun, counting_in, Some, ap, subst, sym}
use Rattle.rule_engine.proofs.rounds.begin.Goals as goal

pub returns-in-Some-clause-counts : goal.returns-in-Some-clause-counts
returns-in-Some-clause-counts c t m here it =
    let was : CountsRun t m c.in-Some.counter = subst (λ o. CountsRounds t m o) c.in-Some.is it in
    record {
      start = was.start;
      is_state = was.is_state;
      log = was.log;
      run = was.run;
      calm = was.calm;
      counted = c.begin_step.ensures.counted t was.start.state was.log m.state here was.counted;
      few = subst (λ n. n ≤ m.spent) (sym c.begin_step.ensures.rounds) was.few;
    }

pub returns-in-Some-clause-same : goal.returns-in-Some-clause-same
returns-in-Some-clause-same c t s here = ap (λ n. Some n) (c.begin_step.ensures.count t s here) ∙ sym (ap (λ o. counting_in t s o) c.in-Some.is)
