use Rattle.rule_engine.proofs.Prelude.{[], ◌∙◌, ap, Some, Moment, Option, NetView, RoundCount, arith, moment, refl, with_counting}
use Rattle.rule_engine.proofs.net.Net.count_rounds.Goals as goal

pub invariant_of-self : goal.invariant_of-self
invariant_of-self g c =
    let here : Moment = moment c.self.inside.net.state c.self.inside.spent in
    let none = c.in_ok-counter.ensures.rounds in (
      record {
        budget = c.self.invariant.0.budget;
        counts = record {
          start = here;
          is_state = c.self.invariant.0.budget.is_state;
          log = [];
          run = refl;
          calm = λ k d below. absurd (omega (arith, below));
          counted = c.in_ok-counter.ensures.counted g.R.Rules.table here.state;
          few = omega (arith, none);
        };
      },
      c.self.invariant.1,
    )

pub returns-clause-ok : goal.returns-clause-ok
returns-clause-ok g c =
    let t = g.R.Rules.table in
    let inside = c.self.inside in
    let with : Option RoundCount → NetView = λ counting. record { state = inside.net.state; spent = inside.spent; room = inside.net.room; counting = counting } in
    ap (λ (n : RoundCount). with (Some n)) (c.in_ok-counter.ensures.count t inside.net.state) ∙ ap (with_counting t) c.self.view_is
