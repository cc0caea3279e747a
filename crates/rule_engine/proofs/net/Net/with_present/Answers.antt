use Rattle.rule_engine.proofs.Prelude.{◌≡◌, ◌+◌, ◌≤◌, ℕ, false, sym, subst, charge_bound, State, flag}
use Rattle.rule_engine.proofs.Moments.{beginning_is_paid}
use Rattle.rule_engine.proofs.net.Net.with_present.Goals as goal

pub of_state-requires-clause-within : goal.of_state-requires-clause-within
of_state-requires-clause-within g c =
    let t = g.R.Rules.table in
    let weight = g.R.Rules.NODE_WEIGHT in
    subst (λ (s : State). 0 + t.charge s ≤ charge_bound weight s.network) (sym c.in_ok-net.ensures.ok) (beginning_is_paid t weight g.R.Rules.laws.charged c.args.nodes c.args.present).within

pub of_state-requires-clause-unflagged : goal.of_state-requires-clause-unflagged
of_state-requires-clause-unflagged g c =
    let t = g.R.Rules.table in
    subst (λ (s : State). t.flags ≡ false → (v : ℕ) → flag s v ≡ false) (sym c.in_ok-net.ensures.ok) (beginning_is_paid t g.R.Rules.NODE_WEIGHT g.R.Rules.laws.charged c.args.nodes c.args.present).unflagged
