use Rattle.net_totals.proofs.Prelude.{◌≡◌, ℕ, List, subst, IfOk, State}
use Rattle.net_totals.proofs.ContributionSums.{lower_members}
use Rattle.net_totals.proofs.contributions.Contributions.lower_ends.Goals as goal

pub returns-clause-ends : goal.returns-clause-ends
returns-clause-ends g c =
    let looked = c.look_again.ensures in
    let s : State = c.args.net.now.state in
    let told = looked.exact.exact in
    let listed = lower_members s c.look_again.new.self.lower_ends looked.exact.sound told.lower_places (λ v. (told.told v (looked.fresh v)).is_lower) in
    subst (λ (l : List ℕ). IfOk c.to_list.result (λ ends. ends.items ≡ l)) listed c.to_list.ensures
