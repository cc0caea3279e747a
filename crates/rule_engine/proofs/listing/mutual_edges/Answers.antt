use Rattle.rule_engine.proofs.Prelude.{◌≡◌, ◌∙◌, ℕ, List, Option, IsTrue, ap, filter, filter_map, subst, sym, range_with_len, filter_passes, pair_above, State, Registers, answered_by, is_lower_end, found_kept, pairs_scanned, All, IfOk}
use Rattle.rule_engine.proofs.NodeScans.{none_found}
use Rattle.rule_engine.proofs.listing.mutual_edges.Goals as goal

pub pairs_of-requires : goal.pairs_of-requires
pairs_of-requires g c =
    let s : State = c.args.net.now.state in
    let list = c.deref.ensures.value ∙ c.in_ok-ends.ensures.ends in
    subst (λ (l : List ℕ). All (λ v. IsTrue (is_lower_end c.registers.result.now v)) l) (sym list)
    (subst (λ (r : Registers). All (λ v. IsTrue (is_lower_end r v)) (filter (is_lower_end s.registers) (range_with_len 1 s.network.size))) (sym c.registers.ensures.value)
    (filter_passes (is_lower_end s.registers) (range_with_len 1 s.network.size)))

pub returns-clause-pairs : goal.returns-clause-pairs
returns-clause-pairs g c =
    let s : State = c.args.net.now.state in
    let found : Registers → ℕ → Option (ℕ × ℕ) = λ r v. pair_above v (answered_by r v) in
    let listed =
    ap (filter_map (found c.registers.result.now)) (c.deref.ensures.value ∙ c.in_ok-ends.ensures.ends)
    ∙ ap (λ (r : Registers). filter_map (found r) (filter (is_lower_end s.registers) (range_with_len 1 s.network.size))) c.registers.ensures.value
    ∙ found_kept (found s.registers) (is_lower_end s.registers) (λ v none. none_found (found s.registers v) none) (range_with_len 1 s.network.size)
    ∙ sym (pairs_scanned s c.registers.ensures.sound) in
    subst (λ (l : List (ℕ × ℕ)). IfOk c.pairs_of.result (λ pairs. pairs.items ≡ l)) listed c.pairs_of.ensures
