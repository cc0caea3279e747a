-- The nodes that pass a test, found one name after another, and the neighbours of an absent node.
use Rattle.std.proofs.Common.{◌≡◌, ◌∙◌, ◌+◌, ◌++◌, ℕ, Bool, false, cond, [], ◌∷◌, filter, Option, Some, SomeIff, sym, ap, subst, arith}
use Rattle.std.specs.List.{range_with_len}
use Rattle.std.proofs.lemmas.Bool.{true≢false, false_from_ne_true}
use Rattle.std.proofs.lemmas.List.{map-id}
use Rattle.std.proofs.lemmas.List.FromFn.{filter_of_map_range_with_len_more}
use Rattle.rule_machine.specs.Network.{names, linked, neighbours, present}
use Rattle.rule_machine.specs.State.{State, IsState}
use Rattle.machine_laws.proofs.Neighbours.{linked_present, names_fails}
use Rattle.machine_laws.proofs.Search.{empty_from_find}

-- what is found up to the next name
pub found_more : (p : ℕ → Bool) (n v : ℕ) → v ≡ n + 1 → filter p (range_with_len 1 (n + 1)) ≡ filter p (range_with_len 1 n) ++ cond (p v) (v ∷ []) []
found_more p n v is =
    ap (filter p) (sym (map-id (range_with_len 1 (n + 1))))
    ∙ filter_of_map_range_with_len_more p (λ x. x) 1 n v (omega (arith, is))
    ∙ ap (λ xs. filter p xs ++ cond (p v) (v ∷ []) []) (map-id (range_with_len 1 n))

-- a name that was made of a number
pub named_next : {X : Type 0} (o : Option X) (P : Type 0) (v x : X) → SomeIff o P v → o ≡ Some x → x ≡ v
named_next o P v x h e = (let k : P × (x ≡ v) = subst (λ q. SomeIff q P v) e h in k).1

-- an absent node has no neighbours
pub absent_near : (s : State) (v : ℕ) → IsState s → present s.network v ≡ false → [] ≡ neighbours s.network v
absent_near s v good gone =
    sym (empty_from_find (linked s.network v) (names s.network) (names_fails s.network (linked s.network v) (λ w has. false_from_ne_true (linked s.network v w) (λ near. true≢false (sym (linked_present s.network v w good.is_network near) ∙ gone)))))
