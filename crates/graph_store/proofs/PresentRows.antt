-- The rows of the first names.
use Rattle.graph_store.proofs.Prelude.{suc, ◌≡◌, ℕ, ◌+◌, ◌≤◌, true, false, ◌&&◌, length, replicate, leb, set, get_or, sym, ap, ◌∙◌, arith, range_with_len, cases_eq, nat_tests, ext_get_or, length-set, length-replicate, get_or-replicate, get_or-set_same, get_or-set_other, filter_agree, length-map-range_with_len, get_or-map-range_with_len, Network, first_names, names, present, is_in, members}
use Rattle.std.proofs.Common.{filter}
use Rattle.graph_store.proofs.Store.{on_roll}

pub first_names_len : (size count : ℕ) → length (first_names size count) ≡ size + 1
first_names_len size count = length-map-range_with_len (λ v. leb 1 v && leb v count) 0 (size + 1)

pub first_names_at : (size count v : ℕ) → v ≤ size → get_or (first_names size count) v false ≡ (leb 1 v && leb v count)
first_names_at size count v le = get_or-map-range_with_len (λ v. leb 1 v && leb v count) 0 (size + 1) v v false (omega arith) (omega arith)

-- none
pub first_names_none : (size : ℕ) → replicate (size + 1) false ≡ first_names size 0
first_names_none size =
    ext_get_or false _ _ (length-replicate (size + 1) false ∙ sym (first_names_len size 0))
    (λ i inside. grind (arith, first_names_at, get_or-replicate, length-replicate, nat_tests))

-- one more
pub first_names_more : (size count v : ℕ) → 1 ≤ v → v ≤ size → v ≡ count + 1 → set (first_names size count) v true ≡ first_names size v
first_names_more size count v low high next =
    let l = first_names_len size count in
    ext_get_or false _ _ (length-set (first_names size count) v true ∙ l ∙ sym (first_names_len size v))
    (λ i inside. grind (arith, cases_eq, first_names_at, get_or-set_other, get_or-set_same, length-set, nat_tests))

-- the members of the roll are the names
pub members_names : (net : Network) → length net.here ≡ net.size + 1 → get_or net.here 0 false ≡ false → members net.here ≡ names net
members_names net len nobody =
    filter_agree (is_in net.here) (present net) (λ v. on_roll net v len nobody) (range_with_len 0 (length net.here))
    ∙ ap (λ n. filter (present net) (range_with_len 0 n)) (len ∙ (let e : net.size + 1 ≡ suc net.size = omega arith in e))
