-- Rows that are written one after another.
use Rattle.std.proofs.Common.{◌≡◌, ◌∙◌, ℕ, suc, ◌+◌, ◌<◌, ◌≤◌, List, [], ◌∷◌, ◌++◌, map, take, drop, set, length, get_or, sym, ap, subst, arith, append_assoc}
use Rattle.std.proofs.Math.Seq.{drop-cons, set-append_seam}
use Rattle.std.proofs.lemmas.List.{map_more, length-map, length-take-le}

pub row_more : {X Y : Type 0} (row : X → Y) (xs : List X) (ys : List Y) (i : ℕ) (x : X) → i < length xs → length xs ≤ length ys → x ≡ get_or xs i x
    → set (map row (take i xs) ++ drop i ys) i (row x) ≡ map row (take (i + 1) xs) ++ drop (i + 1) ys
row_more {X = X} row xs ys i x less room is =
    let front = map row (take i xs) in
    let long : length front ≡ i = length-map (take i xs) row ∙ length-take-le i xs (omega (arith, less)) in
    let more : suc i ≡ i + 1 = omega arith in
    let split : drop i ys ≡ get_or ys i (row x) ∷ drop (suc i) ys = drop-cons ys i (row x) (omega (arith, less, room)) in
    let next : front ++ row x ∷ [] ≡ map row (take (i + 1) xs) = ap (λ (y : X). front ++ row y ∷ []) is ∙ sym (map_more row xs i x less) in
    let written : set (front ++ get_or ys i (row x) ∷ drop (suc i) ys) i (row x) ≡ front ++ row x ∷ drop (suc i) ys =
    subst (λ n. set (front ++ get_or ys i (row x) ∷ drop (suc i) ys) n (row x) ≡ front ++ row x ∷ drop (suc i) ys) long (set-append_seam front (get_or ys i (row x)) (drop (suc i) ys) (row x)) in
    ap (λ rest. set (front ++ rest) i (row x)) split ∙ written ∙ sym (append_assoc front (row x ∷ []) (drop (suc i) ys)) ∙ ap (λ zs. zs ++ drop (suc i) ys) next ∙ ap (λ n. map row (take (i + 1) xs) ++ drop n ys) more
