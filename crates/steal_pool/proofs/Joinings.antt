-- All ends of a deque: how they are made, and how they are joined again.
use Rattle.steal_pool.proofs.Prelude.{IsPermutation, ◌≡◌, ℕ, suc, ◌+◌, ◌-◌, ◌<◌, ◌≤◌, List, [], ◌∷◌, ◌++◌, length, map, All, get_or, sym, refl, ap, ◌∙◌, subst, arith, sum_by, swap_remove, get_or-map, length-map, fold-map, sum_by-append, sum_by-cons, sum_by-le, sum_by_push, sum_by-swap_remove, All-append, All-take, All-drop, All-map, All-pop, All-push, All-permutation, IsPermutation-swap_remove, Ledger, Owner, Thief, DequeEnd, ledger, joined_ledger, DequeName, owner_deque, owner_ledger, thief_deque, thief_ledger, end_deque, end_ledger, end_owners, EndView, end_hold, end_taken, AreAllEnds, AreJoined, Some}
use lib.Seq.{take-append_seam, drop-append_seam}
use Rattle.steal_pool.specs.declared.deque.end.DequeEnd.TheVariants as end

-- a sum over what is said of ends
sum_map : (f : EndView → ℕ) (xs : List DequeEnd) → sum_by f (map end_hold xs) ≡ sum_by (λ e. f (end_hold e)) xs
sum_map f xs = fold-map (λ a h. a + f h) end_hold 0 xs

-- a fact of all names, applied to one
pub all_unmap : {X : Type 0} (f : X → EndView) (P : EndView → Type 0) (xs : List X) → All P (map f xs) → All (λ x. P (f x)) xs
all_unmap f P xs all k d within = subst P (get_or-map f xs k d (f d) within) (all k (f d) (omega (arith, length-map xs f)))

-- a thief's end that has one part and took nothing
abbrev pub IsPart : DequeName → ℕ → DequeEnd → Type 0
IsPart deque count e = (end_deque e ≡ deque) × (end_ledger e ≡ ledger 1 count []) × (end_owners e ≡ 0)

sum_parts : (deque : DequeName) (count : ℕ) (xs : List DequeEnd) → All (IsPart deque count) xs → sum_by (λ e. (end_ledger e).parts) xs ≡ length xs
sum_parts deque count [] all = refl
sum_parts deque count (x ∷ xs) all =
    let here : (end_ledger x).parts ≡ 1 = ap (λ (v : Ledger). v.parts) (all 0 x (omega arith)).1 in
    omega (arith, sum_parts deque count xs (λ k d within. all (suc k) d (omega arith)), sum_by-cons (λ (e : DequeEnd). (end_ledger e).parts) x xs)

-- the ends of thieves, then the owner's
pub made_all : (count made : ℕ) (o : Owner) (xs ys : List DequeEnd) → All (IsPart (owner_deque o) count) xs → length xs + 1 ≡ made → made ≤ 64 → owner_ledger o ≡ ledger (65 - made) count [] → ys ≡ xs ++ end.Owner o ∷ [] → AreAllEnds count (map end_hold ys)
made_all count made o xs ys parts size few known is =
    let All_of : (P : EndView → Type 0) → ((e : DequeEnd) → IsPart (owner_deque o) count e → P (end_hold e)) → P (end_hold (end.Owner o)) → All P (map end_hold ys) = λ P thieves own.
    All-map P end_hold ys (subst (All (λ e. P (end_hold e))) (sym is) (All-push (λ e. P (end_hold e)) xs (end.Owner o) (λ k d within. thieves _ (parts k d within)) own)) in
    record {
      one = (owner_deque o, All_of (λ h. h.deque ≡ owner_deque o) (λ e part. part.0) refl);
      size = All_of (λ h. h.count ≡ count) (λ e part. ap (λ (v : Ledger). v.count) part.1) (ap (λ (v : Ledger). v.count) known);
      whole =
          let own : (owner_ledger o).parts ≡ 65 - made = ap (λ (v : Ledger). v.parts) known in
          let all : sum_by (λ e. (end_ledger e).parts) ys ≡ sum_by (λ e. (end_ledger e).parts) (xs ++ end.Owner o ∷ []) = ap (sum_by (λ e. (end_ledger e).parts)) is in
          omega (arith, sum_map (λ h. h.parts) ys, sum_by_push (λ (e : DequeEnd). (end_ledger e).parts) xs (end.Owner o), sum_parts (owner_deque o) count xs parts);
      owner =
          let all : sum_by end_owners ys ≡ sum_by end_owners (xs ++ end.Owner o ∷ []) = ap (sum_by end_owners) is in
          omega (arith, sum_map (λ h. h.owners) ys, sum_by_push end_owners xs (end.Owner o), sum_by-le end_owners 0 xs (λ k d within. let here : end_owners (get_or xs k d) ≡ 0 = (parts k d within).2 in omega arith));
    }

pub made_fresh : (count : ℕ) (deque : DequeName) (o : Owner) (xs ys : List DequeEnd) → All (IsPart deque count) xs → (owner_ledger o).taken ≡ [] → ys ≡ xs ++ end.Owner o ∷ [] → All (λ e. end_taken e ≡ []) ys
made_fresh count deque o xs ys parts none is =
    subst (All (λ e. end_taken e ≡ [])) (sym is) (All-push (λ e. end_taken e ≡ []) xs (end.Owner o) (λ k d within. ap (λ (v : Ledger). v.taken) (parts k d within).1) none)

-- the owner has joined some of the ends `all`, and these are left
pub record Joining (count : ℕ) (all : List DequeEnd) (o : Owner) (left : List DequeEnd) : Type 0 where
  pub size : (owner_ledger o).count ≡ count
  pub one : All (λ e. end_deque e ≡ owner_deque o) left
  pub whole : (owner_ledger o).parts + sum_by (λ e. (end_ledger e).parts) left ≡ 64
  pub owner : sum_by end_owners left ≡ 0
  pub taken : (h : ℕ → ℕ) → sum_by h (owner_ledger o).taken + sum_by (λ e. sum_by h (end_taken e)) left ≡ sum_by (λ e. sum_by h (end_taken e)) all

pub one_owner : (count : ℕ) (xs : List DequeEnd) → AreAllEnds count (map end_hold xs) → sum_by end_owners xs ≡ 1
one_owner count xs all = sym (sum_map (λ h. h.owners) xs) ∙ all.owner

pub starts : (count : ℕ) (xs left : List DequeEnd) (at : ℕ) (o : Owner) → at < length xs → end.Owner o ≡ get_or xs at (end.Owner o) → left ≡ swap_remove xs at (end.Owner o) → AreAllEnds count (map end_hold xs) → Joining count xs o left
starts count xs left at o within is rest all =
    let own = end.Owner o in
    let sum : (f : DequeEnd → ℕ) → sum_by f left + f own ≡ sum_by f xs = λ f.
    let e : f own ≡ f (get_or xs at own) = ap f is in
    let r : sum_by f left ≡ sum_by f (swap_remove xs at own) = ap (sum_by f) rest in
    omega (arith, sum_by-swap_remove f xs at own within) in
    let deque = all.one.0 in
    let decks = all_unmap end_hold (λ h. h.deque ≡ deque) xs all.one.1 in
    let mine : owner_deque o ≡ deque = ap end_deque is ∙ decks at own within in
    let counts = all_unmap end_hold (λ h. h.count ≡ count) xs all.size in
    record {
      size = ap (λ e. (end_ledger e).count) is ∙ counts at own within;
      one = λ k d inside.
          let there : All (λ e. end_deque e ≡ deque) (own ∷ left) = All-permutation (λ e. end_deque e ≡ deque) xs (own ∷ left) (subst (λ l. IsPermutation xs (own ∷ l)) (sym rest) (IsPermutation-swap_remove xs at own within is)) decks in
          there (suc k) d (omega arith) ∙ sym mine;
      whole = omega (arith, sum (λ e. (end_ledger e).parts), all.whole, sum_map (λ h. h.parts) xs);
      owner = omega (arith, sum end_owners, one_owner count xs all);
      taken = λ h. omega (arith, sum (λ e. sum_by h (end_taken e)));
    }

pub same_deque : (count : ℕ) (all : List DequeEnd) (o : Owner) (left rest : List DequeEnd) (t : Thief) → left ≡ rest ++ end.Thief t ∷ [] → Joining count all o left → thief_deque t ≡ owner_deque o
same_deque count all o left rest t is j = (All-pop (λ e. end_deque e ≡ owner_deque o) left rest (Some (end.Thief t)) is j.one).1

pub joins : (count : ℕ) (all : List DequeEnd) (o p : Owner) (left rest : List DequeEnd) (t : Thief) → left ≡ rest ++ end.Thief t ∷ [] → owner_deque p ≡ owner_deque o → owner_ledger p ≡ joined_ledger (owner_ledger o) (thief_ledger t) → Joining count all o left → Joining count all p rest
joins count all o p left rest t is deque known j =
    let sum : (f : DequeEnd → ℕ) → sum_by f left ≡ sum_by f rest + f (end.Thief t) = λ f. ap (sum_by f) is ∙ sum_by_push f rest (end.Thief t) in
    record {
      size = ap (λ (v : Ledger). v.count) known ∙ j.size;
      one = λ k d within. (All-pop (λ e. end_deque e ≡ owner_deque o) left rest (Some (end.Thief t)) is j.one).0 k d within ∙ sym deque;
      whole =
          let more : (owner_ledger p).parts ≡ (owner_ledger o).parts + (thief_ledger t).parts = ap (λ (v : Ledger). v.parts) known in
          omega (arith, sum (λ e. (end_ledger e).parts), j.whole);
      owner = omega (arith, sum end_owners, j.owner);
      taken = λ h.
          let more : sum_by h (owner_ledger p).taken ≡ sum_by h ((owner_ledger o).taken ++ (thief_ledger t).taken) = ap (λ (v : Ledger). sum_by h v.taken) known in
          omega (arith, sum (λ e. sum_by h (end_taken e)), j.taken h, sum_by-append h (owner_ledger o).taken (thief_ledger t).taken);
    }

pub ends : (count : ℕ) (all left : List DequeEnd) (o : Owner) → left ≡ [] → Joining count all o left → AreJoined count all (owner_ledger o)
ends count all left o none j =
    let sum : (f : DequeEnd → ℕ) → sum_by f left ≡ 0 = λ f. ap (sum_by f) none in
    record {
      size = j.size;
      whole = omega (arith, sum (λ e. (end_ledger e).parts), j.whole);
      taken = λ h. omega (arith, sum (λ e. sum_by h (end_taken e)), j.taken h);
    }

-- a name that moves from the end of the second list to the end of the first
all_moved : (P : EndView → Type 0) (xs ys : List EndView) (z : EndView) → All P (xs ++ (ys ++ z ∷ [])) → All P ((xs ++ z ∷ []) ++ ys)
all_moved P xs ys z all =
    let rest = All-pop P (ys ++ z ∷ []) ys (Some z) refl (subst (All P) (drop-append_seam xs (ys ++ z ∷ [])) (All-drop P (length xs) (xs ++ (ys ++ z ∷ [])) all)) in
    All-append P (xs ++ z ∷ []) ys (All-push P xs z (subst (All P) (take-append_seam xs (ys ++ z ∷ [])) (All-take P (length xs) (xs ++ (ys ++ z ∷ [])) all)) rest.1) rest.0

sum_moved : (f : EndView → ℕ) (xs ys : List EndView) (z : EndView) → sum_by f ((xs ++ z ∷ []) ++ ys) ≡ sum_by f (xs ++ (ys ++ z ∷ []))
sum_moved f xs ys z = omega (arith, sum_by-append f xs (ys ++ z ∷ []), sum_by-append f ys (z ∷ []), sum_by-append f (xs ++ z ∷ []) ys, sum_by-append f xs (z ∷ []))

pub moved : (count : ℕ) (xs ys : List EndView) (z : EndView) → AreAllEnds count (xs ++ (ys ++ z ∷ [])) → AreAllEnds count ((xs ++ z ∷ []) ++ ys)
moved count xs ys z all = record {
  one = (all.one.0, all_moved (λ h. h.deque ≡ all.one.0) xs ys z all.one.1);
  size = all_moved (λ h. h.count ≡ count) xs ys z all.size;
  whole = sum_moved (λ h. h.parts) xs ys z ∙ all.whole;
  owner = sum_moved (λ h. h.owners) xs ys z ∙ all.owner;
}
