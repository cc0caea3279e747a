-- Of two prefixes of one history, what the one published and what the other shows are of one log.
use Rattle.snapshots.proofs.Prelude.{ℕ, ◌-◌, ◌≤◌, ◌⊎◌, ⊎_elim, List, [], ◌∷◌, ◌++◌, length, take, fold, inl, inr, arith, length-append, length-take, take-append-drop, Entry, Mark, Beginning, Posting, Publication, with_mark, published, posted, shown, but_last, IsOneLog, AreOneLog, AreComparable, drop}
use mathlib.Core.List.{IsPrefix}
use mathlib.Core.Logic.{dite}
use native.Mathlib.Decide.{dec_le}
use Rattle.snapshots.proofs.Fronts.{prefix_more, prefix_trans, prefix_shorter, published_grows}

-- at most one entry is posted
one_posted : (marks : List Mark) (s : List Entry × List Entry) → length s.1 ≤ 1 → length (fold with_mark s marks).1 ≤ 1
one_posted [] s le = le
one_posted (Beginning origin ∷ marks) s le = one_posted marks s le
one_posted (Posting entry ∷ marks) s le = one_posted marks (s.0, entry ∷ []) (omega arith)
one_posted (Publication ∷ marks) s le = one_posted marks (s.0 ++ s.1, []) (omega arith)

take_begins : (n : ℕ) (log : List Entry) → IsPrefix (take n log) log
take_begins n log = (drop n log, take-append-drop n log)

-- all that is shown but the last entry was published
but_last_published : (marks : List Mark) → IsPrefix (but_last (shown marks)) (published marks)
but_last_published marks =
    let log = shown marks in
    let few : length (posted marks) ≤ 1 = one_posted marks ([], []) (omega arith) in
    let less : length (but_last log) ≤ length (published marks) = omega (arith, few, length-take (length log - 1) log, length-append (published marks) (posted marks)) in
    prefix_shorter (but_last log) (published marks) log (take_begins (length log - 1) log) (prefix_more (published marks) (posted marks)) less

published_shown : (xs ys : List Mark) → IsPrefix xs ys → IsPrefix (published xs) (shown ys)
published_shown xs ys p = prefix_trans (published xs) (published ys) (shown ys) (published_grows xs ys p) (prefix_more (published ys) (posted ys))

but_last_grows : (xs ys : List Mark) → IsPrefix xs ys → IsPrefix (but_last (shown xs)) (published ys)
but_last_grows xs ys p = prefix_trans (but_last (shown xs)) (published xs) (published ys) (but_last_published xs) (published_grows xs ys p)

module _ (xs ys all : List Mark) (p : IsPrefix xs all) (q : IsPrefix ys all) where
  one_begins : IsPrefix xs ys ⊎ IsPrefix ys xs
  one_begins =
      dite (dec_le (length xs) (length ys)) (λ short. inl (prefix_shorter xs ys all p q short)) (λ long. inr (prefix_shorter ys xs all q p (omega arith)))

  pub told_and_shown : IsOneLog (published xs) (shown ys)
  told_and_shown = ⊎_elim (λ b. inl (published_shown xs ys b)) (λ b. inr (but_last_grows ys xs b)) one_begins

  pub both_told : AreComparable (published xs) (published ys)
  both_told = ⊎_elim (λ b. inl (published_grows xs ys b)) (λ b. inr (published_grows ys xs b)) one_begins

  pub both_shown : AreOneLog (shown xs) (shown ys)
  both_shown =
      ⊎_elim (λ b. inl (prefix_trans (but_last (shown xs)) (published ys) (shown ys) (but_last_grows xs ys b) (prefix_more (published ys) (posted ys))))
      (λ b. inr (prefix_trans (but_last (shown ys)) (published xs) (shown xs) (but_last_grows ys xs b) (prefix_more (published xs) (posted xs)))) one_begins
