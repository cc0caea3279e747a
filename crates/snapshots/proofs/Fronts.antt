-- Prefixes of one list, and what a longer history shows.
use Rattle.snapshots.proofs.Prelude.{◌≡◌, ◌+◌, ◌<◌, ◌≤◌, List, [], ◌∷◌, ◌++◌, length, take, drop, fold, refl, ap, sym, ◌∙◌, subst, arith, append_assoc, length-append, append-nil, nil_from_length, take_at, take-append-drop, take-append-le, fold-append, Entry, Mark, Beginning, Posting, Publication, origin_of, with_mark, published_and_posted, published, posted, shown}
use mathlib.Core.List.{IsPrefix}
use mathlib.Core.Logic.{dite}
use native.Mathlib.Decide.{dec_le}

module _ {A : Type 0} where
  pub prefix_self : (xs : List A) → IsPrefix xs xs
  prefix_self xs = ([], append-nil xs)

  pub prefix_more : (xs ys : List A) → IsPrefix xs (xs ++ ys)
  prefix_more xs ys = (ys, refl)

  pub prefix_trans : (xs ys zs : List A) → IsPrefix xs ys → IsPrefix ys zs → IsPrefix xs zs
  prefix_trans xs ys zs p q = (p.0 ++ q.0, sym (append_assoc xs p.0 q.0) ∙ (ap (λ w. w ++ q.0) p.1 ∙ q.1))

  -- of two prefixes of one list the shorter is a prefix of the longer
  pub prefix_shorter : (xs ys zs : List A) → IsPrefix xs zs → IsPrefix ys zs → length xs ≤ length ys → IsPrefix xs ys
  prefix_shorter xs ys zs p q le =
      let front = sym (take_at xs p.0 (length xs) refl) ∙ ap (take (length xs)) (p.1 ∙ sym q.1) ∙ take-append-le (length xs) ys q.0 le in
      (drop (length xs) ys, ap (λ w. w ++ drop (length xs) ys) front ∙ take-append-drop (length xs) ys)

  -- a prefix as long as the whole is the whole
  pub prefix_whole : (xs ys : List A) → IsPrefix xs ys → length ys ≤ length xs → xs ≡ ys
  prefix_whole xs ys p le =
      let none = nil_from_length p.0 (omega (arith, length-append xs p.0, ap length p.1)) in sym (append-nil xs) ∙ ap (λ w. xs ++ w) (sym none) ∙ p.1

-- marks take nothing away from what is published
grows : (marks : List Mark) (s : List Entry × List Entry) → IsPrefix s.0 (fold with_mark s marks).0
grows [] s = prefix_self s.0
grows (Beginning origin ∷ marks) s = grows marks s
grows (Posting entry ∷ marks) s = grows marks (s.0, entry ∷ [])
grows (Publication ∷ marks) s =
    prefix_trans s.0 (s.0 ++ s.1) (fold with_mark (s.0 ++ s.1, []) marks).0 (prefix_more s.0 s.1) (grows marks (s.0 ++ s.1, []))

-- what a prefix of a history published is a prefix of what the history published
pub published_grows : (xs ys : List Mark) → IsPrefix xs ys → IsPrefix (published xs) (published ys)
published_grows xs ys p =
    let is : fold with_mark (published_and_posted xs) p.0 ≡ published_and_posted ys = sym (fold-append with_mark ([], []) xs p.0) ∙ ap published_and_posted p.1 in
    subst (λ (s : List Entry × List Entry). IsPrefix (published xs) s.0) is (grows p.0 (published_and_posted xs))

-- with one mark more, at most the posted entry is published
one_more : (xs ys rest : List Mark) → xs ++ rest ≡ ys → length rest ≤ 1 → IsPrefix (published ys) (shown xs)
one_more xs ys [] is le = subst (λ (l : List Mark). IsPrefix (published l) (shown xs)) (sym (append-nil xs) ∙ is) (prefix_more (published xs) (posted xs))
one_more xs ys (Beginning origin ∷ []) is le =
    subst (λ (l : List Mark). IsPrefix (published l) (shown xs)) is
    (subst (λ (s : List Entry × List Entry). IsPrefix s.0 (shown xs)) (sym (fold-append with_mark ([], []) xs (Beginning origin ∷ []))) (prefix_more (published xs) (posted xs)))
one_more xs ys (Posting entry ∷ []) is le =
    subst (λ (l : List Mark). IsPrefix (published l) (shown xs)) is
    (subst (λ (s : List Entry × List Entry). IsPrefix s.0 (shown xs)) (sym (fold-append with_mark ([], []) xs (Posting entry ∷ []))) (prefix_more (published xs) (posted xs)))
one_more xs ys (Publication ∷ []) is le =
    subst (λ (l : List Mark). IsPrefix (published l) (shown xs)) is
    (subst (λ (s : List Entry × List Entry). IsPrefix s.0 (shown xs)) (sym (fold-append with_mark ([], []) xs (Publication ∷ []))) (prefix_self (shown xs)))
one_more xs ys (a ∷ b ∷ rest) is le = absurd (omega arith)

-- Of two prefixes of one history, what the one published is a prefix of what the other shows, if the other
-- lacks at most one mark of the first.
pub is_shown : (xs ys all : List Mark) → IsPrefix xs all → IsPrefix ys all → length xs ≤ length ys + 1 → IsPrefix (published xs) (shown ys)
is_shown xs ys all p q le =
    dite (dec_le (length xs) (length ys))
    (λ short. prefix_trans (published xs) (published ys) (shown ys) (published_grows xs ys (prefix_shorter xs ys all p q short)) (prefix_more (published ys) (posted ys)))
    (λ long.
    let r = prefix_shorter ys xs all q p (omega arith) in
    let n : length r.0 ≤ 1 = omega (arith, length-append ys r.0, ap length r.1) in
    one_more ys xs r.0 r.1 n)

-- ---- the origin

-- a history keeps its origin
pub origin_stays : (marks more : List Mark) → 0 < length marks → origin_of (marks ++ more) ≡ origin_of marks
origin_stays [] more some = absurd (omega (arith, some))
origin_stays (Beginning origin ∷ marks) more some = refl
origin_stays (Posting entry ∷ marks) more some = refl
origin_stays (Publication ∷ marks) more some = refl

-- also after the mark of an entry
pub origin_posted : (marks : List Mark) (entry : Entry) → origin_of (marks ++ Posting entry ∷ []) ≡ origin_of marks
origin_posted [] entry = refl
origin_posted (mark ∷ marks) entry = origin_stays (mark ∷ marks) (Posting entry ∷ []) (omega arith)

-- two prefixes of one history have one origin
pub one_origin : (xs ys all : List Mark) → IsPrefix xs all → IsPrefix ys all → 0 < length xs → 0 < length ys → origin_of xs ≡ origin_of ys
one_origin xs ys all p q some others =
    sym (origin_stays xs p.0 some) ∙ (ap origin_of (p.1 ∙ sym q.1) ∙ origin_stays ys q.0 others)
