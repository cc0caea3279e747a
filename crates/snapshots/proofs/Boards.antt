-- A board at its start, and after posting and publishing.
use Rattle.snapshots.proofs.Prelude.{◌≡◌, ℕ, ◌+◌, ◌<◌, List, [], ◌∷◌, ◌++◌, length, map, fold, Option, Some, inl, inr, ⊎_elim, refl, ap, sym, ◌∙◌, subst, arith, length-append, fold-append, Entry, Book, dropped, Posted, Origin, Mark, Beginning, Posting, origin_of, origin_nodes, origin_base, base_before, with_mark, published_and_posted, published, posted, shown, max_marks, BoardShape, row_at_start, here_at_start, LonePost, CopyView, copy_at_start, after, extent_of, ExtendsView, IsSound, entries_of, absorbed, IsPublishable, IsPostedLast, IsBoard, posted_at}
use Rattle.snapshots.proofs.BoardSteps.{follows_self, later, goes_on}
use Rattle.snapshots.proofs.Fronts.{origin_posted}
use Rattle.snapshots.proofs.Starts.{row_places}

pub none_pending : (pending : List Posted) → entries_of pending ≡ [] → pending ≡ []
none_pending [] is = refl
none_pending (p ∷ pending) is = absurd (cc is)

-- an entry that is posted changes nothing published, and is the one posted last
pub post_standing : (marks : List Mark) (entry : Entry) → published_and_posted (marks ++ Posting entry ∷ []) ≡ (published marks, entry ∷ [])
post_standing marks entry = fold-append with_mark ([], []) marks (Posting entry ∷ [])

module _ (law : BoardShape → List Entry → Type 0) (x : CopyView) (known : Option CopyView) (marks : List Mark) (book : Book) (announced : List Mark) where
  -- the entry that was appended is the one that the history has posted last
  pub posts : (marks' : List Mark) (book' : Book) (p : Posted) → IsBoard law x known [] marks book announced → marks' ≡ marks ++ Posting p.entry ∷ [] → book' ≡ book
      → p.past.seen.log ≡ marks' → p.past.seen.book ≡ book' → p.front ≡ dropped (base_before x.marks) + length (shown x.marks) + 1 → length marks + 1 < max_marks → IsBoard law x known (p ∷ []) marks' book' announced
  posts marks' book' p b is same log at number room = record {
    sound = b.sound;
    knows = b.knows;
    same = same ∙ b.same;
    origin = ap origin_of is ∙ (origin_posted marks p.entry ∙ b.origin);
    list = ap published is ∙ (ap (λ s. s.0) (post_standing marks p.entry) ∙ b.list);
    ready = inr (p, refl, record { past = log; same = at; number = number; last = ap posted is ∙ ap (λ s. s.1) (post_standing marks p.entry); room = rw is (omega (arith, room, length-append marks (Posting p.entry ∷ []))) });
    is_announced = b.is_announced;
    announced_from = b.announced_from;
  }

  -- the entries shown after the posted entry
  shows_more : (pending : List Posted) (p : Posted) → IsBoard law x known pending marks book announced → IsPostedLast x marks book p → shown p.past.seen.log ≡ shown x.marks ++ p.entry ∷ []
  shows_more pending p b f = ap shown f.past ∙ (ap (λ l. l ++ posted marks) b.list ∙ ap (λ l. shown x.marks ++ l) f.last)

  pub is_ready : (pending : List Posted) → IsBoard law x known pending marks book announced → law (extent_of x) (shown x.marks ++ entries_of pending) → IsPublishable law x pending
  is_ready pending b holds =
      ⊎_elim (λ (none : pending ≡ []). subst (IsPublishable law x) (sym none) (λ s. s, follows_self x))
      (λ (one : (p : Posted) × (pending ≡ p ∷ []) × IsPostedLast x marks book p).
      let p = one.0 in
      let f = one.2 in
      let more : shown p.past.seen.log ≡ shown x.marks ++ p.entry ∷ [] = shows_more pending p b f in
      let here : law (extent_of x) (shown x.marks ++ p.entry ∷ []) = subst (λ (l : List Posted). law (extent_of x) (shown x.marks ++ entries_of l)) one.1 holds in
      let at : p.past.seen.book ≡ x.book = f.same ∙ b.same in
      let from : origin_of p.past.seen.log ≡ origin_of x.marks = ap origin_of f.past ∙ b.origin in
      subst (IsPublishable law x) (sym one.1) (
        later law x p.entry p.front p.past.seen.log p.past.seen.book from more f.number here,
        subst (λ (k : Book). ExtendsView (Some x) (record (absorbed x p) { book = k })) (sym at) (goes_on law x p.entry p.front p.past.seen.log from more),
      ))
      b.ready

-- ---- one copy

-- the entry that a lone copy lacks
pub lone_entry : (at : LonePost) (entries : List Entry) → entries_of (map (λ entry. record { entry = entry; front = at.front; past = at.past }) entries) ≡ entries
lone_entry at [] = refl
lone_entry at (entry ∷ entries) = ap (λ l. entry ∷ l) (lone_entry at entries)

-- is taken in when it is given
pub lone_shown : (x : CopyView) (at : LonePost) (entry : Entry) → entries_of (posted_at at) ≡ entry ∷ [] → fold absorbed x (posted_at at) ≡ after x entry at.front at.past.seen.log at.past.seen.book
lone_shown x at entry is =
    let last : posted at.past.seen.log ≡ entry ∷ [] = sym (lone_entry at (posted at.past.seen.log)) ∙ is in
    ap (λ (l : List Entry). fold absorbed x (map (λ e. record { entry = e; front = at.front; past = at.past }) l)) last

-- ---- a board without entries

-- the extent of a board with these places and this origin
abbrev pub extent_from : ℕ → Origin → BoardShape
extent_from places origin = record { places = places; present = origin_nodes (Some origin); base = origin_base (Some origin) }

-- is that of a copy before any entry
pub extent_at_start : (places : ℕ) (origin : Origin) (marks : List Mark) (book : Book) → marks ≡ Beginning origin ∷ [] → extent_of (copy_at_start (extent_from places origin) marks book) ≡ extent_from places origin
extent_at_start places origin marks book is =
    rw is (ap (λ (n : ℕ). record (extent_from places origin) { places = n }) (row_places (extent_from places origin)))

-- a copy before any entry makes a board, if the law holds without entries
pub begins : (law : BoardShape → List Entry → Type 0) (places : ℕ) (origin : Origin) (x : CopyView) (marks : List Mark) (book : Book) → law (extent_from places origin) []
    → x ≡ copy_at_start (extent_from places origin) marks book → marks ≡ Beginning origin ∷ [] → IsBoard law x (Some x) [] marks book marks
begins law places origin x marks book holds is first =
    let extent : BoardShape = extent_from places origin in
    let one : List Mark = Beginning origin ∷ [] in
    let at : CopyView = copy_at_start extent one book in
    let shape : extent_of at ≡ extent = extent_at_start places origin one book refl in
    let here : x ≡ at = is ∙ ap (λ (l : List Mark). copy_at_start extent l book) first in
    let sound : IsSound law at = record {
      row = ap row_at_start (sym shape);
      here = ap here_at_start (sym shape);
      front = omega arith;
      lawful = subst (λ (e : BoardShape). law e []) (sym shape) holds;
    } in
    let board : IsBoard law at (Some at) [] one book one = record { sound = sound; knows = refl; same = refl; origin = refl; list = refl; ready = inl refl; is_announced = refl; announced_from = refl } in
    subst (λ (l : List Mark). IsBoard law x (Some x) [] l book l) (sym first) (subst (λ (z : CopyView). IsBoard law z (Some z) [] one book one) (sym here) board)
