-- Each step of a board keeps the rule of its copies.
use Rattle.snapshots.proofs.Prelude.{◌≡◌, ◌≢◌, ℕ, ◌+◌, List, [], ◌∷◌, ◌++◌, length, set, Option, Some, None, ⊎_elim, refl, ap, sym, ◌∙◌, subst, arith, length-append, fold-append, Admits, TurnsAt, Forks, Merges, at_set, at_snoc, Entry, Book, dropped, Mark, origin_of, nodes_before, base_before, shown, BoardShape, pointers_after, row_effect, here_after, here_by, CopyView, after, extent_of, ExtendsView, IsSound, IsReader, Publishes, Sees}
use mathlib.Core.List.{IsPrefix}
use mathlib.Core.Option.{some}
use lib.ListN.{get_elem?}
use Rattle.snapshots.proofs.Fronts.{prefix_self, prefix_more, prefix_trans}
use Rattle.snapshots.proofs.Rows.{effect_length}

pub follows_self : (x : CopyView) → ExtendsView (Some x) x
follows_self x = (refl, refl, prefix_self (shown x.marks))

pub follows_on : (v : Option CopyView) (x y : CopyView) → ExtendsView v x → ExtendsView (Some x) y → ExtendsView v y
follows_on None x y f g = tt
follows_on (Some s) x y f g =
    (g.0 ∙ f.0, g.1 ∙ f.1, prefix_trans (shown s.marks) (shown x.marks) (shown y.marks) f.2 g.2)

abbrev with_places : CopyView → ℕ → BoardShape
with_places x places = record { places = places; present = nodes_before x.marks; base = base_before x.marks }

module _ (law : BoardShape → List Entry → Type 0) where
  -- a copy that continues the one before may be shown
  pub turns : (seat : ℕ) (v : Option CopyView) (x y : CopyView) → (IsSound law x → IsSound law y) → ExtendsView (Some x) y → TurnsAt (Publishes law) seat v x y (Sees law)
  turns seat v x y sound on views h at = (
    Some y,
    (
      sound h.0,
      λ j u e. ⊎_elim (λ (t : (j ≡ seat) × (Some y ≡ u)). subst (λ (z : Option CopyView). ExtendsView z y) t.1 (follows_self y))
          (λ (t : (j ≢ seat) × (get_elem? views j ≡ some u)). follows_on u x y (h.1 j u t.1) on)
          (at_set views seat j (Some y) u e),
    ),
    (refl, follows_on v x y (h.1 seat v at) on, sound h.0),
  )

  pub looks : (seat : ℕ) (v : Option CopyView) (x : CopyView) → TurnsAt (Publishes law) seat v x x (Sees law)
  looks seat v x = turns seat v x x (λ s. s) (follows_self x)

  pub admits : Admits (Publishes law) None
  admits x views h = (
    h.0,
    λ j u e. ⊎_elim (h.1 j u) (λ (n : None ≡ u). subst (λ (z : Option CopyView). ExtendsView z x) n tt) (at_snoc views None u j e),
  )

  pub forks : (seat : ℕ) (v : Option CopyView) → Forks (Publishes law) seat v v v
  forks seat v x views h at = (
    h.0,
    λ j u e. ⊎_elim
        (λ (kept : get_elem? (set views seat v) j ≡ some u). ⊎_elim (λ (t : (j ≡ seat) × (v ≡ u)). subst (λ (z : Option CopyView). ExtendsView z x) t.1 (h.1 seat v at))
        (λ (t : (j ≢ seat) × (get_elem? views j ≡ some u)). h.1 j u t.1) (at_set views seat j v u kept))
        (λ (same : v ≡ u). subst (λ (z : Option CopyView). ExtendsView z x) same (h.1 seat v at))
        (at_snoc (set views seat v) v u j e),
  )

  pub merges : (seat : ℕ) (v : Option CopyView) (other : ℕ) (w : Option CopyView) → Merges (Publishes law) seat v other w w None
  merges seat v other w x views h at apart there =
      let told : ExtendsView w x = ⊎_elim (λ (t : (other ≡ seat) × (w ≡ w)). absurd (apart t.0)) (λ (t : (other ≢ seat) × (get_elem? views other ≡ some w)). h.1 other w t.1)
      (at_set views seat other w w there) in (
        h.0,
        λ j u e. ⊎_elim (λ (t : (j ≡ other) × (None ≡ u)). subst (λ (z : Option CopyView). ExtendsView z x) t.1 tt)
            (λ (k : (j ≢ other) × (get_elem? (set views seat w) j ≡ some u)). ⊎_elim (λ (t : (j ≡ seat) × (w ≡ u)). subst (λ (z : Option CopyView). ExtendsView z x) t.1 told)
            (λ (t : (j ≢ seat) × (get_elem? views j ≡ some u)). h.1 j u t.1) (at_set views seat j w u k.1))
            (at_set (set views seat w) other j None u e),
      )

  -- a copy one entry later agrees with its entries
  pub later : (x : CopyView) (entry : Entry) (front : ℕ) (marks : List Mark) (book : Book) → origin_of marks ≡ origin_of x.marks → shown marks ≡ shown x.marks ++ entry ∷ []
      → front ≡ dropped (base_before x.marks) + length (shown x.marks) + 1 → law (extent_of x) (shown x.marks ++ entry ∷ []) → IsSound law x → IsSound law (after x entry front marks book)
  later x entry front marks book from is number holds sound =
      let n : length (row_effect x.row entry) ≡ length x.row = effect_length x.row entry in
      let more : row_effect x.row entry ≡ pointers_after (extent_of x) (shown x.marks ++ entry ∷ []) =
      ap (λ r. row_effect r entry) sound.row ∙ sym (fold-append row_effect (pointers_after (extent_of x) []) (shown x.marks) (entry ∷ [])) in
      let here : here_by x.here entry ≡ here_after (extent_of x) (shown x.marks ++ entry ∷ []) =
      ap (λ h. here_by h entry) sound.here ∙ sym (fold-append here_by (here_after (extent_of x) []) (shown x.marks) (entry ∷ [])) in
      record {
        row = rw (n, from, is) more;
        here = rw (n, from, is) here;
        front = number ∙ rw (from, is) (omega (arith, length-append (shown x.marks) (entry ∷ [])));
        lawful = rw (n, from, is) holds;
      }

  pub goes_on : (x : CopyView) (entry : Entry) (front : ℕ) (marks : List Mark) → origin_of marks ≡ origin_of x.marks → shown marks ≡ shown x.marks ++ entry ∷ [] → ExtendsView (Some x) (after x entry front marks x.book)
  goes_on x entry front marks from is = (refl, rw from (ap (λ (n : ℕ). with_places x n) (effect_length x.row entry)), rw is (prefix_more (shown x.marks) (entry ∷ [])))

  -- a look shows a copy that continues the known one
  pub goes_on_from : (list : List Entry) (v : Option CopyView) (x : CopyView) (w : Option CopyView) (s : CopyView) → v ≡ Some s → Sees law v x x w → IsPrefix list (shown s.marks)
      → IsPrefix list (shown x.marks)
  goes_on_from list v x w s is sees begins =
      let f : ExtendsView (Some s) x = subst (λ (z : Option CopyView). ExtendsView z x) is sees.1 in prefix_trans list (shown s.marks) (shown x.marks) begins f.2

  -- who looked knows a copy that continues what was seen
  pub reader_looked : (v w : Option CopyView) (x : CopyView) (seen : List Mark) (seen_in learnt_in : Book) → IsReader v seen seen_in learnt_in → Sees law v x x w → IsReader w seen seen_in learnt_in
  reader_looked v w x seen seen_in learnt_in is sees =
      let f : ExtendsView (Some is.copy) x = subst (λ (z : Option CopyView). ExtendsView z x) is.knows sees.1 in
      record {
        copy = x;
        knows = sees.0;
        sees = is.sees ∙ sym f.0;
        learns = is.learns ∙ sym f.0;
        begins = prefix_trans (shown seen) (shown is.copy.marks) (shown x.marks) is.begins f.2;
        base = is.base ∙ sym (ap (λ (e : BoardShape). e.base) f.1);
      }
