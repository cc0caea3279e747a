-- The exchange that adds a mark keeps the rule of the history.
use Rattle.snapshots.proofs.Prelude.{◌≡◌, ℕ, ◌+◌, ◌<◌, ◌==◌, Bool, true, false, List, [], ◌∷◌, ◌++◌, length, refl, ap, sym, ◌∙◌, subst, arith, inl, length-append, None, append-nil, nat_tests, Cell, cell, keeps, no_nib, step, Goes, Mark, AreHistoryCells, AddsMark}
use mathlib.Core.List.{IsPrefix}
use prog.Atomic.{either}
use Rattle.logbook.specs.Pages.{Moves}
use Rattle.snapshots.proofs.Fronts.{prefix_whole}

abbrev pub hidden : List Mark → List Mark
hidden marks = []

abbrev pub asked : List Mark → List Mark → ℕ → Type 0
asked xs ys n = Unit {0}

adds_goes : (marks v : List Mark) (m : Mark) (old n : ℕ) → length v ≡ old + 1 → length marks ≡ n + 1 → IsPrefix v marks → (b : Bool) → (n == old) ≡ b
    → Goes AreHistoryCells hidden asked 0 (v, (no_nib, None)) (λ k. either (k == old) (old + 1) k) (AddsMark (step 0 old (old + 1) m) (v, (no_nib, None))) ((n, true) ∷ []) marks
adds_goes marks v m old n len count pre true is =
    let here : n ≡ old = grind (arith, nat_tests) in
    let same : v ≡ marks = prefix_whole v marks pre (omega (arith, here, len, count)) in
    let more : either (n == old) (old + 1) n ≡ n + 1 = rw is (omega (arith, here)) in (
      keeps,
      m ∷ [],
      None,
      tt,
      (n + 1, omega (arith, count, length-append marks (m ∷ [])), ap (λ (k : ℕ). (k, true) ∷ []) more),
      inl (refl, refl),
      rw is (ap (λ w. w ++ m ∷ []) (sym same)),
    )
adds_goes marks v m old n len count pre false is =
    let still : either (n == old) (old + 1) n ≡ n = rw is refl in (
      keeps,
      [],
      None,
      tt,
      (n, ap length (append-nil marks) ∙ count, ap (λ (k : ℕ). (k, true) ∷ []) still),
      inl (refl, refl),
      rw is tt,
    )

-- whatever the history is, the exchange adds the mark to all that was seen, or finds another number
pub adds_moves : (v : List Mark) (m : Mark) (old : ℕ) → length v ≡ old + 1
    → Moves AreHistoryCells hidden asked 0 (v, (no_nib, None)) (λ n. either (n == old) (old + 1) n) (AddsMark (step 0 old (old + 1) m) (v, (no_nib, None)))
adds_moves v m old len cs marks (n, count, is) pre away =
    let P : List Cell → Type 0 = λ c. (0 < length c) × ((cell c 0).1 ≡ true) × Goes AreHistoryCells hidden asked 0 (v, (no_nib, None)) (λ k. either (k == old) (old + 1) k) (AddsMark (step 0 old (old + 1) m) (v, (no_nib, None))) c marks in
    subst P (sym is) (omega arith, refl, adds_goes marks v m old n len count pre (n == old) refl)
