-- Each step of a lock keeps its rule.
use Rattle.std.proofs.Common.{◌≡◌, ◌≢◌, ℕ, eqb, [], ◌∷◌, Option, Some, MatchBool, get_or, set, sym, refl, ap, ◌∙◌, subst, arith, eq-eqb, ne_eqb}
use mathlib.Core.Logic.{dite}
use mathlib.Core.Option.{some}
use native.Mathlib.Decide.{ℕ_discrete}
use prog.Atomic.{either}
use Rattle.atomic_table.specs.Table.{State, Me, Step, keeps, takes, gives, Allows}
use Rattle.atomic_table.proofs.Lists.{set_here, exchanged}
use Rattle.keyed_lock.specs.LockSteps.{IsLockState, claimed}

module _ {T K : Type 0} (holds : K → T → Type 0) (key : K) where
  -- the word that a lock has is the one that is read
  word_is : (s : State (Option T) K) (kept : IsLockState holds key s) → get_or s.words 0 0 ≡ kept.word
  word_is s kept = ap (λ ws. get_or ws 0 0) kept.words

  -- a step that leaves the lock taken takes the value if the lock was free
  pub claims : (f : ℕ → ℕ) → ((n : ℕ) → f n ≢ 0) → (slots id : ℕ) (me : Me (Option T) K) (step : Step (Option T)) → me.0 ≡ key
      → Allows (IsLockState holds key) slots id me 0 f (claimed holds step me)
  claims f busy slots id me step is s kept wide at fits =
      let x : ℕ = get_or s.words 0 0 in
      let words : set s.words 0 (f x) ≡ f x ∷ [] = ap (λ ws. set ws 0 (f x)) kept.words in
      dite (ℕ_discrete x 0)
      (λ free. let v = kept.value (sym (word_is s kept) ∙ free) in (
        me.0,
        takes 0 (Some v.0),
        v.1,
        record { word = f x; words = words; value = λ none. absurd (busy x none) },
        (refl, subst (λ b. MatchBool b ((y : T) × ((0, Some v.0) ∷ me.1 ≡ (0, Some y) ∷ me.1) × holds me.0 y) ((0, Some v.0) ∷ me.1 ≡ me.1)) (sym (eq-eqb x 0 free)) (v.0, refl, subst (λ k. holds k v.0) (sym is) v.2)),
      ))
      (λ taken. (
        me.0,
        keeps,
        tt,
        record { word = f x; words = words; value = λ none. absurd (busy x none) },
        (refl, subst (λ b. MatchBool b ((y : T) × (me.1 ≡ (0, Some y) ∷ me.1) × holds me.0 y) (me.1 ≡ me.1)) (sym (ne_eqb x 0 taken)) refl),
      ))

  -- a seat that has a value which holds at the key may leave it and free the lock
  pub leaves : (id : ℕ) (x : T) → holds key x → Allows (IsLockState holds key) 1 id (key, (0, Some x) ∷ []) 0 (λ _. 0) (λ _ _. Unit {0})
  leaves id x h s kept wide at fits = (
    key,
    gives,
    tt,
    record { word = 0; words = ap (λ ws. set ws 0 0) kept.words; value = λ _. (x, set_here s.homes 0 (some (Some x)) (omega arith), h) },
    tt,
  )

-- a word that changes from 0 to 1 alone is not 0 after
pub exchanged_busy : (n : ℕ) → either (eqb n 0) 1 n ≢ 0
exchanged_busy n = exchanged n 0 1 (λ k. k ≢ 0) (λ hit. omega arith) (λ miss. miss)
