-- Names that leave a set are noted.
use Rattle.enabled_set.proofs.Prelude.{◌≡◌, ℕ, zero, suc, Bool, true, false, List, [], ◌∷◌, set, refl, sym, ◌∙◌, subst, ⊎_elim, get_or-set_other, true≢false, is_in}
use Rattle.std.proofs.Common.{IsTrue}
use Rattle.std.proofs.lemmas.Bool.{cases_eq}
use Rattle.enabled_set.specs.RemovedNames.{RemovedNames, may_have, KeepsNotes}

-- who is no member after a name came was none before
unset : (bits : List Bool) (v u : ℕ) → is_in (set bits v true) u ≡ false → is_in bits u ≡ false
unset [] v u h = refl
unset (b ∷ bits) zero zero h = absurd (true≢false h)
unset (b ∷ bits) zero (suc u) h = h
unset (b ∷ bits) (suc v) zero h = h
unset (b ∷ bits) (suc v) (suc u) h = unset bits v u h

pub inserted : (bits : List Bool) (removed : RemovedNames) (v : ℕ) → KeepsNotes bits removed (set bits v true) removed
inserted bits removed v = λ before noted u was off. noted u was (unset bits v u off)
