-- When a seeded daemon draws no choice.
use Rattle.daemon.proofs.Prelude.{◌≡◌, ◌↔◌, Bool, List, ℕ, [], ◌∷◌, None, refl, Stream, choice_drawn}

pub rests : (central : Bool) (names : List ℕ) (stream : Stream) → ((choice_drawn central names stream).0 ≡ None) ↔ (names ≡ [])
rests central [] stream = (λ _. refl, λ _. refl)
rests central (v ∷ names) stream = (λ some. cc, λ none. cc)
