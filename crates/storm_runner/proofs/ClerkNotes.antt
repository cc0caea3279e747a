-- Whose notes a clerk has, and what they tell after a call.
use Rattle.storm_runner.proofs.Prelude.{arith, ◌≡◌, ◌∙◌, ℕ, ◌<◌, ◌∷◌, [], refl, ap, All-nil, All-cons, front_more, Receipt, Book, Event, Reply, ClerkView, front_of, base_from, seen_by, HasNoteOf, IsOfBook, Keeps, Tell, Scene, IsFor, AreAbove, AddsReceipts}

-- a note of this history
pub of_book : (book : Book) (clerk : ClerkView) → HasNoteOf book clerk → IsOfBook book clerk
of_book book clerk has = grind arith

-- an event was recorded, with a number above the clerk's base
pub told_one : (scene : Scene) (front : ℕ) (event : Event) (old new : ClerkView) (reply : Reply) → Keeps old.receipts new.receipts event reply → seen_by old < front_of new.receipts → AddsReceipts (λ own. IsFor scene front (Tell event) own × AreAbove old.base own) old.receipts new.receipts
told_one scene front event old new reply kept above =
    let receipt : Receipt = record { seq = kept.seq; event = event; reply = reply } in
    let last : front_of new.receipts ≡ kept.seq = ap front_of kept.added ∙ front_more 0 old.receipts receipt in
    record { own = receipt ∷ []; added = kept.added; fits = (refl, All-cons (λ r. base_from old.base < r.seq) receipt [] (omega (arith, above, last)) (All-nil (λ r. base_from old.base < r.seq))) }
