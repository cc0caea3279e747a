-- A text that grows, and texts with a space after each and with a space before each.
use Rattle.line_text.proofs.Prelude.{◌≡◌, ℕ, List, ◌++◌, Result, Ok, Err, OnErr, ap, ◌∙◌, append_assoc, Extends, ◌-◌, ◌<◌, [], ◌∷◌, length, take, refl, sym, length-append, arith, take-append_seam, space_ended, spaced, joined_texts, append_cancel_left}

pub Extends-then : (old middle new text : List ℕ) → middle ≡ old ++ text → Extends middle new → Extends old new
Extends-then old middle new text e x = record { more = text ++ x.more; is = x.is ∙ ap (λ (m : List ℕ). m ++ x.more) e ∙ append_assoc old text x.more }

-- what holds whatever was returned
pub on_err : {T E : Type 0} (r : Result T E) (P : Type 0) → P → OnErr r P
on_err (Ok x) P p = tt
on_err (Err e) P p = p

-- a text that was written whole, and what an error left after it
pub err_then : {T E : Type 0} (r : Result T E) (old middle new text : List ℕ) → middle ≡ old ++ text → OnErr r (Extends middle new) → OnErr r (Extends old new)
err_then (Ok x) old middle new text e left = tt
err_then (Err e) old middle new text is left = Extends-then old middle new text is left

-- a text that was written whole, after which an error left no byte
pub Extends-by : (old middle new text : List ℕ) → new ≡ middle → middle ≡ old ++ text → Extends old new
Extends-by old middle new text kept written = record { more = text; is = kept ∙ written }

ended_spaced : {X : Type 0} (text : X → List ℕ) (items : List X) → 32 ∷ space_ended text items ≡ spaced text items ++ 32 ∷ []
ended_spaced text [] = refl
ended_spaced text (item ∷ items) =
    ap (λ (t : List ℕ). 32 ∷ t) (rw (append_assoc (text item) (32 ∷ []) (space_ended text items), ended_spaced text items) (sym (append_assoc (text item) (spaced text items) (32 ∷ []))))

-- one after each is one between any two and one after the last
ended_joined : {X : Type 0} (text : X → List ℕ) (items : List X) → 0 < length items → space_ended text items ≡ joined_texts text items ++ 32 ∷ []
ended_joined text [] some = absurd (omega arith)
ended_joined text (item ∷ items) some = append_cancel_left (32 ∷ []) (space_ended text (item ∷ items)) (joined_texts text (item ∷ items) ++ 32 ∷ []) (ended_spaced text (item ∷ items))

-- a text without its last byte
without_last : (all front left : List ℕ) (len byte : ℕ) → all ≡ front ++ byte ∷ [] → len ≡ length all → left ≡ take (len - 1) all → left ≡ front
without_last all front left len byte e l t =
    let n : len - 1 ≡ length front = omega (arith, ap length e, length-append front (byte ∷ [])) in
    t ∙ (ap (λ (k : ℕ). take k all) n ∙ (ap (λ (z : List ℕ). take (length front) z) e ∙ take-append_seam front (byte ∷ [])))

-- the words after one space each, if the last byte is dropped
pub left_spaced : {X : Type 0} (text : X → List ℕ) (items : List X) (old begun all left : List ℕ) (len : ℕ) → begun ≡ old ++ 32 ∷ [] → all ≡ begun ++ space_ended text items → len ≡ length all → left ≡ take (len - 1) all → left ≡ old ++ spaced text items
left_spaced text items old begun all left len b e l t =
    let whole : all ≡ (old ++ spaced text items) ++ 32 ∷ [] = rw (e, b, append_assoc old (32 ∷ []) (space_ended text items), ended_spaced text items) (sym (append_assoc old (spaced text items) (32 ∷ []))) in
    without_last all (old ++ spaced text items) left len 32 whole l t

-- the words joined by one space, if the last byte is dropped
pub left_joined : {X : Type 0} (text : X → List ℕ) (items : List X) (old all left : List ℕ) (len : ℕ) → 0 < length items → all ≡ old ++ space_ended text items → len ≡ length all → left ≡ take (len - 1) all → left ≡ old ++ joined_texts text items
left_joined text items old all left len some e l t =
    let whole : all ≡ (old ++ joined_texts text items) ++ 32 ∷ [] = rw (e, ended_joined text items some) (sym (append_assoc old (joined_texts text items) (32 ∷ []))) in
    without_last all (old ++ joined_texts text items) left len 32 whole l t
