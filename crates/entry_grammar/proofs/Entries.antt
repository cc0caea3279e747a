-- The parts of an entry's line. A line spells at most one entry.
use Rattle.entry_grammar.proofs.Prelude.{◌≡◌, ◌≢◌, ℕ, [], ◌∷◌, IsInRange, append_assoc, append_cancel_left, append_cancel_right, IsFree, CutAt, NumberThen, number_once, ◌<◌, List, ◌++◌, refl, sym, ap, subst, ◌∙◌, arith, IsTrue, codes, Event, Reply, number_text, IsEvent, event_text, reply_text, spells_once, IsReply, SpellsEntry, PartsOf, reply_suits}
use Rattle.entry_grammar.proofs.Free.{all_both, cut_once, free_by, free_number}
use Rattle.entry_grammar.proofs.Marks.{equals, event_lacks}
use Rattle.entry_grammar.proofs.Replies.{fits_suits, reply_once}

-- ---- the parts of a line

-- what comes before the `=` and after it
parts_around : (event reply : List ℕ) → IsFree 61 event → CutAt 61 (event ++ codes " = " ++ reply) (event ++ 32 ∷ []) (32 ∷ reply)
parts_around event reply f = record { free = all_both (λ b. b ≢ 61) event (32 ∷ []) f (free_by 61 (32 ∷ []) refl); is = simp append_assoc }

-- the number, and what follows it
pub parts_number : (line : List ℕ) (n : ℕ) (event reply : List ℕ) → n < 100000000 → PartsOf line (number_text n) event reply → NumberThen line n (32 ∷ (event ++ codes " = " ++ reply))
parts_number line n event reply few p = record { fits = few; ends = λ (h : IsInRange 48 57 32). omega (arith, h.0); is = p.is ∙ simp append_assoc }

-- what was found after a number and a space is the rest of the parts
pub parts_behind : {line numbered rest event reply : List ℕ} {m : ℕ} (n : ℕ) → NumberThen line m numbered → numbered ≡ 32 ∷ rest → n < 100000000 → PartsOf line (number_text n) event reply → (m ≡ n) × CutAt 61 rest (event ++ 32 ∷ []) (32 ∷ reply)
parts_behind {line} {numbered} {rest} {event} {reply} {m} n h at few p =
    let r = number_once line m n numbered (32 ∷ (event ++ codes " = " ++ reply)) h (parts_number line n event reply few p) in
    let same : event ++ codes " = " ++ reply ≡ rest = append_cancel_left (32 ∷ []) (event ++ codes " = " ++ reply) rest (sym r.1 ∙ at) in
    (r.0, subst (λ (z : List ℕ). CutAt 61 z (event ++ 32 ∷ []) (32 ∷ reply)) same (parts_around event reply p.asked))

-- the front of a text that is free
free_front : (mark : ℕ) (x y : List ℕ) → IsFree mark (x ++ y) → IsFree mark x
free_front mark [] y f = tt
free_front mark (b ∷ x) y f = (f.0, free_front mark x y f.1)

-- parts that were cut off
pub parts_made : {line numbered rest asked answered : List ℕ} {n : ℕ} (event reply : List ℕ) → NumberThen line n numbered → numbered ≡ 32 ∷ rest → CutAt 61 rest asked answered → asked ≡ event ++ 32 ∷ [] → answered ≡ 32 ∷ reply → PartsOf line (number_text n) event reply
parts_made {n = n} event reply h at y near far = record {
  numbered = free_number 32 n (λ p. omega (arith, p.0)) (omega (arith, h.fits));
  asked = free_front 61 event (32 ∷ []) (subst (IsFree 61) near y.free);
  is = rw (h.is, at, y.is, near, far) (simp append_assoc);
}

-- ---- what a line spells

-- the parts of a line that spells an entry
pub spelled_parts : (line : List ℕ) (n : ℕ) (entry : Event × Reply) → SpellsEntry line n entry → PartsOf line (number_text n) (event_text entry.0) (reply_text entry.1)
spelled_parts line n entry h =
    let k = h.numbered in
    record { numbered = free_number 32 n (λ p. omega (arith, p.0)) (omega (arith, k.1)); asked = event_lacks equals entry.0 h.event; is = h.is }

-- parts that were found are those of the entry
pub spelled_same : {line event reply : List ℕ} (m : ℕ) {n : ℕ} {entry : Event × Reply} → (m < 100000000) × PartsOf line (number_text m) event reply → SpellsEntry line n entry → (m ≡ n) × (event ≡ event_text entry.0) × (reply ≡ reply_text entry.1)
spelled_same {line} {event} {reply} m {n} {entry} p h =
    let k = h.numbered in
    let r = parts_behind n (parts_number line m event reply p.0 p.1) refl (omega (arith, k.1)) (spelled_parts line n entry h) in
    let s = cut_once (parts_around event reply p.1.asked) r.1 in
    (r.0, append_cancel_right event (event_text entry.0) (32 ∷ []) s.0, append_cancel_left (32 ∷ []) reply (reply_text entry.1) s.1)

-- an event and a reply of its kind are determined by their texts
pub pair_is : (event : Event) (reply : Reply) (entry : Event × Reply) → IsEvent event → IsReply reply → IsTrue (reply_suits event reply) → IsEvent entry.0 → IsReply entry.1 → IsTrue (reply_suits entry.0 entry.1) → event_text event ≡ event_text entry.0 → reply_text reply ≡ reply_text entry.1 → (event ≡ entry.0) × (reply ≡ entry.1)
pair_is event reply entry f g s h k t d e =
    let same : event ≡ entry.0 = spells_once (event_text event) event entry.0 (f, refl) (h, d) in
    (same, reply_once entry.0 reply entry.1 (subst (λ (z : Event). IsTrue (reply_suits z reply)) same s) t g k e)

-- a line spells one entry
pub spells_entry_once : (line : List ℕ) (m n : ℕ) (e f : Event × Reply) → SpellsEntry line m e → SpellsEntry line n f → (m ≡ n) × (e ≡ f)
spells_entry_once line m n e f a b =
    let k = a.numbered in
    let p = spelled_same m (omega (arith, k.1), spelled_parts line m e a) b in
    let r = pair_is e.0 e.1 f a.event a.reply (fits_suits e.0 e.1 a.fits) b.event b.reply (fits_suits f.0 f.1 b.fits) p.1 p.2 in
    (p.0, ap (λ (z : Event). (z, e.1)) r.0 ∙ ap (λ (z : Reply). (f.0, z)) r.1)
