-- The entry that the next line spells, and what it costs if it is a disturbance that is accepted.
use Rattle.auditor.proofs.Prelude.{◌≡◌, ◌≢◌, ap₂, act_word, marked_text, ℕ, ◌-◌, true, List, [], ◌∷◌, ◌++◌, length, drop, codes, nat_eq, Option, None, Some, refl, sym, ap, ◌∙◌, arith, true≢false, append_assoc, length-append, drop-append_seam, RuleSet, State, Entry, Event, Reply, Accepted, Moves, Moved, SpellsEntry, cost_by, number_text, event_text, reply_text, entry_text, move_text, IsNextCost, IsEntryAhead, changes}
use Rattle.std.proofs.lemmas.List.Folds.{list_any-append}
use Rattle.std.proofs.lemmas.Bool.{or_left, or_right}
use Rattle.line_text.specs.Words.{spaced}
use Rattle.std.specs.List.{list_any}
use Rattle.log_entry.specs.Kinds.{fits}
use Rattle.rule_machine.specs.declared.event.Event.TheVariants.{Step}
use Rattle.auditor.proofs.TextEnds.{entry_once}

-- no other entry comes than the one that the first line spells
pub next_cost : (rules : RuleSet) (s : State) (rest : List ℕ) (entry : Entry) (cost : ℕ) → cost ≡ cost_by rules s entry.0 → IsEntryAhead rest (Some entry) → IsNextCost rules s rest (Some cost)
next_cost rules s rest entry cost is (number, comes) other found there told =
    ap Some (is ∙ ap (λ (x : Entry). cost_by rules s x.0) (entry_once rest number other entry found comes there).1)

-- it is no accepted disturbance
pub no_cost : (rules : RuleSet) (s : State) (rest : List ℕ) (entry : Entry) → (entry.1 ≡ Accepted → ⊥) → IsEntryAhead rest (Some entry) → IsNextCost rules s rest None
no_cost rules s rest entry other (number, comes) also found there told =
    absurd (other (ap (λ (x : Entry). x.1) (entry_once rest number also entry found comes there).1 ∙ told))

-- nor is one that changes nothing
pub none_cost : (rules : RuleSet) (s : State) (rest : List ℕ) (o : Option Entry) → ((e : Entry) → o ≡ Some e → ⊥) → IsEntryAhead rest o → IsNextCost rules s rest None
none_cost rules s rest None none ahead = λ number entry comes told. absurd (true≢false (sym (ap changes told) ∙ ahead number entry comes))
none_cost rules s rest (Some e) none ahead = absurd (none e refl)

-- ---- the test of a line

has_mark : (a b : List ℕ) → list_any (λ b. nat_eq b 58) b ≡ true → list_any (λ b. nat_eq b 58) (a ++ b) ≡ true
has_mark a b h = list_any-append (λ (b : ℕ). nat_eq b 58) a b ∙ or_right (list_any (λ b. nat_eq b 58) a) (list_any (λ b. nat_eq b 58) b) h

has_mark_first : (a b : List ℕ) → list_any (λ b. nat_eq b 58) a ≡ true → list_any (λ b. nat_eq b 58) (a ++ b) ≡ true
has_mark_first a b h = list_any-append (λ (b : ℕ). nat_eq b 58) a b ∙ or_left (list_any (λ b. nat_eq b 58) a) (list_any (λ b. nat_eq b 58) b) h

-- the text of moves has a colon
moves_mark : (moves : List Moved) → moves ≢ [] → list_any (λ b. nat_eq b 58) (reply_text (Moves moves)) ≡ true
moves_mark [] some = absurd (some refl)
moves_mark (m ∷ moves) some =
    has_mark_first (move_text m) (spaced move_text moves) (has_mark_first (number_text m.node ++ codes ":" ++ act_word m.act) (marked_text (codes ">") m.target) (has_mark_first (number_text m.node ++ codes ":") (act_word m.act) (has_mark (number_text m.node) (codes ":") refl)))

some_fit : (event : Event) (moves : List Moved) → fits event (Moves moves) ≡ true → moves ≢ []
some_fit (Step items) moves fit none = absurd (true≢false (sym fit ∙ ap (λ l. fits (Step items) (Moves l)) none))
some_fit event moves fit none = absurd (true≢false (sym fit))

-- the line of a step with moves has a colon
pub changed_mark : (line : List ℕ) (number : ℕ) (entry : Entry) → SpellsEntry line number entry → changes entry.1 ≡ true → (entry.1 ≡ Accepted → ⊥) → list_any (λ b. nat_eq b 58) line ≡ true
changed_mark line number (event, reply) spells changed other = ap (list_any (λ (b : ℕ). nat_eq b 58)) spells.is ∙ by reply spells.fits changed other
  where
    by : (reply : Reply) → fits event reply ≡ true → changes reply ≡ true → (reply ≡ Accepted → ⊥) → list_any (λ b. nat_eq b 58) (entry_text number event reply) ≡ true
    by Accepted fit changed other = absurd (other refl)
    by (Moves moves) fit changed other =
        has_mark (number_text number ++ codes " " ++ event_text event ++ codes " = ") (reply_text (Moves moves)) (moves_mark moves (some_fit event moves fit))
    by reply fit changed other = absurd (true≢false (sym changed))

-- the last five bytes of the line of an accepted disturbance
pub accepted_end : (line : List ℕ) (number : ℕ) (entry : Entry) → SpellsEntry line number entry → entry.1 ≡ Accepted → drop (length line - 5) line ≡ codes " = ok"
accepted_end line number (event, reply) spells told =
    let front = number_text number ++ codes " " ++ event_text event in
    let is : line ≡ front ++ codes " = ok" = spells.is ∙ ap (λ r. entry_text number event r) told ∙ append_assoc front (codes " = ") (codes "ok") in
    let five : length line - 5 ≡ length front = omega (arith, ap length is, length-append front (codes " = ok")) in
    ap₂ drop five is ∙ drop-append_seam front (codes " = ok")
