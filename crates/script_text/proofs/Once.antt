-- A line is at most one command, and commands lead to one end. The numbers of turns are cut at the first space.
use Rattle.script_text.proofs.Prelude.{◌<◌, ◌^◌, ◌++◌, take, drop, add-one, slice_index, AllDigits, digit_from_value, eqb-true, ◌==◌, ◌≡◌, ℕ, zero, suc, ◌+◌, ◌*◌, Bool, true, false, ◌||◌, nat_eq, List, [], ◌∷◌, Option, None, Some, get_or, codes, refl, sym, ap, subst, ◌∙◌, arith, IsInRange, true≢false, append_cancel_left, digits_decimal, Stream, Event, Link, RuleTable, number_text, event_text, own, spells_once, Command, Tell, Drive, Scramble, Checkpoint, Turns, IsTurns, IsCommand, turns_text, command_text, Says, Draws, seeded_stream, drawn_step, drawn_fault, Progress, AppendsEntry, TurnDoes, TurnsDo, CommandDoes, LineDoes, LinesDo}
use Rattle.line_text.proofs.Grammars.{IsReadBack, Undigited, alone, apart_by, nothing_ends, number_back, through}

-- a seed and a count have one text
turns_back : IsReadBack (λ (t : Turns). (t.seed < 18446744073709551616) × (t.count < 18446744073709551616)) turns_text Undigited
turns_back =
    through (apart_by 32 number_back number_back (λ n r (p : IsInRange 48 57 32). omega (arith, p.0))) (λ (t : Turns). (t.seed, t.count)) (λ p. record { seed = p.0; count = p.1 }) (λ t. refl)

turns_once : (a b : Turns) → IsTurns a → IsTurns b → turns_text a ≡ turns_text b → a ≡ b
turns_once a b f g e = alone turns_back (λ t. nothing_ends) a b (omega (arith, f.0), omega (arith, f.1)) (omega (arith, g.0), omega (arith, g.1)) e

digit_is_no_space : (b : ℕ) → IsInRange 48 57 b → (b == 32) ≡ true → ⊥
digit_is_no_space b d e = omega (arith, d.0, eqb-true b 32 e)

-- the first space comes after the digits
space_at : (ds x : List ℕ) (k : ℕ) → AllDigits 10 ds → ((j : ℕ) → j < k → (slice_index (ds ++ 32 ∷ x) j == 32) ≡ true → ⊥)
    → (slice_index (ds ++ 32 ∷ x) k == 32) ≡ true → (take k (ds ++ 32 ∷ x) ≡ ds) × (drop (suc k) (ds ++ 32 ∷ x) ≡ x)
space_at [] x zero d none here = (refl, refl)
space_at [] x (suc k) d none here = absurd (none 0 (omega arith) refl)
space_at (b ∷ ds) x zero d none here = absurd (digit_is_no_space b (digit_from_value b d.0) here)
space_at (b ∷ ds) x (suc k) d none here =
    let later = space_at ds x k d.1 (λ j below. none (suc j) (omega (arith, below))) here in
    (ap (λ (z : List ℕ). b ∷ z) later.0, later.1)

-- a seed and a count are what comes before and after the first space
pub turns_cut : (bytes : List ℕ) (seed count k : ℕ) → seed < 2 ^ 64 → bytes ≡ number_text seed ++ 32 ∷ number_text count
    → ((j : ℕ) → j < k → (slice_index bytes j == 32) ≡ true → ⊥) → (slice_index bytes k == 32) ≡ true
    → (take k bytes ≡ number_text seed) × (drop (k + 1) bytes ≡ number_text count)
turns_cut bytes seed count k few e none here =
    let text : List ℕ = number_text seed ++ 32 ∷ number_text count in
    let p = space_at (number_text seed) (number_text count) k (digits_decimal own seed few)
    (λ j below at. none j below (ap (λ (z : List ℕ). slice_index z j == 32) e ∙ at)) (ap (λ (z : List ℕ). slice_index z k == 32) (sym e) ∙ here) in
    (ap (take k) e ∙ p.0, ap (λ n. drop n bytes) (add-one k) ∙ ap (drop (suc k)) e ∙ p.1)

-- the first two bytes, which tell the commands apart
abbrev pub head_of : List ℕ → ℕ
head_of line = get_or line 0 0 + 256 * get_or line 1 0

-- whether a line has the head of a command that is no event
abbrev is_own : List ℕ → Bool
is_own line = nat_eq (head_of line) (head_of (codes "drive ")) || (nat_eq (head_of line) (head_of (codes "scramble ")) || nat_eq (head_of line) (head_of (codes "checkpoint")))

-- no event's text has
not_own : (e : Event) → is_own (event_text e) ≡ false
not_own (Link a b) = refl
not_own e = refl

no_event : (e : Event) (line : List ℕ) → is_own line ≡ true → event_text e ≡ line → ⊥
no_event e line own same = true≢false (sym own ∙ ap is_own (sym same) ∙ not_own e)

-- a command has one text
command_once : (c d : Command) → IsCommand c → IsCommand d → command_text c ≡ command_text d → c ≡ d
command_once (Tell a) (Tell b) f g e = ap (λ (x : Event). Tell x) (spells_once (event_text a) a b (f, refl) (g, e))
command_once (Drive a) (Drive b) f g e = ap (λ (x : Turns). Drive x) (turns_once a b f g (append_cancel_left (codes "drive ") (turns_text a) (turns_text b) e))
command_once (Scramble a) (Scramble b) f g e = ap (λ (x : Turns). Scramble x) (turns_once a b f g (append_cancel_left (codes "scramble ") (turns_text a) (turns_text b) e))
command_once Checkpoint Checkpoint f g e = refl
command_once (Tell a) d f g e = absurd (no_event a (command_text d) refl e)
command_once c (Tell b) f g e = absurd (no_event b (command_text c) refl (sym e))
command_once c d f g e = absurd (omega (arith, ap head_of e))

-- a line is at most one command
pub says_once : (line : List ℕ) (c d : Command) → Says line c → Says line d → c ≡ d
says_once line c d p q = command_once c d p.0 q.0 (sym p.1 ∙ q.1)

same_progress : (p q : Progress) → p.rules ≡ q.rules → p.moment ≡ q.moment → p.count ≡ q.count → p.text ≡ q.text → p.counting ≡ q.counting → p ≡ q
same_progress p q r m n x c = λ i. record { rules = r i; moment = m i; count = n i; text = x i; counting = c i }

-- an event leads to one progress
entry_once : (t : RuleTable) (event : Event) (before after other : Progress) → AppendsEntry t event before after → AppendsEntry t event before other → after ≡ other
entry_once t event before after other p q = same_progress after other (p.rules ∙ sym q.rules) (p.moment ∙ sym q.moment) (p.count ∙ sym q.count) (p.text ∙ sym q.text) (p.counting ∙ sym q.counting)

-- a turn leads to one progress, if the later ones do
turn_once : (t : RuleTable) (drawn : Option Event) (P Q : Progress → Type 0) (before after other : Progress)
    → ((next : Progress) → P next → Q next → after ≡ other)
    → TurnDoes t drawn P before after → TurnDoes t drawn Q before other → after ≡ other
turn_once t None P Q before after other later p q = p ∙ sym q
turn_once t (Some event) P Q before after other later p q =
    later q.0 (subst P (entry_once t event before p.0 q.0 p.1 q.1) p.2) q.2

-- turns lead to one progress
turns_lead_once : (draws : Draws) (t : RuleTable) (limit turns : ℕ) (stream : Stream) (before after other : Progress)
    → TurnsDo draws t limit turns stream before after → TurnsDo draws t limit turns stream before other → after ≡ other
turns_lead_once draws t limit zero stream before after other p q = p ∙ sym q
turns_lead_once draws t limit (suc turns) stream before after other p q =
    let drawn = draws t before.moment.state stream in
    turn_once t drawn.0 (λ next. TurnsDo draws t limit turns drawn.1 next after) (λ next. TurnsDo draws t limit turns drawn.1 next other) before after other
    (λ next p q. turns_lead_once draws t limit turns drawn.1 next after other p q) p.1 q.1

-- a command leads to one progress
command_leads_once : (t : RuleTable) (limit : ℕ) (c : Command) (before after other : Progress) → CommandDoes t limit c before after → CommandDoes t limit c before other → after ≡ other
command_leads_once t limit (Tell event) before after other p q = entry_once t event before after other p.1 q.1
command_leads_once t limit (Drive turns) before after other p q = turns_lead_once drawn_step t limit turns.count (seeded_stream turns.seed) before after other p q
command_leads_once t limit (Scramble turns) before after other p q = turns_lead_once drawn_fault t limit turns.count (seeded_stream turns.seed) before after other p q
command_leads_once t limit Checkpoint before after other p q = p ∙ sym q

-- a line leads to one progress
line_once : (t : RuleTable) (limit : ℕ) (line : List ℕ) (before after other : Progress) → LineDoes t limit line before after → LineDoes t limit line before other → after ≡ other
line_once t limit [] before after other p q = p ∙ sym q
line_once t limit (b ∷ line) before after other p q =
    command_leads_once t limit q.0 before after other (subst (λ (c : Command). CommandDoes t limit c before after) (says_once (b ∷ line) p.0 q.0 p.1 q.1) p.2) q.2

-- lines lead to one progress
pub lines_once : (t : RuleTable) (limit : ℕ) (lines : List (List ℕ)) (before after other : Progress) → LinesDo t limit lines before after → LinesDo t limit lines before other → after ≡ other
lines_once t limit [] before after other p q = p ∙ sym q
lines_once t limit (line ∷ lines) before after other p q =
    let same = line_once t limit line before p.0 q.0 p.1 q.1 in
    lines_once t limit lines q.0 after other (subst (λ (x : Progress). LinesDo t limit lines x after) same p.2) q.2
