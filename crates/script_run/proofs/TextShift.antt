-- What a line adds to the text of a run, it adds to any text.
use Rattle.script_run.proofs.Prelude.{◌≡◌, ◌∙◌, ℕ, zero, suc, ◌+◌, List, [], ◌∷◌, ◌++◌, Option, None, Some, inl, inr, refl, sym, ap, subst, append_assoc, append-nil, Stream, Event, RuleSet, RuleTable, RoundCount, reply_of, Moment, base_of, entry_line, base_text, Command, Tell, Drive, Scramble, Checkpoint, Draws, seeded_stream, drawn_step, drawn_fault, TurnsTake, TurnsBegin, CommandBegins, TakesFirstTurns, Progress, AppendsEntry, IsFull, EventDoes, TurnDoes, TurnsDo, TurnFills, TurnsFill, with_checkpoint, CommandDoes, CommandFills, LineDoes, MeetsFullLog}

-- the progress of a run
abbrev pub at_line : RuleSet → Moment → ℕ → Option RoundCount → List ℕ → Progress
at_line r s count counting text = record { rules = r; moment = s; count = count; text = text; counting = counting }

-- what leads from one text to another leads from any text to one that has as much more
pub record Adds (Leads : Progress → Progress → Type 0) (r r' : RuleSet) (s s' : Moment) (n n' : ℕ) (k k' : Option RoundCount) (old new : List ℕ) : Type 0 where
  pub more : List ℕ
  pub grown : new ≡ old ++ more
  pub leads : (text : List ℕ) → Leads (at_line r s n k text) (at_line r' s' n' k' (text ++ more))

-- to do nothing adds nothing
stays_adds : (r r' : RuleSet) (s s' : Moment) (n n' : ℕ) (k k' : Option RoundCount) (old new : List ℕ) → at_line r' s' n' k' new ≡ at_line r s n k old → Adds (λ before after. after ≡ before) r r' s s' n n' k k' old new
stays_adds r r' s s' n n' k k' old new same = record {
  more = [];
  grown = ap (λ (p : Progress). p.text) same ∙ sym (append-nil old);
  leads = λ text. ap (λ (p : Progress). at_line p.rules p.moment p.count p.counting (text ++ [])) same ∙ ap (λ l. at_line r s n k l) (append-nil text);
}

-- an entry, and what follows it
entry_adds : (t : RuleTable) (event : Event) (Others : Progress → Progress → Type 0) (r r' : RuleSet) (s s' : Moment) (n n' : ℕ) (k k' : Option RoundCount) (old new : List ℕ) (next : Progress)
    → AppendsEntry t event (at_line r s n k old) next → Adds Others next.rules r' next.moment s' next.count n' next.counting k' next.text new
    → Adds (λ before after. (mid : Progress) × AppendsEntry t event before mid × Others mid after) r r' s s' n n' k k' old new
entry_adds t event Others r r' s s' n n' k k' old new next entry later =
    let line : List ℕ = entry_line (n + 1) event (reply_of t s.state s.spent event) in record {
      more = line ++ later.more;
      grown = later.grown ∙ ap (λ l. l ++ later.more) entry.text ∙ append_assoc old line later.more;
      leads = λ text. (
        at_line next.rules next.moment next.count next.counting (text ++ line),
        record { rules = entry.rules; moment = entry.moment; count = entry.count; text = refl; counting = entry.counting },
        subst (λ l. Others (at_line next.rules next.moment next.count next.counting (text ++ line)) (at_line r' s' n' k' l)) (append_assoc text line later.more) (later.leads (text ++ line)),
      );
    }

turn_adds : (t : RuleTable) (drawn : Option Event) (Others : Progress → Progress → Type 0) (r r' : RuleSet) (s s' : Moment) (n n' : ℕ) (k k' : Option RoundCount) (old new : List ℕ)
    → ((q : RuleSet) (x : Moment) (m : ℕ) (j : Option RoundCount) (text : List ℕ) → Others (at_line q x m j text) (at_line r' s' n' k' new) → Adds Others q r' x s' m n' j k' text new)
    → TurnDoes t drawn (λ next. Others next (at_line r' s' n' k' new)) (at_line r s n k old) (at_line r' s' n' k' new)
    → Adds (λ before after. TurnDoes t drawn (λ next. Others next after) before after) r r' s s' n n' k k' old new
turn_adds t None Others r r' s s' n n' k k' old new later same = stays_adds r r' s s' n n' k k' old new same
turn_adds t (Some event) Others r r' s s' n n' k k' old new later (next, entry, others) =
    entry_adds t event Others r r' s s' n n' k k' old new next entry (later next.rules next.moment next.count next.counting next.text others)

turns_add : (draws : Draws) (t : RuleTable) (limit turns : ℕ) (stream : Stream) (r r' : RuleSet) (s s' : Moment) (n n' : ℕ) (k k' : Option RoundCount) (old new : List ℕ)
    → TurnsDo draws t limit turns stream (at_line r s n k old) (at_line r' s' n' k' new) → Adds (TurnsDo draws t limit turns stream) r r' s s' n n' k k' old new
turns_add draws t limit zero stream r r' s s' n n' k k' old new same = stays_adds r r' s s' n n' k k' old new same
turns_add draws t limit (suc turns) stream r r' s s' n n' k k' old new (below, turn) =
    let drawn = draws t s.state stream in
    let a = turn_adds t drawn.0 (TurnsDo draws t limit turns drawn.1) r r' s s' n n' k k' old new (λ q x m j text others. turns_add draws t limit turns drawn.1 q r' x s' m n' j k' text new others) turn in
    record { more = a.more; grown = a.grown; leads = λ text. (below, a.leads text) }

fill_adds : (t : RuleTable) (drawn : Option Event) (Others : Progress → Progress → Type 0) (r r' : RuleSet) (s s' : Moment) (n n' : ℕ) (k k' : Option RoundCount) (old new : List ℕ)
    → ((q : RuleSet) (x : Moment) (m : ℕ) (j : Option RoundCount) (text : List ℕ) → Others (at_line q x m j text) (at_line r' s' n' k' new) → Adds Others q r' x s' m n' j k' text new)
    → TurnFills t drawn (λ next. Others next (at_line r' s' n' k' new)) (at_line r s n k old)
    → Adds (λ before after. TurnFills t drawn (λ next. Others next after) before) r r' s s' n n' k k' old new
fill_adds t None Others r r' s s' n n' k k' old new later none = absurd none
fill_adds t (Some event) Others r r' s s' n n' k k' old new later (next, entry, others) =
    entry_adds t event Others r r' s s' n n' k k' old new next entry (later next.rules next.moment next.count next.counting next.text others)

full_adds : (limit : ℕ) (r r' : RuleSet) (s s' : Moment) (n n' : ℕ) (k k' : Option RoundCount) (old new : List ℕ) → IsFull limit (at_line r s n k old) (at_line r' s' n' k' new) → Adds (IsFull limit) r r' s s' n n' k k' old new
full_adds limit r r' s s' n n' k k' old new (full, same) =
    let a = stays_adds r r' s s' n n' k k' old new same in record { more = a.more; grown = a.grown; leads = λ text. (full, a.leads text) }

turns_fill_add : (draws : Draws) (t : RuleTable) (limit turns : ℕ) (stream : Stream) (r r' : RuleSet) (s s' : Moment) (n n' : ℕ) (k k' : Option RoundCount) (old new : List ℕ)
    → TurnsFill draws t limit turns stream (at_line r s n k old) (at_line r' s' n' k' new) → Adds (TurnsFill draws t limit turns stream) r r' s s' n n' k k' old new
turns_fill_add draws t limit zero stream r r' s s' n n' k k' old new none = absurd none
turns_fill_add draws t limit (suc turns) stream r r' s s' n n' k k' old new (inl full) =
    let a = full_adds limit r r' s s' n n' k k' old new full in record { more = a.more; grown = a.grown; leads = λ text. inl (a.leads text) }
turns_fill_add draws t limit (suc turns) stream r r' s s' n n' k k' old new (inr (below, fill)) =
    let drawn = draws t s.state stream in
    let a = fill_adds t drawn.0 (TurnsFill draws t limit turns drawn.1) r r' s s' n n' k k' old new (λ q x m j text others. turns_fill_add draws t limit turns drawn.1 q r' x s' m n' j k' text new others) fill in
    record { more = a.more; grown = a.grown; leads = λ text. inr (below, a.leads text) }

event_adds : (t : RuleTable) (limit : ℕ) (event : Event) (r r' : RuleSet) (s s' : Moment) (n n' : ℕ) (k k' : Option RoundCount) (old new : List ℕ) → EventDoes t limit event (at_line r s n k old) (at_line r' s' n' k' new) → Adds (EventDoes t limit event) r r' s s' n n' k k' old new
event_adds t limit event r r' s s' n n' k k' old new (below, entry) = record {
  more = entry_line (n + 1) event (reply_of t s.state s.spent event);
  grown = entry.text;
  leads = λ text. (below, record { rules = entry.rules; moment = entry.moment; count = entry.count; text = refl; counting = entry.counting });
}

-- the lines of a base are those of the run's state, whatever the text is
checkpoint_adds : (r r' : RuleSet) (s s' : Moment) (n n' : ℕ) (k k' : Option RoundCount) (old new : List ℕ) → at_line r' s' n' k' new ≡ with_checkpoint (at_line r s n k old)
    → Adds (λ before after. after ≡ with_checkpoint before) r r' s s' n n' k k' old new
checkpoint_adds r r' s s' n n' k k' old new same =
    let lines : List ℕ = base_text r s.state.network.size (base_of n s) in record {
      more = lines;
      grown = ap (λ (p : Progress). p.text) same;
      leads = λ text. ap (λ (p : Progress). at_line p.rules p.moment p.count p.counting (text ++ lines)) same;
    }

command_adds : (t : RuleTable) (limit : ℕ) (c : Command) (r r' : RuleSet) (s s' : Moment) (n n' : ℕ) (k k' : Option RoundCount) (old new : List ℕ) → CommandDoes t limit c (at_line r s n k old) (at_line r' s' n' k' new) → Adds (CommandDoes t limit c) r r' s s' n n' k k' old new
command_adds t limit (Tell event) r r' s s' n n' k k' old new does = event_adds t limit event r r' s s' n n' k k' old new does
command_adds t limit (Drive turns) r r' s s' n n' k k' old new does = turns_add drawn_step t limit turns.count (seeded_stream turns.seed) r r' s s' n n' k k' old new does
command_adds t limit (Scramble turns) r r' s s' n n' k k' old new does = turns_add drawn_fault t limit turns.count (seeded_stream turns.seed) r r' s s' n n' k k' old new does
command_adds t limit Checkpoint r r' s s' n n' k k' old new does = checkpoint_adds r r' s s' n n' k k' old new does

command_fills_add : (t : RuleTable) (limit : ℕ) (c : Command) (r r' : RuleSet) (s s' : Moment) (n n' : ℕ) (k k' : Option RoundCount) (old new : List ℕ) → CommandFills t limit c (at_line r s n k old) (at_line r' s' n' k' new) → Adds (CommandFills t limit c) r r' s s' n n' k k' old new
command_fills_add t limit (Tell event) r r' s s' n n' k k' old new full = full_adds limit r r' s s' n n' k k' old new full
command_fills_add t limit (Drive turns) r r' s s' n n' k k' old new fills = turns_fill_add drawn_step t limit turns.count (seeded_stream turns.seed) r r' s s' n n' k k' old new fills
command_fills_add t limit (Scramble turns) r r' s s' n n' k k' old new fills = turns_fill_add drawn_fault t limit turns.count (seeded_stream turns.seed) r r' s s' n n' k k' old new fills
command_fills_add t limit Checkpoint r r' s s' n n' k k' old new none = absurd none

-- a line that is carried out
pub line_adds : (t : RuleTable) (limit : ℕ) (line : List ℕ) (r r' : RuleSet) (s s' : Moment) (n n' : ℕ) (k k' : Option RoundCount) (old new : List ℕ) → LineDoes t limit line (at_line r s n k old) (at_line r' s' n' k' new) → Adds (LineDoes t limit line) r r' s s' n n' k k' old new
line_adds t limit [] r r' s s' n n' k k' old new same = stays_adds r r' s s' n n' k k' old new same
line_adds t limit (b ∷ line) r r' s s' n n' k k' old new (command, says, does) =
    let a = command_adds t limit command r r' s s' n n' k k' old new does in record { more = a.more; grown = a.grown; leads = λ text. (command, says, a.leads text) }

-- a line that meets a full log
pub meeting_adds : (t : RuleTable) (limit : ℕ) (line : List ℕ) (r r' : RuleSet) (s s' : Moment) (n n' : ℕ) (k k' : Option RoundCount) (old new : List ℕ) → MeetsFullLog t limit line (at_line r s n k old) (at_line r' s' n' k' new) → Adds (MeetsFullLog t limit line) r r' s s' n n' k k' old new
meeting_adds t limit line r r' s s' n n' k k' old new (command, says, fills) =
    let a = command_fills_add t limit command r r' s s' n n' k k' old new fills in record { more = a.more; grown = a.grown; leads = λ text. (command, says, a.leads text) }

-- ---- what was begun of a line

-- these turns, and no other
pub turns_taken_add : (draws : Draws) (t : RuleTable) (limit turns : ℕ) (stream rest : Stream) (r r' : RuleSet) (s s' : Moment) (n n' : ℕ) (k k' : Option RoundCount) (old new : List ℕ)
    → TurnsTake draws t limit turns stream rest (at_line r s n k old) (at_line r' s' n' k' new) → Adds (TurnsTake draws t limit turns stream rest) r r' s s' n n' k k' old new
turns_taken_add draws t limit zero stream rest r r' s s' n n' k k' old new (left, same) =
    let a = stays_adds r r' s s' n n' k k' old new same in record { more = a.more; grown = a.grown; leads = λ text. (left, a.leads text) }
turns_taken_add draws t limit (suc turns) stream rest r r' s s' n n' k k' old new (mid, words, taken, (event, below, drawn, entry)) =
    let a = turns_taken_add draws t limit turns stream words r mid.rules s mid.moment n mid.count k mid.counting old mid.text taken in
    let line : List ℕ = entry_line (mid.count + 1) event (reply_of t mid.moment.state mid.moment.spent event) in record {
      more = a.more ++ line;
      grown = entry.text ∙ ap (λ l. l ++ line) a.grown ∙ append_assoc old a.more line;
      leads = λ text. (
        at_line mid.rules mid.moment mid.count mid.counting (text ++ a.more),
        words,
        a.leads text,
        (event, below, drawn, record { rules = entry.rules; moment = entry.moment; count = entry.count; text = sym (append_assoc text a.more line); counting = entry.counting }),
      );
    }

turns_begun_add : (draws : Draws) (t : RuleTable) (limit turns : ℕ) (stream : Stream) (r r' : RuleSet) (s s' : Moment) (n n' : ℕ) (k k' : Option RoundCount) (old new : List ℕ)
    → TurnsBegin draws t limit turns stream (at_line r s n k old) (at_line r' s' n' k' new) → Adds (TurnsBegin draws t limit turns stream) r r' s s' n n' k k' old new
turns_begun_add draws t limit turns stream r r' s s' n n' k k' old new (taken, few, does) =
    let a = turns_add draws t limit taken stream r r' s s' n n' k k' old new does in record { more = a.more; grown = a.grown; leads = λ text. (taken, few, a.leads text) }

command_begun_add : (t : RuleTable) (limit : ℕ) (c : Command) (r r' : RuleSet) (s s' : Moment) (n n' : ℕ) (k k' : Option RoundCount) (old new : List ℕ) → CommandBegins t limit c (at_line r s n k old) (at_line r' s' n' k' new) → Adds (CommandBegins t limit c) r r' s s' n n' k k' old new
command_begun_add t limit (Tell event) r r' s s' n n' k k' old new same = stays_adds r r' s s' n n' k k' old new same
command_begun_add t limit (Drive turns) r r' s s' n n' k k' old new begun = turns_begun_add drawn_step t limit turns.count (seeded_stream turns.seed) r r' s s' n n' k k' old new begun
command_begun_add t limit (Scramble turns) r r' s s' n n' k k' old new begun = turns_begun_add drawn_fault t limit turns.count (seeded_stream turns.seed) r r' s s' n n' k k' old new begun
command_begun_add t limit Checkpoint r r' s s' n n' k k' old new same = stays_adds r r' s s' n n' k k' old new same

pub first_turns_add : (t : RuleTable) (limit : ℕ) (line : List ℕ) (r r' : RuleSet) (s s' : Moment) (n n' : ℕ) (k k' : Option RoundCount) (old new : List ℕ) → TakesFirstTurns t limit line (at_line r s n k old) (at_line r' s' n' k' new) → Adds (TakesFirstTurns t limit line) r r' s s' n n' k k' old new
first_turns_add t limit line r r' s s' n n' k k' old new (inl same) =
    let a = stays_adds r r' s s' n n' k k' old new same in record { more = a.more; grown = a.grown; leads = λ text. inl (a.leads text) }
first_turns_add t limit line r r' s s' n n' k k' old new (inr (command, says, begun)) =
    let a = command_begun_add t limit command r r' s s' n n' k k' old new begun in record { more = a.more; grown = a.grown; leads = λ text. inr (command, says, a.leads text) }
