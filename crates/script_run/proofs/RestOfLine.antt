-- What was begun of a line is a beginning of what the whole line does.
use Rattle.script_run.proofs.Prelude.{cases_lt, take-append-drop, ◌≡◌, ◌≢◌, ◌∙◌, ℕ, zero, suc, ◌+◌, ◌<◌, ◌≤◌, ◌⊎◌, List, [], ◌∷◌, ◌++◌, length, take, drop, Option, None, Some, inl, inr, refl, sym, ap, subst, append_assoc, append-nil, take-append_seam, arith, Appends, AppendsBeginning, Stream, Event, RuleTable, reply_of, moment_after, state_after, next_counting, entry_line, Draws, seeded_stream, drawn_step, drawn_fault, Command, Tell, Drive, Scramble, Checkpoint, Says, CommandBegins, Progress, AppendsEntry, IsFull, TurnDoes, TurnsDo, TurnFills, TurnsFill, CommandDoes, CommandFills, LineDoes, LinesDo, StopsAtLine, LinesLeadTo, LinesReach, TurnsLeadTo}

-- the second text is the first with bytes appended
abbrev Grows : List ℕ → List ℕ → Type 0
Grows old new = (more : List ℕ) × (new ≡ old ++ more)

grows_none : (text : List ℕ) → Grows text text
grows_none text = ([], sym (append-nil text))

grows_on : (old line mid new : List ℕ) → mid ≡ old ++ line → Grows mid new → Grows old new
grows_on old line mid new is (more, grown) =
    (line ++ more, grown ∙ ap (λ l. l ++ more) is ∙ append_assoc old line more)

-- what begins a text begins a longer one
pub begins_longer : (old new : Option (List ℕ)) (text longer : List ℕ) → Grows text longer → AppendsBeginning old new text → AppendsBeginning old new longer
begins_longer old new text longer (more, grown) (n, wrote) =
    let front : List ℕ = take n text in
    let whole : longer ≡ front ++ (drop n text ++ more) =
    grown ∙ ap (λ l. l ++ more) (sym (take-append-drop n text)) ∙ append_assoc front (drop n text) more in
    let same : take (length front) longer ≡ front = ap (take (length front)) whole ∙ take-append_seam front (drop n text ++ more) in
    (length front, subst (Appends old new) (sym same) wrote)

-- one of two ends is reached, and its text begins so
abbrev Reaches : (Progress → Type 0) → (Progress → Type 0) → List ℕ → Type 0
Reaches Does Fills text = (end : Progress) × (Does end ⊎ Fills end) × Grows text end.text

-- the progress after an event's entry
abbrev after_entry : RuleTable → Event → Progress → Progress
after_entry t event p = record {
  rules = p.rules;
  moment = moment_after t p.moment event;
  count = p.count + 1;
  text = p.text ++ entry_line (p.count + 1) event (reply_of t p.moment.state p.moment.spent event);
  counting = next_counting t (reply_of t p.moment.state p.moment.spent event) (state_after t p.moment.state event) p.counting;
}

entry_made : (t : RuleTable) (event : Event) (p : Progress) → AppendsEntry t event p (after_entry t event p)
entry_made t event p = record { rules = refl; moment = refl; count = refl; text = refl; counting = refl }

-- ---- turns

-- one turn or more are done, or meet a full log
abbrev DoesMore : ℕ → RuleTable → Option Event → (Progress → Progress → Type 0) → Progress → Progress → Type 0
DoesMore limit t drawn Do before after = (before.count < limit) × TurnDoes t drawn (λ next. Do next after) before after

abbrev FillsMore : ℕ → RuleTable → Option Event → (Progress → Progress → Type 0) → Progress → Progress → Type 0
FillsMore limit t drawn Fill before after =
    IsFull limit before after ⊎ ((before.count < limit) × TurnFills t drawn (λ next. Fill next after) before)

entry_reaches : (t : RuleTable) (limit : ℕ) (event : Event) (Do Fill : Progress → Progress → Type 0) (before next : Progress) (text : List ℕ) → before.count < limit → AppendsEntry t event before next → Reaches (Do next) (Fill next) text
    → Reaches (DoesMore limit t (Some event) Do before) (FillsMore limit t (Some event) Fill before) text
entry_reaches t limit event Do Fill before next text below entry (end, inl does, grows) = (end, inl (below, (next, entry, does)), grows)
entry_reaches t limit event Do Fill before next text below entry (end, inr fills, grows) = (end, inr (inr (below, (next, entry, fills))), grows)

longer_text : (Does Fills : Progress → Type 0) (old line mid : List ℕ) → mid ≡ old ++ line → Reaches Does Fills mid → Reaches Does Fills old
longer_text Does Fills old line mid is (end, reached, grows) = (end, reached, grows_on old line mid end.text is grows)

turn_reaches : (t : RuleTable) (limit : ℕ) (drawn : Option Event) (Do Fill : Progress → Progress → Type 0) (before : Progress) → (before.count < limit) ⊎ (limit ≤ before.count) → ((next : Progress) → Reaches (Do next) (Fill next) next.text)
    → Reaches (DoesMore limit t drawn Do before) (FillsMore limit t drawn Fill before) before.text
turn_reaches t limit drawn Do Fill before (inr full) others = (before, inr (inl (full, refl)), grows_none before.text)
turn_reaches t limit None Do Fill before (inl below) others = (before, inl (below, refl), grows_none before.text)
turn_reaches t limit (Some event) Do Fill before (inl below) others =
    let next = after_entry t event before in
    entry_reaches t limit event Do Fill before next before.text below (entry_made t event before)
    (longer_text (Do next) (Fill next) before.text _ next.text refl (others next))

turns_reach : (draws : Draws) (t : RuleTable) (limit turns : ℕ) (stream : Stream) (before : Progress) → Reaches (TurnsDo draws t limit turns stream before) (TurnsFill draws t limit turns stream before) before.text
turns_reach draws t limit zero stream before = (before, inl refl, grows_none before.text)
turns_reach draws t limit (suc turns) stream before =
    let drawn = draws t before.moment.state stream in
    turn_reaches t limit drawn.0 (TurnsDo draws t limit turns drawn.1) (TurnsFill draws t limit turns drawn.1) before (cases_lt before.count limit) (λ next. turns_reach draws t limit turns drawn.1 next)

-- a turn that was taken, and those after it
taken_reaches : (t : RuleTable) (limit : ℕ) (drawn : Option Event) (Taken : Progress → Type 0) (Do Fill : Progress → Progress → Type 0) (before end : Progress) → before.count < limit → TurnDoes t drawn Taken before end
    → ((next : Progress) → Taken next → Reaches (Do next) (Fill next) end.text) → Reaches (DoesMore limit t drawn Do before) (FillsMore limit t drawn Fill before) end.text
taken_reaches t limit None Taken Do Fill before end below same others =
    (before, inl (below, refl), subst (λ (p : Progress). Grows p.text before.text) (sym same) (grows_none before.text))
taken_reaches t limit (Some event) Taken Do Fill before end below (next, entry, taken) others =
    entry_reaches t limit event Do Fill before next end.text below entry (others next taken)

begun_reach : (draws : Draws) (t : RuleTable) (limit n turns : ℕ) (stream : Stream) (before end : Progress) → n ≤ turns → TurnsDo draws t limit n stream before end → Reaches (TurnsDo draws t limit turns stream before) (TurnsFill draws t limit turns stream before) end.text
begun_reach draws t limit zero turns stream before end few same =
    subst (λ (p : Progress). Reaches (TurnsDo draws t limit turns stream before) (TurnsFill draws t limit turns stream before) p.text) (sym same) (turns_reach draws t limit turns stream before)
begun_reach draws t limit (suc n) zero stream before end few does = absurd (omega (arith, few))
begun_reach draws t limit (suc n) (suc turns) stream before end few (below, turn) =
    let drawn = draws t before.moment.state stream in
    let fewer : n ≤ turns = omega (arith, few) in
    taken_reaches t limit drawn.0 (λ next. TurnsDo draws t limit n drawn.1 next end) (TurnsDo draws t limit turns drawn.1) (TurnsFill draws t limit turns drawn.1) before end below turn
    (λ next rest. begun_reach draws t limit n turns drawn.1 next end fewer rest)

-- ---- commands and lines

command_reaches : (t : RuleTable) (limit : ℕ) (c : Command) (before end : Progress) → CommandBegins t limit c before end → (end ≡ before) ⊎ Reaches (CommandDoes t limit c before) (CommandFills t limit c before) end.text
command_reaches t limit (Tell event) before end same = inl same
command_reaches t limit (Drive turns) before end (n, few, does) =
    inr (begun_reach drawn_step t limit n turns.count (seeded_stream turns.seed) before end few does)
command_reaches t limit (Scramble turns) before end (n, few, does) =
    inr (begun_reach drawn_fault t limit n turns.count (seeded_stream turns.seed) before end few does)
command_reaches t limit Checkpoint before end same = inl same

pub line_does : (t : RuleTable) (limit : ℕ) (line : List ℕ) (c : Command) (before after : Progress) → line ≢ [] → Says line c → CommandDoes t limit c before after → LineDoes t limit line before after
line_does t limit [] c before after some says does = absurd (some refl)
line_does t limit (b ∷ line) c before after some says does = (c, says, does)

-- one line more
pub LinesDo-more : (t : RuleTable) (limit : ℕ) (lines : List (List ℕ)) (line : List ℕ) (start mid after : Progress) → LinesDo t limit lines start mid → LineDoes t limit line mid after → LinesDo t limit (lines ++ line ∷ []) start after
LinesDo-more t limit [] line start mid after p q = (after, subst (λ x. LineDoes t limit line x after) p q, refl)
LinesDo-more t limit (l ∷ lines) line start mid after p q = (p.0, p.1, LinesDo-more t limit lines line p.0 mid after p.2 q)

-- the lines before some others are the first lines of all
pub LeadsTo-before : (t : RuleTable) (limit : ℕ) (before behind lines : List (List ℕ)) (start end : Progress) → lines ≡ before ++ behind → LinesDo t limit before start end → LinesLeadTo t limit lines start end
LeadsTo-before t limit before behind lines start end splits does =
    (length before, subst (λ l. LinesDo t limit l start end) (sym (ap (take (length before)) splits ∙ take-append_seam before behind)) does)

-- what some lines reach, whose text begins so
abbrev LinesGoOn : RuleTable → ℕ → List (List ℕ) → Progress → List ℕ → Type 0
LinesGoOn t limit lines start text = (end : Progress) × LinesReach t limit lines start end × Grows text end.text

-- the lines before the one that was begun
lines_before : (t : RuleTable) (limit : ℕ) (lines : List (List ℕ)) (start : Progress) (number : ℕ) (line : List ℕ) (before end : Progress) → StopsAtLine t limit lines start number line before → end ≡ before → LinesGoOn t limit lines start end.text
lines_before t limit lines start number line before end stops same =
    (end, inl (LeadsTo-before t limit stops.before (line ∷ stops.behind) lines start end stops.splits (subst (LinesDo t limit stops.before start) (sym same) stops.does)), grows_none end.text)

-- whole turns of a line begin what the lines reach
pub lines_go_on : (t : RuleTable) (limit : ℕ) (lines : List (List ℕ)) (start end : Progress) → TurnsLeadTo t limit lines start end → LinesGoOn t limit lines start end.text
lines_go_on t limit lines start end (inl leads) = (end, inl leads, grows_none end.text)
lines_go_on t limit lines start end (inr (number, line, before, stops, inl same)) =
    lines_before t limit lines start number line before end stops same
lines_go_on t limit lines start end (inr (number, line, before, stops, inr (c, (some, says), begun))) =
    by (command_reaches t limit c before end begun) where
      by : (end ≡ before) ⊎ Reaches (CommandDoes t limit c before) (CommandFills t limit c before) end.text → LinesGoOn t limit lines start end.text
      by (inl same) = lines_before t limit lines start number line before end stops same
      by (inr (last, inl does, grows)) =
          let all : lines ≡ (stops.before ++ line ∷ []) ++ stops.behind = stops.splits ∙ sym (append_assoc stops.before (line ∷ []) stops.behind) in
          (last, inl (LeadsTo-before t limit (stops.before ++ line ∷ []) stops.behind lines start last all (LinesDo-more t limit stops.before line start before last stops.does (line_does t limit line c before last some says does))), grows)
      by (inr (last, inr fills, grows)) = (last, inr (number, line, before, stops, (c, says, fills)), grows)
