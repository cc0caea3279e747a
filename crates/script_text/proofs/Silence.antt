-- A line that drives as many turns as the charge, and takes all of them, ends with no node enabled.
use Rattle.script_text.proofs.Prelude.{◌≡◌, ℕ, zero, suc, ◌≤◌, List, [], ◌∷◌, Option, None, Some, sym, ap, subst, ⊎_elim, arith, option_map, Stream, Item, Event, Step, state_after, IsState, Moment, RuleTable, enabled_names, state_after_keeps, IsTable, option_cases, IsCharged, choice_drawn, Draws, seeded_stream, drawn_step, drawn_fault, Command, Tell, Drive, Scramble, Checkpoint, Turns, Says, Progress, AppendsEntry, TurnDoes, TurnsDo, CommandDoes, LineDoes, LinesDo}
use Rattle.script_text.proofs.DrawnTurns.{turn_rests, turn_pays, zero_is_quiet}
use Rattle.script_text.proofs.Once.{head_of, says_once}

-- what the turns after the first do
abbrev Others : RuleTable → ℕ → ℕ → Stream → Progress → Progress → Progress → Type 0
Others t limit turns stream before after next = TurnsDo drawn_step t limit turns (drawn_step t before.moment.state stream).1 next after

-- turns, with what draws them
pub turns_end_silent : (t : RuleTable) (weight : ℕ) → IsTable t → IsCharged t weight → (limit turns : ℕ) (stream : Stream) (before after : Progress) → IsState before.moment.state → t.charge before.moment.state ≤ turns → TurnsDo drawn_step t limit turns stream before after → enabled_names t after.moment.state ≡ []
turns_end_silent t weight table charged limit zero stream before after good few is =
    subst (λ (at : Progress). enabled_names t at.moment.state ≡ []) (sym is) (zero_is_quiet t weight table charged before.moment.state good few)
turns_end_silent t weight table charged limit (suc turns) stream before after good few (below, does) =
    ⊎_elim
    (λ none.
    let same : after ≡ before = subst (λ o. TurnDoes t (option_map (λ items. Step items) o) (Others t limit turns stream before after) before after) none does in
    subst (λ (at : Progress). enabled_names t at.moment.state ≡ []) (sym same) (turn_rests t before.moment.state stream none))
    (λ (some : (items : List Item) × (choice_drawn t.central (enabled_names t before.moment.state) stream).0 ≡ Some items).
    let goes : TurnDoes t (Some (Step some.0)) (Others t limit turns stream before after) before after = subst (λ o. TurnDoes t (option_map (λ items. Step items) o) (Others t limit turns stream before after) before after) some.1 does in
    let pays = turn_pays t weight table charged before.moment.state good stream some.0 some.1 in
    let lands : goes.0.moment.state ≡ state_after t before.moment.state (Step some.0) = ap (λ m. m.state) goes.1.moment in
    turns_end_silent t weight table charged limit turns (drawn_step t before.moment.state stream).1 goes.0 after (subst IsState (sym lands) pays.is_state) (omega (arith, pays.falls, ap t.charge lands, few)) goes.2)
    (option_cases (choice_drawn t.central (enabled_names t before.moment.state) stream).0)

-- a line
pub line_ends_silent : (t : RuleTable) (weight : ℕ) → IsTable t → IsCharged t weight → (limit : ℕ) (line : List ℕ) (turns : Turns) (before after : Progress) → Says line (Drive turns) → LineDoes t limit line before after → IsState before.moment.state → t.charge before.moment.state ≤ turns.count → enabled_names t after.moment.state ≡ []
line_ends_silent t weight table charged limit [] turns before after (fits, says) does good few = absurd (omega (arith, ap head_of says))
line_ends_silent t weight table charged limit (b ∷ line) turns before after says (command, said, does) good few =
    turns_end_silent t weight table charged limit turns.count (seeded_stream turns.seed) before after good few
    (subst (λ (c : Command). CommandDoes t limit c before after) (says_once (b ∷ line) command (Drive turns) said says) does)

-- ---- behind other lines

entry_keeps : (t : RuleTable) → IsTable t → (event : Event) (before after : Progress) → IsState before.moment.state → AppendsEntry t event before after → IsState after.moment.state
entry_keeps t table event before after good entry =
    subst (λ (m : Moment). IsState m.state) (sym entry.moment) (state_after_keeps t table before.moment.state good event)

turns_keep : (draws : Draws) (t : RuleTable) → IsTable t → (limit turns : ℕ) (stream : Stream) (before after : Progress) → IsState before.moment.state → TurnsDo draws t limit turns stream before after → IsState after.moment.state
turns_keep draws t table limit zero stream before after good is = subst (λ (at : Progress). IsState at.moment.state) (sym is) good
turns_keep draws t table limit (suc turns) stream before after good (below, does) =
    by_event (draws t before.moment.state stream).0 does (λ next here others. turns_keep draws t table limit turns (draws t before.moment.state stream).1 next after here others)
  where
    by_event : {Others : Progress → Type 0} (o : Option Event) → TurnDoes t o Others before after → ((next : Progress) → IsState next.moment.state → Others next → IsState after.moment.state) → IsState after.moment.state
    by_event None same on = subst (λ (at : Progress). IsState at.moment.state) (sym same) good
    by_event (Some event) (next, entry, others) on = on next (entry_keeps t table event before next good entry) others

command_keeps : (t : RuleTable) → IsTable t → (limit : ℕ) (command : Command) (before after : Progress) → IsState before.moment.state → CommandDoes t limit command before after → IsState after.moment.state
command_keeps t table limit (Tell event) before after good does = entry_keeps t table event before after good does.1
command_keeps t table limit (Drive turns) before after good does = turns_keep drawn_step t table limit turns.count (seeded_stream turns.seed) before after good does
command_keeps t table limit (Scramble turns) before after good does = turns_keep drawn_fault t table limit turns.count (seeded_stream turns.seed) before after good does
command_keeps t table limit Checkpoint before after good is = subst (λ (at : Progress). IsState at.moment.state) (sym is) good

pub lines_keep : (t : RuleTable) → IsTable t → (limit : ℕ) (lines : List (List ℕ)) (before after : Progress) → IsState before.moment.state → LinesDo t limit lines before after → IsState after.moment.state
lines_keep t table limit [] before after good is = subst (λ (at : Progress). IsState at.moment.state) (sym is) good
lines_keep t table limit ([] ∷ lines) before after good (next, is, others) =
    lines_keep t table limit lines next after (subst (λ (at : Progress). IsState at.moment.state) (sym is) good) others
lines_keep t table limit ((b ∷ line) ∷ lines) before after good (next, (command, says, does), others) =
    lines_keep t table limit lines next after (command_keeps t table limit command before next good does) others

-- a line after others that were carried out
pub lines_end_silent : (t : RuleTable) (weight : ℕ) → IsTable t → IsCharged t weight → (limit : ℕ) (lines : List (List ℕ)) (line : List ℕ) (turns : Turns) (start before after : Progress) → IsState start.moment.state → LinesDo t limit lines start before
    → Says line (Drive turns) → LineDoes t limit line before after → t.charge before.moment.state ≤ turns.count → enabled_names t after.moment.state ≡ []
lines_end_silent t weight table charged limit lines line turns start before after good so_far says does few =
    line_ends_silent t weight table charged limit line turns before after says does (lines_keep t table limit lines start before good so_far) few
