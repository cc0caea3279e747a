-- If flags are not used, none is ever set.
use Rattle.machine_laws.proofs.ChargePrelude.Imports.{◌≡◌, ◌≢◌, ℕ, ◌+◌, false, List, [], ◌∷◌, fold, get_or, Option, None, Any, refl, ap, ◌∙◌, AllByRecursion, All-weaker, recursion_from_All, true≢false, cases_Bool, Act, Update, Item, Moved, Event, Step, Refusal, Reply, Moves, State, Registers, flag, flag_of, opening_with, RuleTable, IsMoveOf, IsStep, written, after_move, refusal_of, Does, AnswersBy, spent_after, Entry, Moment, Run, arith}
use Rattle.machine_laws.proofs.LeastMoves.{find_passes}
use Rattle.machine_laws.proofs.Writes.{without_pointer_flags}
use Rattle.machine_laws.proofs.StatePreservation.{flag_left, blank_flag}

-- no flag is set
abbrev pub IsUnflagged : Registers → Type 0
IsUnflagged r = (v : ℕ) → flag_of r v ≡ false

-- the rule that writes a flag is enabled at no node
abbrev pub NeverUpdates : RuleTable → Type 0
NeverUpdates t = (s : State) (v : ℕ) → t.guard s v Update ≡ false

-- a table that does not use flags writes none
abbrev pub IsFlagless : RuleTable → Type 0
IsFlagless t = t.flags ≡ false → NeverUpdates t

written_flags : (before : State) (r : Registers) (v : ℕ) (act : Act) (target : Option ℕ) → act ≢ Update → (written before r v act target).flags ≡ r.flags
written_flags before r v act target other = grind arith

moves_flags : (before : State) (r : Registers) (moves : List Moved) → AllByRecursion (λ m. m.act ≢ Update) moves → (fold (after_move before) r moves).flags ≡ r.flags
moves_flags before r [] all = refl
moves_flags before r (m ∷ moves) all = moves_flags before (after_move before r m) moves all.1 ∙ written_flags before r m.node m.act m.target all.0

no_update : (t : RuleTable) → NeverUpdates t → (s : State) (items : List Item) (m : Moved) → Any (λ item. IsMoveOf t s item m) items → m.act ≢ Update
no_update t never s items m (k, item, below, at, is) same = grind (arith, true≢false, find_passes)

step_unflagged : (t : RuleTable) → NeverUpdates t → (s : State) (items : List Item) (moves : List Moved) (s' : State) → IsStep t s items moves s' → s'.registers.flags ≡ s.registers.flags
step_unflagged t never s items moves s' step =
    ap (λ (u : State). u.registers.flags) step.after
    ∙ moves_flags s s.registers moves (recursion_from_All (λ m. m.act ≢ Update) moves (All-weaker (λ m. Any (λ item. IsMoveOf t s item m) items) (λ m. m.act ≢ Update) (no_update t never s items) moves step.each))

does_unflagged : (t : RuleTable) → t.flags ≡ false → NeverUpdates t → (s : State) → IsUnflagged s.registers → (n : ℕ) (event : Event) (reply : Reply) (s' : State) → refusal_of t s event ≡ None → Does t s n event reply s' → IsUnflagged s'.registers
does_unflagged t unused never s down n (Step items) (Moves moves) s' e does = λ v. ap (λ l. get_or l v false) (step_unflagged t never s items moves s' does) ∙ down v
does_unflagged t unused never s down n event reply s' e does = λ v. grind (arith, true≢false, flag_left, cases_Bool, without_pointer_flags)

by_refusal : (t : RuleTable) → t.flags ≡ false → NeverUpdates t → (s : State) → IsUnflagged s.registers → (n : ℕ) (event : Event) (r : Option Refusal) (reply : Reply) (s' : State) → refusal_of t s event ≡ r → AnswersBy t s n event r reply s' → IsUnflagged s'.registers
by_refusal t unused never s down n event x reply s' e does = grind (arith, does_unflagged)

-- a run from a state without a flag ends in one
pub runs_stay_unflagged : (t : RuleTable) → t.flags ≡ false → NeverUpdates t → (start : Moment) → IsUnflagged start.state.registers → (log : List Entry) (end : Moment) → Run t start log end → IsUnflagged end.state.registers
runs_stay_unflagged t unused never start down [] end run = λ v. ap (λ (m : Moment). flag m.state v) run ∙ down v
runs_stay_unflagged t unused never start down (entry ∷ log) end (next, answers, run) =
    runs_stay_unflagged t unused never (record { state = next; spent = spent_after start.spent entry.1 })
    (by_refusal t unused never start.state down start.spent entry.0 (refusal_of t start.state entry.0) entry.1 next refl answers) log end run

-- at the start of a journal no flag is set
pub opening_is_unflagged : (size count : ℕ) → IsUnflagged (opening_with size count).registers
opening_is_unflagged size count v = blank_flag (size + 1) v
