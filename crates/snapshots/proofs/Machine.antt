-- The pointers and present nodes after a run.
use Rattle.snapshots.proofs.Prelude.{◌≡◌, ℕ, Bool, true, false, List, [], ◌∷◌, ◌++◌, fold, Option, Some, None, refl, ap, sym, ◌∙◌, subst, slice_set, if◌then◌else◌, Act, Update, Marry, Seduce, Abandon, Event, Link, Unlink, Point, Flag, Step, Show, Enabled, Matching, Status, Join, Leave, Moved, Refusal, Reply, Accepted, Moves, Shown, EnabledAre, Pairs, Counts, State, Registers, with_pointer, points, RuleTable, refusal_of, written, after_move, without_pointer, Does, AnswersBy, Answers, spent_after, Entry, Moment, Run, Row, BoardShape, without_pointer_at, moved_by, moved, effect_of, row_effect, here_of, here_by, IsRun}
use mathlib.Core.List.{IsPrefix}

abbrev pub pointers_of : State → Row
pointers_of s = s.registers.pointers

-- how many names there are, and which of them are present
abbrev pub names_of : State → ℕ × List Bool
names_of s = (s.network.size, s.network.here)

cleared_if : (r : Registers) (v : ℕ) (b : Bool) → (if b then with_pointer r v None else r).pointers ≡ if b then slice_set r.pointers v None else r.pointers
cleared_if r v true = refl
cleared_if r v false = refl

without : (r : Registers) (v w : ℕ) → (without_pointer r v w).pointers ≡ without_pointer_at r.pointers v w
without r v w = cleared_if r v (points r v w)

unlinked : (r : Registers) (a b : ℕ) → (without_pointer (without_pointer r a b) b a).pointers ≡ without_pointer_at (without_pointer_at r.pointers a b) b a
unlinked r a b = without (without_pointer r a b) b a ∙ ap (λ row. without_pointer_at row b a) (without r a b)

one : (s : State) (r : Registers) (v : ℕ) (act : Act) (target : Option ℕ) → (written s r v act target).pointers ≡ moved_by r.pointers v act target
one s r v Update target = refl
one s r v Marry target = refl
one s r v Seduce target = refl
one s r v Abandon target = refl

-- the moves of a step, one after another
made : (s : State) (moves : List Moved) (r : Registers) → (fold (after_move s) r moves).pointers ≡ fold moved r.pointers moves
made s [] r = refl
made s (m ∷ moves) r = made s moves (after_move s r m) ∙ ap (λ row. fold moved row moves) (one s r m.node m.act m.target)

module _ (t : RuleTable) (s : State) (spent : ℕ) (s' : State) where
  abbrev IsLeft : Event → Reply → Type 0
  IsLeft event reply =
      (pointers_of s' ≡ effect_of s.registers.pointers event reply) × (names_of s' ≡ (s.network.size, here_of s.network.here event reply))

  does : (event : Event) (reply : Reply) → Does t s spent event reply s' → IsLeft event reply
  does (Link a b) Accepted h = (ap pointers_of h, ap names_of h)
  does (Unlink a b) Accepted h = (ap pointers_of h ∙ unlinked s.registers a b, ap names_of h)
  does (Point v target) Accepted h = (ap pointers_of h, ap names_of h)
  does (Flag v value) Accepted h = (ap pointers_of h, ap names_of h)
  does (Join v) Accepted h = (ap pointers_of h, ap names_of h)
  does (Leave v) Accepted h = (ap pointers_of h, ap names_of h)
  does (Step items) (Moves moves) h = (ap pointers_of h.after ∙ made s moves s.registers, ap names_of h.after)
  does (Show v) (Shown target) h = (ap pointers_of h.1, ap names_of h.1)
  does Enabled (EnabledAre nodes) h = (ap pointers_of h.1, ap names_of h.1)
  does Matching (Pairs pairs) h = (ap pointers_of h.1, ap names_of h.1)
  does Status (Counts counts) h = (ap pointers_of h.1, ap names_of h.1)
  does event reply h = absurd h

  by_refusal : (event : Event) (reply : Reply) (refusal : Option Refusal) → AnswersBy t s spent event refusal reply s' → IsLeft event reply
  by_refusal event reply (Some refusal) h =
      (ap pointers_of h.1 ∙ sym (ap (effect_of s.registers.pointers event) h.0), ap names_of h.1 ∙ sym (ap (λ (r : Reply). (s.network.size, here_of s.network.here event r)) h.0))
  by_refusal event reply None h = does event reply h

  -- an answer changes the pointers and the present nodes as its entry says
  pub answered : (event : Event) (reply : Reply) → Answers t s spent event reply s' → IsLeft event reply
  answered event reply h = by_refusal event reply (refusal_of t s event) h

pub run_pointers : (t : RuleTable) (start : Moment) (log : List Entry) (end : Moment) → Run t start log end → pointers_of end.state ≡ fold row_effect start.state.registers.pointers log
run_pointers t start [] end h = ap (λ m. pointers_of m.state) h
run_pointers t start (entry ∷ log) end h =
    run_pointers t (record { state = h.0; spent = spent_after start.spent entry.1 }) log end h.2
    ∙ ap (λ row. fold row_effect row log) (answered t start.state start.spent h.0 entry.0 entry.1 h.1).0

pub run_names : (t : RuleTable) (start : Moment) (log : List Entry) (end : Moment) → Run t start log end → names_of end.state ≡ (start.state.network.size, fold here_by start.state.network.here log)
run_names t start [] end h = ap (λ m. names_of m.state) h
run_names t start (entry ∷ log) end h =
    run_names t (record { state = h.0; spent = spent_after start.spent entry.1 }) log end h.2
    ∙ ap (λ n. (n.0, fold here_by n.1 log)) (answered t start.state start.spent h.0 entry.0 entry.1 h.1).1

pub run_begins : (t : RuleTable) (start : Moment) (some rest : List Entry) (end : Moment) → Run t start (some ++ rest) end → (middle : Moment) × Run t start some middle
run_begins t start [] rest end h = (start, refl)
run_begins t start (entry ∷ some) rest end h =
    let m = run_begins t (record { state = h.0; spent = spent_after start.spent entry.1 }) some rest end h.2 in (m.0, (h.0, h.1, m.1))

pub is_run_begins : (t : RuleTable) (extent : BoardShape) (some all : List Entry) → IsPrefix some all → IsRun t extent all → IsRun t extent some
is_run_begins t extent some all p (size, start, end, places, begins, run) =
    let whole : Run t start (some ++ p.0) end = subst (λ (l : List Entry). Run t start l end) (sym p.1) run in
    let m = run_begins t start some p.0 end whole in (size, start, m.0, places, begins, m.1)
