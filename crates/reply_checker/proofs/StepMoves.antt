-- The moves of a step are of present nodes, to neighbours.
use Rattle.reply_checker.proofs.Prelude.{◌≡◌, ℕ, ◌&&◌, not, List, [], Any, All, Option, None, Some, IsSomeAnd, IsTrue, is_some, nat_lt, find, refl, sym, subst, ◌∙◌, and_parts, All-weaker, none-some, Act, Update, Marry, Seduce, Abandon, Item, Moved, Event, Link, Unlink, Point, Flag, Step, Show, Enabled, Matching, Status, Join, Leave, Reply, Moves, RuleSet, Hh, Manne, linked, present, neighbours, State, RuleTable, may_court, table_of, IsTarget, IsMoveOf, IsStep, refusal_of, step_refusal, Does, IsMoveIn, IsStepChoice, choice_from_none, taken_at}

allowed_near : (rules : RuleSet) (s : State) (v : ℕ) (act : Act) (w : ℕ) → IsTrue ((table_of rules).allowed s v act w) → IsTrue (linked s.network v w)
allowed_near Hh s v Update w h = absurd cc
allowed_near Hh s v Marry w h = (and_parts _ _ h).0
allowed_near Hh s v Seduce w h = (and_parts _ _ h).0
allowed_near Hh s v Abandon w h = absurd cc
allowed_near Manne s v Update w h = absurd cc
allowed_near Manne s v Marry w h = (and_parts _ _ h).0
allowed_near Manne s v Seduce w h =
    let outer = and_parts (linked s.network v w && may_court s v w) (not (is_some (find (λ x. may_court s v x && nat_lt w x) (neighbours s.network v)))) h in
    (and_parts (linked s.network v w) (may_court s v w) outer.0).0
allowed_near Manne s v Abandon w h = absurd cc

target_near : (rules : RuleSet) (s : State) (v : ℕ) (act : Act) (wish target : Option ℕ) → IsTarget (table_of rules) s v act wish target → (x : ℕ) → target ≡ Some x → IsTrue (linked s.network v x)
target_near rules s v Update wish target is x at = absurd (none-some x (sym is ∙ at))
target_near rules s v Marry wish target is x at = allowed_near rules s v Marry x (subst (λ o. IsSomeAnd o (λ w. IsTrue ((table_of rules).allowed s v Marry w))) at is.0)
target_near rules s v Seduce wish target is x at = allowed_near rules s v Seduce x (subst (λ o. IsSomeAnd o (λ w. IsTrue ((table_of rules).allowed s v Seduce w))) at is.0)
target_near rules s v Abandon wish target is x at = absurd (none-some x (sym is ∙ at))

asked_in : (rules : RuleSet) (s : State) (items : List Item) → IsStepChoice (table_of rules) s items → (m : Moved) → Any (λ item. IsMoveOf (table_of rules) s item m) items → IsMoveIn s.network m
asked_in rules s items choice m (k, item, below, at, is) =
    let taken = taken_at (table_of rules) s [] items choice.taken k item below in
    let has = subst (λ i. IsTrue (present s.network i.node)) at taken.0.has in
    record {
      has = subst (λ v. IsTrue (present s.network v)) (sym is.node) has;
      near = λ x to. subst (λ v. IsTrue (linked s.network v x)) (sym is.node) (target_near rules s item.node m.act item.wish m.target is.target x to);
    }

step_in : (rules : RuleSet) (s : State) (items : List Item) (moves : List Moved) (s' : State) → step_refusal (table_of rules) s items ≡ None → IsStep (table_of rules) s items moves s' → All (IsMoveIn s.network) moves
step_in rules s items moves s' none step =
    All-weaker (λ m. Any (λ item. IsMoveOf (table_of rules) s item m) items) (IsMoveIn s.network) (asked_in rules s items (choice_from_none (table_of rules) s items none)) moves step.each

does_in : (rules : RuleSet) (s : State) (n : ℕ) (event : Event) (moves : List Moved) (s' : State) → refusal_of (table_of rules) s event ≡ None → Does (table_of rules) s n event (Moves moves) s' → All (IsMoveIn s.network) moves
does_in rules s n (Step items) moves s' none does = step_in rules s items moves s' none does
does_in rules s n (Link a b) moves s' none does = absurd does
does_in rules s n (Unlink a b) moves s' none does = absurd does
does_in rules s n (Point v target) moves s' none does = absurd does
does_in rules s n (Flag v value) moves s' none does = absurd does
does_in rules s n (Join v) moves s' none does = absurd does
does_in rules s n (Leave v) moves s' none does = absurd does
does_in rules s n (Show v) moves s' none does = absurd does
does_in rules s n Enabled moves s' none does = absurd does
does_in rules s n Matching moves s' none does = absurd does
does_in rules s n Status moves s' none does = absurd does

-- a reply of moves that the machine may give has moves in the network
pub reply_in : (rules : RuleSet) (s : State) (n : ℕ) (event : Event) (reply : Reply) (moves : List Moved) (s' : State) → reply ≡ Moves moves → refusal_of (table_of rules) s event ≡ None → Does (table_of rules) s n event reply s' → All (IsMoveIn s.network) moves
reply_in rules s n event reply moves s' is none does =
    does_in rules s n event moves s' none (subst (λ r. Does (table_of rules) s n event r s') is does)

-- no other reply is right for a step
pub no_moves : (t : RuleTable) (s : State) (n : ℕ) (items : List Item) (reply : Reply) (s' : State) → ((moves : List Moved) → reply ≡ Moves moves → ⊥) → Does t s n (Step items) reply s' → ⊥
no_moves t s n items (Moves moves) s' other does = other moves refl
no_moves t s n items reply s' other does = absurd does
