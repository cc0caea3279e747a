-- Lists that scans of all names, or of the enabled ones, make.
use Rattle.rule_engine.proofs.Prelude.{◌≡◌, ℕ, ◌+◌, ◌<◌, Bool, true, false, cond, List, [], ◌∷◌, ◌++◌, length, get_or, take, filter, filter_map, Option, None, Some, Result, Ok, is_ok, is_some, option_map, option_to_list, IsTrue, refl, sym, ap, ◌∙◌, range_with_len, cons_option, true≢false, append-nil, filter_map-append, Act, present, State, RuleTable, rule_at, enabled_names, enabled, guard_at, marked_at, arith, take_more}

one_found : {X : Type 0} (o : Option X) → cons_option o [] ≡ option_to_list o
one_found None = refl
one_found (Some x) = refl

-- the next item at the end of those so far
pub push_is_take : {X : Type 0} (xs : List X) (i : ℕ) (x : X) → i < length xs → x ≡ get_or xs i x → take i xs ++ x ∷ [] ≡ take (i + 1) xs
push_is_take xs i x within is = ap (λ y. take i xs ++ y ∷ []) is ∙ sym (take_more xs i x within)

-- a list of one
pub one_alone : {X : Type 0} (xs : List X) (x : X) → length xs ≡ 1 → x ≡ get_or xs 0 x → xs ≡ x ∷ []
one_alone [] x one is = absurd (omega arith)
one_alone (y ∷ []) x one is = ap (λ z. z ∷ []) (sym is)
one_alone (y ∷ z ∷ zs) x one is = absurd (omega arith)

-- at a name that is present
pub guard_at_present : (t : RuleTable) (s : State) (v : ℕ) → IsTrue (present s.network v) → guard_at t s v ≡ rule_at t s v
guard_at_present t s v has = ap (λ b. cond b (rule_at t s v) None) has

marked_by : (f : ℕ → Option (ℕ × Act)) (v : ℕ) (act : Option Act) (rest : List ℕ) (ps : List (ℕ × Act)) → f v ≡ option_map (λ a. (v, a)) act → filter_map f rest ≡ ps → filter_map f (cond (is_some act) (v ∷ rest) rest) ≡ cons_option (option_map (λ a. (v, a)) act) ps
marked_by f v None rest ps at is = is
marked_by f v (Some a) rest ps at is = ap (λ o. cons_option o (filter_map f rest)) at ∙ ap (λ l. (v, a) ∷ l) is

-- the rule at a name, with the name
found : RuleTable → State → ℕ → Option (ℕ × Act)
found t s v = option_map (λ act. (v, act)) (rule_at t s v)

enabled_in : (t : RuleTable) (s : State) (xs : List ℕ) → filter_map (marked_at t s) (filter (λ v. is_some (rule_at t s v)) (filter (present s.network) xs)) ≡ filter_map (found t s) (filter (present s.network) xs)
unfolding found
enabled_in t s [] = refl
enabled_in t s (v ∷ xs) = step (present s.network v) refl (filter (present s.network) xs) (enabled_in t s xs)
  where
    step : (b : Bool) → present s.network v ≡ b → (here : List ℕ) → filter_map (marked_at t s) (filter (λ w. is_some (rule_at t s w)) here) ≡ filter_map (found t s) here → filter_map (marked_at t s) (filter (λ w. is_some (rule_at t s w)) (cond b (v ∷ here) here)) ≡ filter_map (found t s) (cond b (v ∷ here) here)
    step true has here rest =
        marked_by (marked_at t s) v (rule_at t s v) (filter (λ w. is_some (rule_at t s w)) here) (filter_map (found t s) here)
        (ap (λ (o : Option Act). option_map (λ act. (v, act)) o) (guard_at_present t s v has)) rest
    step false has here rest = rest

-- the enabled nodes with the rules that are found at them
pub enabled_listed : (t : RuleTable) (s : State) → filter_map (marked_at t s) (enabled_names t s) ≡ enabled t s
unfolding found
enabled_listed t s = enabled_in t s (range_with_len 1 s.network.size)

-- what is found in the items so far, and in the next
pub filter_map_take_more : {X Y : Type 0} (f : X → Option Y) (xs : List X) (i : ℕ) (x : X) → i < length xs → x ≡ get_or xs i x → filter_map f (take (i + 1) xs) ≡ filter_map f (take i xs) ++ option_to_list (f x)
filter_map_take_more f xs i x within is =
    ap (filter_map f) (sym (push_is_take xs i x within is)) ∙ filter_map-append f (take i xs) (x ∷ []) ∙ ap (λ l. filter_map f (take i xs) ++ l) (one_found (f x))

-- what is found so far goes on by what is found in the next item
pub found_next : {X Y : Type 0} (f : X → Option Y) (before after : List Y) (xs : List X) (i : ℕ) (x : X) → i < length xs → x ≡ get_or xs i x → before ≡ filter_map f (take i xs) → after ≡ before ++ option_to_list (f x) → after ≡ filter_map f (take (i + 1) xs)
found_next f before after xs i x within is so_far added =
    added ∙ ap (λ l. l ++ option_to_list (f x)) so_far ∙ sym (filter_map_take_more f xs i x within is)

-- one more item that is found, and one that is not
pub pushed_found : {X Y : Type 0} (f : X → Option Y) (before after : List Y) (xs : List X) (i : ℕ) (x : X) (y : Y) → i < length xs → x ≡ get_or xs i x → before ≡ filter_map f (take i xs) → after ≡ before ++ y ∷ [] → f x ≡ Some y → after ≡ filter_map f (take (i + 1) xs)
pushed_found f before after xs i x y within is so_far pushed found =
    pushed ∙ ap (λ l. l ++ y ∷ []) so_far ∙ ap (λ o. filter_map f (take i xs) ++ option_to_list o) (sym found) ∙ sym (filter_map_take_more f xs i x within is)

pub skipped_found : {X Y : Type 0} (f : X → Option Y) (before after : List Y) (xs : List X) (i : ℕ) (x : X) → i < length xs → x ≡ get_or xs i x → before ≡ filter_map f (take i xs) → after ≡ before → f x ≡ None → after ≡ filter_map f (take (i + 1) xs)
skipped_found f before after xs i x within is so_far same none =
    same ∙ so_far ∙ sym (append-nil (filter_map f (take i xs))) ∙ ap (λ o. filter_map f (take i xs) ++ option_to_list o) (sym none) ∙ sym (filter_map_take_more f xs i x within is)

-- what a call that succeeds leaves
pub ok_branch : {A U E : Type 0} (r : Result U E) (u : U) (x y : A) → r ≡ Ok u → cond (is_ok r) x y ≡ x
ok_branch r u x y e = ap (λ q. cond (is_ok q) x y) e

-- what is not some is none
pub none_found : {X : Type 0} (o : Option X) → is_some o ≡ false → o ≡ None
none_found None is = refl
none_found (Some x) is = absurd (true≢false is)
