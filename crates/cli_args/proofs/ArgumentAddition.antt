-- What a command with one more argument is.
use Rattle.cli_args.proofs.Prelude.{◌≡◌, Result, Ok, Err, ap, ap₂, ◌∙◌, Bool, true, false, not, refl, List, [], ◌∷◌, ◌++◌, map, IfOk, ◌||◌, ◌&&◌, AddsArg, AddsConflicts, App, Builds, Declares, Rule, Text, Bor, rule_of, with_rule, is_empty, is_free_arg, Arg, Command, arith}

-- the command with one more argument
pub added : (old : Command) (a : Arg) (new : Command) (app : App) (r : Rule) → AddsArg old a new → Builds old app → Declares a r → Builds new (with_rule app r)
added old a new app r adds before rule = (adds.shape rule.1 ∙ ap₂ with_rule before.0 rule.0, adds.globals ∙ ap₂ ◌||◌ before.1 rule.1)

pub last_added : {E : Type 0} (old : Command) (a : Arg) (made : Result Command E) (app : App) (r : Rule) → IfOk made (λ new. AddsArg old a new) → Builds old app → Declares a r → IfOk made (λ new. Builds new (with_rule app r))
last_added old a (Ok new) app r adds before rule = added old a new app r adds before rule
last_added old a (Err e) app r adds before rule = tt

-- ---- an argument that excludes others

left_of : (x y : Bool) → (x && y) ≡ true → x ≡ true
left_of true y e = refl
left_of false y e = absurd cc

right_of : (x y : Bool) → (x && y) ≡ true → y ≡ true
right_of true y e = e
right_of false y e = absurd cc

none_in : {X : Type 0} (xs : List X) → is_empty xs ≡ true → xs ≡ []
none_in [] e = refl
none_in (x ∷ xs) e = grind arith

-- without a rule on other arguments it excludes none
excludes_none : (a : Arg) → is_free_arg a ≡ true → a.conflicts.items ≡ []
excludes_none a free = none_in a.conflicts.items (left_of (is_empty a.conflicts.items) _ (right_of (not a.exclusive) _ free))

-- then it excludes the three that are added
pub excludes_three : {E : Type 0} (free one two : Arg) (made : Result Arg E) (x y z : Bor Text) → (rule_of free).is_free ≡ true → AddsConflicts free one (x ∷ []) → AddsConflicts one two (y ∷ []) → IfOk made (λ new. AddsConflicts two new (z ∷ []))
    → IfOk made (λ new. map (λ id. id.now) new.conflicts.items ≡ x.now ∷ y.now ∷ z.now ∷ [])
excludes_three free one two (Ok new) x y z none first second third =
    ap (map (λ (id : Bor Text). id.now)) (third.1 ∙ ap (λ (l : List (Bor Text)). l ++ z ∷ []) (second.1 ∙ ap (λ (l : List (Bor Text)). l ++ y ∷ []) (first.1 ∙ ap (λ (l : List (Bor Text)). l ++ x ∷ []) (excludes_none free none))))
excludes_three free one two (Err e) x y z none first second third = tt
