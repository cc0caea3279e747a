-- Whether a rule is enabled at a node with a null pointer: one look at its neighbours decides.
use Rattle.reply_checker.proofs.Prelude.{◌≡◌, ℕ, Bool, true, false, cond, not, ◌&&◌, ◌||◌, List, [], ◌∷◌, take, drop, length, ◌-◌, find, Option, None, Some, is_some, is_none, nat_le, ap, ap₂, ◌∙◌, null_unmarried, refl, sym, arith, list_any, list_any-append, take-append-drop, take_all, length-drop, or_right, neighbours, State, pointer, points, flag, suits, has_suitor, married, holds_at, is_open, rule_at, hsu_huang, hsu_huang_opens, manne, may_court, Act, Update, Marry, Seduce, Abandon}

one_of_both : (p q : ℕ → Bool) (xs : List ℕ) → list_any (λ w. p w || q w) xs ≡ (is_some (find p xs) || is_some (find q xs))
one_of_both p q [] = refl
one_of_both p q (x ∷ xs) = let rest = one_of_both p q xs in grind arith

-- an element that passes is in one of the two parts of a list
any_of_parts : (p : ℕ → Bool) (at : ℕ) (xs : List ℕ) → list_any p xs ≡ (list_any p (take at xs) || list_any p (take (length xs - at) (drop at xs)))
any_of_parts p at xs =
    ap (list_any p) (sym (take-append-drop at xs))
    ∙ list_any-append p (take at xs) (drop at xs)
    ∙ ap (λ ys. list_any p (take at xs) || list_any p ys) (sym (take_all (length xs - at) (drop at xs) (let len = length-drop at xs in omega (arith, len))))

pub any_in_last : (p : ℕ → Bool) (at : ℕ) (xs : List ℕ) → true ≡ list_any p (take (length xs - at) (drop at xs)) → true ≡ list_any p xs
any_in_last p at xs found = sym (any_of_parts p at xs ∙ or_right (list_any p (take at xs)) _ (sym found))

pub any_in_first : (p : ℕ → Bool) (at : ℕ) (xs : List ℕ) → false ≡ list_any p (take (length xs - at) (drop at xs)) → list_any p (take at xs) ≡ list_any p xs
any_in_first p at xs none = sym (any_of_parts p at xs ∙ left (list_any p (take at xs)) _ (sym none))
  where
    left : (a b : Bool) → b ≡ false → (a || b) ≡ a
    left true b h = refl
    left false b h = h

pub hsu_huang_null : (s : State) (v : ℕ) → pointer s v ≡ None → list_any (λ w. suits s v w || is_none (pointer s w)) (neighbours s.network v) ≡ is_some (rule_at hsu_huang s v)
hsu_huang_null s v null =
    one_of_both (suits s v) (λ w. is_none (pointer s w)) (neighbours s.network v)
    ∙ by (has_suitor s v) (is_some (find (is_open hsu_huang_opens s) (neighbours s.network v)))
    ∙ ap (λ o. is_some (rule o (has_suitor s v) (is_some (find (is_open hsu_huang_opens s) (neighbours s.network v))))) (sym null)
  where
    rule : Option ℕ → Bool → Bool → Option Act
    rule o suitor reach = cond (is_none o && suitor) (Some Marry) (cond (is_none o && not suitor && reach) (Some Seduce) (cond (holds_at (λ w. is_some (pointer s w) && not (points s.registers w v)) o) (Some Abandon) None))

    by : (suitor reach : Bool) → (suitor || reach) ≡ is_some (rule None suitor reach)
    by true reach = refl
    by false true = refl
    by false false = refl

pub manne_null : (s : State) (v : ℕ) → flag s v ≡ false → pointer s v ≡ None → list_any (λ w. suits s v w || may_court s v w) (neighbours s.network v) ≡ is_some (rule_at manne s v)
manne_null s v unflagged null =
    one_of_both (suits s v) (may_court s v) (neighbours s.network v)
    ∙ by (has_suitor s v) (is_some (find (may_court s v) (neighbours s.network v)))
    ∙ ap (λ o. is_some (rule true o (has_suitor s v) (is_some (find (may_court s v) (neighbours s.network v))))) (sym null)
    ∙ ap (λ b. is_some (rule b (pointer s v) (has_suitor s v) (is_some (find (may_court s v) (neighbours s.network v))))) (sym (ap₂ (λ m f. cond m f (not f)) (null_unmarried s v null) unflagged))
  where
    rule : Bool → Option ℕ → Bool → Bool → Option Act
    rule settled o suitor court =
        cond (not settled) (Some Update)
        (cond (settled && is_none o && suitor) (Some Marry)
        (cond (settled && is_none o && not suitor && court) (Some Seduce)
        (cond (settled && holds_at (λ w. not (points s.registers w v) && (flag s w || nat_le w v)) o) (Some Abandon) None)))

    by : (suitor court : Bool) → (suitor || court) ≡ is_some (rule true None suitor court)
    by true court = refl
    by false true = refl
    by false false = refl

-- a node with a null pointer and a right flag is unflagged
pub manne_null_settled : (s : State) (v : ℕ) → flag s v ≡ married s v → pointer s v ≡ None → list_any (λ w. suits s v w || may_court s v w) (neighbours s.network v) ≡ is_some (rule_at manne s v)
manne_null_settled s v settled null = manne_null s v (settled ∙ null_unmarried s v null) null
