-- What a recorded daemon plays.
use Rattle.daemon.proofs.Prelude.{◌≡◌, ℕ, suc, ◌+◌, ◌<◌, ◌≤◌, Bool, true, false, cond, ◌↔◌, List, [], ◌∷◌, length, take, drop, get_or, Option, None, Some, IsTrue, refl, sym, ap, subst, ◌∙◌, arith, ⊎_elim, SomeIff, IsNone, IfSome, All, AllByRecursion, filter, cases_Bool, true≢false, All-from_recursion, recursion_from_All, drop-cons, Item, is_in, members, plain, IsLawful, is_in_list, named_of, first_or_all, some_choice, list_choice, play_or, played}
use Rattle.daemon.proofs.Climb.{Climbs, climbs_lower, climbs_members, lawful_plain, length_plain}

-- the items of the first alone, or of all
pub plain_first : (central : Bool) (names : List ℕ) → cond central (take 1 (plain names)) (plain names) ≡ plain (first_or_all central names)
plain_first true [] = refl
plain_first true (v ∷ names) = refl
plain_first false names = refl

filter_few : (p : ℕ → Bool) (names : List ℕ) → length (filter p names) ≤ length names
filter_few p [] = omega arith
filter_few p (v ∷ names) =
    let ih = filter_few p names in
    ⊎_elim
    (λ (h : p v ≡ true). subst (λ b. length (cond b (v ∷ filter p names) (filter p names)) ≤ suc (length names)) (sym h) (omega arith))
    (λ (h : p v ≡ false). subst (λ b. length (cond b (v ∷ filter p names) (filter p names)) ≤ suc (length names)) (sym h) (omega arith))
    (cases_Bool (p v))

first_few : (central : Bool) (names : List ℕ) → length (first_or_all central names) ≤ length names
first_few true [] = omega arith
first_few true (v ∷ names) = omega arith
first_few false names = omega arith

-- no more is chosen than there are names
pub chosen_few : (central : Bool) (names list : List ℕ) → length (first_or_all central (named_of names list)) ≤ length names
chosen_few central names list =
    let a = first_few central (named_of names list) in
    let b = filter_few (is_in_list list) names in
    omega arith

-- the choice of some items
pub made : (o : Option (List Item)) (items : List Item) (chosen : List ℕ) → SomeIff o (length items ≤ 65535) items → items ≡ plain chosen → 1 ≤ length items → length chosen ≤ 65535 → o ≡ some_choice chosen
made o items [] h is some few = absurd (let e = ap length is in omega arith)
made None items (v ∷ chosen) h is some few = absurd (h (let e = ap length is ∙ length_plain (v ∷ chosen) in omega arith))
made (Some x) items (v ∷ chosen) h is some few = ap (λ (y : List Item). Some y) (h.1 ∙ is)

-- one list more
unrolled : (central : Bool) (names : List ℕ) (lists : List (List ℕ)) (i : ℕ) (list : List ℕ) → i < length lists → list ≡ get_or lists i list → played central names (drop i lists) ≡ play_or (list_choice central names list) (drop (i + 1) lists) (played central names (drop (i + 1) lists))
unrolled central names lists i list there is =
    let next : suc i ≡ i + 1 = omega arith in
    let split : drop i lists ≡ list ∷ drop (i + 1) lists = drop-cons lists i list there ∙ ap (λ x. x ∷ drop (suc i) lists) (sym is) ∙ ap (λ k. list ∷ drop k lists) next in
    ap (played central names) split

pub played_skip : (central : Bool) (names : List ℕ) (lists : List (List ℕ)) (i : ℕ) (list : List ℕ) → i < length lists → list ≡ get_or lists i list → list_choice central names list ≡ None → played central names (drop (i + 1) lists) ≡ played central names (drop i lists)
played_skip central names lists i list there is none = sym (unrolled central names lists i list there is ∙ ap (λ o. play_or o (drop (i + 1) lists) (played central names (drop (i + 1) lists))) none)

pub played_take : (central : Bool) (names : List ℕ) (lists : List (List ℕ)) (i : ℕ) (list : List ℕ) (choice : List Item) → i < length lists → list ≡ get_or lists i list → list_choice central names list ≡ Some choice → played central names (drop i lists) ≡ (Some choice, drop (i + 1) lists)
played_take central names lists i list choice there is some = unrolled central names lists i list there is ∙ ap (λ o. play_or o (drop (i + 1) lists) (played central names (drop (i + 1) lists))) some

-- a list that gives a choice names a member
none_step : (central : Bool) (found : List ℕ) (lists : List (List ℕ)) (later : Option (List Item) × List (List ℕ)) → (play_or (some_choice (first_or_all central found)) lists later).0 ≡ None → (found ≡ []) × (later.0 ≡ None)
none_step true [] lists later h = (refl, h)
none_step false [] lists later h = (refl, h)
none_step true (v ∷ found) lists later h = cc
none_step false (v ∷ found) lists later h = cc

none_back : (central : Bool) (found : List ℕ) (lists : List (List ℕ)) (later : Option (List Item) × List (List ℕ)) → found ≡ [] → later.0 ≡ None → (play_or (some_choice (first_or_all central found)) lists later).0 ≡ None
none_back true [] lists later is h = h
none_back false [] lists later is h = h
none_back true (v ∷ found) lists later is h = cc
none_back false (v ∷ found) lists later is h = cc

none_all : (central : Bool) (names : List ℕ) (lists : List (List ℕ)) → (played central names lists).0 ≡ None → AllByRecursion (λ list. named_of names list ≡ []) lists
none_all central names [] h = tt
none_all central names (list ∷ lists) h =
    let both = none_step central (named_of names list) lists (played central names lists) h in
    (both.0, none_all central names lists both.1)

all_none : (central : Bool) (names : List ℕ) (lists : List (List ℕ)) → AllByRecursion (λ list. named_of names list ≡ []) lists → (played central names lists).0 ≡ None
all_none central names [] h = refl
all_none central names (list ∷ lists) h = none_back central (named_of names list) lists (played central names lists) h.0 (all_none central names lists h.1)

-- there is no choice if and only if no list names a member
is_none_eq : (o : Option (List Item)) → IsNone o → o ≡ None
is_none_eq None h = refl
is_none_eq (Some x) h = absurd (true≢false h)

pub none_played : (central : Bool) (names : List ℕ) (lists : List (List ℕ)) (o : Option (List Item)) → o ≡ (played central names lists).0 → IsNone o ↔ All (λ list. named_of names list ≡ []) lists
none_played central names lists o same =
    (λ h. All-from_recursion (λ (list : List ℕ). named_of names list ≡ []) lists (none_all central names lists (sym same ∙ is_none_eq o h)), λ h. subst IsNone (sym (same ∙ all_none central names lists (recursion_from_All (λ (list : List ℕ). named_of names list ≡ []) lists h))) refl)

climbs_filter : (p q : ℕ → Bool) (low : ℕ) (names : List ℕ) → Climbs p low names → Climbs p low (filter q names)
climbs_filter p q low [] h = tt
climbs_filter p q low (v ∷ names) h =
    let rest = climbs_filter p q (suc v) names h.2 in
    let le = h.0 in
    ⊎_elim
    (λ (on : q v ≡ true). subst (λ b. Climbs p low (cond b (v ∷ filter q names) (filter q names))) (sym on) (h.0, h.1, rest))
    (λ (off : q v ≡ false). subst (λ b. Climbs p low (cond b (v ∷ filter q names) (filter q names))) (sym off) (climbs_lower p low (suc v) (filter q names) (omega arith) rest))
    (cases_Bool (q v))

climbs_first : (p : ℕ → Bool) (low : ℕ) (central : Bool) (names : List ℕ) → Climbs p low names → Climbs p low (first_or_all central names)
climbs_first p low true [] h = tt
climbs_first p low true (v ∷ names) h = (h.0, h.1, tt)
climbs_first p low false names h = h

first_one : (central : Bool) (names : List ℕ) → 1 ≤ length (first_or_all central names) → IsTrue central → length (first_or_all central names) ≡ 1
first_one true [] some on = absurd (omega arith)
first_one true (v ∷ names) some on = refl
first_one false names some on = cc

some_lawful : (bits : List Bool) (central : Bool) (chosen : List ℕ) (choice : List Item) → some_choice chosen ≡ Some choice → Climbs (is_in bits) 0 chosen → (1 ≤ length chosen → IsTrue central → length chosen ≡ 1) → IsLawful bits central choice
some_lawful bits central [] choice is climb one = cc
some_lawful bits central (v ∷ chosen) choice is climb one =
    let same : plain (v ∷ chosen) ≡ choice = cc in
    let some : 1 ≤ length (v ∷ chosen) = omega arith in
    subst (IsLawful bits central) same (lawful_plain bits central (v ∷ chosen) climb some (one some))

-- the choice of a list is lawful
pub list_lawful : (bits : List Bool) (central : Bool) (list : List ℕ) (choice : List Item) → list_choice central (members bits) list ≡ Some choice → IsLawful bits central choice
list_lawful bits central list choice is = some_lawful bits central (first_or_all central (named_of (members bits) list)) choice is (climbs_first (is_in bits) 0 central (named_of (members bits) list) (climbs_filter (is_in bits) (is_in_list list) 0 (members bits) (climbs_members bits))) (first_one central (named_of (members bits) list))

or_lawful : (bits : List Bool) (central : Bool) (o : Option (List Item)) (lists : List (List ℕ)) (later : Option (List Item) × List (List ℕ)) → ((choice : List Item) → o ≡ Some choice → IsLawful bits central choice) → ((choice : List Item) → later.0 ≡ Some choice → IsLawful bits central choice) → (choice : List Item) → (play_or o lists later).0 ≡ Some choice → IsLawful bits central choice
or_lawful bits central None lists later one more choice is = more choice is
or_lawful bits central (Some x) lists later one more choice is = one choice is

lawful_lists : (bits : List Bool) (central : Bool) (lists : List (List ℕ)) (choice : List Item) → (played central (members bits) lists).0 ≡ Some choice → IsLawful bits central choice
lawful_lists bits central [] choice is = cc
lawful_lists bits central (list ∷ lists) choice is = or_lawful bits central (list_choice central (members bits) list) lists (played central (members bits) lists) (list_lawful bits central list) (lawful_lists bits central lists) choice is

-- what is played is a lawful choice
pub lawful_played : (bits : List Bool) (central : Bool) (lists : List (List ℕ)) (o : Option (List Item)) → o ≡ (played central (members bits) lists).0 → IfSome o (IsLawful bits central)
lawful_played bits central lists None is = tt
lawful_played bits central lists (Some choice) is = lawful_lists bits central lists choice (sym is)
