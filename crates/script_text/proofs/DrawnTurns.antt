-- A seeded daemon's draw among the enabled nodes is accepted as a step: ascending, hence distinct, each
-- enabled, without a wish, and one alone under a central daemon. So each turn lowers the charge, or the network
-- is silent, and as many turns as the charge end silent.
use Rattle.script_text.proofs.Prelude.{◌≡◌, ℕ, suc, ◌<◌, ◌≤◌, Bool, true, false, ◌||◌, List, [], ◌∷◌, ◌++◌, length, get_or, Option, None, Some, nat_eq, if◌then◌else◌, refl, sym, ap, ◌∙◌, subst, ⊎_elim, arith, true≢false, Stream, Item, State, RuleTable, enabled_names, zero, ◌+◌, Step, state_after, IsState, IsTable, option_cases, IsCharged, choice_drawn}
use Rattle.std.proofs.Common.{◌%◌, cond, not, ◌&&◌, is_some, IsTrue, nat_lt}
use Rattle.std.specs.List.{filter, list_any}
use Rattle.std.specs.Option.{option_or}
use Rattle.std.proofs.lemmas.Bool.{cases_Bool, ne_eqb, and_parts, cond-false}
use Rattle.std.proofs.lemmas.List.Folds.{list_any-append}
use Rattle.rand_core.specs.Stream.{next_u32}
use Rattle.rule_machine.specs.declared.act.Act.{Act}
use Rattle.rule_machine.specs.declared.refusal.Refusal.TheVariants.{UnknownNode, ChosenTwice, EmptyChoice, NotCentral}
use Rattle.rule_machine.specs.Network.{present, names}
use Rattle.rule_machine.specs.RuleTable.{rule_at}
use Rattle.rule_machine.specs.Refuse.{wish_refusal, rule_refusal, item_refusal, items_refusal, step_refusal, refusal_of}
use Rattle.daemon.specs.DaemonLaws.{plain}
use Rattle.daemon.specs.DrawnChoices.{draw_one, draw_odd, or_one, draw}
use Rattle.daemon.proofs.Climb.{Climbs, climbs_lower, climbs_range, climbs_at, length_plain}
use Rattle.daemon.proofs.Odd.{climbs_odd}
use Rattle.std.proofs.lemmas.Option.{none-some, same_Some}
use Rattle.rule_machine.specs.declared.act.Moved.{Moved}
use Rattle.rule_machine.specs.declared.refusal.Refusal.{Refusal}
use Rattle.rule_machine.specs.Answer.{AnswersBy}
use Rattle.rule_machine.specs.Least.{reply_by, state_by, reply_of, least_moves}
use Rattle.rule_machine.specs.Step.{IsStep, after_moves}
use Rattle.machine_laws.proofs.LeastAnswers.{least_answers}
use Rattle.machine_laws.proofs.Runs.{answers_keep}
use Rattle.machine_laws.proofs.SilentRuns.{charge_budget, spent_is_quiet}
use Rattle.script_text.specs.DriveEnds.{after_turn, driven}

-- ---- the enabled nodes climb

climbs_filter : (p q : ℕ → Bool) (low : ℕ) (xs : List ℕ) → Climbs p low xs → Climbs (λ v. p v && q v) low (filter q xs)
climbs_filter p q low [] h = tt
climbs_filter p q low (x ∷ xs) h =
    let rest = climbs_filter p q (suc x) xs h.2 in
    let P : List ℕ → Type 0 = Climbs (λ v. p v && q v) low in
    ⊎_elim
    (λ (on : q x ≡ true). subst (λ b. P (cond b (x ∷ filter q xs) (filter q xs))) (sym on) (h.0, ap (λ b. b && q x) h.1 ∙ on, rest))
    (λ (off : q x ≡ false). subst (λ b. P (cond b (x ∷ filter q xs) (filter q xs))) (sym off) (climbs_lower (λ v. p v && q v) low (suc x) (filter q xs) (omega (arith, h.0)) rest))
    (cases_Bool (q x))

-- whether a node is present, and a rule is enabled there
abbrev pub may_move : RuleTable → State → ℕ → Bool
may_move t s v = present s.network v && is_some (rule_at t s v)

pub enabled_climb : (t : RuleTable) (s : State) → Climbs (may_move t s) 0 (enabled_names t s)
enabled_climb t s =
    climbs_lower (may_move t s) 0 1 (enabled_names t s) (omega arith)
    (climbs_filter (present s.network) (λ v. is_some (rule_at t s v)) 1 (names s.network) (climbs_range (present s.network) 1 s.network.size))

-- ---- what is drawn of them does so, too

-- names that a choice may have: one alone under a central daemon
record IsFit (p : ℕ → Bool) (central : Bool) (chosen : List ℕ) : Type 0 where
  climb : Climbs p 0 chosen
  some : 1 ≤ length chosen
  one : IsTrue central → length chosen ≡ 1

one_fits : (p : ℕ → Bool) (central : Bool) (nodes : List ℕ) (s : Stream) → 1 ≤ length nodes → Climbs p 0 nodes → IsFit p central (draw_one nodes s).0
one_fits p central nodes s some climb =
    let inside : (next_u32 s).0 % length nodes < length nodes = omega (arith, some) in
    let on = climbs_at p 0 nodes ((next_u32 s).0 % length nodes) climb inside in
    record {
      climb = (let low : 0 ≤ get_or nodes ((next_u32 s).0 % length nodes) 0 = omega arith in (low, on, tt));
      some = omega arith;
      one = λ _. refl;
    }

or_fits : (p : ℕ → Bool) (nodes chosen : List ℕ) (s : Stream) → 1 ≤ length nodes → Climbs p 0 nodes → Climbs p 0 chosen → IsFit p false (or_one nodes chosen s).0
or_fits p nodes [] s some climb drawn = one_fits p false nodes s some climb
or_fits p nodes (v ∷ chosen) s some climb drawn = record { climb = drawn; some = omega arith; one = λ on. absurd (true≢false (sym on)) }

fits : (p : ℕ → Bool) (central : Bool) (nodes : List ℕ) (s : Stream) → 1 ≤ length nodes → Climbs p 0 nodes → IsFit p central (draw central nodes s).0
fits p true nodes s some climb = one_fits p true nodes s some climb
fits p false nodes s some climb = or_fits p nodes (draw_odd nodes s).0 (draw_odd nodes s).1 some climb (climbs_odd p 0 nodes s climb)

-- ---- so it is taken

taken_by : (t : RuleTable) (s : State) (item : Item) (here twice : Bool) (rule : Option Act) → here ≡ true → twice ≡ false → is_some rule ≡ true → item.wish ≡ None
    → (if not here then Some UnknownNode else (if twice then Some ChosenTwice else rule_refusal t s item rule)) ≡ None
taken_by t s item true false (Some act) h n r free = ap (wish_refusal (t.allowed s item.node act)) free
taken_by t s item false twice rule h n r free = absurd (true≢false (sym h))
taken_by t s item true true rule h n r free = absurd (true≢false n)
taken_by t s item true false None h n r free = absurd (true≢false (sym r))

-- no item before names a node from here on
abbrev AreBelow : ℕ → List Item → Type 0
AreBelow low earlier = (q : ℕ) → low ≤ q → list_any (λ i. nat_eq i.node q) earlier ≡ false

below_more : (low v : ℕ) (earlier : List Item) (item : Item) → item.node ≡ v → low ≤ v → AreBelow low earlier → AreBelow (suc v) (earlier ++ item ∷ [])
below_more low v earlier item is le below q above =
    list_any-append (λ i. nat_eq i.node q) earlier (item ∷ [])
    ∙ ap (λ b. b || (nat_eq item.node q || false)) (below q (omega (arith, le, above)))
    ∙ ap (λ b. b || false) (ne_eqb item.node q (λ same. omega (arith, same, is, above)))

items_taken : (t : RuleTable) (s : State) (low : ℕ) (earlier : List Item) (nodes : List ℕ) → Climbs (may_move t s) low nodes → AreBelow low earlier → items_refusal t s earlier (plain nodes) ≡ None
items_taken t s low earlier [] climb below = refl
items_taken t s low earlier (v ∷ nodes) climb below =
    let item : Item = record { node = v; wish = None } in
    let on = and_parts (present s.network v) (is_some (rule_at t s v)) climb.1 in
    let here : item_refusal t s earlier item ≡ None = taken_by t s item (present s.network v) (list_any (λ i. nat_eq i.node v) earlier) (rule_at t s v) on.0 (below v climb.0) on.1 refl in
    ap (λ o. option_or o (items_refusal t s (earlier ++ item ∷ []) (plain nodes))) here
    ∙ items_taken t s (suc v) (earlier ++ item ∷ []) nodes climb.2 (below_more low v earlier item refl climb.0 below)

few_alone : (central : Bool) (n : ℕ) → (IsTrue central → n ≡ 1) → (central && nat_lt 1 n) ≡ false
few_alone true n one = ap (nat_lt 1) (one refl)
few_alone false n one = refl

pub drawn_taken : (t : RuleTable) (s : State) (stream : Stream) → 1 ≤ length (enabled_names t s) → step_refusal t s (plain (draw t.central (enabled_names t s) stream).0) ≡ None
drawn_taken t s stream some =
    by_fit (draw t.central (enabled_names t s) stream).0 (fits (may_move t s) t.central (enabled_names t s) stream some (enabled_climb t s))
  where
    by_fit : (chosen : List ℕ) → IsFit (may_move t s) t.central chosen → step_refusal t s (plain chosen) ≡ None
    by_fit chosen fit =
        let items = plain chosen in
        let len = length_plain chosen in
        cond-false (nat_eq (length items) 0) (Some EmptyChoice) (if t.central && nat_lt 1 (length items) then Some NotCentral else items_refusal t s [] items) (ne_eqb (length items) 0 (λ none. omega (arith, none, len, fit.some)))
        ∙ cond-false (t.central && nat_lt 1 (length items)) (Some NotCentral) (items_refusal t s [] items) (few_alone t.central (length items) (λ central. len ∙ fit.one central))
        ∙ items_taken t s 0 [] chosen fit.climb (λ q above. refl)

-- ---- so each turn lowers the charge

-- an accepted step spends a move at least
pub step_pays : (t : RuleTable) (weight : ℕ) → IsTable t → IsCharged t weight → (s : State) → IsState s → (items : List Item) → refusal_of t s (Step items) ≡ None → t.charge (state_after t s (Step items)) + 1 ≤ t.charge s
step_pays t weight table charged s good items taken =
    let moves = least_moves t s items in
    let answers = least_answers t table s good 0 (Step items) in
    let step : IsStep t s items moves (after_moves s moves) = subst (λ (o : Option Refusal). AnswersBy t s 0 (Step items) o (reply_by t s 0 (Step items) o) (state_by t s (Step items) o)) taken answers in
    let lands : t.charge (state_after t s (Step items)) ≡ t.charge (after_moves s moves) = ap (λ (o : Option Refusal). t.charge (state_by t s (Step items) o)) taken in
    omega (arith, charged.falls s items moves (after_moves s moves) good step, one_at_least moves step.some, lands)
  where
    one_at_least : (moves : List Moved) → (moves ≡ [] → ⊥) → 1 ≤ length moves
    one_at_least [] some = absurd (some refl)
    one_at_least (m ∷ moves) some = omega arith

-- what a turn that draws a choice does
pub record IsPaid (t : RuleTable) (s s' : State) : Type 0 where
  pub is_state : IsState s'
  pub falls : t.charge s' + 1 ≤ t.charge s

-- if a turn draws none, no rule is enabled
pub turn_rests : (t : RuleTable) (s : State) (stream : Stream) → (choice_drawn t.central (enabled_names t s) stream).0 ≡ None → enabled_names t s ≡ []
turn_rests t s stream none = by_names (enabled_names t s) none
  where
    by_names : (nodes : List ℕ) → (choice_drawn t.central nodes stream).0 ≡ None → nodes ≡ []
    by_names [] h = refl
    by_names (v ∷ nodes) h = absurd (none-some (plain (draw t.central (v ∷ nodes) stream).0) (sym h))

pub turn_pays : (t : RuleTable) (weight : ℕ) → IsTable t → IsCharged t weight → (s : State) → IsState s → (stream : Stream) (items : List Item) → (choice_drawn t.central (enabled_names t s) stream).0 ≡ Some items → IsPaid t s (state_after t s (Step items))
turn_pays t weight table charged s good stream items is = record {
  is_state = answers_keep t table s good 0 (Step items) (reply_of t s 0 (Step items)) (state_after t s (Step items)) (least_answers t table s good 0 (Step items));
  falls = step_pays t weight table charged s good items taken;
}
  where
    taken : refusal_of t s (Step items) ≡ None
    taken = by_names (enabled_names t s) refl is
      where
        by_names : (nodes : List ℕ) → nodes ≡ enabled_names t s → (choice_drawn t.central nodes stream).0 ≡ Some items → step_refusal t s items ≡ None
        by_names [] same h = absurd (none-some items h)
        by_names (v ∷ nodes) same h =
            subst (λ l. step_refusal t s l ≡ None) (same_Some (plain (draw t.central (v ∷ nodes) stream).0) items h)
            (subst (λ ns. 1 ≤ length ns → step_refusal t s (plain (draw t.central ns stream).0) ≡ None) (sym same) (drawn_taken t s stream) (omega arith))

-- if the charge is 0, no rule is enabled
pub zero_is_quiet : (t : RuleTable) (weight : ℕ) → IsTable t → IsCharged t weight → (s : State) → IsState s → t.charge s ≤ 0 → enabled_names t s ≡ []
zero_is_quiet t weight table charged s good none =
    spent_is_quiet t (λ s n. t.charge s ≤ n) table (charge_budget t weight charged) s good none

-- ---- turns in a row

quiet_driven : (t : RuleTable) (s : State) → enabled_names t s ≡ [] → (turns : ℕ) (stream : Stream) → enabled_names t (driven t turns stream s) ≡ []
quiet_driven t s quiet zero stream = quiet
quiet_driven t s quiet (suc turns) stream =
    subst (λ nodes. enabled_names t (driven t turns (choice_drawn t.central nodes stream).1 (after_turn t s (choice_drawn t.central nodes stream).0)) ≡ []) (sym quiet)
    (quiet_driven t s quiet turns stream)

-- as many as the charge
pub driven_is_quiet : (t : RuleTable) (weight : ℕ) → IsTable t → IsCharged t weight → (turns : ℕ) (s : State) → IsState s → t.charge s ≤ turns → (stream : Stream) → enabled_names t (driven t turns stream s) ≡ []
driven_is_quiet t weight table charged zero s good few stream = zero_is_quiet t weight table charged s good few
driven_is_quiet t weight table charged (suc turns) s good few stream =
    ⊎_elim
    (λ none. quiet_driven t s (turn_rests t s stream none) (suc turns) stream)
    (λ (some : (items : List Item) × (choice_drawn t.central (enabled_names t s) stream).0 ≡ Some items).
    let pays = turn_pays t weight table charged s good stream some.0 some.1 in
    subst (λ (o : Option (List Item)). enabled_names t (driven t turns (choice_drawn t.central (enabled_names t s) stream).1 (after_turn t s o)) ≡ []) (sym some.1)
    (driven_is_quiet t weight table charged turns (state_after t s (Step some.0)) pays.is_state (omega (arith, pays.falls, few)) (choice_drawn t.central (enabled_names t s) stream).1))
    (option_cases (choice_drawn t.central (enabled_names t s) stream).0)
