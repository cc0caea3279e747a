-- What the machine does at a node is the same in all states that show the same there, and is computed from
-- what is shown.
use Rattle.local_rule.proofs.Prelude.{◌≡◌, ℕ, ◌<◌, ◌≤◌, Bool, true, ◌&&◌, List, length, nat_eq, Option, None, Some, IsSome, refl, sym, ap, ap₂, ◌∙◌, arith, option_map, Act, Update, Marry, Seduce, Abandon, NodeRecord, present_range, State, IsState, pointer, flag, married, RuleTable, rule_at, least_target, acts, SameAt, takes_target, same_find, ViewFault, first_fault, ShowsAtNode, IsNeverShown}
use Rattle.machine_laws.specs.MoveTests.{is_rule, is_target}
use Rattle.machine_laws.proofs.Search.{find-agree}
use Rattle.machine_laws.proofs.Writes.{pointer-with_pointer_same, flag-with_flag_same}
use Rattle.local_rule.specs.Moves.{local_move, move_at, may_move_at, TargetsAreLocal, pointer_after, flag_after, move_from}
use Rattle.local_rule.proofs.Looks.{shown_married}
use Rattle.local_rule.proofs.Shown.{same_shown, shown_has_no_fault}

-- guards depend only on what is shown
abbrev pub GuardsAreLocal : RuleTable → Type 0
GuardsAreLocal t =
    (s u : State) (v : ℕ) (act : Act) → IsState s → IsState u → SameAt s u v → t.guard s v act ≡ t.guard u v act

pub rule_alike : (t : RuleTable) (s u : State) (own : NodeRecord) (around : List NodeRecord) → GuardsAreLocal t → ShowsAtNode s own around → ShowsAtNode u own around → rule_at t s own.node ≡ rule_at t u own.node
rule_alike t s u own around local here there =
    find-agree (t.guard s own.node) (t.guard u own.node) acts (λ act. local s u own.node act here.is_state there.is_state (same_shown s u own around here there))

pub target_alike : (t : RuleTable) (s u : State) (own : NodeRecord) (around : List NodeRecord) (act : Act) → TargetsAreLocal t → ShowsAtNode s own around → ShowsAtNode u own around → least_target t s own.node act ≡ least_target t u own.node act
target_alike t s u own around act local here there =
    let same = same_shown s u own around here there in
    same_find s u own.node (t.allowed s own.node act) (t.allowed u own.node act) same (λ w h. local s u own.node act w here.is_state there.is_state same)

-- the registers after a move
pub registers_after : (s : State) (own : NodeRecord) (around : List NodeRecord) (act : Act) (target : Option ℕ) → ShowsAtNode s own around → local_move s own.node act target ≡ move_from own around act target
registers_after s own around act target shows = go act
  where
    bound : own.node ≤ s.network.size
    bound = (present_range s.network own.node shows.here).1

    own_pointer : pointer s own.node ≡ own.target
    own_pointer = ap (λ (r : NodeRecord). r.target) (sym shows.itself)

    own_flag : flag s own.node ≡ own.flagged
    own_flag = ap (λ (r : NodeRecord). r.flagged) (sym shows.itself)

    within : own.node < length s.registers.pointers
    within = let len = shows.is_state.pointers_len in omega (arith, len, bound)

    flag_within : own.node < length s.registers.flags
    flag_within = let len = shows.is_state.flags_len in omega (arith, len, bound)

    made : (act : Act) (p : Option ℕ) (f : Bool) → p ≡ pointer_after own act target → f ≡ flag_after own around act → (record { act = act; target = target; pointer = p; flag = f }) ≡ move_from own around act target
    made act p f e h = λ i. record { act = act; target = target; pointer = e i; flag = h i }

    go : (act : Act) → local_move s own.node act target ≡ move_from own around act target
    go Update = made Update _ _ own_pointer (flag-with_flag_same s.registers own.node (married s own.node) flag_within ∙ sym (shown_married s own around shows))
    go Marry = made Marry _ _ (pointer-with_pointer_same s.registers own.node target within) own_flag
    go Seduce = made Seduce _ _ (pointer-with_pointer_same s.registers own.node target within) own_flag
    go Abandon = made Abandon _ _ (pointer-with_pointer_same s.registers own.node None within) own_flag

-- what the machine does, from what one state that shows the same has
move_by : (s : State) (own : NodeRecord) (around : List NodeRecord) (o : Option Act) (f g : Act → Option ℕ) → ShowsAtNode s own around → ((act : Act) → f act ≡ g act) → option_map (λ act. local_move s own.node act (f act)) o ≡ option_map (λ act. move_from own around act (g act)) o
move_by s own around None f g shows same = refl
move_by s own around (Some act) f g shows same = ap Some (registers_after s own around act (f act) shows ∙ ap (move_from own around act) (same act))

pub move_alike : (t : RuleTable) (s u : State) (own : NodeRecord) (around : List NodeRecord) → GuardsAreLocal t → TargetsAreLocal t → ShowsAtNode s own around → ShowsAtNode u own around → move_at t s own.node ≡ option_map (λ act. move_from own around act (least_target t u own.node act)) (rule_at t u own.node)
move_alike t s u own around guards targets here there =
    move_by s own around (rule_at t s own.node) (λ act. least_target t s own.node act) (λ act. least_target t u own.node act) here (λ act. target_alike t s u own around act targets here there)
    ∙ ap (option_map (λ act. move_from own around act (least_target t u own.node act))) (rule_alike t s u own around guards here there)

-- whether a move is allowed
aims_alike : (t : RuleTable) (s u : State) (own : NodeRecord) (around : List NodeRecord) (act : Act) (target : Option ℕ) → TargetsAreLocal t → ShowsAtNode s own around → ShowsAtNode u own around → is_target t s own.node act None target ≡ is_target t u own.node act None target
aims_alike t s u own around act None targets here there = refl
aims_alike t s u own around act (Some w) targets here there =
    ap (λ b. takes_target act && (b && true)) (targets s u own.node act w here.is_state there.is_state (same_shown s u own around here there))

pub allowed_alike : (t : RuleTable) (s u : State) (own : NodeRecord) (around : List NodeRecord) (act : Act) (target : Option ℕ) → GuardsAreLocal t → TargetsAreLocal t → ShowsAtNode s own around → ShowsAtNode u own around → may_move_at t s own.node act target ≡ may_move_at t u own.node act target
allowed_alike t s u own around act target guards targets here there =
    ap₂ (λ o b. nat_eq own.node own.node && (is_rule o act && b)) (rule_alike t s u own around guards here there) (aims_alike t s u own around act target targets here there)

-- what has a fault is never shown
pub never_shown : (own : NodeRecord) (around : List NodeRecord) → IsSome (first_fault own around) → IsNeverShown own around
never_shown own around fault s shows = go (first_fault own around) fault (shown_has_no_fault s own around shows)
  where
    go : (o : Option ViewFault) → IsSome o → o ≡ None → ⊥
    go o h e = grind arith
