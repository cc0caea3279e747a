-- A run that begins at a base: the state of the base's lines, and what is tested there.
use Rattle.reply_checker.proofs.Prelude.{◌≡◌, ℕ, ◌+◌, ◌-◌, ◌≤◌, true, false, List, [], ◌∷◌, map, Option, Some, is_some, IfSome, nat_le, find, refl, sym, ap, ◌∙◌, subst, ⊎_elim, arith, list_any, true≢false, false_from_ne_true, le-leb, leb-true, charge_bound, hsu_huang_bounded, manne_bounded, RuleSet, Hh, Manne, Base, NodeRecord, IsBaseMoment, base_of, node_record_at, node_records, Network, names, State, IsState, flag, RuleTable, Moment, table_of, weight_of, base_tells, option_cases, names_none, names_fails, StateView, HasLines}

-- the charge alone is within the bound
pub charge_within : (rules : RuleSet) (s : State) → (table_of rules).charge s ≤ charge_bound (weight_of rules) s.network
charge_within Hh s = hsu_huang_bounded s
charge_within Manne s = manne_bounded s

-- what may be spent in addition to the charge
pub beside : (spent charge bound : ℕ) → charge ≤ bound → nat_le spent (bound - charge) ≡ nat_le (spent + charge) bound
beside spent charge bound most =
    grind arith

-- ---- flags

any_flag : (s : State) (vs : List ℕ) → list_any (λ p. p.flagged) (map (node_record_at s) vs) ≡ is_some (find (flag s) vs)
any_flag s [] = refl
any_flag s (v ∷ vs) = let rest = any_flag s vs in grind arith

-- if no node's flag is true none is
pub none_flagged : (s : State) → IsState s → list_any (λ p. p.flagged) (node_records s) ≡ false → (v : ℕ) → flag s v ≡ false
none_flagged s good none v =
    false_from_ne_true (flag s v) (λ up.
    ⊎_elim
    (λ absent. true≢false (sym up ∙ names_none s.network (flag s) absent v (good.flagged_present v up)))
    (λ found. true≢false (sym (ap is_some found.1) ∙ sym (any_flag s (names s.network)) ∙ none))
    (option_cases (find (flag s) (names s.network))))

pub no_flag_listed : (s : State) → ((v : ℕ) → flag s v ≡ false) → list_any (λ p. p.flagged) (node_records s) ≡ false
no_flag_listed s down = any_flag s (names s.network) ∙ ap is_some (names_fails s.network (flag s) (λ v has. down v))

-- ---- beginnings

-- the base of the state that has its lines
has_base : (size : ℕ) (base : Base) (s : State) → HasLines size base.nodes base.edges s → base_of base.number (record { state = s; spent = base.spent }) ≡ base
has_base size base s lines =
    λ i. record { number = base.number; spent = base.spent; nodes = lines.nodes_are i; edges = lines.edges_are i }

-- the lines are those of one moment
pub same_moment : (t : RuleTable) (bound : Network → ℕ) (size : ℕ) (base : Base) (s : State) (start : Moment) → IsState s → HasLines size base.nodes base.edges s → IsBaseMoment t bound size base start → start ≡ record { state = s; spent = base.spent }
same_moment t bound size base s start good lines begun =
    base_tells base.number start (record { state = s; spent = base.spent }) begun.is_state good (begun.size_is ∙ sym lines.size_is)
    (sym begun.lines ∙ sym (has_base size base s lines))

-- the lines of the state that is made
pub lines_made : (size : ℕ) (base : Base) (nodes : List NodeRecord) (edges : List (ℕ × ℕ)) (found : Option StateView) (n : StateView) → IfSome found (λ m. HasLines size nodes edges m.state) → found ≡ Some n → nodes ≡ base.nodes → edges ≡ base.edges → HasLines size base.nodes base.edges n.state
lines_made size base nodes edges found n lines is same_nodes same_edges =
    let made : HasLines size nodes edges n.state = subst (λ o. IfSome o (λ m. HasLines size nodes edges m.state)) is lines in
    record { size_is = made.size_is; nodes_are = made.nodes_are ∙ same_nodes; edges_are = made.edges_are ∙ same_edges }

-- none begins if too much is spent
pub too_much : (t : RuleTable) (bound : Network → ℕ) (size : ℕ) (base : Base) (s : State) (start : Moment) → IsState s → HasLines size base.nodes base.edges s → nat_le (base.spent + t.charge s) (bound s.network) ≡ false → IsBaseMoment t bound size base start → ⊥
too_much t bound size base s start good lines over begun =
    let within : base.spent + t.charge s ≤ bound s.network = subst (λ (m : Moment). m.spent + t.charge m.state ≤ bound m.state.network) (same_moment t bound size base s start good lines begun) begun.within in
    true≢false (sym (le-leb (base.spent + t.charge s) (bound s.network) within) ∙ over)

-- nor if a flag is true that the rules do not use
pub fit_flags : (t : RuleTable) (bound : Network → ℕ) (size : ℕ) (base : Base) (s : State) (start : Moment) → IsState s → HasLines size base.nodes base.edges s → IsBaseMoment t bound size base start → t.flags ≡ false → (v : ℕ) → flag s v ≡ false
fit_flags t bound size base s start good lines begun =
    subst (λ (m : Moment). t.flags ≡ false → (v : ℕ) → flag m.state v ≡ false) (same_moment t bound size base s start good lines begun) begun.unflagged

-- the moment at the start of one
pub begins : (t : RuleTable) (bound : Network → ℕ) (size : ℕ) (base : Base) (s : State) → IsState s → HasLines size base.nodes base.edges s → (t.flags ≡ false → (v : ℕ) → flag s v ≡ false) → nat_le (base.spent + t.charge s) (bound s.network) ≡ true → IsBaseMoment t bound size base (record { state = s; spent = base.spent })
begins t bound size base s good lines fit within = record {
  is_state = good;
  size_is = lines.size_is;
  lines = sym (has_base size base s lines);
  unflagged = fit;
  within = leb-true (base.spent + t.charge s) (bound s.network) within;
}
