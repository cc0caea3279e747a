-- A network that begins at a base: the state of the base's lines, and what is tested there.
use Rattle.rule_engine.proofs.Prelude.{◌≡◌, ℕ, ◌+◌, ◌<◌, ◌≤◌, Bool, true, false, List, [], ◌∷◌, length, map, find, is_some, IsTrue, refl, sym, ap, ◌∙◌, subst, ⊎_elim, arith, true≢false, false_from_ne_true, State, IsState, RuleTable, names, charge_bound, list_any, le-leb, leb-true, cases_lt, length-map, node_count, flag, option_cases, names_none}
use Rattle.std.specs.Prelude.{◌↔◌, nat_le}
use Rattle.rule_machine.specs.Base.{IsBaseMoment, base_of, node_record_at, node_records}
use Rattle.rule_machine.specs.declared.base.Base.{Base}
use Rattle.rule_machine.specs.declared.base.NodeRecord.{NodeRecord}
use Rattle.net_state.specs.BaseLines.{NamesRise, EdgesAscend, HasLines, NoStateHas}
use Rattle.net_state.proofs.LineOrders.{unordered_names, unordered_edges}
use Rattle.rule_engine.specs.BaseFaults.{IsStateOf}

-- ---- lines of no state

pub names_out_of_order : (size : ℕ) (base : Base) (nodes : List NodeRecord) (rise : Bool) → nodes ≡ base.nodes → IsTrue rise ↔ NamesRise 0 nodes → rise ≡ false → NoStateHas size base.nodes base.edges
names_out_of_order size base nodes rise same tests none =
    unordered_names size base.nodes base.edges (λ up. true≢false (sym (tests.1 (subst (NamesRise 0) (sym same) up)) ∙ none))

pub edges_out_of_order : (size : ℕ) (base : Base) (edges : List (ℕ × ℕ)) (rise : Bool) → edges ≡ base.edges → IsTrue rise ↔ EdgesAscend (0, 0) edges → rise ≡ false → NoStateHas size base.nodes base.edges
edges_out_of_order size base edges rise same tests none =
    unordered_edges size base.nodes base.edges (λ up. true≢false (sym (tests.1 (subst (EdgesAscend (0, 0)) (sym same) up)) ∙ none))

-- the lines of the state that is made
pub lines_made : (size : ℕ) (base : Base) (nodes : List NodeRecord) (edges : List (ℕ × ℕ)) (s : State) → HasLines size nodes edges s → nodes ≡ base.nodes → edges ≡ base.edges → HasLines size base.nodes base.edges s
lines_made size base nodes edges s lines same_nodes same_edges =
    record { size_is = lines.size_is; nodes_are = lines.nodes_are ∙ same_nodes; edges_are = lines.edges_are ∙ same_edges }

-- ---- flags

any_flag : (s : State) (vs : List ℕ) → list_any (λ p. p.flagged) (map (node_record_at s) vs) ≡ is_some (find (flag s) vs)
any_flag s [] = refl
any_flag s (v ∷ vs) = let rest = any_flag s vs in grind arith

-- if no node's flag is true none is
none_flagged : (s : State) → IsState s → list_any (λ p. p.flagged) (node_records s) ≡ false → (v : ℕ) → flag s v ≡ false
none_flagged s good none v =
    false_from_ne_true (flag s v) (λ up.
    ⊎_elim
    (λ absent. true≢false (sym up ∙ names_none s.network (flag s) absent v (good.flagged_present v up)))
    (λ found. true≢false (sym (ap is_some found.1) ∙ sym (any_flag s (names s.network)) ∙ none))
    (option_cases (find (flag s) (names s.network))))

-- the flags of the base's state, if no flag is true that the rules do not use
pub fit_flags : (t : RuleTable) (size : ℕ) (base : Base) (nodes : List NodeRecord) (s : State) (unused : Bool) → nodes ≡ base.nodes → IsTrue unused ↔ ((t.flags ≡ false) × (list_any (λ p. p.flagged) nodes ≡ true)) → unused ≡ false → IsStateOf size base s → t.flags ≡ false → (v : ℕ) → flag s v ≡ false
fit_flags t size base nodes s unused same tests none of_base off =
    none_flagged s of_base.is_state
    (ap (list_any (λ p. p.flagged)) (of_base.lines.nodes_are ∙ sym same) ∙ false_from_ne_true _ (λ some. true≢false (sym (tests.1 (off, some)) ∙ none)))

-- ---- the moment

-- the base of the state that has its lines
has_base : (size : ℕ) (base : Base) (s : State) → HasLines size base.nodes base.edges s → base_of base.number (record { state = s; spent = base.spent }) ≡ base
has_base size base s lines =
    λ i. record { number = base.number; spent = base.spent; nodes = lines.nodes_are i; edges = lines.edges_are i }

pub begins : (t : RuleTable) (weight size : ℕ) (base : Base) (s : State) → IsStateOf size base s → (t.flags ≡ false → (v : ℕ) → flag s v ≡ false) → nat_le (base.spent + t.charge s) (charge_bound weight s.network) ≡ true → IsBaseMoment t (charge_bound weight) size base (record { state = s; spent = base.spent })
begins t weight size base s of_base fit within = record {
  is_state = of_base.is_state;
  size_is = of_base.lines.size_is;
  lines = sym (has_base size base s of_base.lines);
  unflagged = fit;
  within = leb-true (base.spent + t.charge s) (charge_bound weight s.network) within;
}

-- more is spent than the bound allows
pub too_much : (spent charge bound : ℕ) → nat_le (spent + charge) bound ≡ false → bound < spent + charge
too_much spent charge bound over =
    ⊎_elim
    (λ (above : bound < spent + charge). above)
    (λ (within : spent + charge ≤ bound). absurd (true≢false (sym (le-leb (spent + charge) bound within) ∙ over)))
    (cases_lt bound (spent + charge))

-- the base lists the nodes of its state
pub nodes_counted : (size : ℕ) (base : Base) (s : State) → IsStateOf size base s → length base.nodes ≡ node_count s.network
nodes_counted size base s of_base = ap length (sym of_base.lines.nodes_are) ∙ length-map (names s.network) (node_record_at s)
