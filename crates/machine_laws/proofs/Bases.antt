-- Logs with bases, and runs that go on from a base.
use Rattle.machine_laws.proofs.ChargePrelude.Imports.{◌≡◌, ℕ, ◌+◌, true, false, List, [], ◌∷◌, ◌++◌, length, map, None, refl, sym, ap, ◌∙◌, ⊎_elim, arith, both_ways, list_any, eq_by_cmp, cases_Bool, true≢false, false_from_ne_true, ext_get_or, Network, pair_cmp, present, names, edge_list, State, IsState, pointer, flag, RuleTable, spent_after, Entry, Moment, Run, NodeRecord, node_record_at, node_records, base_of, LogPart, EntryPart, BasePart, NumberedMoment, Passes, entries_in}
use Rattle.std.specs.FinMap as finmap
use Rattle.machine_laws.proofs.Edges.{pair_total, pair_exact}
use Rattle.machine_laws.proofs.Leaves.{unit_some}
use Rattle.machine_laws.proofs.Pointers.{absent_null}
use Rattle.machine_laws.proofs.ListCounts.{IsIn}
use Rattle.machine_laws.proofs.Members.{in_names, names_present}

-- the entries among the parts are a run, and are counted
pub passes_run : (t : RuleTable) (at end : NumberedMoment) (log : List LogPart) → Passes t at log end → Run t at.moment (entries_in log) end.moment × (end.count ≡ at.count + length (entries_in log))
passes_run t at end [] h = (ap (λ s. s.moment) h, (let same = ap (λ s. s.count) h in omega (arith, same)))
passes_run t at end (EntryPart entry ∷ log) (next, answers, rest) =
    let more = passes_run t (record { moment = record { state = next; spent = spent_after at.moment.spent entry.1 }; count = at.count + 1 }) end log rest in
    ((next, answers, more.0), (let count = more.1 in omega (arith, count)))
passes_run t at end (BasePart base ∷ log) (is, rest) = passes_run t at end log rest

-- a run in two
pub run_splits : (t : RuleTable) (start end : Moment) (some rest : List Entry) → Run t start (some ++ rest) end → (middle : Moment) × Run t start some middle × Run t middle rest end
run_splits t start end [] rest h = (start, refl, h)
run_splits t start end (entry ∷ some) rest (next, answers, h) =
    let more = run_splits t (record { state = next; spent = spent_after start.spent entry.1 }) end some rest h in
    (more.0, (next, answers, more.1), more.2)

-- ---- the lines of a base tell the state

-- what is in one of two equal lists of records is in the other, with the same record
same_at : (s u : State) (vs ws : List ℕ) → map (node_record_at s) vs ≡ map (node_record_at u) ws → (v : ℕ) → IsIn v vs → IsIn v ws × (node_record_at s v ≡ node_record_at u v)
same_at s u [] ws same v at = absurd at
same_at s u (x ∷ vs) [] same v at = absurd cc
same_at s u (x ∷ vs) (y ∷ ws) same v at = grind (arith, same_at s u vs ws)

-- a node present in one is present in the other, with the same record
same_node : (s u : State) → node_records s ≡ node_records u → (v : ℕ) → present s.network v ≡ true → (present u.network v ≡ true) × (node_record_at s v ≡ node_record_at u v)
same_node s u same v has =
    let at = same_at s u (names s.network) (names u.network) same v (in_names s.network v has) in (names_present u.network v at.0, at.1)

same_present : (s u : State) → node_records s ≡ node_records u → (v : ℕ) → present s.network v ≡ present u.network v
same_present s u same v = both_ways _ _ (λ h. (same_node s u same v h).0) (λ h. (same_node u s (sym same) v h).0)

same_rows : (s u : State) → IsState s → IsState u → s.network.size ≡ u.network.size → node_records s ≡ node_records u → s.network.here ≡ u.network.here
same_rows s u good good' size same =
    ext_get_or false _ _ (omega (arith, good.is_network.here_len, good'.is_network.here_len, size)) (λ v inside. grind (arith, same_present s u same v))

absent_unflagged : (s : State) → IsState s → (v : ℕ) → present s.network v ≡ false → flag s v ≡ false
absent_unflagged s good v gone = false_from_ne_true (flag s v) (λ h. true≢false (sym (good.flagged_present v h) ∙ gone))

same_registers : (s u : State) → IsState s → IsState u → node_records s ≡ node_records u → (v : ℕ) → (pointer s v ≡ pointer u v) × (flag s v ≡ flag u v)
same_registers s u good good' same v =
    ⊎_elim
    (λ has. let at = (same_node s u same v has).1 in (ap (λ (p : NodeRecord). p.target) at, ap (λ (p : NodeRecord). p.flagged) at))
    (λ gone. let gone' = sym (same_present s u same v) ∙ gone in (absent_null s v good gone ∙ sym (absent_null u v good' gone'), absent_unflagged s good v gone ∙ sym (absent_unflagged u good' v gone')))
    (cases_Bool (present s.network v))

same_pointers : (s u : State) → IsState s → IsState u → s.network.size ≡ u.network.size → node_records s ≡ node_records u → s.registers.pointers ≡ u.registers.pointers
same_pointers s u good good' size same =
    ext_get_or None _ _ (omega (arith, good.pointers_len, good'.pointers_len, size)) (λ v inside. (same_registers s u good good' same v).0)

same_flags : (s u : State) → IsState s → IsState u → s.network.size ≡ u.network.size → node_records s ≡ node_records u → s.registers.flags ≡ u.registers.flags
same_flags s u good good' size same =
    ext_get_or false _ _ (omega (arith, good.flags_len, good'.flags_len, size)) (λ v inside. (same_registers s u good good' same v).1)

same_edges : (net more : Network) → edge_list net ≡ edge_list more → net.edges ≡ more.edges
same_edges net more same =
    finmap.same_map pair_total pair_exact _ _ (λ q. unit_some _ _ (
    finmap.contains_key-keys net.edges q ∙ ap (list_any (eq_by_cmp pair_cmp q)) same ∙ sym (finmap.contains_key-keys more.edges q)))

-- For names up to the same size, a base's lines are those of one moment.
pub base_tells : (number : ℕ) (m o : Moment) → IsState m.state → IsState o.state → m.state.network.size ≡ o.state.network.size → base_of number m ≡ base_of number o → m ≡ o
base_tells number m o good good' size same = grind (arith, same_rows, same_edges, same_pointers, same_flags)
