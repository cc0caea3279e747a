-- What is spent in a transcript's run is within the bound of its network.
use Rattle.auditor.proofs.Prelude.{◌≡◌, ℕ, ◌+◌, ◌*◌, ◌<◌, ◌≤◌, List, length, ap, sym, ◌∙◌, arith, length-map, Base, RuleSet, Hh, Manne, edge_count, names, node_count, IsState, NumberedMoment, base_of, entries_in, node_record_at, Moment, table_of, weight_of, passes_run, IsTable, IsFlagless, IsBaseMoment, Passes, LogPart, begins_in_state, begins_within, may_begin_again, hsu_huang_flagless, manne_flagless, IsCharged, IsWithinBound, charge_bound, hsu_huang_charged, manne_charged, hsu_huang_table, manne_table, IsPositionAfter, Opens, Opening, base_in, present_of, size_of, Position, stand_of}
use Rattle.std.specs.FinMap as finmap

pub is_table : (rules : RuleSet) → IsTable (table_of rules)
is_table Hh = hsu_huang_table
is_table Manne = manne_table

pub is_charged : (rules : RuleSet) → IsCharged (table_of rules) (weight_of rules)
is_charged Hh = hsu_huang_charged
is_charged Manne = manne_charged

pub opens_in_state : (rules : RuleSet) (o : Opening) (start : NumberedMoment) → Opens rules o start → IsState start.moment.state
opens_in_state rules o start opens =
    begins_in_state (table_of rules) (charge_bound (weight_of rules)) (size_of o) (present_of o) (base_in o) start.moment opens.begins

pub opens_within : (rules : RuleSet) (o : Opening) (start : NumberedMoment) → Opens rules o start → IsWithinBound (table_of rules) (weight_of rules) start.moment
opens_within rules o start opens =
    begins_within (table_of rules) (weight_of rules) (is_charged rules) (size_of o) (present_of o) (base_in o) start.moment opens.begins

pub is_flagless : (rules : RuleSet) → IsFlagless (table_of rules)
is_flagless Hh = hsu_huang_flagless
is_flagless Manne = manne_flagless

-- a run may begin again where one has come to
pub begins_again : (rules : RuleSet) (o : Opening) (start end : NumberedMoment) (log : List LogPart) → Opens rules o start → Passes (table_of rules) start log end → IsBaseMoment (table_of rules) (charge_bound (weight_of rules)) (size_of o) (base_of end.count end.moment) end.moment
begins_again rules o start end log opens passes =
    may_begin_again (table_of rules) (weight_of rules) (is_table rules) (is_charged rules) (is_flagless rules) (size_of o) (present_of o) end.count (base_in o) start.moment opens.begins (entries_in log) end.moment (passes_run (table_of rules) start end log passes).0

pub light : (rules : RuleSet) (spent charge edges nodes : ℕ) → spent + charge ≤ 2 * edges + weight_of rules * nodes → spent ≤ 2 * edges + 3 * nodes
light Hh spent charge edges nodes within = omega (arith, within)
light Manne spent charge edges nodes within = omega (arith, within)

-- what an audit has come to keeps within the bound
pub reached_within : (bytes : List ℕ) (rules : RuleSet) (size : ℕ) (p : Position) (rest : List ℕ) → IsPositionAfter bytes rules size p rest → p.spent ≤ 2 * edge_count p.state.network + 3 * node_count p.state.network
reached_within bytes rules size p rest r =
    let is = r.follows.transcript in
    let begins = begins_again rules r.follows.opening is.start (stand_of p) r.log is.opens is.passes in
    light rules p.spent ((table_of rules).charge p.state) (edge_count p.state.network) (node_count p.state.network) begins.within

-- it fits if the lists of a base are short
pub spent_fits : (b : Base) (n spent : ℕ) (m : Moment) → b ≡ base_of n m → (length b.nodes ≤ 65535) × (length b.edges ≤ 1048576) → spent ≤ 2 * edge_count m.state.network + 3 * node_count m.state.network → spent < 4294967296
spent_fits b n spent m is few bounded =
    let net = m.state.network in
    let edges : length b.edges ≡ edge_count net = ap (λ (x : Base). length x.edges) is ∙ length-map (finmap.entries net.edges) (λ e. e.0) ∙ sym (finmap.len-entries net.edges) in
    let nodes : length b.nodes ≡ node_count net = ap (λ (x : Base). length x.nodes) is ∙ length-map (names net) (node_record_at m.state) in
    omega (arith, edges, nodes, few.0, few.1, bounded)
