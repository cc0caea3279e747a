-- What each name contributes to the totals of its network, its stance towards its edges, and when the
-- stored values are still right.
use Rattle.std.specs.Prelude.{◌≡◌, ◌≢◌, ℕ, ◌+◌, ◌≤◌, Bool, false, true, cond, ◌&&◌, ◌||◌, List, length, sum_by, None, is_none, is_some, nat_eq, slice_index_or, IsTrue}
use Rattle.enabled_set.specs.Members.{is_in}
use Rattle.rule_machine.specs.declared.rule_set.RuleSet.{RuleSet}
use Rattle.rule_machine.specs.declared.rule_set.RuleSet.TheVariants.{Hh, Manne}
use Rattle.rule_machine.specs.Network.{linked, present}
use Rattle.rule_machine.specs.State.{State, IsState, is_unanswered, married, pointer, points}
use Rattle.rule_machine.specs.Charge.{is_courted, manne_node_charge}
use Rattle.rule_machine.specs.RuleTable.{enabled_names, rule_at}
use Rattle.rule_machine.specs.Stable.{mutual_pairs}
use Rattle.rule_machine.specs.Tables.{table_of}
use Rattle.machine_laws.specs.ClosedByPointers.{hsu_huang_closes, manne_closes}
use Rattle.net_state.specs.declared.edge_stance.EdgeStance.{EdgeStance}
use Rattle.net_state.specs.declared.edge_stance.EdgeStance.TheVariants.{Shut, Courted, Free}
use Rattle.net_state.specs.EdgeStances.{end_at, CountsOpenEdges}
use Rattle.net_state.specs.declared.open_edges.OpenEdges.{OpenEdges}
use Rattle.reply_checker.specs.declared.contribution.Contribution.{Contribution}
use Rattle.reply_checker.specs.declared.totals.Totals.{Totals}
use Rattle.reply_checker.specs.AscendingLists.{lower_end_pair}

-- a name's stance towards its edges
abbrev pub edge_stance_by : RuleSet → State → ℕ → EdgeStance
edge_stance_by Hh s v = cond (married s v) Shut (cond (is_courted s v) Courted Free)
edge_stance_by Manne s v = cond (married s v) Shut Free

-- whether the pointer of v closes an edge that is open by the stances of its ends
abbrev pub closes : RuleSet → State → ℕ → Bool
closes Hh s v = hsu_huang_closes s v
closes Manne s v = manne_closes s v

-- what a node adds to the charge by its flag
abbrev pub flag_charge : RuleSet → State → ℕ → ℕ
flag_charge Hh s v = 0
flag_charge Manne s v = manne_node_charge s v

-- what a node adds to the charge apart from its edges
abbrev pub adds : RuleSet → State → ℕ → ℕ
adds rules s v = cond (is_unanswered s v) 1 0 + flag_charge rules s v

-- the contribution of v; that of an absent name if v is absent
pub record IsShare (rules : RuleSet) (s : State) (v : ℕ) (share : Contribution) : Type 0 where
  pub rule : share.rule ≡ cond (present s.network v) (rule_at (table_of rules) s v) None
  pub is_lower_end : share.is_lower_end ≡ is_some (lower_end_pair s v)
  pub added : share.added ≡ cond (present s.network v) (adds rules s v) 0
  pub closes : share.closes ≡ cond (present s.network v) (closes rules s v) false

-- the contribution of an absent name
abbrev pub absent_contribution : Contribution
absent_contribution = record { rule = None; is_lower_end = false; added = 0; closes = false }

abbrev pub contribution_of_name : List Contribution → ℕ → Contribution
contribution_of_name each v = slice_index_or each v absent_contribution

-- what the contribution adds to the charge fits two bits
abbrev pub FitsTwoBits : Contribution → Type 0
FitsTwoBits share = share.added ≤ 3

-- the four sums are those over all contributions
pub record AreStatusSums (each : List Contribution) (pairs enabled added closing : ℕ) : Type 0 where
  pub paired : pairs ≡ sum_by (λ (it : Contribution). cond it.is_lower_end 1 0) each
  pub ruled : enabled ≡ sum_by (λ (it : Contribution). cond (is_some it.rule) 1 0) each
  pub in_all : added ≡ sum_by (λ (it : Contribution). it.added) each
  pub closed : closing ≡ sum_by (λ (it : Contribution). cond it.closes 1 0) each

-- the totals are those of the state by the rules
pub record AreTotals (rules : RuleSet) (s : State) (totals : Totals) : Type 0 where
  pub pairs : totals.pairs ≡ length (mutual_pairs s)
  pub enabled : totals.enabled ≡ length (enabled_names (table_of rules) s)
  pub charge : totals.charge ≡ (table_of rules).charge s

-- the second set has at least the members of the first and v
pub record AddsMember (was is : List Bool) (v : ℕ) : Type 0 where
  pub places : length is ≡ length was
  pub others : (w : ℕ) → is_in is w ≡ false → (is_in was w ≡ false) × (w ≢ v)

-- whether v's contribution depends on w: v itself, each neighbour if v's pointer is null, else v's target
abbrev pub asks : State → ℕ → ℕ → Bool
asks s v w = nat_eq v w || (linked s.network v w && (is_none (pointer s v) || points s.registers v w))

-- the second set has at least the members of the first and all names whose contribution depends on w
pub record AreAsking (s : State) (w : ℕ) (was is : List Bool) : Type 0 where
  pub places : length is ≡ length was
  pub others : (v : ℕ) → is_in is v ≡ false → (is_in was v ≡ false) × (asks s v w ≡ false)

-- nothing on which v's contribution depends changed since the last look at v
pub record IsFresh (s : State) (touched due : List Bool) (v : ℕ) : Type 0 where
  pub not_due : is_in due v ≡ false
  pub untouched : (w : ℕ) → asks s v w ≡ true → is_in touched w ≡ false

-- no name is touched or due: nothing changed since the last look
pub record AreFresh (touched due : List Bool) : Type 0 where
  pub none_due : (v : ℕ) → is_in due v ≡ false
  pub none_touched : (v : ℕ) → is_in touched v ≡ false

-- the entries of v are its contribution and its stance towards its edges
pub record IsContributionAt (rules : RuleSet) (s : State) (ends : List EdgeStance) (each : List Contribution) (v : ℕ) : Type 0 where
  pub share : IsShare rules s v (contribution_of_name each v)
  pub end : IsTrue (present s.network v) → end_at ends v ≡ edge_stance_by rules s v

-- the entries of each fresh name are right, and the open edges are counted
pub record AreExactIfFresh (rules : RuleSet) (s : State) (open_edges : OpenEdges) (each : List Contribution) (touched due : List Bool) : Type 0 where
  pub sound : IsState s
  pub places : length each ≡ s.network.size + 1
  pub touched_places : length touched ≡ s.network.size + 1
  pub due_places : length due ≡ s.network.size + 1
  pub nobody : contribution_of_name each 0 ≡ absent_contribution
  pub told : (v : ℕ) → IsFresh s touched due v → IsContributionAt rules s open_edges.stances.items each v
  pub counted : CountsOpenEdges s.network open_edges
