-- The charge from the stances of the ends and from the counts of the names.
use Rattle.reply_checker.proofs.Prelude.{◌≡◌, ℕ, ◌+◌, ◌*◌, Bool, true, false, cond, not, ◌&&◌, length, List, [], ◌∷◌, None, is_some, count_by, sum_by, refl, sym, ap, ap₂, ◌∙◌, arith, range_with_len, sum_by-cons, RuleSet, Hh, Manne, present, names, edge_list, State, IsState, is_unanswered, married, partner, is_courted, enabled_names, rule_at, mutual_pairs, pair_above, table_of, hsu_huang_apart, manne_apart, hsu_huang_split, manne_split, sum_add, sum_agree, edges_agree, EdgeStance, Shut, Courted, Free, are_open, end_at, open_edges, Contribution, lower_end_pair, edge_stance_by, closes, flag_charge, adds, absent_contribution, AreFresh, AreStatusSums, AreExactIfFresh, IsContributionAt, summed, OpenEdges}
use Rattle.reply_checker.proofs.NodeCounts.{kept_count, kept_sum, kept_values, length_filter_map}

-- each node's stance is the state's
abbrev pub AreTurned : RuleSet → State → List EdgeStance → Type 0
AreTurned rules s ends = (v : ℕ) → present s.network v ≡ true → end_at ends v ≡ edge_stance_by rules s v

-- ---- the edges that are open by their ends

hsu_huang_open : (m n c d : Bool) → are_open (cond m Shut (cond c Courted Free)) (cond n Shut (cond d Courted Free)) ≡ (not m && not n && not (c && d))
hsu_huang_open m n c d = grind arith

manne_open : (m n : Bool) → are_open (cond m Shut Free) (cond n Shut Free) ≡ (not m && not n)
manne_open m n = grind arith

-- whether an edge is open by the stances of its ends
abbrev apart : RuleSet → State → ℕ × ℕ → Bool
apart Hh s e = hsu_huang_apart s e
apart Manne s e = manne_apart s e

open_apart : (rules : RuleSet) (s : State) (v w : ℕ) → are_open (edge_stance_by rules s v) (edge_stance_by rules s w) ≡ apart rules s (v, w)
open_apart Hh s v w = hsu_huang_open (married s v) (married s w) (is_courted s v) (is_courted s w)
open_apart Manne s v w = manne_open (married s v) (married s w)

apart_edges : (rules : RuleSet) (s : State) (ends : List EdgeStance) → IsState s → AreTurned rules s ends → open_edges s.network ends ≡ count_by (apart rules s) (edge_list s.network)
apart_edges rules s ends good told =
    edges_agree s.network good.is_network (λ e. are_open (end_at ends e.0) (end_at ends e.1)) (apart rules s)
    (λ v w here there. ap₂ are_open (told v here) (told w there) ∙ open_apart rules s v w)

-- ---- the charge

no_flags : (s : State) (xs : List ℕ) → sum_by (flag_charge Hh s) xs ≡ 0
no_flags s [] = refl
no_flags s (x ∷ xs) = let whole = sum_by-cons (flag_charge Hh s) x xs in let rest = no_flags s xs in omega (arith, whole, rest)

split : (rules : RuleSet) (s : State) → IsState s → (table_of rules).charge s + 2 * count_by (closes rules s) (names s.network) ≡ 2 * count_by (apart rules s) (edge_list s.network) + sum_by (adds rules s) (names s.network)
split Hh s good =
    let edges = hsu_huang_split s good in
    let added = sum_add (λ v. cond (is_unanswered s v) 1 0) (flag_charge Hh s) (names s.network) in
    let flags = no_flags s (names s.network) in
    omega (arith, edges, added, flags)
split Manne s good =
    let edges = manne_split s good in
    let added = sum_add (λ v. cond (is_unanswered s v) 1 0) (flag_charge Manne s) (names s.network) in
    omega (arith, edges, added)

-- The charge plus twice the pointers that close an edge is twice the edges open by their ends plus the nodes'
-- parts.
pub charge_turned : (rules : RuleSet) (s : State) (ends : List EdgeStance) → IsState s → AreTurned rules s ends → (table_of rules).charge s + 2 * sum_by (λ v. cond (cond (present s.network v) (closes rules s v) false) 1 0) (range_with_len 1 s.network.size) ≡ 2 * open_edges s.network ends + sum_by (λ v. cond (present s.network v) (adds rules s v) 0) (range_with_len 1 s.network.size)
charge_turned rules s ends good told =
    let edges = apart_edges rules s ends good told in
    let whole = split rules s good in
    let closing = kept_sum (present s.network) (λ v. cond (closes rules s v) 1 0) (range_with_len 1 s.network.size) in
    let ones = sum_agree (λ v. cond (present s.network v) (cond (closes rules s v) 1 0) 0) (λ v. cond {A = ℕ} (cond (present s.network v) (closes rules s v) false) 1 0) (λ v. grind arith) (range_with_len 1 s.network.size) in
    let added = kept_sum (present s.network) (adds rules s) (range_with_len 1 s.network.size) in
    omega (arith, edges, whole, closing, ones, added)

-- what is counted
pub record IsCounted (rules : RuleSet) (s : State) (ends : List EdgeStance) (pairs enabled added closing : ℕ) : Type 0 where
  pub paired : pairs ≡ length (mutual_pairs s)
  pub ruled : enabled ≡ length (enabled_names (table_of rules) s)
  pub charged : (table_of rules).charge s + 2 * closing ≡ 2 * open_edges s.network ends + added

-- if nothing changed since the last look, the sums are those of the state
pub counted : (rules : RuleSet) (s : State) (it : OpenEdges) (each : List Contribution) (touched due : List Bool) (pairs enabled added closing : ℕ) → AreExactIfFresh rules s it each touched due → AreFresh touched due → AreStatusSums each pairs enabled added closing → IsCounted rules s it.stances.items pairs enabled added closing
counted rules s it each touched due pairs enabled added closing told fresh sums = record {
  paired = sums.paired
      ∙ summed (λ (it : Contribution). cond it.is_lower_end 1 0) (λ v. cond (is_some (lower_end_pair s v)) 1 0) s.network.size each absent_contribution told.places (ap (λ (it : Contribution). cond {A = ℕ} it.is_lower_end 1 0) told.nobody) (λ v. ap (λ b. cond {A = ℕ} b 1 0) (at v).share.is_lower_end)
      ∙ sym (ap length (kept_values (present s.network) (λ v. pair_above v (partner s v)) (lower_end_pair s) (λ v. refl) all) ∙ length_filter_map (lower_end_pair s) all);
  ruled = sums.ruled
      ∙ summed (λ (it : Contribution). cond (is_some it.rule) 1 0) (λ v. cond (is_some (cond (present s.network v) (rule_at (table_of rules) s v) None)) 1 0) s.network.size each absent_contribution told.places (ap (λ (it : Contribution). cond {A = ℕ} (is_some it.rule) 1 0) told.nobody) (λ v. ap (λ o. cond {A = ℕ} (is_some o) 1 0) (at v).share.rule)
      ∙ sym (kept_count (present s.network) (rule_at (table_of rules) s) all);
  charged =
      let charge = charge_turned rules s it.stances.items told.sound (λ v here. (at v).end here) in
      let more = sums.in_all ∙ summed (λ (it : Contribution). it.added) (λ v. cond (present s.network v) (adds rules s v) 0) s.network.size each absent_contribution told.places (ap (λ (it : Contribution). it.added) told.nobody) (λ v. (at v).share.added) in
      let less = sums.closed ∙ summed (λ (it : Contribution). cond it.closes 1 0) (λ v. cond (cond (present s.network v) (closes rules s v) false) 1 0) s.network.size each absent_contribution told.places (ap (λ (it : Contribution). cond {A = ℕ} it.closes 1 0) told.nobody) (λ v. ap (λ b. cond {A = ℕ} b 1 0) (at v).share.closes) in
      omega (arith, charge, more, less);
}
  where
    all : List ℕ
    all = range_with_len 1 s.network.size

    at : (v : ℕ) → IsContributionAt rules s it.stances.items each v
    at v = told.told v (record { not_due = fresh.none_due v; untouched = λ w asked. fresh.none_touched w })
