-- Runs with as many rounds as any: for each n of 3 or more n rounds by Hsu and Huang's rules, and for each n by
-- Manne's rules n + 2 * (n / 2).
use Rattle.dense_laws.proofs.Prelude.{hsu_huang, ◌-◌, subst, ◌≡◌, ℕ, ◌+◌, ◌*◌, ◌/◌, ◌<◌, ◌≤◌, nat_le, false, replicate, Option, None, IsTrue, sym, ap, ◌∙◌, ⊎_elim, arith, range_with_len, cases_lt, true≢false, le-leb, length-replicate, get_or_past, length-map-range_with_len, get_or-map-range_with_len, none-some, linked, node_count, present, State, IsState, pointer, if_some_from}
use Rattle.std.proofs.Common.{map as list_map, get_or}
use Rattle.std.proofs.lemmas.Bool.{leb-true}
use Rattle.std.proofs.lemmas.List.{get_or-replicate}
use Rattle.rule_machine.specs.State.{flag}
use Rattle.round_laws.proofs.Prelude.{manne}
use Rattle.round_laws.proofs.HsuHuang.{rounds_are_few as hsu_huang_few}
use Rattle.round_laws.proofs.Manne.{rounds_are_few as manne_few}
use Rattle.round_laws.proofs.Plays.{Rounds, rounds_game, reached}
use Rattle.dense_laws.proofs.CompleteNetworks.{up_to, up_to_good, up_to_size, up_to_is_complete, complete_count, cycle, cycle_is_state, cycle_is_cycle}
use Rattle.dense_laws.proofs.Schedule.{IsAt, from_cycle}
use Rattle.round_laws.proofs.ManneSchedule.{IsRaw, from_raw}
use Rattle.round_laws.specs.LongRuns.{HasRun}

-- ---- Hsu and Huang

by_cycle : (k : ℕ) → HasRun hsu_huang (k + 3) (k + 3)
by_cycle k =
    reached hsu_huang (k + 3) (k + 3) (cycle (k + 3)) good nodes
    (λ log last run calm. let most = hsu_huang_few (record { state = cycle (k + 3); spent = 0 }) good log last run calm in omega (arith, most, nodes))
    (from_cycle (Rounds hsu_huang) (rounds_game hsu_huang) k 0 (cycle (k + 3)) (cycle_is_cycle (k + 3) (omega arith)))
  where
    good : IsState (cycle (k + 3))
    good = cycle_is_state (k + 3) (omega arith)

    nodes : node_count (cycle (k + 3)).network ≡ k + 3
    nodes = complete_count (up_to (k + 3) (k + 3)) (k + 3) (up_to_size (k + 3) (k + 3)) (up_to_is_complete (k + 3))

pub hsu_huang_reached : (n : ℕ) → 3 ≤ n → HasRun hsu_huang n n
hsu_huang_reached n three = subst (λ x. HasRun hsu_huang x x) (let is : n - 3 + 3 ≡ n = omega (arith, three) in is) (by_cycle (n - 3))

-- ---- Manne

-- all n nodes are null and flagged
abbrev raw : ℕ → State
raw n = record {
  network = up_to n n;
  registers = record { pointers = replicate (n + 1) None; flags = list_map (nat_le 1) (range_with_len 0 (n + 1)) };
}

raw_null : (n v : ℕ) → pointer (raw n) v ≡ None
raw_null n v = grind (arith, get_or-replicate, get_or_past, length-replicate, cases_lt)

raw_within : (n v : ℕ) → v ≤ n → flag (raw n) v ≡ nat_le 1 v
raw_within n v le = get_or-map-range_with_len (nat_le 1) 0 (n + 1) v v false (omega (arith, le)) (omega arith)

raw_past : (n v : ℕ) → n < v → flag (raw n) v ≡ false
raw_past n v past = get_or_past (list_map (nat_le 1) (range_with_len 0 (n + 1))) v false (let len = length-map-range_with_len (nat_le 1) 0 (n + 1) in omega (arith, len, past))

raw_flagged : (n v : ℕ) → IsTrue (flag (raw n) v) → IsTrue (present (up_to n n) v)
raw_flagged n v on =
    ⊎_elim
    (λ (past : n < v). absurd (true≢false (sym on ∙ raw_past n v past)))
    (λ (le : v ≤ n). (up_to_is_complete n).has v (leb-true 1 v (sym (raw_within n v le) ∙ on)) le)
    (cases_lt n v)

raw_is_state : (n : ℕ) → IsState (raw n)
raw_is_state n = record {
  is_network = up_to_good n n (omega arith);
  pointers_len = let len = length-replicate {A = Option ℕ} (n + 1) None in let size = up_to_size n n in omega (arith, len, size);
  flags_len = let len = length-map-range_with_len (nat_le 1) 0 (n + 1) in let size = up_to_size n n in omega (arith, len, size);
  neighbourly = λ v. if_some_from (pointer (raw n) v) (λ w. IsTrue (linked (up_to n n) v w)) (λ w at. absurd (none-some w (sym (raw_null n v) ∙ at)));
  flagged_present = λ v on. raw_flagged n v on;
}

raw_begins : (n : ℕ) → IsAt n (IsRaw n 0) (raw n)
raw_begins n = record {
  good = raw_is_state n;
  complete = up_to_is_complete n;
  shape = record { null = raw_null n; unset = λ v low high. absurd (omega (arith, low, high)); set = λ v low high. raw_within n v high ∙ le-leb 1 v (omega (arith, low)) };
}

pub manne_reached : (n : ℕ) → HasRun manne n (n + 2 * (n / 2))
manne_reached n =
    reached manne n (n + 2 * (n / 2)) (raw n) (raw_is_state n) nodes
    (λ log last run calm. let most = manne_few (record { state = raw n; spent = 0 }) (raw_is_state n) log last run calm in let same = ap (λ x. x + 2 * (x / 2)) nodes in omega (arith, most, same))
    (from_raw n 0 (raw n) (raw_begins n))
  where
    nodes : node_count (raw n).network ≡ n
    nodes = complete_count (up_to n n) n (up_to_size n n) (up_to_is_complete n)
