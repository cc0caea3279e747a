-- The potential from above and from below. If no node is married, none hopes and one is stuck, all that point
-- are in a trap; else it is at most four less than its greatest value.
use Rattle.dense_laws.proofs.Prelude.{◌≡◌, ◌≢◌, ℕ, refl, true, ◌+◌, ◌*◌, ◌<◌, ◌≤◌, false, List, length, count_by, Option, None, IsTrue, ap, inl, inr, ⊎_elim, ◌⊎◌, arith, cases_lt, true≢false, none-some, option_cases, IsIn, count_none, count_all, stance, is_paired, null_is, paired_is, paired_from, StanceCase, stance_cases}
use Rattle.machine_laws.proofs.ListCounts.{count_not, one_count}
use Rattle.dense_laws.proofs.Counts.{count_two, count_exists}
use Rattle.dense_laws.proofs.NodeKinds.{is_idle, is_stuck, is_hoping, singles, idles, stucks, hopings, stuck_from, stuck_is, hoping_from, hoping_is, kinds_are_all}
use Rattle.dense_laws.proofs.Arithmetic.{most_at_all, most_with_pair, most_with_hope, most_idle, most_alone, least, least_stuck}
use Rattle.dense_laws.proofs.Moves.{IsAmong, IsTrap, trap_stucks}

abbrev pub high : (ℕ → Option ℕ) → List ℕ → ℕ
high p xs = singles p xs * singles p xs + 4 * stucks p xs + 2 * idles p xs

abbrev pub low : (ℕ → Option ℕ) → List ℕ → ℕ
low p xs = 2 * singles p xs

-- if a node hopes, one is idle
hope_idle : (p : ℕ → Option ℕ) (xs : List ℕ) → IsAmong p xs → 1 ≤ hopings p xs → 1 ≤ idles p xs
hope_idle p xs among some =
    let one = count_exists (is_hoping p) xs some in
    let aim = hoping_is p one.0 one.2 in
    one_count (is_idle p) xs aim.0 (among.ends one.0 aim.0 aim.1).1 (null_is (p aim.0) aim.2)

-- an unmarried node is idle or stuck, or one that it points at is
someone : (p : ℕ → Option ℕ) (xs : List ℕ) → IsAmong p xs → 1 ≤ singles p xs → 1 ≤ idles p xs + stucks p xs
someone p xs among some =
    let kinds = kinds_are_all p xs in
    ⊎_elim
    (λ (none : hopings p xs < 1). omega (arith, kinds, some, none))
    (λ (hope : 1 ≤ hopings p xs). let idle = hope_idle p xs among hope in omega (arith, idle))
    (cases_lt (hopings p xs) 1)

pub not_below : (p : ℕ → Option ℕ) (xs : List ℕ) → IsAmong p xs → low p xs ≤ high p xs
not_below p xs among = least (singles p xs) (stucks p xs) (idles p xs) (someone p xs among)

pub trap_above : (p : ℕ → Option ℕ) (xs : List ℕ) → IsAmong p xs → IsTrap p → low p xs + 4 ≤ high p xs
trap_above p xs among trap = least_stuck (singles p xs) (stucks p xs) (idles p xs) (trap_stucks p xs among trap)

singles_within : (p : ℕ → Option ℕ) (xs : List ℕ) → singles p xs ≤ length xs
singles_within p xs = let both = count_not (λ v. is_paired (stance p v)) xs in omega (arith, both)

pub most : (p : ℕ → Option ℕ) (xs : List ℕ) → high p xs ≤ length xs * length xs + 2 * length xs + low p xs
most p xs =
    let kinds = kinds_are_all p xs in
    most_at_all (singles p xs) (stucks p xs) (idles p xs) (length xs) (omega (arith, kinds)) (singles_within p xs)

-- ---- four less, or a trap

-- the stuck nodes are in a trap if none is married and none hopes
trap_of_stuck : (p : ℕ → Option ℕ) (xs : List ℕ) → IsAmong p xs → ((v : ℕ) → IsIn v xs → is_paired (stance p v) ≡ false) → ((v : ℕ) → IsIn v xs → is_hoping p v ≡ false) → (y : ℕ) → IsTrue (is_stuck p y) → IsTrap p
trap_of_stuck p xs among unmarried hopeless y stuck = record {
  inside = is_stuck p;
  first = y;
  there = stuck;
  leads = λ v h. let aim = stuck_is p v h in (aim.0, aim.1, next aim.0 (among.ends v aim.0 aim.1).1 aim.2 (stance_cases p aim.0), aim.3);
}
  where
    next : (w : ℕ) → IsIn w xs → p w ≢ None → StanceCase p w → IsTrue (is_stuck p w)
    next w there busy h3 = grind (arith, true≢false, hoping_from, stuck_from, none-some, option_cases)

-- a pair is of two
pair_is_two : (p : ℕ → Option ℕ) (xs : List ℕ) → IsAmong p xs → 1 ≤ count_by (λ v. is_paired (stance p v)) xs → 2 ≤ count_by (λ v. is_paired (stance p v)) xs
pair_is_two p xs among some =
    let one = count_exists (λ v. is_paired (stance p v)) xs some in
    let pair = paired_is p one.0 one.2 in
    count_two (λ v. is_paired (stance p v)) one.0 pair.0 xs among.once one.1 (among.ends one.0 pair.0 pair.1).1 one.2 (ap is_paired (paired_from p pair.0 one.0 pair.2 pair.1)) (among.apart one.0 pair.0 pair.1)

pub trap_or_less : (p : ℕ → Option ℕ) (xs : List ℕ) → IsAmong p xs → 2 ≤ length xs → IsTrap p ⊎ (high p xs + 4 ≤ length xs * length xs + 2 * length xs + low p xs)
trap_or_less p xs among two =
    ⊎_elim
    (λ (free : count_by (λ v. is_paired (stance p v)) xs < 1). unmarried (count_none (λ v. is_paired (stance p v)) xs (omega (arith, free))))
    (λ (some : 1 ≤ count_by (λ v. is_paired (stance p v)) xs).
    let pair = pair_is_two p xs among some in
    let both = count_not (λ v. is_paired (stance p v)) xs in
    inr (most_with_pair (singles p xs) (stucks p xs) (idles p xs) (length xs) parts (omega (arith, pair, both))))
    (cases_lt (count_by (λ v. is_paired (stance p v)) xs) 1)
  where
    parts : idles p xs + stucks p xs ≤ singles p xs
    parts = let kinds = kinds_are_all p xs in omega (arith, kinds)

    hopeless : ((v : ℕ) → IsIn v xs → is_paired (stance p v) ≡ false) → hopings p xs < 1 → IsTrap p ⊎ (high p xs + 4 ≤ length xs * length xs + 2 * length xs + low p xs)
    hopeless alone none =
        ⊎_elim
        (λ (calm : stucks p xs < 1). let less = most_idle (singles p xs) (idles p xs) (length xs) (omega (arith, parts)) (singles_within p xs) two in inr (omega (arith, less, calm)))
        (λ (some : 1 ≤ stucks p xs). let one = count_exists (is_stuck p) xs some in inl (trap_of_stuck p xs among alone (count_none (is_hoping p) xs (omega (arith, none))) one.0 one.2))
        (cases_lt (stucks p xs) 1)

    unmarried : ((v : ℕ) → IsIn v xs → is_paired (stance p v) ≡ false) → IsTrap p ⊎ (high p xs + 4 ≤ length xs * length xs + 2 * length xs + low p xs)
    unmarried alone =
        ⊎_elim
        (λ (none : hopings p xs < 1). hopeless alone none)
        (λ (hope : 1 ≤ hopings p xs).
        let kinds = kinds_are_all p xs in
        inr (most_with_hope (singles p xs) (stucks p xs) (idles p xs) (length xs) (omega (arith, kinds, hope)) (hope_idle p xs among hope) (singles_within p xs)))
        (cases_lt (hopings p xs) 1)

-- ---- one node or none

-- a stuck node points at another
pub lone_is_low : (p : ℕ → Option ℕ) (xs : List ℕ) → IsAmong p xs → length xs < 2 → high p xs ≤ low p xs + 1
lone_is_low p xs among few =
    ⊎_elim
    (λ (calm : stucks p xs < 1). let less = most_alone (singles p xs) (idles p xs) parts (omega (arith, singles_within p xs, few)) in omega (arith, less, calm))
    (λ (some : 1 ≤ stucks p xs).
    let one = count_exists (is_stuck p) xs some in
    let aim = stuck_is p one.0 one.2 in
    let two = count_two (λ v. true) one.0 aim.0 xs among.once one.1 (among.ends one.0 aim.0 aim.1).1 refl refl (among.apart one.0 aim.0 aim.1) in
    let all = count_all xs in
    absurd (omega (arith, two, all, few)))
    (cases_lt (stucks p xs) 1)
  where
    parts : idles p xs ≤ singles p xs
    parts = let kinds = kinds_are_all p xs in omega (arith, kinds)
