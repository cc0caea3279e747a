-- How far a replay of the first entries is, and its result at the end.
use Rattle.auditor.proofs.Prelude.{◌≡◌, ℕ, ◌+◌, ◌<◌, ◌≤◌, ◌⊎◌, true, false, List, [], Option, None, Some, Result, Ok, Err, refl, sym, ap, ◌∙◌, ⊎_elim, arith, rules, IfOk, true≢false, EpochStart, RuleSet, LogPart, EntryPart, BasePart, table_of, AuditFault, Memory, ReplayedRun, ReplayFault, Judged, TooFew, Forgotten, TranscriptCursor, count_after, Position, stand_of, IsPositionAfter, EndsAt, IsStateAfter, IsReplayFault, IsAskedBeyond, IsMetBehind, IsOpened, IsAskedWithin, IsLongEnough, falls_short, IsPassed}
use Rattle.std.specs.Prelude.{IfErr}
use Rattle.auditor.proofs.AuditPositions.{all_good}
use Rattle.auditor.proofs.Steps.{step_count}

-- ---- one part further

count_more : (count : ℕ) (part : LogPart) → count_after count part ≤ count + 1
count_more count (EntryPart entry) = omega arith
count_more count (BasePart base) = omega arith

within_more : (last : Option ℕ) (entries next : ℕ) → next ≤ entries + 1 → falls_short last entries ≡ true → IsAskedWithin last next
within_more None entries next more short = tt
within_more (Some n) entries next more short = let below : entries < n = search rules in omega (arith, below, more)

pub further_within : (old new : TranscriptCursor) (rest behind : List ℕ) (last : Option ℕ) → falls_short last old.audit.number ≡ true → IsPassed old new rest behind → IsAskedWithin last new.audit.number
further_within old new rest behind last short p =
    let count : new.audit.number ≡ count_after old.audit.number p.further.part = step_count (table_of old.rules) (stand_of old.audit) (stand_of new.audit) p.further.part p.further.comes.steps in
    within_more last old.audit.number new.audit.number (omega (arith, count, count_more old.audit.number p.further.part)) short

-- ---- faults

comes_before : (last : Option ℕ) (entries : ℕ) → falls_short last entries ≡ true → IsAskedBeyond last entries
comes_before None entries short = tt
comes_before (Some n) entries short = let below : entries < n = search rules in below

pub part_fault : (bytes : List ℕ) (count : ℕ) (last : Option ℕ) (fault : AuditFault) → falls_short last count ≡ true → IsMetBehind bytes count fault → IsReplayFault bytes last (Judged fault)
part_fault bytes count last Memory short met = tt
part_fault bytes count last damage short met = met last (comes_before last count short)

pub forgotten_fault : (bytes : List ℕ) (rules : RuleSet) (size : ℕ) (begun : EpochStart) (p : Position) (rest : List ℕ) (last : Option ℕ) (asked : ℕ) → IsOpened bytes rules size begun p rest → last ≡ Some asked → asked < p.number → IsReplayFault bytes last (Forgotten asked p.number)
forgotten_fault bytes rules size begun p rest last asked o is fewer = record {
  last_is = is;
  fewer = fewer;
  rules = rules;
  end = o.start;
  rest = rest;
  follows = o.follows;
  base_is = ap (λ (q : Position). q.number) o.opening;
}

-- ---- the end

ends_at : (p : Position) (rest : List ℕ) (last : Option ℕ) → IsAskedWithin last p.number → IsLongEnough last p.number → (rest ≡ []) ⊎ (falls_short last p.number ≡ false) → EndsAt last p.number rest
ends_at p rest None within enough stop = ⊎_elim (λ none. none) (λ no. absurd (true≢false no)) stop
ends_at p rest (Some n) within enough stop = omega (arith, within, enough)

pub ended : (bytes : List ℕ) (rules : RuleSet) (size : ℕ) (p : Position) (rest : List ℕ) (last : Option ℕ) (result : Result ReplayedRun ReplayFault) → IsPositionAfter bytes rules size p rest → IsAskedWithin last p.number → (rest ≡ []) ⊎ (falls_short last p.number ≡ false)
    → IfOk result (λ reached. (reached.rules ≡ rules) × (reached.judge ≡ p.state) × IsLongEnough last p.number) → IfOk result (λ reached. IsStateAfter bytes last reached.rules reached.judge)
ended bytes rules size p rest last (Err fault) r within stop given = tt
ended bytes rules size p rest last (Ok reached) r within stop (same, state, enough) =
    rw same (record { log = r.log; end = stand_of p; rest = rest; follows = r.follows; ends = ends_at p rest last within enough stop; state = state })

all_read : (rest : List ℕ) (last : Option ℕ) (entries asked : ℕ) → last ≡ Some asked → entries < asked → (rest ≡ []) ⊎ (falls_short last entries ≡ false) → rest ≡ []
all_read rest last entries asked is fewer stop =
    let short : falls_short last entries ≡ true = ap (λ (o : Option ℕ). falls_short o entries) is ∙ search rules in
    ⊎_elim (λ none. none) (λ no. absurd (true≢false (sym short ∙ no))) stop

pub ended_early : (bytes : List ℕ) (rules : RuleSet) (size : ℕ) (p : Position) (rest : List ℕ) (last : Option ℕ) (result : Result ReplayedRun ReplayFault) → IsPositionAfter bytes rules size p rest → (rest ≡ []) ⊎ (falls_short last p.number ≡ false)
    → IfErr result (λ fault. (asked : ℕ) × (fault ≡ TooFew asked p.number) × (last ≡ Some asked) × (p.number < asked)) → IfErr result (IsReplayFault bytes last)
ended_early bytes rules size p rest last (Ok reached) r stop given = tt
ended_early bytes rules size p rest last (Err fault) r stop (asked, is, last_is, fewer) =
    rw is (record {
      last_is = last_is;
      fewer = fewer;
      rules = rules;
      opening = r.follows.opening;
      log = r.log;
      end = stand_of p;
      transcript = all_good bytes rules r.log (stand_of p) rest r.follows (all_read rest last p.number asked last_is fewer stop);
      entries_are = refl;
    })
