-- The epochs of the entries so far, entry by entry.
use Rattle.auditor.proofs.Prelude.{◌≡◌, ℕ, ◌+◌, List, [], ◌∷◌, ◌++◌, Option, None, Some, All, map, refl, sym, ap, ap₂, subst, ◌∙◌, append_assoc, append-nil, arith, map-append, Base, EpochStart, Reply, Accepted, RuleSet, State, LogPart, EntryPart, BasePart, NumberedMoment, entries_in, Entry, Moment, Epoch, epochs_by, epochs_from, open_at, Answers, spent_after, table_of, weight_of, IsPath, epochs_are_bounded, cost_by, CostedEpoch, TranscriptCursor, NextPart, Position, IsFurther, counted_part, position_at, stand_of, IsPositionAfter, IsOpened, IsPassed, AreCostedEpochs, IsNextCost, IsWithinItsBound, costs_along, costs_by, costs_in, epochs_in, first_epoch, rows_at, rows_by, rounds_along, rounds_in_rows, rounds_ended_by, start_at_part, log_at, KeepsCount, max_entries, ◌≤◌}
use Rattle.round_counter.specs.Counting.{log_after, start_after}
use Rattle.round_laws.specs.Rounds.{rounds_in}
use Rattle.judged_rounds.specs.declared.count.JudgedRounds.{JudgedRounds}
use Rattle.judged_rounds.specs.Following.{CountsIn}
use Rattle.auditor.proofs.EpochRounds.{Stage}
use Rattle.auditor.proofs.TextEnds.{told_comes}
use Rattle.auditor.proofs.AuditPositions.{entries_add, reached_more}
use Rattle.auditor.proofs.Spent.{is_table, is_charged, opens_in_state, opens_within}

abbrev pub entries : List Stage → List Entry
entries path = map (λ step. step.0) path

abbrev moment : State → ℕ → Moment
moment s n = record { state = s; spent = n }

-- ---- what a reply makes of the rows

rows_turn : (reply : Reply) (number : ℕ) (s : State) (cost : Option ℕ) (rounds : ℕ) (row : CostedEpoch)
    → (epochs_in (rows_by reply number s cost rounds row).0 ≡ (epochs_by reply number s row.epoch).0) × ((rows_by reply number s cost rounds row).1.epoch ≡ (epochs_by reply number s row.epoch).1) × (rounds_in_rows (rows_by reply number s cost rounds row).0 ≡ rounds_ended_by reply row.rounds) × ((rows_by reply number s cost rounds row).1.rounds ≡ rounds)
rows_turn Accepted number s cost rounds row = (refl, refl, refl, refl)
rows_turn reply number s cost rounds row = (refl, refl, refl, refl)

-- if the last epoch goes on, nothing more was paid
rows_cost : (reply : Reply) (number : ℕ) (s : State) (cost : Option ℕ) (rounds paid : ℕ) (past : List CostedEpoch) (row : CostedEpoch) → (reply ≡ Accepted → cost ≡ Some paid)
    → costs_in ((past ++ (rows_by reply number s cost rounds row).0) ++ (rows_by reply number s cost rounds row).1 ∷ []) ≡ costs_in (past ++ row ∷ []) ++ costs_by reply paid
rows_cost Accepted number s cost rounds paid past row told =
    map-append (λ (x : CostedEpoch). x.cost) (past ++ row ∷ []) ((rows_by Accepted number s cost rounds row).1 ∷ []) ∙ ap (λ (c : Option ℕ). costs_in (past ++ row ∷ []) ++ c ∷ []) (told refl)
rows_cost reply number s cost rounds paid past row told = simp (append-nil, map-append)

-- ---- along a run

-- a part that leads from p to q is counted
abbrev pub Counted : Position → Position → LogPart → JudgedRounds → JudgedRounds → Type 0
Counted p q part it is' =
    (start : State) (log : List Entry) → CountsIn start log p.state it → it.counter.rounds ≤ p.counted.entries
    → CountsIn (start_at_part start part q.state) (log_at log part) q.state is' × (is'.counter.rounds ≤ q.counted.entries)

-- The bytes begin with a transcript that leads to the position. Whatever stages follow its own: the rows so far,
-- with what those stages add to them, are the rows of all stages. The rounds are counted.
pub record IsListed (bytes : List ℕ) (rules : RuleSet) (size : ℕ) (p : Position) (rest : List ℕ) (past : List CostedEpoch) (row : CostedEpoch) (it : JudgedRounds) : Type 0 where
  pub reached : IsPositionAfter bytes rules size p rest
  pub path : List Stage
  pub entries_are : entries_in reached.log ≡ entries path
  pub goes_on : (more : List Stage) → IsPath (table_of rules) (stand_of p).moment more → IsPath (table_of rules) reached.follows.transcript.start.moment (path ++ more)
  pub epochs : (more : List Stage) → epochs_in past ++ epochs_from (p.number + 1) row.epoch more ≡ epochs_from (reached.follows.transcript.start.count + 1) (first_epoch reached.follows.opening reached.follows.transcript.start) (path ++ more)
  pub costs : (more : List Stage) → costs_in (past ++ row ∷ []) ++ costs_along (cost_by rules) p.state more ≡ None ∷ costs_along (cost_by rules) reached.follows.transcript.start.moment.state (path ++ more)
  pub present : State × List Entry
  pub rounds : (more : List Stage) → rounds_in_rows past ++ rounds_along (table_of rules) present.0 present.1 more ≡ rounds_along (table_of rules) reached.follows.transcript.start.moment.state [] (path ++ more)
  pub rounds_now : row.rounds ≡ it.counter.rounds
  pub by_rules : it.rules ≡ rules
  pub counts : CountsIn present.0 present.1 p.state it
  pub few : it.counter.rounds ≤ p.counted.entries

-- the rounds of the present epoch, by the rules of the run
present_rounds : (rules : RuleSet) (start : State) (log : List Entry) (s : State) (row : CostedEpoch) (it : JudgedRounds) → row.rounds ≡ it.counter.rounds → it.rules ≡ rules → CountsIn start log s it → row.rounds ≡ rounds_in (table_of rules) start log
present_rounds rules start log s row it now ruled counts =
    now ∙ counts.counted.rounds ∙ ap (λ (r : RuleSet). rounds_in (table_of r) start log) ruled

pub listed_start : (bytes : List ℕ) (rules : RuleSet) (size : ℕ) (begun : EpochStart) (p : Position) (rest : List ℕ) (row : CostedEpoch) (it : JudgedRounds) → IsOpened bytes rules size begun p rest → row.epoch ≡ open_at begun (stand_of p).moment → row.cost ≡ None → row.rounds ≡ 0 → it.counter.rounds ≡ 0 → it.rules ≡ rules → CountsIn p.state [] p.state it → IsListed bytes rules size p rest [] row it
listed_start bytes rules size begun p rest row it o is none zero no_round ruled counts =
    let begins : o.start ≡ o.follows.transcript.start = o.follows.transcript.passes in
    let first : row.epoch ≡ first_epoch o.follows.opening o.follows.transcript.start =
    is ∙ ap (λ (q : Position). open_at begun (stand_of q).moment) o.opening ∙ ap (λ (s : EpochStart). open_at s o.start.moment) o.begun_is ∙ ap (first_epoch o.follows.opening) begins in
    let at : IsListed bytes rules size (position_at o.start) rest [] row it = record {
      reached = record { log = []; follows = o.follows; size_is = o.size_is; counts = record { entries = refl; epochs = refl; moves = refl } };
      path = [];
      entries_are = refl;
      goes_on = λ more path. subst (λ (x : NumberedMoment). IsPath (table_of rules) x.moment more) begins path;
      epochs = λ more. ap₂ (λ (x : NumberedMoment) (e : Epoch). epochs_from (x.count + 1) e more) begins first;
      costs = λ more. ap₂ (λ (c : Option ℕ) (x : NumberedMoment). c ∷ costs_along (cost_by rules) x.moment.state more) none begins;
      present = (o.start.moment.state, []);
      rounds = λ more. ap (λ (x : NumberedMoment). rounds_along (table_of rules) x.moment.state [] more) begins;
      rounds_now = zero ∙ sym no_round;
      by_rules = ruled;
      counts = subst (λ (q : Position). CountsIn q.state [] q.state it) o.opening counts;
      few = omega (arith, no_round);
    } in
    subst (λ (q : Position). IsListed bytes rules size q rest [] row it) (sym o.opening) at

-- one entry more
listed_told : (bytes : List ℕ) (rules : RuleSet) (size : ℕ) (p q : Position) (rest behind : List ℕ) (past next : List CostedEpoch) (row after : CostedEpoch) (cost : Option ℕ) (rounds : ℕ) (it is' : JudgedRounds) (entry : Entry) → IsListed bytes rules size p rest past row it → NextPart rules size (stand_of p) rest (EntryPart entry) (stand_of q) behind → q.counted ≡ counted_part p.counted (EntryPart entry)
    → IsNextCost rules p.state rest cost → next ≡ past ++ (rows_by entry.1 q.number q.state cost rounds row).0 → after ≡ (rows_by entry.1 q.number q.state cost rounds row).1 → rounds ≡ is'.counter.rounds → is'.rules ≡ it.rules → Counted p q (EntryPart entry) it is' → IsListed bytes rules size q behind next after is'
listed_told bytes rules size p q rest behind past next row after cost rounds it is' entry l comes counted ahead next_is after_is rounds_is ruled count =
    let start = l.reached.follows.transcript.start in
    let t = table_of rules in
    let step : Stage = (entry, q.state) in
    let stand : stand_of q ≡ _ = comes.steps.2 in
    let spent : q.spent ≡ spent_after p.spent entry.1 = ap (λ (x : NumberedMoment). x.moment.spent) stand in
    let number : q.number ≡ p.number + 1 = ap (λ (x : NumberedMoment). x.count) stand in
    let answers : Answers t p.state p.spent entry.0 entry.1 q.state = subst (λ (s : State). Answers t p.state p.spent entry.0 entry.1 s) (sym (ap (λ (x : NumberedMoment). x.moment.state) stand)) comes.steps.1 in
    let more = count l.present.0 l.present.1 l.counts l.few in
    let turned = rows_by entry.1 q.number q.state cost rounds row in
    let turn = rows_turn entry.1 q.number q.state cost rounds row in
    let over : epochs_in next ≡ epochs_in past ++ (epochs_by entry.1 q.number q.state row.epoch).0 = rw (next_is, map-append (λ (x : CostedEpoch). x.epoch) past turned.0, turn.0) refl in
    let now : after.epoch ≡ (epochs_by entry.1 q.number q.state row.epoch).1 = ap (λ (x : CostedEpoch). x.epoch) after_is ∙ turn.1 in
    let told = ahead (p.number + 1) entry (told_comes rules size (stand_of p) rest entry (stand_of q) behind comes) in
    let paid : costs_in (next ++ after ∷ []) ≡ costs_in (past ++ row ∷ []) ++ costs_by entry.1 (cost_by rules p.state entry.0) =
    ap₂ (λ (x : List CostedEpoch) (r : CostedEpoch). costs_in (x ++ r ∷ [])) next_is after_is ∙ rows_cost entry.1 q.number q.state cost rounds _ past row told in
    let here : rounds_in_rows next ≡ rounds_in_rows past ++ rounds_ended_by entry.1 (rounds_in t l.present.0 l.present.1) =
    rw (next_is, map-append (λ (x : CostedEpoch). x.rounds) past turned.0, turn.2, present_rounds rules l.present.0 l.present.1 p.state row it l.rounds_now l.by_rules l.counts) refl in
    record {
      reached = reached_more bytes rules size p q rest behind l.reached (record { part = EntryPart entry; comes = comes; counted = counted });
      path = l.path ++ step ∷ [];
      entries_are = entries_add l.reached.log (EntryPart entry) ∙ ap (λ (x : List Entry). x ++ entry ∷ []) l.entries_are ∙ sym (map-append (λ (x : Stage). x.0) l.path (step ∷ []));
      goes_on = λ xs path. rw (append_assoc l.path (step ∷ []) xs) (l.goes_on (step ∷ xs) (answers, subst (λ (n : ℕ). IsPath t (moment q.state n) xs) spent path));
      epochs = λ xs. simp (over, now, number, append_assoc) (l.epochs (step ∷ xs));
      costs = λ xs. simp (paid, append_assoc) (l.costs (step ∷ xs));
      present = (start_after l.present.0 entry.1 q.state, log_after l.present.1 entry.0 entry.1);
      rounds = λ xs. simp (here, append_assoc) (l.rounds (step ∷ xs));
      rounds_now = ap (λ (x : CostedEpoch). x.rounds) after_is ∙ turn.3 ∙ rounds_is;
      by_rules = ruled ∙ l.by_rules;
      counts = more.0;
      few = more.1;
    }

-- one base more
listed_kept : (bytes : List ℕ) (rules : RuleSet) (size : ℕ) (p q : Position) (rest behind : List ℕ) (past next : List CostedEpoch) (row after : CostedEpoch) (rounds : ℕ) (it is' : JudgedRounds) (base : Base) → IsListed bytes rules size p rest past row it → NextPart rules size (stand_of p) rest (BasePart base) (stand_of q) behind → q.counted ≡ counted_part p.counted (BasePart base) → next ≡ past ++ [] → after ≡ record row { rounds = rounds } → rounds ≡ is'.counter.rounds → is'.rules ≡ it.rules → Counted p q (BasePart base) it is' → IsListed bytes rules size q behind next after is'
listed_kept bytes rules size p q rest behind past next row after rounds it is' base l comes counted next_is after_is rounds_is ruled count =
    let same = next_is ∙ append-nil past in
    let stays = comes.steps.1 in
    let number : q.number ≡ p.number = ap (λ (x : NumberedMoment). x.count) stays in
    let state : q.state ≡ p.state = ap (λ (x : NumberedMoment). x.moment.state) stays in
    let more = count l.present.0 l.present.1 l.counts l.few in
    record {
      reached = reached_more bytes rules size p q rest behind l.reached (record { part = BasePart base; comes = comes; counted = counted });
      path = l.path;
      entries_are = entries_add l.reached.log (BasePart base) ∙ append-nil (entries_in l.reached.log) ∙ l.entries_are;
      goes_on = λ xs path. l.goes_on xs (subst (λ (x : NumberedMoment). IsPath (table_of rules) x.moment xs) stays path);
      epochs = λ xs. rw (same, after_is, number) (l.epochs xs);
      costs = λ xs. simp (same, after_is, state, map-append) (simp map-append at (l.costs xs));
      present = l.present;
      rounds = λ xs. rw same (l.rounds xs);
      rounds_now = ap (λ (x : CostedEpoch). x.rounds) after_is ∙ rounds_is;
      by_rules = ruled ∙ l.by_rules;
      counts = more.0;
      few = more.1;
    }

-- one part further, and the epochs after it
pub listed_more : (bytes : List ℕ) (rules : RuleSet) (size : ℕ) (p q : Position) (rest behind : List ℕ) (past next : List CostedEpoch) (row after : CostedEpoch) (cost : Option ℕ) (rounds : ℕ) (it is' : JudgedRounds) → IsListed bytes rules size p rest past row it → IsFurther rules size p rest q behind → IsNextCost rules p.state rest cost
    → ((part : LogPart) → q.counted ≡ counted_part p.counted part → (next ≡ past ++ (rows_at part q.number q.state cost rounds row).0) × (after ≡ (rows_at part q.number q.state cost rounds row).1))
    → rounds ≡ is'.counter.rounds → is'.rules ≡ it.rules
    → ((part : LogPart) → NextPart rules size (stand_of p) rest part (stand_of q) behind → q.counted ≡ counted_part p.counted part → Counted p q part it is')
    → IsListed bytes rules size q behind next after is'
listed_more bytes rules size p q rest behind past next row after cost rounds it is' l further ahead turn rounds_is ruled count = by further.part further.comes further.counted
  where
    by : (part : LogPart) → NextPart rules size (stand_of p) rest part (stand_of q) behind → q.counted ≡ counted_part p.counted part → IsListed bytes rules size q behind next after is'
    by (EntryPart entry) comes counted =
        let turned = turn (EntryPart entry) counted in
        listed_told bytes rules size p q rest behind past next row after cost rounds it is' entry l comes counted ahead turned.0 turned.1 rounds_is ruled (count (EntryPart entry) comes counted)
    by (BasePart base) comes counted =
        let turned = turn (BasePart base) counted in
        listed_kept bytes rules size p q rest behind past next row after rounds it is' base l comes counted turned.0 turned.1 rounds_is ruled (count (BasePart base) comes counted)

-- ---- the end

pub listed_all : (bytes : List ℕ) (rules : RuleSet) (size : ℕ) (p : Position) (rest : List ℕ) (past all : List CostedEpoch) (row : CostedEpoch) (it : JudgedRounds) → IsListed bytes rules size p rest past row it → rest ≡ [] → all ≡ past ++ row ∷ [] → AreCostedEpochs bytes rules all
listed_all bytes rules size p rest past all row it l none is =
    let f = l.reached.follows in
    let good = f.transcript in
    let same : bytes ≡ f.good = f.splits ∙ ap (λ (z : List ℕ). f.good ++ z) none ∙ append-nil f.good in
    let whole : l.path ++ [] ≡ l.path = append-nil l.path in
    record {
      opening = f.opening;
      path = l.path;
      run = record {
        log = l.reached.log;
        end = stand_of p;
        transcript = record {
          start = good.start;
          opens = good.opens;
          text = same ∙ good.text;
          parts = good.parts;
          not_too_many = good.not_too_many;
          passes = good.passes;
        };
        entries = l.entries_are;
        is_path = subst (IsPath (table_of rules) good.start.moment) whole (l.goes_on [] tt);
      };
      epochs = rw (is, map-append (λ (x : CostedEpoch). x.epoch) past (row ∷ [])) (rw whole at (l.epochs []));
      costs = ap costs_in is ∙ sym (append-nil (costs_in (past ++ row ∷ []))) ∙ (rw whole at (l.costs []));
      rounds = rw (is, map-append (λ (x : CostedEpoch). x.rounds) past (row ∷ []), present_rounds rules l.present.0 l.present.1 p.state row it l.rounds_now l.by_rules l.counts) (rw whole at (l.rounds []));
    }

-- each epoch is within its bound
pub listed_bounded : (bytes : List ℕ) (rules : RuleSet) (all : List CostedEpoch) → AreCostedEpochs bytes rules all → All (IsWithinItsBound rules) (epochs_in all)
listed_bounded bytes rules all a =
    let is = a.run.transcript in
    subst (All (IsWithinItsBound rules)) (sym a.epochs)
    (epochs_are_bounded (table_of rules) (weight_of rules) (is_table rules) (is_charged rules) is.start.moment (opens_in_state rules a.opening is.start is.opens) (opens_within rules a.opening is.start is.opens)
    (is.start.count + 1) (first_epoch a.opening is.start) (record { moves = refl; edges = refl; nodes = refl }) a.path a.run.is_path)

-- ---- of a replay

pub listed_on : (bytes : List ℕ) (old new : TranscriptCursor) (rest behind : List ℕ) (past next : List CostedEpoch) (row after : CostedEpoch) (cost : Option ℕ) (rounds : ℕ) (it is' : JudgedRounds) → IsListed bytes old.rules old.size old.audit rest past row it → IsPassed old new rest behind → IsNextCost old.rules old.audit.state rest cost
    → ((part : LogPart) → new.audit.counted ≡ counted_part old.audit.counted part → (next ≡ past ++ (rows_at part new.audit.number new.audit.state cost rounds row).0) × (after ≡ (rows_at part new.audit.number new.audit.state cost rounds row).1))
    → rounds ≡ is'.counter.rounds → is'.rules ≡ it.rules → old.audit.counted.entries ≤ max_entries
    → ((part : LogPart) (start : State) (log : List Entry) → KeepsCount old new rest behind part start log it is')
    → IsListed bytes new.rules new.size new.audit behind next after is'
listed_on bytes old new rest behind past next row after cost rounds it is' l p ahead turn rounds_is ruled small count =
    rw (p.rules, p.size) (listed_more bytes old.rules old.size old.audit new.audit rest behind past next row after cost rounds it is' l p.further ahead turn rounds_is ruled (λ part comes counted start log was few. count part start log comes counted was few small))
