-- The rounds of a journal's epochs: after one more entry, and when counting begins.
use Rattle.step_log.proofs.Prelude.{◌≡◌, ◌≢◌, ◌∙◌, ◌⊎◌, inl, inr, ℕ, ◌+◌, ◌<◌, List, [], ◌∷◌, ◌++◌, length, take, drop, get_or, append_assoc, None, none-some, Option, Some, IfSome, All, All-push, All-weaker, refl, sym, ap, ap₂, subst, arith, length-append, append-nil, Event, Reply, Accepted, State, RuleTable, Entry, Moment, dropped, IsUndisturbed, begun_by, Epoch, EpochStart, RoundCount, count_of_log, counted_whole, next_count, next_counting, rounds_in, rounds_of, over_after, RetainedLog, LeadsTo, last_number}
use Rattle.std.proofs.lemmas.List.{drop_at, take_at}
use Rattle.std.proofs.lemmas.List.Elements.{All-head, All-nil, All-tail}
use Rattle.step_log.specs.JournalRounds.{AreEpochRounds, BeginsAfter, CountsAfter, CountsKept, EndsEpoch, EpochEntries, HasItsRounds, HasRoundsByNumber, IsCountedJournal, IsOver}

-- ---- entries

-- what is kept after one more entry
abbrev pub grown : RetainedLog → Moment → List Entry → RetainedLog
grown kept m entries =
    record { state = m.state; spent = m.spent; base = kept.base; entries = entries; limit = kept.limit; present = kept.present }

longer : (before own after all : List Entry) (x : Entry) → before ++ (own ++ after) ≡ all → before ++ (own ++ (after ++ x ∷ [])) ≡ all ++ x ∷ []
longer before own after all x same =
    ap (λ (l : List Entry). before ++ l) (sym (append_assoc own after (x ∷ [])))
    ∙ sym (append_assoc before (own ++ after) (x ∷ []))
    ∙ ap (λ (l : List Entry). l ++ x ∷ []) same

late_calm : (early late : List Entry) → IsUndisturbed (early ++ late) → IsUndisturbed late
late_calm [] late calm = calm
late_calm (entry ∷ early) late calm = late_calm early late (All-tail (λ (e : Entry). e.1 ≢ Accepted) entry (early ++ late) calm)

-- before any entry the current epoch has none
pub no_entries : (kept : RetainedLog) (start : EpochStart) → kept.entries ≡ [] → BeginsAfter (dropped kept.base) [] start → EpochEntries kept start []
no_entries kept start none begins = record {
  before = [];
  own = [];
  whole = sym none;
  begins = begins;
  calm = All-nil (λ (e : Entry). e.1 ≢ Accepted);
}

-- ---- counts

-- a fact that no count changes holds after one more reply
fact_stays : (t : RuleTable) (reply : Reply) (s : State) (Fact : Type 0) (counting : Option RoundCount) → IfSome counting (λ count. Fact) → IfSome (next_counting t reply s counting) (λ count. Fact)
fact_stays t reply s Fact None is = tt
fact_stays t reply s Fact (Some count) is = is

uncounted_before : (t : RuleTable) (reply : Reply) (s : State) (counting : Option RoundCount) → next_counting t reply s counting ≡ None → counting ≡ None
uncounted_before t reply s None none = refl
uncounted_before t reply s (Some count) none = absurd (none-some (next_count t reply s count) (sym none))

-- the rounds of the count are those of the entries since it began
rounds_since : (t : RuleTable) (s : State) (late : List Entry) → IsUndisturbed late → (counting : Option RoundCount) → IfSome counting (λ count. count ≡ count_of_log t s late) → IfSome counting (λ count. rounds_of counting ≡ Some (rounds_in t s late))
rounds_since t s late calm None is = tt
rounds_since t s late calm (Some count) is =
    ap (λ (c : RoundCount). Some c.rounds) is ∙ ap (λ (n : ℕ). Some n) (counted_whole t s late calm)

-- the current epoch has the rounds of the count
current_counted : (t : RuleTable) (weight : ℕ) (kept : RetainedLog) (from : Option ℕ) (counting : Option RoundCount) → CountsKept t weight kept from counting → (start : EpochStart) (is : EpochEntries kept start []) (early late : List Entry) (m : Moment) → early ++ late ≡ is.own → LeadsTo t weight kept (is.before ++ early) m → CountsAfter (dropped kept.base) from (is.before ++ early)
    → IfSome counting (λ count. rounds_of counting ≡ Some (rounds_in t m.state late))
current_counted t weight kept from counting counts start is early late m same there begins =
    rounds_since t m.state late (late_calm early late (subst IsUndisturbed (sym same) is.calm)) counting
    (counts (is.before ++ early) late m whole there begins)
  where
    whole : (is.before ++ early) ++ late ≡ kept.entries
    whole =
        append_assoc is.before early late
        ∙ ap (λ (l : List Entry). is.before ++ l) (same ∙ sym (append-nil is.own))
        ∙ is.whole

-- ---- counting begins

over_here : (t : RuleTable) (weight : ℕ) (kept : RetainedLog) (from : Option ℕ) (counting counted : Option RoundCount) (number : ℕ) (count : RoundCount) (e : Epoch) → number ≡ last_number kept → counted ≡ Some count → IsOver t weight kept from counting e → IsOver t weight kept (Some number) counted e
over_here t weight kept from counting counted number count e last now is = record {
  event = is.event;
  later = is.later;
  rounds = record {
    entries = is.rounds.entries;
    counted = λ early late m same there begins. absurd (past early late same begins);
    uncounted = λ none. absurd (none-some count (sym none ∙ now));
  };
}
  where
    part : EpochEntries kept e.start ((is.event, Accepted) ∷ is.later)
    part = is.rounds.entries

    short : (early late : List Entry) → early ++ late ≡ part.own → length (part.before ++ early) < length kept.entries
    short early late same =
        let end = (is.event, Accepted) ∷ is.later in
        let first = length-append part.before early in
        let own = length-append early late in
        let is_own = ap length same in
        let rest = length-append part.own end in
        let all = length-append part.before (part.own ++ end) in
        let is_all = ap length part.whole in
        omega (arith, first, own, is_own, rest, all, is_all)

    past : (early late : List Entry) → early ++ late ≡ part.own → CountsAfter (dropped kept.base) (Some number) (part.before ++ early) → ⊥
    past early late same (inl at) = let few = short early late same in omega (arith, last, at, few)
    past early late same (inr (below, ends)) = let few = short early late same in omega (arith, last, below, few)

-- no count begins within an epoch that is over
pub all_over_here : (t : RuleTable) (weight : ℕ) (kept : RetainedLog) (from : Option ℕ) (counting counted : Option RoundCount) (number : ℕ) (count : RoundCount) (over : List Epoch) → number ≡ last_number kept → counted ≡ Some count → All (IsOver t weight kept from counting) over → All (IsOver t weight kept (Some number) counted) over
all_over_here t weight kept from counting counted number count over last now all =
    All-weaker (IsOver t weight kept from counting) (IsOver t weight kept (Some number) counted) (λ e is. over_here t weight kept from counting counted number count e last now is) over all

-- ---- one more entry

-- an accepted disturbance ends the current epoch, and no other reply does
ends_or_not : (reply : Reply) → (reply ≡ Accepted) ⊎ ((reply ≢ Accepted) × ((e : Epoch) (over : List Epoch) → over_after reply e over ≡ over) × ((number : ℕ) (begun : EpochStart) → begun_by reply number begun ≡ begun))
ends_or_not Accepted = inl refl
ends_or_not other = inr (λ is. cc, λ e over. refl, λ number begun. refl)

-- the rounds of an epoch, with one entry more after its own
rounds_next : (t : RuleTable) (weight : ℕ) (kept : RetainedLog) (m : Moment) (entries : List Entry) (event : Event) (reply : Reply) (from : Option ℕ) (counting counted : Option RoundCount) → entries ≡ kept.entries ++ (event, reply) ∷ [] → counted ≡ next_counting t reply m.state counting → ((before : List Entry) (n : Moment) → LeadsTo t weight (grown kept m entries) before n → LeadsTo t weight kept before n)
    → (after : List Entry) (e : Epoch) → HasItsRounds t weight kept from counting after e → HasItsRounds t weight (grown kept m entries) from counted (after ++ (event, reply) ∷ []) e
rounds_next t weight kept m entries event reply from counting counted added counts earlier after e is =
    let part = is.entries in
    record {
      entries = record {
        before = part.before;
        own = part.own;
        whole = longer part.before part.own after kept.entries (event, reply) part.whole ∙ sym added;
        begins = part.begins;
        calm = part.calm;
      };
      counted = λ early late n same there begins.
          subst (λ (o : Option RoundCount). IfSome o (λ count. e.rounds ≡ Some (rounds_in t n.state late))) (sym counts)
          (fact_stays t reply m.state (e.rounds ≡ Some (rounds_in t n.state late)) counting (is.counted early late n same (earlier (part.before ++ early) n there) begins));
      uncounted = λ none. is.uncounted (uncounted_before t reply m.state counting (sym counts ∙ none));
    }

-- the rounds of the current epoch
current_rounds : (t : RuleTable) (weight : ℕ) (kept : RetainedLog) (over : List Epoch) (begun : EpochStart) (from : Option ℕ) (counting : Option RoundCount) → IsCountedJournal t weight kept over begun from counting → (e : Epoch) → e.start ≡ begun → e.rounds ≡ rounds_of counting → HasItsRounds t weight kept from counting [] e
current_rounds t weight kept over begun from counting is e start rounds = record {
  entries = part;
  counted = λ early late m same there begins.
      subst (λ (told : Option ℕ). IfSome counting (λ count. told ≡ Some (rounds_in t m.state late))) (sym rounds)
      (current_counted t weight kept from counting is.counts e.start part early late m same there begins);
  uncounted = λ none. rounds ∙ ap rounds_of none;
}
  where
    part : EpochEntries kept e.start []
    part = subst (λ (s : EpochStart). EpochEntries kept s []) (sym start) is.current

-- the epochs that are over after one more entry
pub ended_next : (t : RuleTable) (weight : ℕ) (kept : RetainedLog) (m : Moment) (entries : List Entry) (event : Event) (reply : Reply) (from : Option ℕ) (counting counted : Option RoundCount) → entries ≡ kept.entries ++ (event, reply) ∷ [] → counted ≡ next_counting t reply m.state counting → ((before : List Entry) (n : Moment) → LeadsTo t weight (grown kept m entries) before n → LeadsTo t weight kept before n)
    → (over next_over : List Epoch) (begun : EpochStart) → IsCountedJournal t weight kept over begun from counting → (e : Epoch) → e.start ≡ begun → e.rounds ≡ rounds_of counting → next_over ≡ over_after reply e over → All (IsOver t weight (grown kept m entries) from counted) next_over
ended_next t weight kept m entries event reply from counting counted added counts earlier over next_over begun is e start rounds ended =
    subst (λ (l : List Epoch). All Over l) (sym ended) (cases (ends_or_not reply))
  where
    Over : Epoch → Type 0
    Over = IsOver t weight (grown kept m entries) from counted

    next : (after : List Entry) (e : Epoch) → HasItsRounds t weight kept from counting after e → HasItsRounds t weight (grown kept m entries) from counted (after ++ (event, reply) ∷ []) e
    next = rounds_next t weight kept m entries event reply from counting counted added counts earlier

    all : All Over over
    all = All-weaker (IsOver t weight kept from counting) Over (λ x o. record { event = o.event; later = o.later ++ (event, reply) ∷ []; rounds = next ((o.event, Accepted) ∷ o.later) x o.rounds }) over is.ended

    cases : (reply ≡ Accepted) ⊎ ((reply ≢ Accepted) × ((e : Epoch) (over : List Epoch) → over_after reply e over ≡ over) × ((number : ℕ) (begun : EpochStart) → begun_by reply number begun ≡ begun)) → All Over (over_after reply e over)
    cases (inl accepted) =
        let own = next [] e (current_rounds t weight kept over begun from counting is e start rounds) in
        subst (λ (r : Reply). All Over (over_after r e over)) (sym accepted)
        (All-push Over over e all (record { event = event; later = []; rounds = subst (λ (r : Reply). HasItsRounds t weight (grown kept m entries) from counted ((event, r) ∷ []) e) accepted own }))
    cases (inr (calm, same, stays)) = subst (λ (l : List Epoch). All Over l) (sym (same e over)) all

-- the current epoch after one more entry
pub current_next : (kept : RetainedLog) (m : Moment) (entries : List Entry) (event : Event) (reply : Reply) (begun next_begun : EpochStart) → entries ≡ kept.entries ++ (event, reply) ∷ [] → next_begun ≡ begun_by reply (last_number kept + 1) begun → EpochEntries kept begun [] → EpochEntries (grown kept m entries) next_begun []
current_next kept m entries event reply begun next_begun added starts is =
    subst (λ (s : EpochStart). EpochEntries (grown kept m entries) s []) (sym starts) (cases (ends_or_not reply))
  where
    number : last_number kept + 1 ≡ dropped kept.base + length entries
    number = let a = ap length added in let b = length-append kept.entries ((event, reply) ∷ []) in omega (arith, a, b)

    cases : (reply ≡ Accepted) ⊎ ((reply ≢ Accepted) × ((e : Epoch) (over : List Epoch) → over_after reply e over ≡ over) × ((number : ℕ) (begun : EpochStart) → begun_by reply number begun ≡ begun)) → EpochEntries (grown kept m entries) (begun_by reply (last_number kept + 1) begun) []
    cases (inl accepted) =
        subst (λ (r : Reply). EpochEntries (grown kept m entries) (begun_by r (last_number kept + 1) begun) []) (sym accepted) (record {
          before = entries;
          own = [];
          whole = append-nil entries;
          begins = number;
          calm = All-nil (λ (e : Entry). e.1 ≢ Accepted);
        })
    cases (inr (calm, same, stays)) =
        subst (λ (s : EpochStart). EpochEntries (grown kept m entries) s []) (sym (stays (last_number kept + 1) begun)) (record {
          before = is.before;
          own = is.own ++ (event, reply) ∷ [];
          whole = ap (λ (l : List Entry). is.before ++ l) (append-nil (is.own ++ (event, reply) ∷ [])) ∙ longer is.before is.own [] kept.entries (event, reply) is.whole ∙ sym added;
          begins = is.begins;
          calm = All-push (λ (e : Entry). e.1 ≢ Accepted) is.own (event, reply) is.calm calm;
        })

-- ---- all of them

pub rounds_of_epochs : (t : RuleTable) (weight : ℕ) (kept : RetainedLog) (over : List Epoch) (begun : EpochStart) (from : Option ℕ) (counting : Option RoundCount) → IsCountedJournal t weight kept over begun from counting → (e : Epoch) → e.start ≡ begun → e.rounds ≡ rounds_of counting → (epochs : List Epoch) → epochs ≡ over ++ e ∷ [] → AreEpochRounds t weight kept from counting epochs
rounds_of_epochs t weight kept over begun from counting is e start rounds epochs are =
    record { over = over; current = e; are = are; ended = is.ended; rounds = current_rounds t weight kept over begun from counting is e start rounds; now = rounds }

-- ---- by number

-- the entries up to the first accepted disturbance are the same however they are cut off
same_own : (own after other rest : List Entry) → own ++ after ≡ other ++ rest → IsUndisturbed own → IsUndisturbed other → EndsEpoch after → EndsEpoch rest → own ≡ other
same_own [] after [] rest same calm quiet ends over = refl
same_own [] after (e ∷ other) rest same calm quiet ends over =
    absurd (All-head (λ (x : Entry). x.1 ≢ Accepted) e other quiet (subst EndsEpoch same ends))
same_own (e ∷ own) after [] rest same calm quiet ends over =
    absurd (All-head (λ (x : Entry). x.1 ≢ Accepted) e own calm (subst EndsEpoch (sym same) over))
same_own (e ∷ own) after (f ∷ other) rest same calm quiet ends over =
    ap₂ (λ (x : Entry) (l : List Entry). x ∷ l) (ap (λ l. get_or l 0 e) same)
    (same_own own after other rest (ap (drop 1) same) (All-tail (λ (x : Entry). x.1 ≢ Accepted) e own calm) (All-tail (λ (x : Entry). x.1 ≢ Accepted) f other quiet) ends over)

by_number : (t : RuleTable) (weight : ℕ) (kept : RetainedLog) (from : Option ℕ) (counting : Option RoundCount) (later : List Entry) → EndsEpoch later → (e : Epoch) → HasItsRounds t weight kept from counting later e → HasRoundsByNumber t weight kept from counting e
by_number t weight kept from counting later ends e is before own after m same starts calm over there begins =
    is.counted [] own m (sym same_entries) (subst (λ (l : List Entry). LeadsTo t weight kept l m) here there) (subst (CountsAfter (dropped kept.base) from) here begins)
  where
    part : EpochEntries kept e.start later
    part = is.entries

    number : dropped kept.base + length before ≡ dropped kept.base + length part.before
    number = subst (BeginsAfter (dropped kept.base) part.before) starts part.begins

    long : length part.before ≡ length before
    long = omega (arith, number)

    first : part.before ≡ before
    first = sym (take_at part.before (part.own ++ later) (length before) long) ∙ ap (take (length before)) (part.whole ∙ sym same) ∙ take_at before (own ++ after) (length before) refl

    rest : part.own ++ later ≡ own ++ after
    rest = sym (drop_at part.before (part.own ++ later) (length before) long) ∙ ap (drop (length before)) (part.whole ∙ sym same) ∙ drop_at before (own ++ after) (length before) refl

    same_entries : part.own ≡ own
    same_entries = same_own part.own later own after rest part.calm calm ends over

    here : before ≡ part.before ++ []
    here = sym first ∙ sym (append-nil part.before)

pub all_by_number : (t : RuleTable) (weight : ℕ) (kept : RetainedLog) (from : Option ℕ) (counting : Option RoundCount) (epochs : List Epoch) → AreEpochRounds t weight kept from counting epochs → All (HasRoundsByNumber t weight kept from counting) epochs
all_by_number t weight kept from counting epochs is =
    subst (λ (l : List Epoch). All (HasRoundsByNumber t weight kept from counting) l) (sym is.are)
    (All-push (HasRoundsByNumber t weight kept from counting) is.over is.current
    (All-weaker (IsOver t weight kept from counting) (HasRoundsByNumber t weight kept from counting) (λ e over. by_number t weight kept from counting ((over.event, Accepted) ∷ over.later) refl e over.rounds) is.over is.ended)
    (by_number t weight kept from counting [] tt is.current is.rounds))
