-- The count of a journal's rounds is that of the kept entries since it began.
use Rattle.step_log.proofs.Prelude.{◌≡◌, ◌∙◌, ◌⊎◌, inl, inr, ℕ, ◌+◌, ◌≤◌, List, [], ◌∷◌, ◌++◌, length, take, drop, None, Option, Some, IfSome, refl, sym, ap, subst, arith, length-append, append-nil, Event, Reply, Accepted, State, RuleTable, Answers, spent_after, Entry, Moment, Run, Base, BeginsAt, begun_at, dropped, charge_bound, runs_keep_size, answer_followed, followed, RoundCount, count_of_log, first_count, next_count, next_counting, rounds_of, over_after, begun_by, All, IsRetainedRun, LeadsTo, RetainedLog, last_number, moment_in, IsJournal, Epoch, EpochStart}
use Rattle.round_laws.proofs.RoundCounts.{last_after}
use Rattle.round_laws.specs.Pieces.{state_from}
use Rattle.step_log.proofs.HeadlineProof.{from_there, run_goes_on}
use Rattle.step_log.proofs.Once.{run_once}
use Rattle.step_log.proofs.EpochRounds.{all_over_here, current_next, ended_next, no_entries}
use Rattle.step_log.specs.JournalRounds.{BeginsAfter, CountsAfter, CountsKept, EndsDisturbed, IsCountedJournal, IsOver}
use Rattle.std.proofs.lemmas.List.{drop-append-le, drop_at, length_push, same_from_push, take-append-drop, take-append-le, take_at}
use Rattle.std.proofs.lemmas.List.Elements.{All-nil}

-- ---- lists of entries

-- where a list with one more entry is cut in two, that entry is the last of the second part, or ends the first
pub ends_in : (before after all : List Entry) (e : Entry) → before ++ after ≡ all ++ e ∷ [] → ((after ≡ []) × (before ≡ all ++ e ∷ [])) ⊎ ((init : List Entry) × (after ≡ init ++ e ∷ []) × (before ++ init ≡ all))
ends_in before [] all e same = inl (refl, sym (append-nil before) ∙ same)
ends_in before (x ∷ after) all e same =
    let n = length before in
    let few : n ≤ length all = omega (arith, length-append before (x ∷ after), length_push all e, ap length same) in
    inr (
      drop n all,
      sym (drop_at before (x ∷ after) n refl) ∙ ap (drop n) same ∙ drop-append-le n all (e ∷ []) few,
      ap (λ l. l ++ drop n all) (sym (take_at before (x ∷ after) n refl) ∙ ap (take n) same ∙ take-append-le n all (e ∷ []) few) ∙ take-append-drop n all,
    )

pub not_disturbed : EndsDisturbed [] → ⊥
not_disturbed ends = let n = ap length ends.are in let m = length-append ends.before ((ends.event, Accepted) ∷ []) in omega (arith, n, m)

-- ---- runs

-- where a run leads, by its replies
pub run_state : (t : RuleTable) (start : Moment) (log : List Entry) (end : Moment) → Run t start log end → state_from start.state log ≡ end.state
run_state t start [] end run = sym (ap (λ (m : Moment). m.state) run)
run_state t start (entry ∷ log) end (next, answers, run) =
    ap (λ (u : State). state_from u log) (answer_followed t start.state start.spent entry.0 entry.1 next answers) ∙ run_state t (record { state = next; spent = spent_after start.spent entry.1 }) log end run

-- all that is kept leads to the end
ends_there : (t : RuleTable) (weight : ℕ) (kept : RetainedLog) (k : IsRetainedRun t weight kept) (entries : List Entry) (m : Moment) → entries ≡ kept.entries → LeadsTo t weight kept entries m → m ≡ moment_in kept
ends_there t weight kept k entries m all there =
    run_once t k.start entries m (moment_in kept) (from_there t weight kept k.start k.begins entries m there) (subst (λ (l : List Entry). Run t k.start l (moment_in kept)) (sym all) k.run)

-- ---- the count

-- no epoch is over, and no entry is kept
begun_anew : (t : RuleTable) (weight : ℕ) (kept : RetainedLog) (over : List Epoch) (begun : EpochStart) (from : Option ℕ) (counting : Option RoundCount) → kept.entries ≡ [] → over ≡ [] → begun ≡ begun_at kept.base → IsJournal t weight kept over begun → IfSome from (λ number. number ≤ last_number kept) → (CountsAfter (dropped kept.base) from [] → IfSome counting (λ count. count ≡ first_count t kept.state))
    → IsCountedJournal t weight kept over begun from counting
begun_anew t weight kept over begun from counting none empty starts is within first = record {
  journal = is;
  within = within;
  counts = λ before after m all there begins. let both = split before after (all ∙ none) in
      subst (λ (l : List Entry). IfSome counting (λ count. count ≡ count_of_log t m.state l)) (sym both.1)
      (subst (λ (u : Moment). IfSome counting (λ count. count ≡ first_count t u.state)) (sym (ends_there t weight kept is.is_kept before m (both.0 ∙ sym none) there)) (first (subst (CountsAfter (dropped kept.base) from) both.0 begins)));
  ended = subst (λ (l : List Epoch). All (IsOver t weight kept from counting) l) (sym empty) (All-nil (IsOver t weight kept from counting));
  current = no_entries kept begun none (subst (BeginsAfter (dropped kept.base) []) (sym starts) (at_base kept.base));
}
  where
    split : (xs ys : List Entry) → xs ++ ys ≡ [] → (xs ≡ []) × (ys ≡ [])
    split [] ys all = (refl, all)
    split (x ∷ xs) ys all = absurd (let n = ap length all in omega (arith, n))

    at_base : (base : Option Base) → BeginsAfter (dropped base) [] (begun_at base)
    at_base None = omega arith
    at_base (Some base) = refl

-- counting began before the base, if at all
pub counted_before : (t : RuleTable) (weight : ℕ) (kept : RetainedLog) (over : List Epoch) (begun : EpochStart) (counting : Option RoundCount) → kept.entries ≡ [] → over ≡ [] → begun ≡ begun_at kept.base → IsJournal t weight kept over begun → IsCountedJournal t weight kept over begun None counting
counted_before t weight kept over begun counting none empty starts is =
    begun_anew t weight kept over begun None counting none empty starts is tt (λ ends. absurd (not_disturbed ends))

-- counting begins
pub counted_here : (t : RuleTable) (weight : ℕ) (kept : RetainedLog) (over : List Epoch) (begun : EpochStart) (from : Option ℕ) (before : Option RoundCount) (number : ℕ) (counting : Option RoundCount) → number ≡ last_number kept → counting ≡ Some (first_count t kept.state) → IsCountedJournal t weight kept over begun from before → IsCountedJournal t weight kept over begun (Some number) counting
counted_here t weight kept over begun from before number counting last first is = record {
  journal = is.journal;
  within = omega (arith, last);
  counts = λ before after m same there begins. subst (λ (o : Option RoundCount). IfSome o (λ count. count ≡ count_of_log t m.state after)) (sym first) (whole before after m same there begins);
  ended = all_over_here t weight kept from before counting number (first_count t kept.state) over last first is.ended;
  current = is.current;
}
  where
    whole : (before after : List Entry) (m : Moment) → before ++ after ≡ kept.entries → LeadsTo t weight kept before m → CountsAfter (dropped kept.base) (Some number) before → first_count t kept.state ≡ count_of_log t m.state after
    whole before [] m same there begins = ap (λ (n : Moment). first_count t n.state) (sym (ends_there t weight kept is.journal.is_kept before m (sym (append-nil before) ∙ same) there))
    whole before (x ∷ after) m same there begins = absurd (let n = length-append before (x ∷ after) in let all = ap length same in past begins n all)
      where
        past : CountsAfter (dropped kept.base) (Some number) before → length (before ++ x ∷ after) ≡ length before + length (x ∷ after) → length (before ++ x ∷ after) ≡ length kept.entries → ⊥
        past (inl is) n all = omega (arith, last, is, n, all)
        past (inr (below, ends)) n all = omega (arith, last, below, n, all)

-- a count after one more entry
pub next_of : (t : RuleTable) (s : State) (m : Moment) (init : List Entry) (event : Event) (reply : Reply) (next : State) (counting : Option RoundCount) → state_from m.state init ≡ s → followed s event reply ≡ next → IfSome counting (λ count. count ≡ count_of_log t m.state init) → IfSome (next_counting t reply next counting) (λ count. count ≡ count_of_log t m.state (init ++ (event, reply) ∷ []))
next_of t s m init event reply next None there is before = tt
next_of t s m init event reply next (Some count) there is before =
    ap (next_count t reply next) before
    ∙ ap (λ (u : State). next_count t reply u (count_of_log t m.state init)) (sym (ap (λ (u : State). followed u event reply) there ∙ is))
    ∙ sym (last_after t m.state init ((event, reply) ∷ []) (first_count t m.state))

-- a disturbance begins a count
pub anew : (t : RuleTable) (reply : Reply) (s : State) (counting : Option RoundCount) → reply ≡ Accepted → IfSome (next_counting t reply s counting) (λ count. count ≡ first_count t s)
anew t reply s None is = tt
anew t reply s (Some count) is = ap (λ (r : Reply). next_count t r s count) is

-- with one more entry
pub counted_next : (t : RuleTable) (weight : ℕ) (kept : RetainedLog) (over next_over : List Epoch) (begun next_begun : EpochStart) (from : Option ℕ) (counting counted : Option RoundCount) (m : Moment) (entries : List Entry) (event : Event) (reply : Reply) → IsCountedJournal t weight kept over begun from counting → Answers t kept.state kept.spent event reply m.state → entries ≡ kept.entries ++ (event, reply) ∷ [] → counted ≡ next_counting t reply m.state counting
    → (e : Epoch) → e.start ≡ begun → e.rounds ≡ rounds_of counting → next_over ≡ over_after reply e over → next_begun ≡ begun_by reply (last_number kept + 1) begun
    → IsJournal t weight (record { state = m.state; spent = m.spent; base = kept.base; entries = entries; limit = kept.limit; present = kept.present }) next_over next_begun
    → IsCountedJournal t weight (record { state = m.state; spent = m.spent; base = kept.base; entries = entries; limit = kept.limit; present = kept.present }) next_over next_begun from counted
counted_next t weight kept over next_over begun next_begun from counting counted m entries event reply is answers added counts e start rounds ended starts journal = record {
  journal = journal;
  within = still from is.within;
  counts = λ before after n same there begins. subst (λ (o : Option RoundCount). IfSome o (λ count. count ≡ count_of_log t n.state after)) (sym counts) (cases before after n same there begins (ends_in before after kept.entries (event, reply) (same ∙ added)));
  ended = ended_next t weight kept m entries event reply from counting counted added counts earlier over next_over begun is e start rounds ended;
  current = current_next kept m entries event reply begun next_begun added starts is.current;
}
  where
    new : RetainedLog
    new = record { state = m.state; spent = m.spent; base = kept.base; entries = entries; limit = kept.limit; present = kept.present }

    more : length entries ≡ length kept.entries + 1
    more = ap length added ∙ length-append kept.entries ((event, reply) ∷ [])

    still : (from : Option ℕ) → IfSome from (λ number. number ≤ last_number kept) → IfSome from (λ number. number ≤ dropped kept.base + length entries)
    still None within = tt
    still (Some number) within = omega (arith, within, more)

    size : m.state.network.size ≡ kept.state.network.size
    size = runs_keep_size t (moment_in kept) ((event, reply) ∷ []) (record { state = m.state; spent = spent_after kept.spent reply }) (m.state, answers, refl)

    earlier : (before : List Entry) (n : Moment) → LeadsTo t weight new before n → LeadsTo t weight kept before n
    earlier before n (start, starts, run) = (start, subst (λ (z : ℕ). BeginsAt t (charge_bound weight) z kept.present kept.base start) size starts, run)

    disturbed : (from : Option ℕ) → IfSome from (λ number. number ≤ last_number kept) → (before : List Entry) → before ≡ kept.entries ++ (event, reply) ∷ [] → CountsAfter (dropped kept.base) from before → reply ≡ Accepted
    disturbed None within before all ends = ap (λ (e : Entry). e.1) ((same_from_push kept.entries ends.before (event, reply) (ends.event, Accepted) (sym all ∙ ends.are)).1)
    disturbed (Some number) within before all (inl here) = absurd (let n = ap length all in let l = length-append kept.entries ((event, reply) ∷ []) in omega (arith, within, here, n, l))
    disturbed (Some number) within before all (inr (below, ends)) = ap (λ (e : Entry). e.1) ((same_from_push kept.entries ends.before (event, reply) (ends.event, Accepted) (sym all ∙ ends.are)).1)

    cases : (before after : List Entry) (n : Moment) → before ++ after ≡ entries → LeadsTo t weight new before n → CountsAfter (dropped kept.base) from before → ((after ≡ []) × (before ≡ kept.entries ++ (event, reply) ∷ [])) ⊎ ((init : List Entry) × (after ≡ init ++ (event, reply) ∷ []) × (before ++ init ≡ kept.entries)) → IfSome (next_counting t reply m.state counting) (λ count. count ≡ count_of_log t n.state after)
    cases before after n same there begins (inl (none, all)) =
        let end = ends_there t weight new journal.is_kept before n (all ∙ sym added) there in
        subst (λ (l : List Entry). IfSome (next_counting t reply m.state counting) (λ count. count ≡ count_of_log t n.state l)) (sym none)
        (subst (λ (u : Moment). IfSome (next_counting t reply m.state counting) (λ count. count ≡ first_count t u.state)) (sym end)
        (anew t reply m.state counting (disturbed from is.within before all begins)))
    cases before after n same there begins (inr (init, last, rest)) =
        let k = is.journal.is_kept in
        let was = earlier before n there in
        let run = run_goes_on t k.start before init n (moment_in kept) (from_there t weight kept k.start k.begins before n was) (subst (λ (l : List Entry). Run t k.start l (moment_in kept)) (sym rest) k.run) in
        subst (λ (l : List Entry). IfSome (next_counting t reply m.state counting) (λ count. count ≡ count_of_log t n.state l)) (sym last)
        (next_of t kept.state n init event reply m.state counting (run_state t n init (moment_in kept) run) (answer_followed t kept.state kept.spent event reply m.state answers) (is.counts before init n rest was begins))

-- a checkpoint changes no count
pub counted_again : (t : RuleTable) (weight : ℕ) (kept new : RetainedLog) (over next_over : List Epoch) (begun next_begun : EpochStart) (from : Option ℕ) (counting : Option RoundCount) → IsCountedJournal t weight kept over begun from counting → new.state ≡ kept.state → new.entries ≡ [] → dropped new.base ≡ last_number kept → next_over ≡ [] → next_begun ≡ begun_at new.base → IsJournal t weight new next_over next_begun → IsCountedJournal t weight new next_over next_begun from counting
counted_again t weight kept new over next_over begun next_begun from counting is same none number empty starts journal =
    begun_anew t weight new next_over next_begun from counting none empty starts journal (still from is.within) (here from is.counts)
  where
    still : (from : Option ℕ) → IfSome from (λ number. number ≤ last_number kept) → IfSome from (λ number. number ≤ last_number new)
    still None within = tt
    still (Some first) within = let l = ap length none in omega (arith, within, number, l)

    here : (from : Option ℕ) → CountsKept t weight kept from counting → CountsAfter (dropped new.base) from [] → IfSome counting (λ count. count ≡ first_count t new.state)
    here None counts ends = absurd (not_disturbed ends)
    here (Some first) counts (inl at) =
        subst (λ (s : State). IfSome counting (λ count. count ≡ first_count t s)) (sym same)
        (counts kept.entries [] (moment_in kept) (append-nil kept.entries) (is.journal.is_kept.start, is.journal.is_kept.begins, is.journal.is_kept.run) (inl (omega (arith, at, number))))
    here (Some first) counts (inr (below, ends)) = absurd (not_disturbed ends)
