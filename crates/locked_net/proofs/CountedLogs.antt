-- The count of a network's rounds is that of its whole log since counting began.
use Rattle.locked_net.proofs.Prelude.{◌≡◌, ◌∙◌, ◌⊎◌, inl, inr, ℕ, ◌+◌, ◌≤◌, List, [], ◌∷◌, ◌++◌, length, Option, None, Some, IfSome, Result, Ok, Err, OnOk, OnErr, refl, sym, ap, ap₂, subst, arith, length-append, append-nil, Event, Reply, reply_of, state_after, RuleTable, Entry, Moment, Run, Base, dropped, IsTable, least_answers, StartsAt, JournalView, kept_of, BoardName, BoardView, Receipt, RetainedLog, checkpointed, kept_with, next_receipt, last_number, moment_in, log_over, IsPublishedJournal, IsWholeLog}
use Rattle.std.proofs.lemmas.List.{same_from_push}
use Rattle.machine_laws.proofs.Bases.{base_tells}
use Rattle.round_laws.proofs.Counting.{answer_followed}
use Rattle.round_laws.specs.RoundCounts.{RoundCount, count_of_log, first_count, next_counting}
use Rattle.rule_machine.specs.declared.reply.Reply.TheVariants.{Accepted}
use Rattle.step_log.proofs.HeadlineProof.{run_goes_on}
use Rattle.step_log.proofs.KeptRounds.{anew, ends_in, next_of, not_disturbed, run_state}
use Rattle.step_log.proofs.Once.{run_once}
use Rattle.step_log.specs.JournalRounds.{CountsAfter, EndsDisturbed}
use Rattle.step_log.specs.JournalViews.{counting_journal}
use Rattle.locked_net.proofs.RetainedParts.{above_len, ends_in_state, recorded_size}
use Rattle.locked_net.specs.CountedLogs.{IsCountedLog}

-- ---- runs

-- a log begins at one moment only
starts_once : (t : RuleTable) (size first : ℕ) (base : Option Base) (x y : Moment) → StartsAt t size first base x → StartsAt t size first base y → x ≡ y
starts_once t size first None x y starts starts' = starts ∙ sym starts'
starts_once t size first (Some base) x y starts starts' =
    base_tells base.number x y starts.is_state starts'.is_state (starts.size_is ∙ sym starts'.size_is) (sym starts.lines ∙ starts'.lines)

-- whatever leads somewhere leads there from this beginning
from_there : (t : RuleTable) (log : RetainedLog) (is : IsWholeLog t log) (start : Moment) → StartsAt t log.state.network.size log.present log.base start → (entries : List Entry) (m : Moment) → Run t start entries m → Run t is.start entries m
from_there t log is start starts entries m run =
    subst (λ (n : Moment). Run t n entries m) (starts_once t log.state.network.size log.present log.base start is.start starts is.begins) run

-- the whole log leads to the end
ends_there : (t : RuleTable) (log : RetainedLog) (is : IsWholeLog t log) (start : Moment) → StartsAt t log.state.network.size log.present log.base start → (entries : List Entry) (m : Moment) → entries ≡ log.entries → Run t start entries m → m ≡ moment_in log
ends_there t log is start starts entries m all run =
    run_once t is.start entries m (moment_in log) (from_there t log is start starts entries m run) (subst (λ (l : List Entry). Run t is.start l (moment_in log)) (sym all) is.run)

-- ---- the count

-- counting began before the log, or never
pub counted_before : (t : RuleTable) (log : RetainedLog) (counting : Option RoundCount) → log.entries ≡ [] → IsCountedLog t log None counting
counted_before t log counting none = record {
  within = tt;
  counts = λ start starts before after m same run begins. absurd (not_disturbed (subst EndsDisturbed (first before after (same ∙ none)) begins));
}
  where
    first : (xs ys : List Entry) → xs ++ ys ≡ [] → xs ≡ []
    first [] ys is = refl
    first (x ∷ xs) ys is = absurd (let n = ap length is in omega (arith, n))

-- counting begins
pub counted_here : (t : RuleTable) (log : RetainedLog) (number : ℕ) (counting : Option RoundCount) → number ≡ last_number log → counting ≡ Some (first_count t log.state) → IsWholeLog t log → IsCountedLog t log (Some number) counting
counted_here t log number counting last first is = record {
  within = omega (arith, last);
  counts = λ start starts before after m same run begins. subst (λ (o : Option RoundCount). IfSome o (λ count. count ≡ count_of_log t m.state after)) (sym first) (whole start starts before after m same run begins);
}
  where
    whole : (start : Moment) → StartsAt t log.state.network.size log.present log.base start → (before after : List Entry) (m : Moment) → before ++ after ≡ log.entries → Run t start before m → CountsAfter (dropped log.base) (Some number) before → first_count t log.state ≡ count_of_log t m.state after
    whole start starts before [] m same run begins = ap (λ (n : Moment). first_count t n.state) (sym (ends_there t log is start starts before m (sym (append-nil before) ∙ same) run))
    whole start starts before (x ∷ after) m same run begins = absurd (let n = length-append before (x ∷ after) in let all = ap length same in past begins n all)
      where
        past : CountsAfter (dropped log.base) (Some number) before → length (before ++ x ∷ after) ≡ length before + length (x ∷ after) → length (before ++ x ∷ after) ≡ length log.entries → ⊥
        past (inl is) n all = omega (arith, last, is, n, all)
        past (inr (below, ends)) n all = omega (arith, last, below, n, all)

-- with one more entry
counted_next : (t : RuleTable) → IsTable t → (log : RetainedLog) (event : Event) (from : Option ℕ) (counting counted : Option RoundCount) → IsWholeLog t log → IsWholeLog t (kept_with t log event) → IsCountedLog t log from counting
    → counted ≡ next_counting t (reply_of t log.state log.spent event) (state_after t log.state event) counting → IsCountedLog t (kept_with t log event) from counted
counted_next t table log event from counting counted was is counts next = record {
  within = still from counts.within;
  counts = λ start starts before after n same run begins. subst (λ (o : Option RoundCount). IfSome o (λ count. count ≡ count_of_log t n.state after)) (sym next) (cases start starts before after n same run begins (ends_in before after log.entries entry same));
}
  where
    reply : Reply
    reply = reply_of t log.state log.spent event

    entry : Entry
    entry = (event, reply)

    new : RetainedLog
    new = kept_with t log event

    more : length new.entries ≡ length log.entries + 1
    more = length-append log.entries (entry ∷ [])

    still : (from : Option ℕ) → IfSome from (λ number. number ≤ last_number log) → IfSome from (λ number. number ≤ last_number new)
    still None within = tt
    still (Some number) within = omega (arith, within, more)

    disturbed : (from : Option ℕ) → IfSome from (λ number. number ≤ last_number log) → (before : List Entry) → before ≡ log.entries ++ entry ∷ [] → CountsAfter (dropped log.base) from before → reply ≡ Accepted
    disturbed None within before all ends = ap (λ (e : Entry). e.1) ((same_from_push log.entries ends.before entry (ends.event, Accepted) (sym all ∙ ends.are)).1)
    disturbed (Some number) within before all (inl here) = absurd (let n = ap length all in omega (arith, within, here, n, more))
    disturbed (Some number) within before all (inr (below, ends)) = ap (λ (e : Entry). e.1) ((same_from_push log.entries ends.before entry (ends.event, Accepted) (sym all ∙ ends.are)).1)

    cases : (start : Moment) → StartsAt t new.state.network.size new.present new.base start → (before after : List Entry) (n : Moment) → before ++ after ≡ new.entries → Run t start before n → CountsAfter (dropped log.base) from before → ((after ≡ []) × (before ≡ log.entries ++ entry ∷ [])) ⊎ ((init : List Entry) × (after ≡ init ++ entry ∷ []) × (before ++ init ≡ log.entries))
        → IfSome (next_counting t reply new.state counting) (λ count. count ≡ count_of_log t n.state after)
    cases start starts before after n same run begins (inl (none, all)) =
        let end = ends_there t new is start starts before n all run in
        subst (λ (l : List Entry). IfSome (next_counting t reply new.state counting) (λ count. count ≡ count_of_log t n.state l)) (sym none)
        (subst (λ (u : Moment). IfSome (next_counting t reply new.state counting) (λ count. count ≡ first_count t u.state)) (sym end)
        (anew t reply new.state counting (disturbed from counts.within before all begins)))
    cases start starts before after n same run begins (inr (init, last, rest)) =
        let starts' = subst (λ (z : ℕ). StartsAt t z log.present log.base start) (recorded_size t table log was event) starts in
        let goes = run_goes_on t was.start before init n (moment_in log) (from_there t log was start starts' before n run) (subst (λ (l : List Entry). Run t was.start l (moment_in log)) (sym rest) was.run) in
        let answers = least_answers t table log.state (ends_in_state t table log was) log.spent event in
        subst (λ (l : List Entry). IfSome (next_counting t reply new.state counting) (λ count. count ≡ count_of_log t n.state l)) (sym last)
        (next_of t log.state n init event reply new.state counting (run_state t n init (moment_in log) goes) (answer_followed t log.state log.spent event reply new.state answers) (counts.counts start starts' before init n rest run begins))

-- after a call that recorded the event or failed
pub counted_after : {A E : Type 0} (t : RuleTable) → IsTable t → (log new : RetainedLog) (event : Event) (from : Option ℕ) (counting counted : Option RoundCount) (result : Result A E) → IsWholeLog t log → IsWholeLog t new → IsCountedLog t log from counting
    → OnOk result (new ≡ kept_with t log event) → OnErr result (new ≡ log) → OnOk result (counted ≡ next_counting t (reply_of t log.state log.spent event) new.state counting) → OnErr result (counted ≡ counting) → IsCountedLog t new from counted
counted_after t table log new event from counting counted (Ok answer) was is counts told same next stays =
    subst (λ (l : RetainedLog). IsCountedLog t l from counted) (sym told)
    (counted_next t table log event from counting counted was (subst (IsWholeLog t) told is) counts (next ∙ ap (λ (l : RetainedLog). next_counting t (reply_of t log.state log.spent event) l.state counting) told))
counted_after t table log new event from counting counted (Err fault) was is counts told same next stays =
    subst (λ (l : RetainedLog). IsCountedLog t l from counted) (sym same) (subst (λ (o : Option RoundCount). IsCountedLog t log from o) (sym stays) counts)

-- ---- a published journal

-- counting begins
pub counting_here : (t : RuleTable) (held after : JournalView) (board : BoardView) (number : ℕ) → IsPublishedJournal t (kept_of held) board → number ≡ last_number (kept_of held) → after ≡ counting_journal t held
    → IsPublishedJournal t (kept_of after) board × IsCountedLog t (log_over (kept_of after) board) (Some number) after.counting
counting_here t held after board number published last told =
    subst (λ (j : JournalView). IsPublishedJournal t (kept_of j) board × IsCountedLog t (log_over (kept_of j) board) (Some number) j.counting) (sym told)
    (published, counted_here t (log_over (kept_of held) board) number (Some (first_count t held.state)) (last ∙ sym (above_len t (log_over (kept_of held) board) (kept_of held) published.above)) refl published.is_log)

-- after a checkpoint
pub counted_kept : {A E : Type 0} (t : RuleTable) (held after : JournalView) (board : BoardView) (from : Option ℕ) (result : Result A E) → IsCountedLog t (log_over (kept_of held) board) from held.counting
    → OnOk result (kept_of after ≡ checkpointed (kept_of held)) → OnErr result (after ≡ held) → after.counting ≡ held.counting → IsCountedLog t (log_over (kept_of after) board) from after.counting
counted_kept t held after board from (Ok number) counts told same still =
    subst (λ (k : RetainedLog). IsCountedLog t (log_over k board) from after.counting) (sym told)
    (subst (λ (o : Option RoundCount). IsCountedLog t (log_over (kept_of held) board) from o) (sym still) counts)
counted_kept t held after board from (Err fault) counts told same still =
    subst (λ (j : JournalView). IsCountedLog t (log_over (kept_of j) board) from j.counting) (sym same) counts

-- after an event was prepared, and then recorded and published, or not
pub counted_recorded : {A E : Type 0} (t : RuleTable) → IsTable t → (held ready after : JournalView) (board now : BoardView) (receipt : Receipt) (from : Option ℕ) (result : Result A E) → IsPublishedJournal t (kept_of held) board → IsPublishedJournal t (kept_of after) now
    → IsCountedLog t (log_over (kept_of held) board) from held.counting → kept_of ready ≡ kept_of held → ready.counting ≡ held.counting → receipt ≡ next_receipt t (kept_of ready) receipt.event
    → OnOk result (log_over (kept_of after) now ≡ kept_with t (log_over (kept_of ready) board) receipt.event) → OnErr result ((kept_of after ≡ kept_of ready) × (now.list ≡ board.list)) → now.name ≡ board.name
    → OnOk result (after.counting ≡ next_counting t receipt.reply after.state ready.counting) → OnErr result (after.counting ≡ ready.counting) → IsCountedLog t (log_over (kept_of after) now) from after.counting
counted_recorded {A = A} {E = E} t table held ready after board now receipt from result was is counts kept still next told same named counted stays =
    counted_after t table (log_over (kept_of ready) board) (log_over (kept_of after) now) receipt.event from ready.counting after.counting result
    (subst (λ (k : RetainedLog). IsWholeLog t (log_over k board)) (sym kept) was.is_log) is.is_log
    (subst (λ (o : Option RoundCount). IsCountedLog t (log_over (kept_of ready) board) from o) (sym still) (subst (λ (k : RetainedLog). IsCountedLog t (log_over k board) from held.counting) (sym kept) counts))
    told (same_log result same) (replied result counted) stays
  where
    same_log : (r : Result A E) → OnErr r ((kept_of after ≡ kept_of ready) × (now.list ≡ board.list)) → OnErr r (log_over (kept_of after) now ≡ log_over (kept_of ready) board)
    same_log r same = grind arith

    replied : (r : Result A E) → OnOk r (after.counting ≡ next_counting t receipt.reply after.state ready.counting) → OnOk r (after.counting ≡ next_counting t (reply_of t ready.state ready.spent receipt.event) after.state ready.counting)
    replied r counted = grind arith
