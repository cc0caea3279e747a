-- The rounds of the epochs so far, entry by entry.
use Rattle.auditor.proofs.Prelude.{◌≡◌, ℕ, ◌+◌, ◌≤◌, true, false, cond, List, Option, None, Some, refl, sym, ap, subst, ◌∙◌, arith, true≢false, Event, Reply, Accepted, Moves, State, IsState, LogPart, EntryPart, BasePart, NumberedMoment, Entry, table_of, TranscriptCursor, stand_of, changes, IsEntryAhead, IsReadyAhead, FollowsAhead, KeepsCount}
use Rattle.std.specs.Prelude.{is_some}
use Rattle.round_laws.proofs.Counting.{answer_followed}
use Rattle.machine_laws.specs.StatesAfterReplies.{followed}
use Rattle.round_counter.proofs.Counting.{counted_next, unchanged}
use Rattle.round_counter.specs.Counting.{log_after, start_after}
use Rattle.judged_rounds.specs.declared.count.JudgedRounds.{JudgedRounds}
use Rattle.judged_rounds.specs.Following.{AreOnBut, CountsIn}
use Rattle.auditor.proofs.TextEnds.{comes_no_base, entry_once, kept_begins, told_comes}

-- an entry, and the state after it
abbrev pub Stage : Type 0
Stage = Entry × State

-- ---- the count

-- a reply that changes nothing
quiet_followed : (s : State) (event : Event) (reply : Reply) → changes reply ≡ false → followed s event reply ≡ s
quiet_followed s event Accepted quiet = absurd (true≢false quiet)
quiet_followed s event (Moves moves) quiet = absurd (true≢false quiet)
quiet_followed s event reply quiet = refl

quiet_count : (start : State) (log : List Entry) (s : State) (event : Event) (reply : Reply) (it : JudgedRounds) → changes reply ≡ false → CountsIn start log s it → CountsIn (start_after start reply (followed s event reply)) (log_after log event reply) (followed s event reply) it
quiet_count start log s event reply it quiet c =
    let same = sym (quiet_followed s event reply quiet) in
    let calm : (other : Reply) → changes other ≡ true → reply ≡ other → ⊥ = λ other changed told. true≢false (sym changed ∙ sym (ap changes told) ∙ quiet) in
    record {
      sound = subst IsState same c.sound;
      on = subst (λ u. AreOnBut (table_of it.rules) u it.enabled it.due it.witnesses.items) same c.on;
      none_due = c.none_due;
      counted = counted_next (table_of it.rules) start log s event reply it.counter it.counter (unchanged (table_of it.rules) s event reply it.counter (λ moves. calm (Moves moves) refl) (calm Accepted refl) c.counted.enabled) c.counted;
    }

-- a part that comes next is counted, whether its entry was looked at before or changes nothing
pub keeps_count : (old new : TranscriptCursor) (rest behind : List ℕ) (ahead : Option Entry) (was mid is : JudgedRounds) → IsEntryAhead rest ahead → mid.counter.rounds ≡ was.counter.rounds → is.counter.rounds ≤ mid.counter.rounds + cond (is_some ahead) 1 0
    → ((start : State) (log : List Entry) → CountsIn start log old.audit.state was → IsReadyAhead start log old.audit.state ahead mid) → FollowsAhead new.audit.state ahead mid is
    → (part : LogPart) (start : State) (log : List Entry) → KeepsCount old new rest behind part start log was is
keeps_count old new rest behind None was mid is none same few ready follows (EntryPart entry) start log comes counted was_count within small =
    let quiet = none _ entry (told_comes _ _ _ _ _ _ _ comes) in
    let state : new.audit.state ≡ comes.steps.0 = ap (λ (x : NumberedMoment). x.moment.state) comes.steps.2 in
    let to = answer_followed (table_of old.rules) old.audit.state old.audit.spent entry.0 entry.1 comes.steps.0 comes.steps.1 ∙ sym state in (
      subst (λ u. CountsIn (start_after start entry.1 u) (log_after log entry.0 entry.1) u is) to
          (quiet_count start log old.audit.state entry.0 entry.1 is quiet (subst (CountsIn start log old.audit.state) (sym follows) (ready start log was_count))),
      omega (arith, few, same, within, ap (λ c. c.entries) counted),
    )
keeps_count old new rest behind (Some e) was mid is (number, there) same few ready follows (EntryPart entry) start log comes counted was_count within small =
    let once : e ≡ entry = (entry_once rest number _ e entry there (told_comes _ _ _ _ _ _ _ comes)).1 in
    let state : new.audit.state ≡ comes.steps.0 = ap (λ (x : NumberedMoment). x.moment.state) comes.steps.2 in
    let to = state ∙ sym (answer_followed (table_of old.rules) old.audit.state old.audit.spent entry.0 entry.1 comes.steps.0 comes.steps.1) in (
      subst (λ (x : Entry). CountsIn (start_after start x.1 new.audit.state) (log_after log x.0 x.1) new.audit.state is) once
          (follows start log old.audit.state (ready start log was_count) (subst (λ (x : Entry). new.audit.state ≡ followed old.audit.state x.0 x.1) (sym once) to) (omega (arith, same, within, small))),
      omega (arith, few, same, within, ap (λ c. c.entries) counted),
    )
keeps_count old new rest behind None was mid is none same few ready follows (BasePart base) start log comes counted was_count within small =
    let kept : new.audit.state ≡ old.audit.state = ap (λ (x : NumberedMoment). x.moment.state) comes.steps.1 in (
      subst (λ u. CountsIn start log u is) (sym kept) (subst (CountsIn start log old.audit.state) (sym follows) (ready start log was_count)),
      omega (arith, few, same, within, ap (λ c. c.entries) counted),
    )
keeps_count old new rest behind (Some e) was mid is (number, there) same few ready follows (BasePart base) start log comes counted was_count within small =
    absurd (comes_no_base rest number e there (kept_begins old.rules old.size (stand_of old.audit) rest base (stand_of new.audit) behind comes))
