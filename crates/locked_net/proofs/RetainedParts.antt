-- What is kept of a whole log: the number of its last entry, the next receipt, and that it stays a part of the
-- log after the next entry and after a checkpoint.
use Rattle.locked_net.proofs.Prelude.{◌≡◌, ℕ, ◌+◌, ◌<◌, inl, inr, List, [], ◌∷◌, ◌++◌, length, Option, Some, None, refl, sym, ap, ap₂, ◌∙◌, subst, append_assoc, length-append, arith, append-nil, Event, State, IsState, RuleTable, reply_of, state_after, spent_by, Entry, Moment, Run, Base, dropped, base_of, IsTable, least_answers, opening_is_state, runs_end_in_states, run_add, runs_keep_size, StartsAt, RetainedLog, checkpointed, kept_with, last_number, moment_in, next_entry, IsWholeLog, IsLogAboveBase, TellsEnd}

-- the number of the last entry of the log is that of what is kept
pub above_len : (t : RuleTable) (log kept : RetainedLog) → IsLogAboveBase t log kept → last_number log ≡ last_number kept
above_len t log kept above =
    let entries : length log.entries ≡ length above.below + length kept.entries = ap length above.splits ∙ length-append above.below kept.entries in
    omega (arith, entries, above.count)

pub same_end : (t : RuleTable) (log kept : RetainedLog) → IsLogAboveBase t log kept → moment_in kept ≡ moment_in log
same_end t log kept above = ap₂ (λ (s : State) (n : ℕ). record { state = s; spent = n }) above.state above.spent

-- the base at the network's moment
pub base_above : (t : RuleTable) (log kept : RetainedLog) → IsLogAboveBase t log kept → base_of (last_number kept) (moment_in kept) ≡ base_of (last_number log) (moment_in log)
base_above t log kept above = ap₂ base_of (sym (above_len t log kept above)) (same_end t log kept above)

-- ---- one entry more

-- a whole log begins in a state
starts_in_state : (t : RuleTable) (size first : ℕ) (base : Option Base) (start : Moment) → StartsAt t size first base start → IsState start.state
starts_in_state t size first None start h = subst (λ (m : Moment). IsState m.state) (sym h) (opening_is_state size first)
starts_in_state t size first (Some base) start h = h.is_state

-- and ends in one
pub ends_in_state : (t : RuleTable) → IsTable t → (log : RetainedLog) → IsWholeLog t log → IsState log.state
ends_in_state t table log is =
    runs_end_in_states t table is.start (starts_in_state t log.state.network.size log.present log.base is.start is.begins) log.entries (moment_in log) is.run

pub recorded_size : (t : RuleTable) → IsTable t → (log : RetainedLog) → IsWholeLog t log → (event : Event) → (kept_with t log event).state.network.size ≡ log.state.network.size
recorded_size t table log is event =
    let after = state_after t log.state event in
    let answers = least_answers t table log.state (ends_in_state t table log is) log.spent event in
    runs_keep_size t (moment_in log) (next_entry t log event ∷ []) (moment_in (kept_with t log event)) (after, answers, refl)

pub recorded_is_log : (t : RuleTable) → IsTable t → (log : RetainedLog) → IsWholeLog t log → last_number log < log.limit → (event : Event) → IsWholeLog t (kept_with t log event)
recorded_is_log t table log is below event =
    let entry = next_entry t log event in
    let answers = least_answers t table log.state (ends_in_state t table log is) log.spent event in
    let size = recorded_size t table log is event in
    record {
      start = is.start;
      begins = subst (λ (n : ℕ). StartsAt t n log.present log.base is.start) (sym size) is.begins;
      run = run_add t is.start (moment_in log) log.entries entry (state_after t log.state event) is.run answers;
      size = omega (arith, is.size, size);
      room = omega (arith, length-append log.entries (entry ∷ []), below);
      limit = is.limit;
    }

tells_more : (t : RuleTable) (log : RetainedLog) (after : State) (spent : ℕ) (entries below : List Entry) (base : Option Base) → after.network.size ≡ log.state.network.size → TellsEnd t log below base
    → TellsEnd t (record log { state = after; spent = spent; entries = entries }) below base
tells_more t log after spent entries below base size (inl none) = inl none
tells_more t log after spent entries below base size (inr (start, m, starts, run, is)) =
    inr (start, m, subst (λ (n : ℕ). StartsAt t n log.present log.base start) (sym size) starts, run, is)

pub recorded_above : (t : RuleTable) → IsTable t → (log kept : RetainedLog) → IsWholeLog t log → IsLogAboveBase t log kept → (event : Event) → IsLogAboveBase t (kept_with t log event) (kept_with t kept event)
recorded_above t table log kept is above event =
    let end = same_end t log kept above in
    let entry = next_entry t log event in
    let next : next_entry t kept event ≡ entry = ap (λ (m : Moment). (event, reply_of t m.state m.spent event)) end in
    let after = kept_with t log event in
    record {
      below = above.below;
      splits = ap (λ es. es ++ entry ∷ []) above.splits ∙ append_assoc above.below kept.entries (entry ∷ [])
          ∙ ap (λ (e : Entry). above.below ++ (kept.entries ++ e ∷ [])) (sym next);
      count = above.count;
      tells = tells_more t log after.state after.spent after.entries above.below kept.base (recorded_size t table log is event) above.tells;
      state = ap (λ (m : Moment). state_after t m.state event) end;
      spent = ap (λ (m : Moment). spent_by t m.state m.spent event) end;
      limit = above.limit;
      present = above.present;
    }

-- ---- a checkpoint

pub checkpoint_above : (t : RuleTable) (log kept : RetainedLog) → IsWholeLog t log → IsLogAboveBase t log kept → IsLogAboveBase t log (checkpointed kept)
checkpoint_above t log kept is above = record {
  below = log.entries;
  splits = sym (append-nil log.entries);
  count = above_len t log kept above;
  tells = inr (is.start, moment_in log, is.begins, is.run, ap Some (base_above t log kept above));
  state = above.state;
  spent = above.spent;
  limit = above.limit;
  present = above.present;
}
