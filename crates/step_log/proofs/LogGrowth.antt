-- One more entry at the end of what a journal keeps, and a journal without entries.
use Rattle.step_log.proofs.Prelude.{◌≡◌, ℕ, ◌+◌, ◌<◌, ◌≤◌, true, List, [], ◌∷◌, ◌++◌, length, map, refl, sym, ap, ap₂, ◌∙◌, subst, arith, length-append, EpochStart, Event, Reply, IsState, RuleTable, reply_of, state_after, spent_by, Entry, Moment, Run, moment_after, open_at, BeginsAt, begun_at, dropped, IsTable, least_answers, runs_end_in_states, run_add, runs_keep_size, begins_in_state, charge_bound, fits, Epoch, IsEpochPath, begun_by, ended_by, of_run, IsJournal, RetainedLog, Begins, IsRetainedRun, IsBaseOfGraph, kept_with, last_number, moment_in, next_entry, max_entries}
use Rattle.step_log.proofs.ReplyKinds.{nodes_few, reply_fits}
use Rattle.step_log.proofs.EpochPaths.{told_add}

-- what is kept ends in a state
pub ends_in_state : (t : RuleTable) (weight : ℕ) → IsTable t → (kept : RetainedLog) → IsRetainedRun t weight kept → IsState kept.state
ends_in_state t weight table kept is =
    runs_end_in_states t table is.start (begins_in_state t (charge_bound weight) kept.state.network.size kept.present kept.base is.start is.begins) kept.entries (moment_in kept) is.run

-- the reply to the event that comes next is of its kind
pub next_fits : (t : RuleTable) (weight : ℕ) → IsTable t → (kept : RetainedLog) → IsRetainedRun t weight kept → (event : Event) → fits event (reply_of t kept.state kept.spent event) ≡ true
next_fits t weight table kept is event = reply_fits t table kept.state (ends_in_state t weight table kept is) kept.spent event (omega (arith, nodes_few kept.state.network, is.size))

-- one entry more
kept_with_is_journal : (t : RuleTable) (weight : ℕ) → IsTable t → (kept : RetainedLog) (over : List Epoch) (begun : EpochStart) → IsJournal t weight kept over begun → last_number kept < kept.limit → (event : Event) (next : List Epoch) → map of_run next ≡ map of_run over ++ ended_by (reply_of t kept.state kept.spent event) (open_at begun (moment_in kept)) → IsJournal t weight (kept_with t kept event) next (begun_by (reply_of t kept.state kept.spent event) (last_number kept + 1) begun)
kept_with_is_journal t weight table kept over begun is below event next are =
    let k = is.is_kept in
    let m = moment_in kept in
    let reply = reply_of t kept.state kept.spent event in
    let entry = next_entry t kept event in
    let entries = kept.entries ++ entry ∷ [] in
    let after = state_after t kept.state event in
    let end : Moment = record { state = after; spent = spent_by t kept.state kept.spent event } in
    let answers = least_answers t table kept.state (ends_in_state t weight table kept k) kept.spent event in
    let size : end.state.network.size ≡ kept.state.network.size = runs_keep_size t m (entry ∷ []) end (after, answers, refl) in
    let told = told_add t (dropped kept.base + 1) (begun_at kept.base) k.start m kept.entries (map of_run over) begun is.told entry after answers in
    let number : dropped kept.base + 1 + length kept.entries ≡ last_number kept + 1 = omega arith in
    let told_number = subst (λ (n : ℕ). IsEpochPath t (dropped kept.base + 1) (begun_at kept.base) k.start entries end (map of_run over ++ ended_by reply (open_at begun m)) (begun_by reply n begun)) number told in
    record {
      is_kept = record {
        start = k.start;
        begins = subst (λ (n : ℕ). BeginsAt t (charge_bound weight) n kept.present kept.base k.start) (sym size) k.begins;
        run = run_add t k.start m kept.entries entry after k.run answers;
        size = omega (arith, k.size, size);
        room = omega (arith, length-append kept.entries (entry ∷ []), below);
        limit = k.limit;
        short = k.short;
      };
      told = subst (λ es. IsEpochPath t (dropped kept.base + 1) (begun_at kept.base) k.start entries end es (begun_by reply (last_number kept + 1) begun)) (sym are) told_number;
    }

-- a journal with the moment after the next event, with its entry and its epochs
pub next_is_journal : (t : RuleTable) (weight : ℕ) → IsTable t → (kept : RetainedLog) (over : List Epoch) (begun : EpochStart) → IsJournal t weight kept over begun → last_number kept < kept.limit → (event : Event) (reply : Reply) (m : Moment) (entries : List Entry) (next : List Epoch) (now : EpochStart) → reply ≡ reply_of t kept.state kept.spent event → m ≡ moment_after t (moment_in kept) event → entries ≡ kept.entries ++ (event, reply) ∷ [] → map of_run next ≡ map of_run over ++ ended_by reply (open_at begun (moment_in kept)) → now ≡ begun_by reply (last_number kept + 1) begun → IsJournal t weight (record { state = m.state; spent = m.spent; base = kept.base; entries = entries; limit = kept.limit; present = kept.present }) next now
next_is_journal t weight table kept over begun is below event reply m entries next now replies after added ended starts =
    let before = moment_in kept in
    let held = added ∙ ap (λ (r : Reply). kept.entries ++ (event, r) ∷ []) replies in
    let over_is = ended ∙ ap (λ (r : Reply). map of_run over ++ ended_by r (open_at begun before)) replies in
    let now_is = starts ∙ ap (λ (r : Reply). begun_by r (last_number kept + 1) begun) replies in
    subst (λ (k : EpochStart). IsJournal t weight (record { state = m.state; spent = m.spent; base = kept.base; entries = entries; limit = kept.limit; present = kept.present }) next k) (sym now_is)
    (subst (λ (l : RetainedLog). IsJournal t weight l next (begun_by (reply_of t kept.state kept.spent event) (last_number kept + 1) begun)) (sym (ap₂ (λ (n : Moment) (es : List Entry). record { state = n.state; spent = n.spent; base = kept.base; entries = es; limit = kept.limit; present = kept.present }) after held))
    (kept_with_is_journal t weight table kept over begun is below event next over_is))

-- without an entry, if what is kept may begin at the network's moment
pub fresh_is_journal : (t : RuleTable) (weight : ℕ) (kept : RetainedLog) (over : List Epoch) (begun : EpochStart) → kept.entries ≡ [] → over ≡ [] → begun ≡ begun_at kept.base → Begins t weight kept (moment_in kept) → kept.state.network.size ≤ 65535 → dropped kept.base ≤ kept.limit → kept.limit ≤ max_entries → IsBaseOfGraph kept.base → IsJournal t weight kept over begun
fresh_is_journal t weight kept over begun none empty starts begins small room within short = record {
  is_kept = record {
    start = moment_in kept;
    begins = begins;
    run = subst (λ (l : List Entry). Run t (moment_in kept) l (moment_in kept)) (sym none) refl;
    size = small;
    room = omega (arith, room, ap length none);
    limit = within;
    short = short;
  };
  told = record { path = []; entries = sym none; is_path = tt; ends = refl; ended = ap (map of_run) empty; goes_on = ap (λ (s : EpochStart). open_at s (moment_in kept)) (sym starts) };
}
