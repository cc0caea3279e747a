-- A published publishes a run of the rules, and stays a published after the next entry and after a checkpoint. It is one
-- before any entry.
use Rattle.locked_net.proofs.Prelude.{◌≡◌, ◌+◌, ◌<◌, ◌≤◌, ℕ, [], ◌∷◌, ◌++◌, length, Option, Some, None, Result, Ok, Err, OnOk, OnErr, inl, refl, sym, ap, ap₂, ◌∙◌, subst, arith, Event, RuleTable, Entry, Run, Base, Moment, dropped, IsTable, BoardShape, IsRun, BoardView, StartsAt, JournalView, kept_of, RetainedLog, checkpointed, kept_with, last_number, moment_in, next_entry, max_entries, log_over, IsPublishedJournal, node_count, names, IfSome, base_of, IsRetainedRun}
use Rattle.locked_net.proofs.RetainedParts.{above_len, recorded_is_log, recorded_size, recorded_above, checkpoint_above}
use Rattle.std.proofs.lemmas.List.{length-map}
use Rattle.machine_laws.specs.ChargeWords.{charge_bound}
use Rattle.rule_machine.specs.Base.{BeginsAt, node_record_at}
use Rattle.locked_net.specs.WholeLogs.{IsWholeLog}

-- the next number is within the limit
below_limit : (t : RuleTable) (kept : RetainedLog) (board : BoardView) → IsPublishedJournal t kept board → last_number kept < kept.limit → last_number (log_over kept board) < kept.limit
below_limit t kept board published below = omega (arith, below, above_len t (log_over kept board) kept published.above)

-- the board's entries and the next one are a run
run_more : (t : RuleTable) → IsTable t → (kept : RetainedLog) (board : BoardView) (event : Event) → IsPublishedJournal t kept board → last_number kept < kept.limit → IsRun t board.name.extent (board.list ++ next_entry t kept event ∷ [])
run_more t table kept board event published below =
    let log = log_over kept board in
    let after = kept_with t log event in
    let is = recorded_is_log t table log published.is_log (below_limit t kept board published below) event in
    let size = recorded_size t table log published.is_log event in
    let places : board.name.extent.places ≡ after.state.network.size + 1 = ap (λ (e : BoardShape). e.places) published.extent ∙ ap (λ n. n + 1) (sym size) in
    let present : board.name.extent.present ≡ kept.present = ap (λ (e : BoardShape). e.present) published.extent in
    (after.state.network.size, is.start, moment_in after, places, subst (λ (n : ℕ). StartsAt t after.state.network.size n board.name.extent.base is.start) (sym present) is.begins, is.run)

-- with the entry that is posted
pub is_run_posted : (t : RuleTable) → IsTable t → (kept : RetainedLog) (board now : BoardView) (event : Event) (entry : Entry) → IsPublishedJournal t kept board → last_number kept < kept.limit → entry ≡ next_entry t kept event → now ≡ record board { posted = entry ∷ [] }
    → IsRun t now.name.extent (now.list ++ now.posted)
is_run_posted t table kept board now event entry published below next posted =
    subst (λ (b : BoardView). IsRun t b.name.extent (b.list ++ b.posted)) (sym posted)
    (subst (λ (e : Entry). IsRun t board.name.extent (board.list ++ e ∷ [])) (sym next) (run_more t table kept board event published below))

-- there is room for one more entry
pub post_room : (t : RuleTable) (kept : RetainedLog) (board : BoardView) → IsPublishedJournal t kept board → last_number kept < kept.limit → dropped board.name.extent.base + length board.list < max_entries
post_room t kept board published below =
    let most : kept.limit ≤ max_entries = published.is_log.limit in
    let few = below_limit t kept board published below in
    omega (arith, few, most)

-- the whole log once it is recorded and published
pub log_after : (t : RuleTable) (kept after : RetainedLog) (board now : BoardView) (event : Event) (entry : Entry) → entry ≡ next_entry t kept event → after ≡ kept_with t kept event → now ≡ record { list = board.list ++ entry ∷ []; posted = []; name = board.name }
    → log_over after now ≡ kept_with t (log_over kept board) event
log_after t kept after board now event entry next told shown =
    ap₂ log_over told (shown ∙ ap (λ (e : Entry). record { list = board.list ++ e ∷ []; posted = []; name = board.name }) next)

-- once it is recorded and published
pub published_after : (t : RuleTable) → IsTable t → (kept after : RetainedLog) (board now : BoardView) (event : Event) (entry : Entry) → IsPublishedJournal t kept board → last_number kept < kept.limit → entry ≡ next_entry t kept event → after ≡ kept_with t kept event
    → now ≡ record { list = board.list ++ entry ∷ []; posted = []; name = board.name } → IsPublishedJournal t after now
published_after t table kept after board now event entry published below next told shown =
    let log = log_over kept board in
    let size = recorded_size t table log published.is_log event in
    let there : IsPublishedJournal t (kept_with t kept event) (record { list = board.list ++ next_entry t kept event ∷ []; posted = []; name = board.name }) = record {
      is_log = recorded_is_log t table log published.is_log (below_limit t kept board published below) event;
      above = recorded_above t table log kept published.is_log published.above event;
      posted = refl;
      extent = published.extent ∙ ap (λ (n : ℕ). record { places = n + 1; present = kept.present; base = board.name.extent.base }) (sym size);
    } in
    subst (λ (k : RetainedLog). IsPublishedJournal t k now) (sym told)
    (subst (IsPublishedJournal t (kept_with t kept event)) (sym (shown ∙ ap (λ (e : Entry). record { list = board.list ++ e ∷ []; posted = []; name = board.name }) next)) there)

-- after a checkpoint
published_checkpointed : (t : RuleTable) (kept after : RetainedLog) (board : BoardView) → IsPublishedJournal t kept board → after ≡ checkpointed kept → IsPublishedJournal t after board
published_checkpointed t kept after board published told =
    subst (λ (k : RetainedLog). IsPublishedJournal t k board) (sym told)
    record { is_log = published.is_log; above = checkpoint_above t (log_over kept board) kept published.is_log published.above; posted = published.posted; extent = published.extent }

pub published_kept : {A B : Type 0} (t : RuleTable) (held after : JournalView) (board : BoardView) (result : Result A B) → IsPublishedJournal t (kept_of held) board → OnOk result (kept_of after ≡ checkpointed (kept_of held)) → OnErr result (after ≡ held) → IsPublishedJournal t (kept_of after) board
published_kept t held after board (Ok number) published told same = published_checkpointed t (kept_of held) (kept_of after) board published told
published_kept t held after board (Err fault) published told same = subst (λ (h : JournalView). IsPublishedJournal t (kept_of h) board) (sym same) published

-- ---- before any entry

-- a whole log may begin where what is kept begins
starts : (t : RuleTable) (weight size first : ℕ) (base : Option Base) (start : Moment) → BeginsAt t (charge_bound weight) size first base start → StartsAt t size first base start
starts t weight size first None start begins = begins
starts t weight size first (Some base) start begins = record { is_state = begins.is_state; size_is = begins.size_is; lines = begins.lines; unflagged = begins.unflagged }

-- what is kept is a whole log, which begins at the base, if any
pub kept_is_whole : (t : RuleTable) (weight : ℕ) (kept : RetainedLog) → IsRetainedRun t weight kept → IsWholeLog t kept
kept_is_whole t weight kept run =
    record { start = run.start; begins = starts t weight kept.state.network.size kept.present kept.base run.start run.begins; run = run.run; size = run.size; room = run.room; limit = run.limit }

-- a base without an entry after it is that of the network
pub base_is_of_net : (t : RuleTable) (weight : ℕ) (kept : RetainedLog) (base : Base) → IsRetainedRun t weight kept → kept.entries ≡ [] → kept.base ≡ Some base → base ≡ base_of base.number (moment_in kept)
base_is_of_net t weight kept base run none is =
    let begins = subst (λ (b : Option Base). BeginsAt t (charge_bound weight) kept.state.network.size kept.present b run.start) is run.begins in
    let still : moment_in kept ≡ run.start = subst (λ es. Run t run.start es (moment_in kept)) none run.run in
    begins.lines ∙ ap (base_of base.number) (sym still)

-- so it has the network's nodes
pub base_counts : (t : RuleTable) (weight : ℕ) (kept : RetainedLog) (base : Option Base) → IsRetainedRun t weight kept → kept.entries ≡ [] → kept.base ≡ base → IfSome base (λ b. node_count kept.state.network ≡ length b.nodes)
base_counts t weight kept None run none is = tt
base_counts t weight kept (Some base) run none is =
    sym (ap (λ (b : Base). length b.nodes) (base_is_of_net t weight kept base run none is) ∙ length-map (names kept.state.network) (node_record_at kept.state))

-- no entry is a run from the beginning of such a log
pub none_is_run : (t : RuleTable) (kept : RetainedLog) → IsWholeLog t kept → kept.entries ≡ [] → IsRun t (record { places = kept.state.network.size + 1; present = kept.present; base = kept.base }) []
none_is_run t kept log none = (kept.state.network.size, log.start, moment_in kept, refl, log.begins, subst (λ es. Run t log.start es (moment_in kept)) none log.run)

-- a board of that beginning shows the whole log
pub blank_log : (kept : RetainedLog) (board : BoardView) → kept.entries ≡ [] → board.list ≡ [] → board.name.extent.base ≡ kept.base → log_over kept board ≡ kept
blank_log kept board none list base = ap₂ (λ b es. record { state = kept.state; spent = kept.spent; base = b; entries = es; limit = kept.limit; present = kept.present }) base (list ∙ sym none)

pub begun_published : (t : RuleTable) (kept : RetainedLog) (board : BoardView) → IsWholeLog t kept → kept.entries ≡ []
    → (board.list ≡ []) × (board.posted ≡ []) × (board.name.extent ≡ record { places = kept.state.network.size + 1; present = kept.present; base = kept.base }) → IsPublishedJournal t kept board
begun_published t kept board log none (list, posted, extent) =
    let base : board.name.extent.base ≡ kept.base = ap (λ (e : BoardShape). e.base) extent in
    record {
      is_log = subst (IsWholeLog t) (sym (blank_log kept board none list base)) log;
      above = record {
        below = [];
        splits = list ∙ sym none;
        count = omega (arith, ap dropped base);
        tells = inl (refl, sym base);
        state = refl;
        spent = refl;
        limit = refl;
        present = refl;
      };
      posted = posted;
      extent = extent ∙ ap (λ b. record { places = kept.state.network.size + 1; present = kept.present; base = b }) (sym base);
    }
