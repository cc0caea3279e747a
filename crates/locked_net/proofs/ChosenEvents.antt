-- Events that a daemon or an injector chose, and calls that fail.
use Rattle.locked_net.proofs.Prelude.{◌≡◌, ◌∷◌, ◌++◌, [], ℕ, Bool, List, Option, None, Some, Result, Ok, Err, IfOk, IfErr, IfSome, OnOk, IsNone, MatchOption, ◌↔◌, ◌+◌, ◌<◌, ◌≤◌, refl, ap, sym, ◌∙◌, subst, arith, Item, Event, Step, Reply, node_count, State, RuleTable, enabled_names, Receipt, PublishedLog, RetainedLog, last_number, next_entry, kept_with, next_receipt, ClerkView, front_of, seen_by, noted, PublishedJournalView, Setting, IsLogIn, call_fault, checkpoint_fault, RecordsEvent, Drives, Breaks, Keeps, KeepsStep, KeepsFault, some_of, HeldCall, Admits, AdmitsStep, ChoosesStep, ChoosesOn, ClerkTakes, HoldsAll, Refuses, RefusesCheckpoint, RefusesStep, CallFault, StepFault}
use mathlib.Core.List.{IsPrefix}
use Rattle.locked_net.proofs.CallFaults.{may_answer, may_answer_step, may_refuse_checkpoint}
use Rattle.locked_net.proofs.ReceiptAddition.{seen_few, seen_at_checkpoint, front_free}

-- a choice that was recorded
pub choice_on : (t : RuleTable) (log : RetainedLog) (Chooses : List ℕ → Bool → Option (List Item) → Type 0) (names : List ℕ) (central : Bool) (found : Option (List Item)) (items : List Item) (old new : List Receipt) (reply : Reply)
    → names ≡ enabled_names t log.state → central ≡ t.central → found ≡ Some items → Chooses names central found → reply ≡ (next_receipt t log (Step items)).reply → new ≡ old ++ next_receipt t log (Step items) ∷ []
    → ChoosesOn t log (ChoosesStep t (λ those choice. Chooses those t.central choice)) old new (Some reply)
choice_on t log Chooses names central found items old new reply enabled same some chosen told receipt = record {
  event = Some (Step items);
  chosen = (Some items, refl, subst (λ choice. Chooses (enabled_names t log.state) t.central choice) some (subst (λ b. Chooses (enabled_names t log.state) b found) same (subst (λ those. Chooses those central found) enabled chosen)));
  is_told = (ap (λ r. Some r) told, receipt);
}

-- a log to which an event was added is a prefix of the note then
pub begins_in : (t : RuleTable) (log after : RetainedLog) (event : Event) (note : Option PublishedLog) → after ≡ kept_with t log event → noted note ≡ after.entries → IsPrefix log.entries (noted note)
begins_in t log after event note is tells = (next_entry t log event ∷ [], sym (tells ∙ ap (λ (l : RetainedLog). l.entries) is))

-- on a log under the lock
pub takes : (setting : Setting) (Chooses : Option Reply → State → Option Event → Type 0) (before after : PublishedJournalView) (old new : ClerkView) (result : Result (Option Reply) CallFault) → IsLogIn setting before.log
    → Admits (call_fault (seen_by old) before.log) result → IfOk result (λ told. ChoosesOn setting.table before.log (Chooses told) old.receipts new.receipts told) → HeldCall some_of before after old new result
    → IfOk result (λ told. ClerkTakes setting (Chooses told) old new told)
takes setting Chooses before after old new (Ok told) own free taken call = record {
  log = before.log;
  own = own;
  free = front_free old before.log free;
  taken = taken;
  begins = let begins = call.begins in grind arith;
}
takes setting Chooses before after old new (Err fault) own free taken call = tt

-- nothing was chosen exactly if there is no node
pub finds_none : (t : RuleTable) (log : RetainedLog) (Chooses : State → Option Event → Type 0) (old new : List Receipt) (result : Result (Option Reply) CallFault) → IfOk result (ChoosesOn t log Chooses old new)
    → IfOk result (λ told. IsNone told ↔ (node_count log.state.network ≡ 0)) → IfOk result (λ told. ChoosesOn t log (λ s _. IsNone told ↔ (node_count s.network ≡ 0)) old new told)
finds_none t log Chooses old new (Ok told) taken none = record { event = taken.event; chosen = none; is_told = taken.is_told }
finds_none t log Chooses old new (Err fault) taken none = tt

-- ---- receipts

keeps : (t : RuleTable) (log after : RetainedLog) (old : ClerkView) (new : List Receipt) (event : Event) (reply : Reply) → call_fault (seen_by old) log ≡ None → RecordsEvent t log after old.receipts new event reply → Keeps old.receipts new event reply
keeps t log after old new event reply free is =
    let few = seen_few (front_of old.receipts) log (front_free old log free) in
    record {
      seq = last_number log + 1;
      above = omega (arith, few);
      added = is.receipt ∙ ap (λ (r : Reply). old.receipts ++ record { seq = last_number log + 1; event = event; reply = r } ∷ []) (sym is.reply_is);
    }

pub keeps_call : (t : RuleTable) (log after : RetainedLog) (old : ClerkView) (new : List Receipt) (event : Event) (result : Result Reply CallFault) → Admits (call_fault (seen_by old) log) result → IfOk result (RecordsEvent t log after old.receipts new event)
    → IfOk result (Keeps old.receipts new event)
keeps_call t log after old new event result free is = grind (arith, keeps t log after old new event)

pub keeps_judged : (t : RuleTable) (log after : RetainedLog) (old : ClerkView) (new : List Receipt) (event : Event) (workers : ℕ) (result : Result Reply StepFault) → AdmitsStep (call_fault (seen_by old) log) workers result → IfOk result (RecordsEvent t log after old.receipts new event)
    → IfOk result (Keeps old.receipts new event)
keeps_judged t log after old new event workers result free is = grind (arith, keeps t log after old new event)

pub some_workers : {A : Type 0} (found : Option CallFault) (workers : ℕ) (result : Result A StepFault) → AdmitsStep found workers result → OnOk result (0 < workers)
some_workers found workers result is = grind arith

-- a step that was recorded is kept
pub keeps_step : (t : RuleTable) (log after : RetainedLog) (old new : ClerkView) (Same : Type 0) (result : Result (Option Reply) CallFault) → Admits (call_fault (seen_by old) log) result
    → IfOk result (λ told. MatchOption told ((new ≡ old) × Same) (λ reply. Drives t log after old.receipts new.receipts reply)) → IfOk result (λ told. MatchOption told (new ≡ old) (KeepsStep t.central old.receipts new.receipts))
keeps_step t log after old new Same (Err fault) free is = tt
keeps_step t log after old new Same (Ok None) free is = is.0
keeps_step t log after old new Same (Ok (Some reply)) free is = record {
  items = is.items;
  moves = is.moves;
  kept = keeps t log after old new.receipts (Step is.items) reply free is.entry;
  moved = is.moved;
  one = is.one;
}

-- a fault that was recorded is kept
pub keeps_fault : (t : RuleTable) (log after : RetainedLog) (old new : ClerkView) (Same : Type 0) (result : Result (Option Reply) CallFault) → Admits (call_fault (seen_by old) log) result
    → IfOk result (λ told. MatchOption told ((new ≡ old) × Same) (λ reply. Breaks t log after old.receipts new.receipts reply)) → IfOk result (λ told. MatchOption told (new ≡ old) (KeepsFault old.receipts new.receipts))
keeps_fault t log after old new Same (Err fault) free is = tt
keeps_fault t log after old new Same (Ok None) free is = is.0
keeps_fault t log after old new Same (Ok (Some reply)) free is = record {
  event = is.event;
  kept = keeps t log after old new.receipts is.event reply free is.entry;
  register = is.register;
  accepted = is.accepted;
}

-- ---- faults

pub refuses : {A : Type 0} (setting : Setting) (seen : ℕ) (log : RetainedLog) (result : Result A CallFault) → IsLogIn setting log → Admits (call_fault seen log) result → IfErr result (Refuses setting seen)
refuses setting seen log (Ok answer) own is = tt
refuses setting seen log (Err fault) own is = record { log = log; own = own; explained = is; may = may_answer seen log fault is }

pub refuses_step : {A : Type 0} (setting : Setting) (seen workers : ℕ) (log : RetainedLog) (result : Result A StepFault) → IsLogIn setting log → AdmitsStep (call_fault seen log) workers result → IfErr result (RefusesStep setting seen workers)
refuses_step setting seen workers log (Ok answer) own is = tt
refuses_step setting seen workers log (Err fault) own is = record { log = log; own = own; explained = is; may = may_answer_step seen workers log fault is }

-- ---- a checkpoint

pub holds_all : (setting : Setting) (seen : ℕ) (log : RetainedLog) (result : Result ℕ CallFault) → IsLogIn setting log → IfOk result (λ number. number ≡ last_number log) → Admits (checkpoint_fault seen log) result → IfOk result (HoldsAll setting seen)
holds_all setting seen log (Ok number) own count none = record { log = log; own = own; count = count; all = subst (λ n. seen ≤ n) (sym count) (seen_at_checkpoint seen log none) }
holds_all setting seen log (Err fault) own count none = tt

pub refuses_checkpoint : (setting : Setting) (seen : ℕ) (log : RetainedLog) (result : Result ℕ CallFault) → IsLogIn setting log → Admits (checkpoint_fault seen log) result → IfErr result (RefusesCheckpoint setting seen)
refuses_checkpoint setting seen log (Ok number) own is = tt
refuses_checkpoint setting seen log (Err fault) own is = record { log = log; own = own; explained = is; may = may_refuse_checkpoint seen log fault is }
