-- A clerk that adds the receipt of an entry after all that it has seen, and a note of the log then, is a
-- clerk.
use Rattle.locked_net.proofs.Prelude.{◌≡◌, ℕ, ◌+◌, ◌-◌, ◌<◌, ◌≤◌, List, [], ◌∷◌, ◌++◌, length, Option, None, Some, if◌then◌else◌, nat_eq, nat_lt, refl, sym, ap, ◌∙◌, subst, arith, nat_tests, length-append, slice_get, ltb-false, le-ltb, none-some, slice_get-get_or, get_or-append_seam, Event, RuleTable, Entry, PublishedLog, Receipt, dropped, RetainedLog, last_number, next_entry, kept_with, next_receipt, ClerkView, front_from, front_of, seen_by, RiseAbove, IsReceiptOf, StandsLastFrom, StandsLast, NotesLast, IsClerk, CallFault, Behind, LogFull, call_fault, checkpoint_fault}

-- a clerk that may call has seen at most all entries
pub seen_few : (seen : ℕ) (log : RetainedLog) → call_fault seen log ≡ None → seen ≤ last_number log
seen_few seen log none = grind (arith, nat_tests)

-- and the same before a checkpoint
pub seen_at_checkpoint : (seen : ℕ) (log : RetainedLog) → checkpoint_fault seen log ≡ None → seen ≤ last_number log
seen_at_checkpoint seen log none = grind (arith, nat_tests)

-- which has no fault either with less seen
pub less_at_checkpoint : (less seen : ℕ) (log : RetainedLog) → less ≤ seen → checkpoint_fault seen log ≡ None → checkpoint_fault less log ≡ None
less_at_checkpoint less seen log few none = grind (arith, nat_tests)

-- and may call with less seen
less_seen : (less seen : ℕ) (log : RetainedLog) → less ≤ seen → call_fault seen log ≡ None → call_fault less log ≡ None
less_seen less seen log few none = grind (arith, nat_tests)

pub front_free : (clerk : ClerkView) (log : RetainedLog) → call_fault (seen_by clerk) log ≡ None → call_fault (front_of clerk.receipts) log ≡ None
front_free clerk log = less_seen (front_of clerk.receipts) (seen_by clerk) log (omega arith)

-- one more receipt, with a number above the last
rise_more : (low : ℕ) (receipts : List Receipt) (receipt : Receipt) → RiseAbove low receipts → front_from low receipts < receipt.seq → RiseAbove low (receipts ++ receipt ∷ [])
rise_more low [] receipt rise above = (above, tt)
rise_more low (first ∷ receipts) receipt rise above = (rise.0, rise_more first.seq receipts receipt rise.1 above)

-- its number is the front then
pub front_more : (low : ℕ) (receipts : List Receipt) (receipt : Receipt) → front_from low (receipts ++ receipt ∷ []) ≡ receipt.seq
front_more low [] receipt = refl
front_more low (first ∷ receipts) receipt = front_more first.seq receipts receipt

-- the same of a clerk with the receipt of the next entry
pub front_after : (t : RuleTable) (log : RetainedLog) (event : Event) (old new : List Receipt) → new ≡ old ++ next_receipt t log event ∷ [] → front_of new ≡ last_number log + 1
front_after t log event old new added = ap front_of added ∙ front_more 0 old (next_receipt t log event)

-- ---- the last receipt

-- an entry is at the end of a log to which it was added
last_entry : (log : List Entry) (entry : Entry) → slice_get (log ++ entry ∷ []) (length log) ≡ Some entry
last_entry log entry =
    slice_get-get_or (log ++ entry ∷ []) (length log) entry (omega (arith, length-append log (entry ∷ []))) ∙ ap Some (get_or-append_seam log entry [] entry)

added_is_entry : (t : RuleTable) (log : RetainedLog) (event : Event) → IsReceiptOf (dropped log.base) (kept_with t log event).entries (next_receipt t log event)
added_is_entry t log event =
    let place : last_number log + 1 - dropped log.base - 1 ≡ length log.entries = omega arith in
    record {
      numbered = omega arith;
      same = ap (λ n. slice_get (kept_with t log event).entries n) place ∙ last_entry log.entries (next_entry t log event);
    }

stands_from : (start : ℕ) (log : List Entry) (first : Receipt) (receipts : List Receipt) (receipt : Receipt) → IsReceiptOf start log receipt → StandsLastFrom start log first (receipts ++ receipt ∷ [])
stands_from start log first [] receipt is = is
stands_from start log first (next ∷ receipts) receipt is = stands_from start log next receipts receipt is

stands_last : (start : ℕ) (log : List Entry) (receipts : List Receipt) (receipt : Receipt) → IsReceiptOf start log receipt → StandsLast start log (receipts ++ receipt ∷ [])
stands_last start log [] receipt is = is
stands_last start log (first ∷ receipts) receipt is = stands_from start log first receipts receipt is

-- a clerk that adds the receipt of an entry, and a note of the log with that entry, is one
pub is_clerk_after : (t : RuleTable) (log after : RetainedLog) (event : Event) (told : PublishedLog) (old new : List Receipt) (note : Option PublishedLog) (base : Option ℕ) → RiseAbove 0 old → call_fault (front_of old) log ≡ None
    → after ≡ kept_with t log event → told.log ≡ after.entries → new ≡ old ++ next_receipt t log event ∷ [] → note ≡ Some told → told.base ≡ log.base → IsClerk (record { receipts = new; note = note; base = base })
is_clerk_after t log after event told old new note base rise free is tells added kept from =
    let receipt : Receipt = next_receipt t log event in
    let few = seen_few (front_of old) log free in
    let shown : told.log ≡ (kept_with t log event).entries = tells ∙ ap (λ (l : RetainedLog). l.entries) is in
    let stands : StandsLast (dropped log.base) told.log (old ++ receipt ∷ []) =
    subst (λ l. StandsLast (dropped log.base) l (old ++ receipt ∷ [])) (sym shown) (stands_last (dropped log.base) (kept_with t log event).entries old receipt (added_is_entry t log event)) in
    let here : StandsLast (dropped told.base) told.log (old ++ receipt ∷ []) = subst (λ b. StandsLast (dropped b) told.log (old ++ receipt ∷ [])) (sym from) stands in
    record {
      rise = subst (RiseAbove 0) (sym added) (rise_more 0 old receipt rise (omega (arith, few)));
      last = subst (λ o. NotesLast new o) (sym kept) (subst (λ rs. NotesLast rs (Some told)) (sym added) here);
    }
