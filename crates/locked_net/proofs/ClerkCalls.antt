-- A clerk's call, from the call that it makes.
use Rattle.locked_net.proofs.Prelude.{◌≡◌, ◌∷◌, ◌++◌, [], Option, None, Some, Result, Ok, sym, ap, subst, arith, ◌∙◌, IsSomeAnd, Event, Reply, RuleTable, Book, PublishedLog, kept_with, next_receipt, ClerkView, noted, seen_by, PublishedJournalView, KeepsKey, call_fault, each, ClerkCall, HeldCall}
use Rattle.locked_net.proofs.ReceiptAddition.{front_after, seen_few}
use Rattle.locked_net.proofs.ChosenEvents.{begins_in}

-- an entry was recorded, and the clerk has its receipt and a note of the log then
pub recorded_call : {E : Type 0} (t : RuleTable) (before after : PublishedJournalView) (old new : ClerkView) (event : Event) (reply : Reply) (told : PublishedLog)
    → KeepsKey before after → call_fault (seen_by old) before.log ≡ None → after.log ≡ kept_with t before.log event → told.log ≡ after.log.entries → told.book ≡ before.name.book
    → new.receipts ≡ old.receipts ++ next_receipt t before.log event ∷ [] → new.note ≡ Some told → new.base ≡ old.base → HeldCall {A = Reply} {E = E} each before after old new (Ok reply)
recorded_call t before after old new event reply told key free is tells book added note base =
    let few = seen_few (seen_by old) before.log free in
    let front = front_after t before.log event old.receipts new.receipts added in
    record {
      clerk = record {
        base = base;
        added = record {
          note = subst (λ (o : Option PublishedLog). IsSomeAnd o (λ n. n.book ≡ before.name.book)) (sym note) book;
          above = omega (arith, few, front);
        };
        kept = tt;
      };
      key = key;
      begins = begins_in t before.log after.log event new.note is (ap noted note ∙ tells);
      kept = tt;
    }

-- a call under a lock that was taken for it
pub called : {A E : Type 0} (Answers : A → Type 0 → Type 0 → Type 0) (book : Book) (before after : PublishedJournalView) (old new : ClerkView) (result : Result A E) → before.name.book ≡ book → HeldCall Answers before after old new result
    → ClerkCall Answers book old new result
called Answers book before after old new result same call = subst (λ (b : Book). ClerkCall Answers b old new result) same call.clerk
