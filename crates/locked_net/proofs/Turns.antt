-- A clerk's turns, one after another.
use Rattle.locked_net.proofs.Prelude.{◌≡◌, ◌∙◌, ◌⊎◌, ℕ, zero, suc, ◌+◌, ◌<◌, List, [], ◌++◌, length, Bool, false, not, is_some, false≢true, none-some, Option, IfSome, None, Some, Result, Ok, Err, OnOk, IfErr, MatchOption, inl, inr, ⊎_elim, refl, sym, ap, ap₂, subst, append_assoc, arith, All, IsSomeAnd, append-nil, All-nil, All-cons, All-append, IfErr-weaker, prefix_trans, RuleTable, Entry, PublishedLog, Receipt, RetainedLog, next_receipt, ClerkView, HasNoteOf, IsOfBook, Book, base_from, front_of, noted, seen_by, seen_from, Setting, IsLogIn, PublishedJournalView, CallFault, some_of, AddsReceipt, HeldCall, mover, lone_step, receipts_by, receipts_of_turn, fault_by, fault_of_turn, FaultInTurn, KeepsNote, TakesTurn, TakesTurns, BreaksOff, MayEnd, HasOwnNote, EndsOnLog, MeetsFault}
use mathlib.Core.List.{IsPrefix}
use Rattle.std.proofs.Common.{IsErr, IsErrAnd}
use Rattle.std.specs.Result.{result_err}
use Rattle.locked_net.proofs.ReceiptAddition.{seen_few, front_free, less_at_checkpoint}

-- a turn without a fault for what a clerk has seen has none for its receipts alone
front_turn : (log : RetainedLog) (clerk : ClerkView) (chosen : Option ℕ) → fault_by (seen_by clerk) log chosen ≡ None → fault_by (front_of clerk.receipts) log chosen ≡ None
front_turn log clerk None free = less_at_checkpoint (front_of clerk.receipts) (seen_by clerk) log (omega arith) free
front_turn log clerk (Some v) free = front_free clerk log free

-- the result on a log
pub turn_taken : {A B : Type 0} (setting : Setting) (shown : List Entry) (turn : ℕ) (result : Result A B) (log : RetainedLog) (old new : ClerkView) → IsLogIn setting log → IsPrefix log.entries shown
    → OnOk result (fault_of_turn setting.table (seen_by old) log turn ≡ None) → OnOk result (new.receipts ≡ old.receipts ++ receipts_of_turn setting.table log turn)
    → OnOk result (TakesTurn setting shown turn old.receipts new.receipts)
turn_taken setting shown turn (Ok a) log old new own begins free added = record { log = log; own = own; begins = begins; free = front_turn log old (mover setting.table log.state turn) free; added = added }
turn_taken setting shown turn (Err b) log old new own begins free added = tt

pub fault_met : {A : Type 0} (setting : Setting) (turn : ℕ) (result : Result A CallFault) (log : RetainedLog) (old : ClerkView) → IsLogIn setting log
    → IfErr result (λ fault. FaultInTurn setting.table (seen_by old) log turn fault) → IfErr result (λ fault. MeetsFault setting turn old fault)
fault_met setting turn result log old own = IfErr-weaker result _ (MeetsFault setting turn old) (λ fault met. record { log = log; own = own; met = met })

-- what was taken on beginnings of a log was taken on beginnings of a longer one
pub turns_on : (setting : Setting) (shown more : List Entry) → IsPrefix shown more → (turns : ℕ) (old new : List Receipt) → TakesTurns setting shown turns old new → TakesTurns setting more turns old new
turns_on setting shown more longer zero old new is = is
turns_on setting shown more longer (suc turn) old new (before, taken, last) = (
  before,
  turns_on setting shown more longer turn old before taken,
  record { log = last.log; own = last.own; begins = prefix_trans last.log.entries shown more last.begins longer; free = last.free; added = last.added },
)

-- one more turn, on a longer log
pub turns_more : (setting : Setting) (shown more : List Entry) → IsPrefix shown more → (turn : ℕ) (old mid new : List Receipt) → TakesTurns setting shown turn old mid → TakesTurn setting more turn mid new → TakesTurns setting more (turn + 1) old new
turns_more setting shown more longer turn old mid new taken last =
    let next : suc turn ≡ turn + 1 = omega arith in
    subst (λ n. TakesTurns setting more n old new) next (mid, turns_on setting shown more longer turn old mid taken, last)

-- turns up to one that met a fault
pub broken_off : (setting : Setting) (shown more : List Entry) → IsPrefix shown more → (turn turns : ℕ) (old mid new : ClerkView) (fault : CallFault) → turn < turns → new ≡ mid → TakesTurns setting shown turn old.receipts mid.receipts → MeetsFault setting turn mid fault
    → BreaksOff setting more turns old new fault
broken_off setting shown more longer turn turns old mid new fault below same taken met =
    subst (λ (c : ClerkView). BreaksOff setting more turns old c fault) (sym same) (record { turn = turn; below = below; taken = turns_on setting shown more longer turn old.receipts mid.receipts taken; met = met })

-- a clerk that sees a note after its turns ended as it did before
pub ended_still : (setting : Setting) (shown : List Entry) (turns : ℕ) (old mid new : ClerkView) (fault : Option CallFault) → new.receipts ≡ mid.receipts → new.base ≡ mid.base → MayEnd setting shown turns old mid fault → MayEnd setting shown turns old new fault
ended_still setting shown turns old mid new None receipts base taken = subst (TakesTurns setting shown turns old.receipts) (sym receipts) taken
ended_still setting shown turns old mid new (Some fault) receipts base broken =
    let seen : seen_by mid ≡ seen_by new = sym (ap₂ seen_from base receipts) in
    let met = broken.met in
    record {
      turn = broken.turn;
      below = broken.below;
      taken = subst (TakesTurns setting shown broken.turn old.receipts) (sym receipts) broken.taken;
      met = record { log = met.log; own = met.own; met = subst (λ n. FaultInTurn setting.table n met.log broken.turn fault) seen met.met };
    }

-- that fault is what is returned
pub ended_early : (setting : Setting) (shown more : List Entry) → IsPrefix shown more → (turn turns : ℕ) (old mid new : ClerkView) (fault : CallFault) (result : Result Unit CallFault) → IsErr result → IsErrAnd result (λ found. found ≡ fault) → turn < turns → new ≡ mid
    → TakesTurns setting shown turn old.receipts mid.receipts → MeetsFault setting turn mid fault → MayEnd setting more turns old new (result_err result)
ended_early setting shown more longer turn turns old mid new fault result is gives below same taken met =
    let told : Err fault ≡ result = grind arith in
    subst (λ (r : Result Unit CallFault). MayEnd setting more turns old new (result_err r)) told (broken_off setting shown more longer turn turns old mid new fault below same taken met)

-- a clerk whose note shows the log in the end
pub ends_shown : (setting : Setting) (shown : List Entry) (turns : ℕ) (old mid new after : ClerkView) (fault : Option CallFault) → after ≡ new → new.receipts ≡ mid.receipts → new.base ≡ mid.base → IsPrefix shown (noted new.note) → MayEnd setting shown turns old mid fault
    → EndsOnLog setting turns old after fault
ends_shown setting shown turns old mid new after fault is receipts base longer ended =
    subst (λ (c : ClerkView). EndsOnLog setting turns old c fault) (sym is) (record { shown = shown; ended = ended_still setting shown turns old mid new fault receipts base ended; begins = λ _. longer })

-- and one whose note may be of another network
pub ends_apart : (setting : Setting) (shown : List Entry) (turns : ℕ) (old mid after : ClerkView) (fault : Option CallFault) → after ≡ mid → (HasOwnNote old mid → ⊥) → MayEnd setting shown turns old mid fault → EndsOnLog setting turns old after fault
ends_apart setting shown turns old mid after fault is apart ended =
    subst (λ (c : ClerkView). EndsOnLog setting turns old c fault) (sym is) (record { shown = shown; ended = ended; begins = λ own. absurd (apart own) })

-- which has a note
pub has_note : {A : Type 0} (found : Option A) (b : Bool) (held : Option PublishedLog) (log_of : A → PublishedLog) → MatchOption found (held ≡ None) (λ a. held ≡ Some (log_of a)) → is_some found ≡ not b → b ≡ false → held ≡ None → ⊥
has_note found b held log_of is known off none = grind arith

-- ---- notes and bases

turn_above : (t : RuleTable) (log : RetainedLog) (clerk : ClerkView) (chosen : Option ℕ) → fault_by (seen_by clerk) log chosen ≡ None → All (λ receipt. base_from clerk.base < receipt.seq) (receipts_by t log chosen)
turn_above t log clerk None free = All-nil (λ receipt. base_from clerk.base < receipt.seq)
turn_above t log clerk (Some v) free =
    let P = λ (receipt : Receipt). base_from clerk.base < receipt.seq in
    let few = seen_few (seen_by clerk) log free in
    All-cons P (next_receipt t log (lone_step v)) [] (omega (arith, few)) (All-nil P)

pub stays : (book : Book) (old new : ClerkView) → new ≡ old → KeepsNote book old new
stays book old new same = record {
  note = inl (ap (λ (c : ClerkView). c.note) same);
  base = ap (λ (c : ClerkView). c.base) same;
  above = ([], ap (λ (c : ClerkView). c.receipts) same ∙ sym (append-nil old.receipts), All-nil (λ receipt. base_from old.base < receipt.seq));
}

-- a turn under a lock that was taken for it
pub turn_keeps : {A : Type 0} (t : RuleTable) (book : Book) (turn : ℕ) (before after : PublishedJournalView) (old new : ClerkView) (result : Result (Option A) CallFault) → before.name.book ≡ book
    → HeldCall some_of before after old new result → OnOk result (fault_of_turn t (seen_by old) before.log turn ≡ None) → OnOk result (new.receipts ≡ old.receipts ++ receipts_of_turn t before.log turn) → KeepsNote book old new
turn_keeps t book turn before after old new (Err fault) same call free added = stays book old new call.clerk.kept
turn_keeps t book turn before after old new (Ok told) same call free added = record {
  note = let added = call.clerk.added in grind arith;
  base = call.clerk.base;
  above = (receipts_of_turn t before.log turn, added, turn_above t before.log old (mover t before.log.state turn) free);
}

-- a clerk that a turn changed has a note of the board
pub turn_own : {A : Type 0} (book : Book) (before after : PublishedJournalView) (old new : ClerkView) (result : Result (Option A) CallFault) → before.name.book ≡ book → HeldCall some_of before after old new result → (new ≡ old) ⊎ HasNoteOf book new
turn_own book before after old new result same call = grind arith

-- the same after several turns
pub own_on : (book : Book) (old mid new : ClerkView) → (mid ≡ old) ⊎ HasNoteOf book mid → (new ≡ mid) ⊎ HasNoteOf book new → (new ≡ old) ⊎ HasNoteOf book new
own_on book old mid new so_far last = grind arith

-- one more turn
pub keeps_on : (book : Book) (old mid new : ClerkView) → KeepsNote book old mid → KeepsNote book mid new → KeepsNote book old new
keeps_on book old mid new so_far last =
    let P = λ (receipt : Receipt). base_from old.base < receipt.seq in
    record {
      note = let first = so_far.note in let then = last.note in grind arith;
      base = last.base ∙ so_far.base;
      above = (
        so_far.above.0 ++ last.above.0,
        last.above.1 ∙ ap (λ rs. rs ++ last.above.0) so_far.above.1 ∙ append_assoc old.receipts so_far.above.0 last.above.0,
        All-append P so_far.above.0 last.above.0 so_far.above.2 (subst (λ base. All (λ (receipt : Receipt). base_from base < receipt.seq) last.above.0) so_far.base last.above.2),
      );
    }

-- without a note, what it shows begins what any note shows
pub nothing_shown : (seen held : Option PublishedLog) → ((told : PublishedLog) → seen ≡ Some told → ⊥) → IsPrefix (noted seen) (noted held)
nothing_shown None held none = (noted held, refl)
nothing_shown (Some told) held none = absurd (none told refl)
