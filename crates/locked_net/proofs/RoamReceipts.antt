-- The receipts of clerks that roamed turn by turn, and their fault.
use Rattle.locked_net.proofs.Prelude.{◌≡◌, ◌∙◌, ℕ, zero, suc, ◌+◌, ◌<◌, ◌≤◌, List, [], ◌∷◌, ◌++◌, length, take, drop, min, Option, None, Some, refl, sym, ap, subst, append_assoc, length-append, arith, All, slice_get, append-nil, same_Some, none-some, All-nil, All-cons, All-append, RuleTable, Entry, Receipt, RetainedLog, next_receipt, ClerkView, seen_by, Setting, CallFault, Behind, LogFull, Memory, RoamFault, MayAnswer, mover, lone_step, receipts_by, receipts_of_turn, FaultBy, IsLoneStep, Roams, AllRoam, RoamResult, MayMeetRoamFault, TakesTurns, AllTakeTurns, BreaksOff, MayEnd, AllEnd, RowEnds, Err, roam_call_fault, roam_fault}
use Rattle.std.proofs.Math.Seq.{take-append_seam}
use Rattle.std.proofs.lemmas.List.{append_cancel_left, length-take, take-append-drop, take_min}
use Rattle.locked_net.proofs.CallFaults.{may_answer, may_be_behind}
use Rattle.locked_net.proofs.Movers.{mover_answers}

-- ---- receipts

-- a turn's result
record IsTold (told : List Receipt) : Type 0 where
  few : length told ≤ 1
  lone : All IsLoneStep told

turn_told : (t : RuleTable) (log : RetainedLog) (turn : ℕ) (chosen : Option ℕ) → mover t log.state turn ≡ chosen → IsTold (receipts_by t log chosen)
turn_told t log turn None is = record { few = omega arith; lone = All-nil IsLoneStep }
turn_told t log turn (Some v) is =
    let answered = mover_answers t log.state turn v log.spent is in
    let receipt : Receipt = next_receipt t log (lone_step v) in
    let own : IsLoneStep receipt = record { node = v; move = answered.move; stepped = refl; moved = answered.answer; own = answered.own } in
    record { few = omega arith; lone = All-cons IsLoneStep receipt [] own (All-nil IsLoneStep) }

turns_roam : (setting : Setting) (shown : List Entry) (turns : ℕ) (old new : List Receipt) → TakesTurns setting shown turns old new → Roams turns old new
turns_roam setting shown zero old new is = record { own = []; added = is ∙ sym (append-nil old); few = omega arith; lone = All-nil IsLoneStep }
turns_roam setting shown (suc turn) old new (before, taken, last) =
    let so_far = turns_roam setting shown turn old before taken in
    let told = receipts_of_turn setting.table last.log turn in
    let more = turn_told setting.table last.log turn (mover setting.table last.log.state turn) refl in
    record {
      own = so_far.own ++ told;
      added = last.added ∙ ap (λ rs. rs ++ told) so_far.added ∙ append_assoc old so_far.own told;
      few = omega (arith, length-append so_far.own told, so_far.few, more.few);
      lone = All-append IsLoneStep so_far.own told so_far.lone more.lone;
    }

end_roams : (setting : Setting) (shown : List Entry) (turns : ℕ) (old new : ClerkView) (fault : Option CallFault) → MayEnd setting shown turns old new fault → Roams turns old.receipts new.receipts
end_roams setting shown turns old new None taken = turns_roam setting shown turns old.receipts new.receipts taken
end_roams setting shown turns old new (Some fault) broken =
    let some = turns_roam setting shown broken.turn old.receipts new.receipts broken.taken in
    record { own = some.own; added = some.added; few = omega (arith, some.few, broken.below); lone = some.lone }

all_roam : (setting : Setting) (turns : ℕ) (olds news : List ClerkView) (fault : Option CallFault) → AllEnd setting turns olds news fault → AllRoam turns olds news
all_roam setting turns [] [] fault ends = tt
all_roam setting turns (old ∷ olds) (new ∷ news) fault (own, others, is, ended, ends) = (end_roams setting ended.shown turns old new own ended.ended, all_roam setting turns olds news others ends)
all_roam setting turns olds news fault ends = absurd ends

-- if there was no fault, each took all its turns
pub all_taken : (setting : Setting) (turns : ℕ) (olds news : List ClerkView) (fault : Option CallFault) → fault ≡ None → AllEnd setting turns olds news fault → AllTakeTurns setting turns olds news
all_taken setting turns [] [] fault none ends = tt
all_taken setting turns (old ∷ olds) (new ∷ news) fault none (None, others, is, taken, ends) = (taken, all_taken setting turns olds news others (sym is ∙ none) ends)
all_taken setting turns (old ∷ olds) (new ∷ news) fault none (Some own, others, is, broken, ends) = absurd (none-some own (sym none ∙ is))
all_taken setting turns olds news fault none ends = absurd ends

-- ---- the first of them

-- the first 64 of a row in two parts, and the others
record IsSplit (part rest : List ClerkView) : Type 0 where
  first : take 64 (part ++ rest) ≡ part
  others : drop 64 (part ++ rest) ≡ rest

split : (part rest : List ClerkView) → length part ≡ min (length part + length rest) 64 → IsSplit part rest
split part rest size =
    let few : min 64 (length (part ++ rest)) ≡ length part = omega (arith, size, length-append part rest) in
    let first : take 64 (part ++ rest) ≡ part = sym (take_min 64 (part ++ rest)) ∙ ap (λ n. take n (part ++ rest)) few ∙ take-append_seam part rest in
    record { first = first; others = append_cancel_left part _ _ (ap (λ xs. xs ++ drop 64 (part ++ rest)) (sym first) ∙ take-append-drop 64 (part ++ rest)) }

pub row_ends : (setting : Setting) (turns count : ℕ) (whole part new rest : List ClerkView) (fault : Option CallFault) → whole ≡ part ++ rest → length part ≡ count → count ≡ min (length whole) 64 → length new ≡ length part
    → AllEnd setting turns part new fault → RowEnds setting turns whole (new ++ rest) fault
row_ends setting turns count whole part new rest fault value size few same ends =
    let lengths : length whole ≡ length part + length rest = ap length value ∙ length-append part rest in
    let olds = split part rest (omega (arith, size, few, lengths)) in
    let news = split new rest (omega (arith, size, few, same, lengths)) in
    subst (λ row. RowEnds setting turns row (new ++ rest) fault) (sym value)
    (record {
      ends = subst (λ row. AllEnd setting turns row (take 64 (new ++ rest)) fault) (sym olds.first) (subst (λ row. AllEnd setting turns part row fault) (sym news.first) ends);
      others = news.others ∙ sym olds.others;
    })

pub row_ended : (setting : Setting) (turns : ℕ) (olds news : List ClerkView) (fault told : Option CallFault) → RowEnds setting turns olds news fault → fault ≡ told → AllEnd setting turns (take 64 olds) (take 64 news) told
row_ended setting turns olds news fault told row is = subst (AllEnd setting turns (take 64 olds) (take 64 news)) is row.ends

pub row_roamed : (setting : Setting) (turns : ℕ) (olds news : List ClerkView) (fault : Option CallFault) → RowEnds setting turns olds news fault → RoamResult turns olds news
row_roamed setting turns olds news fault row = record { workers = all_roam setting turns (take 64 olds) (take 64 news) fault row.ends; others = row.others }

-- a call's fault, told as one of roaming, and back
pub told_back : (fault : CallFault) (told : RoamFault) → told ≡ roam_fault fault → Some fault ≡ roam_call_fault (Err told)
told_back fault told is = grind arith

-- ---- the fault

met_answers : (seen : ℕ) (log : RetainedLog) (chosen : Option ℕ) (fault : CallFault) → FaultBy seen log chosen fault → MayAnswer seen fault
met_answers seen log chosen fault met = grind (arith, may_be_behind seen log fault, may_answer seen log fault)

-- one of these clerks met the fault
record IsMet (clerks : List ClerkView) (workers : ℕ) (fault : CallFault) : Type 0 where
  clerk : ℕ
  view : ClerkView
  worker : clerk < workers
  has : slice_get clerks clerk ≡ Some view
  may : MayAnswer (seen_by view) fault

fault_met : (setting : Setting) (turns : ℕ) (olds news rest : List ClerkView) (first : Option CallFault) (fault : CallFault) → AllEnd setting turns olds news first → first ≡ Some fault → IsMet (news ++ rest) (length olds) fault
fault_met setting turns (old ∷ olds) (new ∷ news) rest first fault (None, others, first_is, ended, ends) is =
    let later = fault_met setting turns olds news rest others fault ends (sym first_is ∙ is) in
    record { clerk = suc later.clerk; view = later.view; worker = omega (arith, later.worker); has = later.has; may = later.may }
fault_met setting turns (old ∷ olds) (new ∷ news) rest first fault (Some own, others, first_is, ended, ends) is =
    let same : own ≡ fault = same_Some own fault (sym first_is ∙ is) in
    let broken : BreaksOff setting ended.shown turns old new own = ended.ended in
    let may = met_answers (seen_by new) broken.met.log (mover setting.table broken.met.log.state broken.turn) own broken.met.met in
    record { clerk = 0; view = new; worker = omega arith; has = refl; may = subst (MayAnswer (seen_by new)) same may }
fault_met setting turns olds news rest first fault ends is = absurd (grind arith)

stops : (clerks : List ClerkView) (workers : ℕ) (fault : CallFault) → workers ≤ 64 → IsMet clerks workers fault → MayMeetRoamFault clerks (roam_fault fault)
stops clerks workers (Behind front seen) few met =
    record { clerk = met.clerk; view = met.view; worker = omega (arith, few, met.worker); has = met.has; own = met.may.0; fewer = rw met.may.0 met.may.1 }
stops clerks workers LogFull few met = tt
stops clerks workers Memory few met = tt

pub may_stop : (setting : Setting) (turns : ℕ) (olds news : List ClerkView) (first : Option CallFault) (fault : CallFault) (told : RoamFault) → RowEnds setting turns olds news first → first ≡ Some fault → told ≡ roam_fault fault → MayMeetRoamFault news told
may_stop setting turns olds news first fault told row is told_is =
    let met = subst (λ row. IsMet row (length (take 64 olds)) fault) (take-append-drop 64 news) (fault_met setting turns (take 64 olds) (take 64 news) (drop 64 news) first fault row.ends is) in
    subst (MayMeetRoamFault news) (sym told_is) (stops news (length (take 64 olds)) fault (omega (arith, length-take 64 olds)) met)
