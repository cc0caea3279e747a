-- Fresh clerks after they have roamed.
use Rattle.storm_runner.proofs.Prelude.{nil_from_length, inl, Entry, turns_on, ◌≡◌, ◌≢◌, ◌↔◌, ◌∙◌, ℕ, suc, ◌≤◌, List, [], ◌∷◌, ◌++◌, length, take, Result, Ok, Err, Option, None, IfErr, IsErrOf, ⊎_elim, refl, sym, ap, subst, arith, All, length-drop, take_all, All-nil, All-cons, All-head, All-tail, All-weaker, option_or, IsPrefix, Book, ClerkView, fresh, noted, HasNoteOf, IsOfBook, Setting, AllRoam, RoamResult, KeepsNote, AllEnd, AllKeepNotes, MayEnd, MayMeetRoamFault, RoamFault, ZeroWorkers, Thread, CallFault, ScriptLine, IsRoaming, PlayedOn, ToldOn, AllRoamed, AllRoamedOnNotes, RoamResultOfNew, roam_call_fault, Some}
use Rattle.storm_runner.proofs.ClerkNotes.{of_book}
use Rattle.storm_runner.proofs.SplitScripts.{all_left, all_right}

-- that of their turns alone
all_turns : (turns : ℕ) (old new : List ClerkView) → AllRoam turns old new → All (λ clerk. clerk.receipts ≡ []) old → (length new ≡ length old) × All (λ clerk. IsRoaming turns clerk.receipts) new
all_turns turns [] [] roamed fresh = (refl, All-nil (λ clerk. IsRoaming turns clerk.receipts))
all_turns turns (old ∷ olds) (new ∷ news) (roams, others) fresh =
    let none = λ (clerk : ClerkView). clerk.receipts ≡ [] in
    let rest = all_turns turns olds news others (All-tail none old olds fresh) in
    let is : new.receipts ≡ roams.own = roams.added ∙ ap (λ rs. rs ++ roams.own) (All-head none old olds fresh) in
    (ap suc rest.0, All-cons (λ clerk. IsRoaming turns clerk.receipts) new news (subst (IsRoaming turns) (sym is) (roams.few, roams.lone)) rest.1)
all_turns turns old new roamed fresh = absurd roamed

-- none of them is beyond the first 64
all_workers : (turns : ℕ) (old new : List ClerkView) → length old ≤ 64 → RoamResult turns old new → AllRoam turns old new
all_workers turns old new few roamed =
    let left : length new ≤ 64 = omega (arith, ap length roamed.others, length-drop 64 new, length-drop 64 old) in
    rw (take_all 64 old few, take_all 64 new left) at roamed.workers

-- none of them needed a thread
no_thread : (clerks : List ClerkView) (ended : Result Unit RoamFault) → IfErr ended (λ fault. MayMeetRoamFault clerks fault) → IfErr ended (λ fault. fault ≢ Thread)
no_thread clerks ended may_stop = grind arith

-- what a clerk did on beginnings of a log, it did on beginnings of a longer one
end_on : (setting : Setting) (shown more : List Entry) → IsPrefix shown more → (turns : ℕ) (old new : ClerkView) (own : Option CallFault) → MayEnd setting shown turns old new own → MayEnd setting more turns old new own
end_on setting shown more longer turns old new None taken = turns_on setting shown more longer turns old.receipts new.receipts taken
end_on setting shown more longer turns old new (Some fault) broken =
    record { turn = broken.turn; below = broken.below; taken = turns_on setting shown more longer broken.turn old.receipts new.receipts broken.taken; met = broken.met }

-- none of them had turns or a note before
fresh_turns : (setting : Setting) (turns : ℕ) (old new : List ClerkView) (fault : Option CallFault) → AllEnd setting turns old new fault → All (λ clerk. clerk ≡ fresh) old → AllRoamedOnNotes setting turns new fault
fresh_turns setting turns [] [] fault ends fresh_all = ends
fresh_turns setting turns (old ∷ olds) (new ∷ news) fault (own, others, first, ended, ends) fresh_all =
    let Fresh = λ (clerk : ClerkView). clerk ≡ fresh in
    let is = All-head Fresh old olds fresh_all in
    let longer = ended.begins (inl (ap (λ (c : ClerkView). c.note) is)) in
    let on_note : MayEnd setting (noted new.note) turns old new own = end_on setting ended.shown (noted new.note) longer turns old new own ended.ended in
    (own, others, first, subst (λ (c : ClerkView). MayEnd setting (noted new.note) turns c new own) is on_note, fresh_turns setting turns olds news others ends (All-tail Fresh old olds fresh_all))
fresh_turns setting turns old new fault ends fresh_all = absurd ends

all_ended : (setting : Setting) (turns : ℕ) (old new : List ClerkView) (fault : Option CallFault) → length old ≤ 64 → length new ≡ length old → All (λ clerk. clerk ≡ fresh) old
    → AllEnd setting turns (take 64 old) (take 64 new) fault → AllRoamedOnNotes setting turns new fault
all_ended setting turns old new fault few same fresh_all ends =
    let left : length new ≤ 64 = omega (arith, few, same) in
    fresh_turns setting turns old new fault (subst (λ news. AllEnd setting turns old news fault) (take_all 64 new left) (subst (λ olds. AllEnd setting turns olds (take 64 new) fault) (take_all 64 old few) ends)) fresh_all

-- a fresh clerk has no receipts
no_receipts : (clerks : List ClerkView) → All (λ clerk. clerk ≡ fresh) clerks → All (λ clerk. clerk.receipts ≡ []) clerks
no_receipts clerks all = All-weaker (λ clerk. clerk ≡ fresh) (λ clerk. clerk.receipts ≡ []) (λ clerk is. ap (λ (c : ClerkView). c.receipts) is) clerks all

-- what follows for each of them from what it keeps
all_kept : (book : Book) (P : ClerkView → Type 0) → ((old new : ClerkView) → old ≡ fresh → KeepsNote book old new → P new) → (old new : List ClerkView) → All (λ clerk. clerk ≡ fresh) old → AllKeepNotes book old new → All P new
all_kept book P each [] [] none keep = All-nil P
all_kept book P each (old ∷ olds) (new ∷ news) none (own, keep) =
    let Fresh = λ (clerk : ClerkView). clerk ≡ fresh in
    All-cons P new news (each old new (All-head Fresh old olds none) own) (all_kept book P each olds news (All-tail Fresh old olds none) keep)
all_kept book P each old new none keep = absurd keep

pub roamed_afresh : (setting : Setting) (book : Book) (turns : ℕ) (old new : List ClerkView) (ended : Result Unit RoamFault) → length old ≤ 64 → All (λ clerk. clerk ≡ fresh) old
    → RoamResult turns old new → AllEnd setting turns (take 64 old) (take 64 new) (roam_call_fault ended) → (IsErrOf ended ZeroWorkers ↔ (old ≡ [])) → IfErr ended (λ fault. MayMeetRoamFault new fault) → AllKeepNotes book old new
    → RoamResultOfNew setting turns old new ended
roamed_afresh setting book turns old new ended few new_clerks roamed took none may_stop keep =
    let all = all_turns turns old new (all_workers turns old new few roamed) (no_receipts old new_clerks) in
    record { as_many = all.0; steps = all.1; ends = all_ended setting turns old new (roam_call_fault ended) few all.0 new_clerks took; unbased = all_kept book (λ clerk. clerk.base ≡ None) (λ was is none kept. kept.base ∙ ap (λ (c : ClerkView). c.base) none) old new new_clerks keep; nobody = none; thread = no_thread new ended may_stop }

-- so their notes are of the network that they roamed
pub all_noted : (book : Book) (old new : List ClerkView) → All (λ clerk. clerk ≡ fresh) old → AllKeepNotes book old new → All (IsOfBook book) new
all_noted book =
    all_kept book (IsOfBook book)
    (λ old new is keeps. ⊎_elim (λ (same : new.note ≡ old.note). rw (same, is) tt) (λ (has : HasNoteOf book new). of_book book new has) keeps.note)

-- ---- beside scripts

-- their turns are on beginnings of each log that begins with what their notes show
on_log : (setting : Setting) (turns : ℕ) (log : List Entry) (clerks : List ClerkView) (fault : Option CallFault) → All (λ clerk. IsPrefix (noted clerk.note) log) clerks → AllRoamedOnNotes setting turns clerks fault → AllRoamed setting log turns clerks fault
on_log setting turns log [] fault begin ends = ends
on_log setting turns log (clerk ∷ clerks) fault begin (own, others, first, ended, ends) =
    let Begins = λ (c : ClerkView). IsPrefix (noted c.note) log in
    (own, others, first, end_on setting (noted clerk.note) log (All-head Begins clerk clerks begin) turns fresh clerk own ended, on_log setting turns log clerks others (All-tail Begins clerk clerks begin) ends)

pub told_beside : (setting : Setting) (scripts : List (List ScriptLine)) (roamers turns : ℕ) (own before roaming : List ClerkView) (met fault : Option CallFault) (ended : Result Unit RoamFault)
    → PlayedOn setting scripts own met → RoamResultOfNew setting turns before roaming ended → length before ≡ roamers → fault ≡ option_or met (roam_call_fault ended) → ToldOn setting scripts roamers turns (own ++ roaming) fault
told_beside setting scripts roamers turns own before roaming met fault ended played roamed size first = record {
  each = λ log begin. record {
    own = own;
    roaming = roaming;
    met = met;
    other = roam_call_fault ended;
    all = refl;
    played = played.each log (all_left (λ clerk. IsPrefix (noted clerk.note) log) own roaming begin);
    as_many = roamed.as_many ∙ size;
    roamed = roamed.steps;
    unbased = roamed.unbased;
    first = first;
    nobody = λ none. ap (λ (e : Result Unit RoamFault). roam_call_fault e) (roamed.nobody.1 (nil_from_length before (size ∙ none)));
    ended = on_log setting turns log roaming (roam_call_fault ended) (all_right (λ clerk. IsPrefix (noted clerk.note) log) own roaming begin) roamed.ends;
  };
}
