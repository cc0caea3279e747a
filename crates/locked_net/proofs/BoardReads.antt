-- A look at a board, and the log that the board shows.
use Rattle.locked_net.proofs.Prelude.{◌≡◌, ℕ, ◌+◌, ◌<◌, ◌≤◌, Bool, true, false, IsTrue, List, [], ◌∷◌, ◌++◌, length, fold, Option, None, Some, IfSome, refl, sym, ap, ◌∙◌, subst, arith, length-append, slice_get, nat_tests, get_or_append_left, slice_get-get_or, slice_get_within, get_or_from_slice_get, present, State, pointer, RuleTable, Base, dropped, Entry, Row, BoardShape, pointer_in, partner_in, row_effect, here_by, row_at_start, pointers_after, here_after, IsRun, found_in, found_after, BoardName, ReaderView, PublishedLog, run_names, run_pointers, start_row, start_here, start_size, row_places, effect_length, Receipt, ClerkView, noted, IsClerk, IsReceiptOf, NotesLast, StandsLastFrom, StandsLast, Shows}
use mathlib.Core.List.{IsPrefix}

-- ---- the places

row_length : (row : Row) (log : List Entry) → length (fold row_effect row log) ≡ length row
row_length row [] = refl
row_length row (entry ∷ log) = row_length (row_effect row entry) log ∙ effect_length row entry

places_are : (extent : BoardShape) (log : List Entry) → length (pointers_after extent log) ≡ extent.places
places_are extent log = row_length (row_at_start extent) log ∙ row_places extent

-- ---- the run

-- a state with these pointers and nodes
pub record IsEnd (row : Row) (there : List Bool) (places : ℕ) (s : State) : Type 0 where
  pub pointers : s.registers.pointers ≡ row
  pub here : s.network.here ≡ there
  pub size : s.network.size + 1 ≡ places

-- the log is a run, whose end has those of the log
pub shows : (t : RuleTable) (extent : BoardShape) (log : List Entry) (P : State → Type 0) → IsRun t extent log → ((s : State) → IsEnd (pointers_after extent log) (here_after extent log) extent.places s → P s) → Shows t extent log P
shows t extent log P (size, start, end, is, begins, run) f =
    let ends : IsEnd (pointers_after extent log) (here_after extent log) extent.places end.state = record {
      pointers = run_pointers t start log end run ∙ ap (λ row. fold row_effect row log) (start_row t size extent start is begins);
      here = ap (λ n. n.1) (run_names t start log end run) ∙ ap (λ here. fold here_by here log) (start_here t size extent start is begins);
      size = ap (λ n. n.0 + 1) (run_names t start log end run) ∙ ap (λ n. n + 1) (start_size t size extent.present extent.base start begins) ∙ sym is;
    } in
    (size, start, end, is, begins, run, f end.state ends)

-- ---- a look

-- a look at a place of a log that is a run found this
pub record IsLooked (t : RuleTable) (extent : BoardShape) (place : ℕ) (log : List Entry) (found : Option (Option ℕ × Option ℕ)) : Type 0 where
  pub run : IsRun t extent log
  pub is : found ≡ found_after extent log place

-- the same of a reader's look, if the board's reader inside looked
pub looked : (t : RuleTable) (inside reader : ReaderView) (name : BoardName) (at place : ℕ) (log : List Entry) (found : Option (Option ℕ × Option ℕ)) → inside ≡ reader → name ≡ inside.name → at ≡ place
    → IsRun t name.extent log → found ≡ found_after name.extent log at → IsLooked t reader.name.extent place log found
looked t inside reader name at place log found same kept placed run is =
    let named : name ≡ reader.name = kept ∙ ap (λ (r : ReaderView). r.name) same in
    record {
      run = subst (λ (n : BoardName). IsRun t n.extent log) named run;
      is = subst (λ v. found ≡ found_after reader.name.extent log v) placed (subst (λ (n : BoardName). found ≡ found_after n.extent log at) named is);
    }

gone : (row : Row) (there : List Bool) (places place : ℕ) (s : State) → IsEnd row there places s → length row ≡ places → found_in row there place ≡ None → present s.network place ≡ false
gone row there places place s end len none = grind (arith, nat_tests)

-- nothing is found only if no node has the name
pub absent : (t : RuleTable) (extent : BoardShape) (place : ℕ) (log : List Entry) (found : Option (Option ℕ × Option ℕ)) → IsLooked t extent place log found → ((here : Option ℕ × Option ℕ) → found ≡ Some here → ⊥)
    → Shows t extent log (λ s. present s.network place ≡ false)
absent t extent place log (Some here) look none = absurd (none here refl)
absent t extent place log None look none =
    shows t extent log (λ s. present s.network place ≡ false) look.run (λ s end. gone (pointers_after extent log) (here_after extent log) extent.places place s end (places_are extent log) (sym look.is))

-- what is found at a place is what a state has there
pub record IsFound (s : State) (place : ℕ) (found : Option ℕ × Option ℕ) : Type 0 where
  pub present_is : IsTrue (present s.network place)
  pub pointer_is : found.0 ≡ pointer s place
  pub partner_is : found.1 ≡ partner_in s.registers.pointers place

found_there : (row : Row) (there : List Bool) (places place : ℕ) (s : State) (found : Option ℕ × Option ℕ) → IsEnd row there places s → length row ≡ places → 1 ≤ place → found_in row there place ≡ Some found → IsFound s place found
found_there row there places place s found end len low some =
    record { present_is = grind (arith, nat_tests); pointer_is = grind (arith, nat_tests); partner_is = grind (arith, nat_tests) }

-- what follows from what a reader finds, if the board's reader inside looked
pub shown_by : (t : RuleTable) (inside reader : ReaderView) (name : BoardName) (at place : ℕ) (log : List Entry) (found : Option (Option ℕ × Option ℕ)) (held : Option ℕ × Option ℕ) (P : State → Type 0) → inside ≡ reader → name ≡ inside.name → at ≡ place
    → 1 ≤ at → IsRun t name.extent log → found ≡ found_after name.extent log at → found ≡ Some held → ((s : State) → IsFound s place held → P s) → Shows t reader.name.extent log P
shown_by t inside reader name at place log found held P same kept placed low run is some then =
    let extent = reader.name.extent in
    let look = looked t inside reader name at place log found same kept placed run is in
    shows t extent log P look.run
    (λ s end. then s (found_there (pointers_after extent log) (here_after extent log) extent.places place s held end (places_are extent log) (omega (arith, low, placed)) (sym look.is ∙ some)))

-- ---- a longer log

entry_stays : (some all : List Entry) (n : ℕ) (entry : Entry) → IsPrefix some all → slice_get some n ≡ Some entry → slice_get all n ≡ Some entry
entry_stays some all n entry p at =
    let within : n < length some = slice_get_within some n entry at in
    let here = slice_get-get_or (some ++ p.0) n entry (omega (arith, within, length-append some p.0)) in
    let same = get_or_append_left some p.0 entry n within ∙ get_or_from_slice_get some n entry entry at in
    subst (λ (l : List Entry). slice_get l n ≡ Some entry) p.1 (here ∙ ap Some same)

receipt_stays : (start : ℕ) (some all : List Entry) (receipt : Receipt) → IsPrefix some all → IsReceiptOf start some receipt → IsReceiptOf start all receipt
receipt_stays start some all receipt p is = record { numbered = is.numbered; same = entry_stays some all _ _ p is.same }

stays_from : (start : ℕ) (some all : List Entry) (first : Receipt) (receipts : List Receipt) → IsPrefix some all → StandsLastFrom start some first receipts → StandsLastFrom start all first receipts
stays_from start some all first [] p is = receipt_stays start some all first p is
stays_from start some all first (next ∷ receipts) p is = stays_from start some all next receipts p is

-- the last receipt's entry is in each log that continues one with it
pub stays_last : (start : ℕ) (some all : List Entry) (receipts : List Receipt) → IsPrefix some all → StandsLast start some receipts → StandsLast start all receipts
stays_last start some all [] p is = tt
stays_last start some all (first ∷ receipts) p is = stays_from start some all first receipts p is

last_of : (receipts : List Receipt) (note : Option PublishedLog) (all : List Entry) (base : Option Base) → NotesLast receipts note → IfSome note (λ told. IsPrefix told.log all) → IfSome note (λ told. told.base ≡ base)
    → StandsLast (dropped base) all receipts
last_of receipts None all base none p same = subst (StandsLast (dropped base) all) (sym none) tt
last_of receipts (Some told) all base stands p same =
    subst (λ (b : Option Base). StandsLast (dropped b) all receipts) same (stays_last (dropped told.base) told.log all receipts p stands)

-- and in each that continues a clerk's note
pub noted_last : (clerk : ClerkView) (all : List Entry) (base : Option Base) → IsClerk clerk → IfSome clerk.note (λ told. IsPrefix told.log all) → IfSome clerk.note (λ told. told.base ≡ base)
    → StandsLast (dropped base) all clerk.receipts
noted_last clerk all base is = last_of clerk.receipts clerk.note all base is.last

noted_in : (note : Option PublishedLog) (all : List Entry) → IsPrefix (noted note) all → IfSome note (λ told. IsPrefix told.log all)
noted_in None all p = tt
noted_in (Some told) all p = p

-- a clerk stays a clerk with a note of more entries
pub sees_more : (clerk : ClerkView) (told : PublishedLog) → IsClerk clerk → IsPrefix (noted clerk.note) told.log → IfSome clerk.note (λ note. note.base ≡ told.base) → IsClerk (record { receipts = clerk.receipts; note = Some told; base = clerk.base })
sees_more clerk told is p same = record { rise = is.rise; last = noted_last clerk told.log told.base is (noted_in clerk.note told.log p) same }
