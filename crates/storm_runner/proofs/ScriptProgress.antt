-- How far the lines of a script have been played.
use Rattle.storm_runner.proofs.Prelude.{◌≡◌, ◌∙◌, ℕ, ◌+◌, ◌<◌, ◌≤◌, List, [], ◌∷◌, ◌++◌, length, take, drop, get_or, Bool, true, false, ◌||◌, Option, None, Some, IfSome, Result, Ok, Err, refl, sym, ap, ap₂, subst, append_assoc, append-nil, arith, take-append-drop, is_some, IsErr, take_more, list_any_more, list_any-append, All-nil, All-append, or-false, false≢true, result_err, Receipt, ClerkView, front_from, front_of, seen_by, greater_base, Setting, CallFault, Command, Checkpoint, ScriptLine, IsFor, IsPartOf, AreScriptReceipts, AreAbove, IsLastCheckpoint, StandsInPart, MayEndScript, is_checkpoint, has_checkpoint, Scene, AddsReceipts, IsBased}
use Rattle.storm_runner.proofs.TurnAddition.{front_behind}

-- the receipts of one line more
pub stands_more : (scene : Scene) (front : ℕ) (lines : List ScriptLine) (line : ScriptLine) (receipts own : List Receipt) → AreScriptReceipts scene front lines receipts → IsFor scene (front_from front receipts) line.command own → AreScriptReceipts scene front (lines ++ line ∷ []) (receipts ++ own)
stands_more scene front [] line receipts own none for =
    (own, [], ap (λ rs. rs ++ own) none ∙ sym (append-nil own), subst (λ n. IsFor scene n line.command own) (ap (front_from front) none) for, refl)
stands_more scene front (first ∷ lines) line receipts own (told, rest, is, for_first, others) for =
    let low : front_from front receipts ≡ front_from (front_from front told) rest = ap (front_from front) is ∙ front_behind front told rest in (
      told,
      rest ++ own,
      ap (λ rs. rs ++ own) is ∙ append_assoc told rest own,
      for_first,
      stands_more scene (front_from front told) lines line rest own others (subst (λ n. IsFor scene n line.command own) low for),
    )

-- the line at an index, after those before it
next_line : (lines : List ScriptLine) (k : ℕ) (line : ScriptLine) → k < length lines → line ≡ get_or lines k line → take (k + 1) lines ≡ take k lines ++ line ∷ []
next_line lines k line below is = take_more lines k line below ∙ ap (λ (l : ScriptLine). take k lines ++ l ∷ []) (sym is)

-- the lines before an index were played, and the line there was carried out
pub stands_next : (scene : Scene) (base : Option ℕ) (lines : List ScriptLine) (k : ℕ) (line : ScriptLine) (old new : List Receipt) → k < length lines → line ≡ get_or lines k line → AreScriptReceipts scene 0 (take k lines) old → AddsReceipts (λ own. IsFor scene (front_of old) line.command own × AreAbove base own) old new → AreScriptReceipts scene 0 (take (k + 1) lines) new
stands_next scene base lines k line old new below is stands adds =
    subst (λ ls. AreScriptReceipts scene 0 ls new) (sym (next_line lines k line below is)) (subst (AreScriptReceipts scene 0 (take k lines ++ line ∷ [])) (sym adds.added) (stands_more scene 0 (take k lines) line old adds.own stands adds.fits.0))

-- a clerk has a base after a command if it had one before, or if the command is a checkpoint
based_more : (setting : Setting) (command : Command) (old new : ClerkView) → IsBased setting command old new → is_some new.base ≡ is_some old.base || is_checkpoint command
based_more setting command old new based = grind arith

pub based_next : (setting : Setting) (lines : List ScriptLine) (k : ℕ) (line : ScriptLine) (old new : ClerkView) → k < length lines → line ≡ get_or lines k line → is_some old.base ≡ has_checkpoint (take k lines)
    → IsBased setting line.command old new → is_some new.base ≡ has_checkpoint (take (k + 1) lines)
based_next setting lines k line old new below is so_far based =
    based_more setting line.command old new based ∙ ap (λ b. b || is_checkpoint line.command) so_far
    ∙ ap (λ (l : ScriptLine). has_checkpoint (take k lines) || is_checkpoint l.command) is ∙ sym (list_any_more (λ l. is_checkpoint l.command) lines k line below)

-- ---- where the last checkpoint was made

-- a line that is no checkpoint leaves it unchanged
placed_more : (scene : Scene) (lines : List ScriptLine) (line : ScriptLine) (receipts own : List Receipt) (number : ℕ) → is_checkpoint line.command ≡ false → IsFor scene (front_of receipts) line.command own → AreAbove (Some number) own → IsLastCheckpoint scene lines receipts number
    → IsLastCheckpoint scene (lines ++ line ∷ []) (receipts ++ own) number
placed_more scene lines line receipts own number plain for above is = record {
  before = is.before;
  line = is.line;
  behind = is.behind ++ line ∷ [];
  done = is.done;
  rest = is.rest ++ own;
  splits = ap (λ (ls : List ScriptLine). ls ++ line ∷ []) is.splits ∙ append_assoc is.before (is.line ∷ is.behind) (line ∷ []);
  made = is.made;
  last = list_any-append (λ (l : ScriptLine). is_checkpoint l.command) is.behind (line ∷ []) ∙ ap₂ (λ a b. a || (b || false)) is.last plain;
  told = ap (λ (rs : List Receipt). rs ++ own) is.told ∙ append_assoc is.done is.rest own;
  earlier = is.earlier;
  later = stands_more scene (front_of is.done) is.behind line is.rest own is.later (subst (λ n. IsFor scene n line.command own) (ap front_of is.told ∙ front_behind 0 is.done is.rest) for);
  above = is.above;
  below = All-append (λ (r : Receipt). number < r.seq) is.rest own is.below above;
}

-- so it is of a clerk that kept its base
placed_kept : (scene : Scene) (lines : List ScriptLine) (line : ScriptLine) (receipts own : List Receipt) (base now : Option ℕ) → now ≡ base → is_checkpoint line.command ≡ false → IsFor scene (front_of receipts) line.command own → AreAbove base own
    → IfSome base (IsLastCheckpoint scene lines receipts) → IfSome now (IsLastCheckpoint scene (lines ++ line ∷ []) (receipts ++ own))
placed_kept scene lines line receipts own base None same plain for above is = tt
placed_kept scene lines line receipts own base (Some number) same plain for above is =
    placed_more scene lines line receipts own number plain for (rw (← same) at above) (rw (← same) at is)

-- a checkpoint is the last, with the number that it answers
placed_here : (scene : Scene) (lines : List ScriptLine) (line : ScriptLine) (receipts own : List Receipt) (number : ℕ) → line.command ≡ Checkpoint → own ≡ [] → AreScriptReceipts scene 0 lines receipts → front_of receipts ≤ number
    → IsLastCheckpoint scene (lines ++ line ∷ []) (receipts ++ own) number
placed_here scene lines line receipts own number made none stands above = record {
  before = lines;
  line = line;
  behind = [];
  done = receipts;
  rest = own;
  splits = refl;
  made = made;
  last = refl;
  told = refl;
  earlier = stands;
  later = none;
  above = above;
  below = subst (AreAbove (Some number)) (sym none) (All-nil (λ (r : Receipt). number < r.seq));
}

of_greater : (P : ℕ → Type 0) (base : Option ℕ) (number : ℕ) → ((n : ℕ) → number ≤ n → P n) → IfSome (greater_base base (Some number)) P
of_greater P base number holds = grind arith

-- one line more
placed_by : (setting : Setting) (scene : Scene) (lines : List ScriptLine) (line : ScriptLine) (command : Command) (old new : ClerkView) (own : List Receipt) → line.command ≡ command → AreScriptReceipts scene 0 lines old.receipts → IsFor scene (front_of old.receipts) command own → AreAbove old.base own
    → IsBased setting command old new → IfSome old.base (IsLastCheckpoint scene lines old.receipts) → IfSome new.base (IsLastCheckpoint scene (lines ++ line ∷ []) (old.receipts ++ own))
placed_by setting scene lines line Checkpoint old new own e stands none above (number, holds, greater) is =
    let P = IsLastCheckpoint scene (lines ++ line ∷ []) (old.receipts ++ own) in
    let seen : seen_by old ≤ number = holds.all in
    let all : front_of old.receipts ≤ number = omega (arith, seen) in
    subst (λ (base : Option ℕ). IfSome base P) (sym greater)
    (of_greater P old.base number (λ n more. placed_here scene lines line old.receipts own n e none stands (omega (arith, all, more))))
placed_by setting scene lines line command old new own e stands for above same is =
    placed_kept scene lines line old.receipts own old.base new.base same (ap is_checkpoint e) (subst (λ (c : Command). IsFor scene (front_of old.receipts) c own) (sym e) for) above is

pub placed_next : (setting : Setting) (scene : Scene) (lines : List ScriptLine) (k : ℕ) (line : ScriptLine) (old new : ClerkView) → k < length lines → line ≡ get_or lines k line → AreScriptReceipts scene 0 (take k lines) old.receipts
    → AddsReceipts (λ own. IsFor scene (front_of old.receipts) line.command own × AreAbove old.base own) old.receipts new.receipts → IsBased setting line.command old new → IfSome old.base (IsLastCheckpoint scene (take k lines) old.receipts) → IfSome new.base (IsLastCheckpoint scene (take (k + 1) lines) new.receipts)
placed_next setting scene lines k line old new below at stands adds based is =
    subst (λ ls. IfSome new.base (IsLastCheckpoint scene ls new.receipts)) (sym (next_line lines k line below at))
    (subst (λ rs. IfSome new.base (IsLastCheckpoint scene (take k lines ++ line ∷ []) rs)) (sym adds.added)
    (placed_by setting scene (take k lines) line line.command old new adds.own refl stands adds.fits.0 adds.fits.1 based is))

-- the lines before an index were played, and the line there was broken off
pub stands_part : (scene : Scene) (lines : List ScriptLine) (k : ℕ) (line : ScriptLine) (old new : ClerkView) → k < length lines → line ≡ get_or lines k line → AreScriptReceipts scene 0 (take k lines) old.receipts
    → AddsReceipts (λ own. IsPartOf scene line.command own × AreAbove old.base own) old.receipts new.receipts → is_some old.base ≡ has_checkpoint (take k lines) → IfSome old.base (IsLastCheckpoint scene (take k lines) old.receipts) → new.base ≡ old.base
    → StandsInPart scene lines new
stands_part scene lines k line old new below is stands adds so_far placed kept = record {
  before = take k lines;
  line = line;
  behind = drop (k + 1) lines;
  done = old.receipts;
  part = adds.own;
  splits =
      sym (take-append-drop (k + 1) lines) ∙ ap (λ ls. ls ++ drop (k + 1) lines) (next_line lines k line below is)
      ∙ append_assoc (take k lines) (line ∷ []) (drop (k + 1) lines);
  told = adds.added;
  whole = stands;
  broken = adds.fits.0;
  based = ap is_some kept ∙ so_far;
  placed = subst (λ (base : Option ℕ). IfSome base (IsLastCheckpoint scene (take k lines) old.receipts)) (sym kept) placed;
  behind_base = subst (λ (base : Option ℕ). AreAbove base adds.own) (sym kept) adds.fits.1;
}

-- a fault ended the script in that part
pub stops : (scene : Scene) (lines : List ScriptLine) (clerk : ClerkView) (result : Result (Unit {0}) CallFault) → IsErr result → StandsInPart scene lines clerk → MayEndScript scene lines clerk (result_err result)
stops scene lines clerk result err part = grind arith
