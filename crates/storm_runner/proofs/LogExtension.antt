-- What receipts say of a log holds of each log that extends it.
use Rattle.storm_runner.proofs.Prelude.{ℕ, List, [], ◌∷◌, Option, None, Some, IfSome, IsPrefix, Stream, Entry, prefix_trans, Draws, seeded_stream, drawn_step, drawn_fault, Receipt, ClerkView, front_from, front_of, Setting, CallFault, Command, Drive, Scramble, ScriptLine, Scene, IsTurn, AreTurns, DrawnFrom, IsLogBehind, IsOfStep, IsOfFault, IsFor, IsPartOf, AreScriptReceipts, IsLastCheckpoint, StandsInPart, MayEndScript}

module _ (setting : Setting) (some all : List Entry) (p : IsPrefix some all) where
  abbrev pub short : Scene
  short = record { setting = setting; log = some }

  abbrev pub long : Scene
  long = record { setting = setting; log = all }

  turn_lasts : (draws : Draws) (words : Stream) (receipt : Receipt) (left : Stream) → IsTurn short draws words receipt left → IsTurn long draws words receipt left
  turn_lasts draws words receipt left turn = record {
    log = turn.log;
    own = turn.own;
    begins = prefix_trans turn.log.entries some all turn.begins p;
    drawn = turn.drawn;
    told = turn.told;
  }

  pub turns_last : (draws : Draws) (words : Stream) (receipts : List Receipt) (left : Stream) → AreTurns short draws words receipts left → AreTurns long draws words receipts left
  turns_last draws words [] left same = same
  turns_last draws words (receipt ∷ receipts) left (next, turn, turns) =
      (next, turn_lasts draws words receipt next turn, turns_last draws next receipts left turns)

  pub drawn_lasts : (draws : Draws) (words : Stream) (P : Receipt → Type 0) (own : List Receipt) → DrawnFrom short draws words P own → DrawnFrom long draws words P own
  drawn_lasts draws words P own (kind, (left, turns)) = (kind, (left, turns_last draws words own left turns))

  abbrev behind_lasts : (front : ℕ) (own : List Receipt) → IsLogBehind short front own → IsLogBehind long front own
  behind_lasts front own at =
      record { log = at.log; is_own = at.is_own; begins = prefix_trans at.log.entries some all at.begins p; behind = at.behind }

  for_lasts : (front : ℕ) (command : Command) (own : List Receipt) → IsFor short front command own → IsFor long front command own
  for_lasts front (Drive turns) own (few, drawn, quiet) =
      (few, drawn_lasts drawn_step (seeded_stream turns.seed) IsOfStep own drawn, λ less. let there = quiet less in record { at = behind_lasts front own there.at; idle = there.idle })
  for_lasts front (Scramble turns) own (few, drawn, empty) =
      (few, drawn_lasts drawn_fault (seeded_stream turns.seed) IsOfFault own drawn, λ less. let there = empty less in record { at = behind_lasts front own there.at; idle = there.idle })
  for_lasts front command own is = is

  part_lasts : (command : Command) (own : List Receipt) → IsPartOf short command own → IsPartOf long command own
  part_lasts (Drive turns) own (few, drawn) = (few, drawn_lasts drawn_step (seeded_stream turns.seed) IsOfStep own drawn)
  part_lasts (Scramble turns) own (few, drawn) = (few, drawn_lasts drawn_fault (seeded_stream turns.seed) IsOfFault own drawn)
  part_lasts command own is = is

  pub stands_last : (front : ℕ) (lines : List ScriptLine) (receipts : List Receipt) → AreScriptReceipts short front lines receipts → AreScriptReceipts long front lines receipts
  stands_last front [] receipts none = none
  stands_last front (line ∷ lines) receipts (own, rest, is, for, others) =
      (own, rest, is, for_lasts front line.command own for, stands_last (front_from front own) lines rest others)

  placed_lasts : (lines : List ScriptLine) (receipts : List Receipt) (number : ℕ) → IsLastCheckpoint short lines receipts number → IsLastCheckpoint long lines receipts number
  placed_lasts lines receipts number is = record {
    before = is.before;
    line = is.line;
    behind = is.behind;
    done = is.done;
    rest = is.rest;
    splits = is.splits;
    made = is.made;
    last = is.last;
    told = is.told;
    earlier = stands_last 0 is.before is.done is.earlier;
    later = stands_last (front_of is.done) is.behind is.rest is.later;
    above = is.above;
    below = is.below;
  }

  pub base_lasts : (lines : List ScriptLine) (receipts : List Receipt) (base : Option ℕ) → IfSome base (IsLastCheckpoint short lines receipts) → IfSome base (IsLastCheckpoint long lines receipts)
  base_lasts lines receipts None is = tt
  base_lasts lines receipts (Some number) is = placed_lasts lines receipts number is

  in_part_lasts : (lines : List ScriptLine) (clerk : ClerkView) → StandsInPart short lines clerk → StandsInPart long lines clerk
  in_part_lasts lines clerk part = record {
    before = part.before;
    line = part.line;
    behind = part.behind;
    done = part.done;
    part = part.part;
    splits = part.splits;
    told = part.told;
    whole = stands_last 0 part.before part.done part.whole;
    broken = part_lasts part.line.command part.part part.broken;
    based = part.based;
    placed = base_lasts part.before part.done clerk.base part.placed;
    behind_base = part.behind_base;
  }

  pub stop_lasts : (lines : List ScriptLine) (clerk : ClerkView) (fault : Option CallFault) → MayEndScript short lines clerk fault → MayEndScript long lines clerk fault
  stop_lasts lines clerk None (stands, based, placed) =
      (stands_last 0 lines clerk.receipts stands, based, base_lasts lines clerk.receipts clerk.base placed)
  stop_lasts lines clerk (Some fault) part = in_part_lasts lines clerk part
