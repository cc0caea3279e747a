-- Lines of a script keep what is written a transcript.
use Rattle.std.proofs.Common.{◌≡◌, ℕ, zero, suc, ◌+◌, ◌<◌, ◌≤◌, inl, inr, List, [], ◌∷◌, ◌++◌, Option, None, Some, IfSome, Result, Ok, Err, refl, sym, ap, subst, ◌∙◌, append_assoc, arith}
use Rattle.rand_core.specs.Stream.{Stream}
use Rattle.rule_machine.specs.declared.event.Event.{Event}
use Rattle.rule_machine.specs.declared.rule_set.RuleSet.{RuleSet}
use Rattle.rule_machine.specs.Base.{BasePart, EntryPart, base_of}
use Rattle.rule_machine.specs.Least.{reply_of}
use Rattle.rule_machine.specs.Run.{moment_after}
use Rattle.rule_machine.specs.Tables.{table_of}
use Rattle.line_text.specs.BaseText.{base_text}
use Rattle.line_text.specs.EntryText.{entry_line}
use Rattle.line_text.specs.EventText.{IsEvent}
use Rattle.entry_grammar.specs.Spelling.{max_entries}
use Rattle.script_text.specs.declared.command.Command.{Command}
use Rattle.script_text.specs.declared.command.Command.TheVariants.{Tell, Drive, Scramble, Checkpoint}
use Rattle.script_text.specs.Command.{IsCommand}
use Rattle.script_text.specs.Script.{Progress, AppendsEntry, CommandDoes, CommandFills, LineDoes, LinesDo, TurnDoes, TurnFills, TurnsDo, TurnsFill, with_checkpoint}
use Rattle.step_log.specs.declared.fault.RecordFault.{RecordFault}
use Rattle.step_log.specs.declared.fault.RecordFault.TheVariants.{LogFull, Memory}
use Rattle.run_session.specs.declared.line_error.LineError.{LineError}
use Rattle.run_session.specs.declared.line_error.LineError.TheVariants.{BadLine, Record}
use Rattle.run_session.specs.Line.{CommandBegins, CommandEnds, LineEnds}
use Rattle.seeded_turns.specs.DrawnEvents.{Draws, drawn_fault, drawn_step, seeded_stream}
use Rattle.auditor.specs.Parts.{Opening}
use Rattle.auditor.specs.Transcript.{IsTranscript}
use Rattle.transcript_laws.specs.Written.{IsWrittenAfter, IsWrittenBehind, LinesReachEnd, moment_of}
use Rattle.transcript_laws.proofs.Values.{DrawEvents, faults_are_events, steps_are_events}
use Rattle.transcript_laws.proofs.Growth.{base_added, entry_added, size_few}

same_progress : (p q : Progress) → p.rules ≡ q.rules → p.moment ≡ q.moment → p.count ≡ q.count → p.text ≡ q.text → p.counting ≡ q.counting → p ≡ q
same_progress p q a b c d e = λ i. record { rules = a i; moment = b i; count = c i; text = d i; counting = e i }

-- what is appended to a text is appended to its second part
longer : (text ended own more : List ℕ) → text ≡ ended ++ own → text ++ more ≡ ended ++ (own ++ more)
longer text ended own more split = ap (λ (l : List ℕ). l ++ more) split ∙ append_assoc ended own more

module _ (ended first : List ℕ) (o : Opening) (rules : RuleSet) (limit : ℕ) (few : limit ≤ max_entries) where
  -- written by these rules
  abbrev Well : Progress → Type 0
  Well p = (p.rules ≡ rules) × IsWrittenAfter ended first o p

  named : (p : Progress) → Well p → p.moment.state.network.size ≤ 65535
  named p (same, (own, split, (log, is))) = size_few (first ++ own) p.rules o log (moment_of p) is

  appended : (event : Event) (before after : Progress) → IsEvent event → before.count < limit → AppendsEntry (table_of rules) event before after → Well before → Well after
  appended event before after fits room does (same, (own, split, (log, is))) =
      let t = table_of before.rules in
      let reply = reply_of t before.moment.state before.moment.spent event in
      let line = entry_line (before.count + 1) event reply in
      let next : Progress = record { rules = before.rules; moment = moment_after t before.moment event; count = before.count + 1; text = before.text ++ line; counting = after.counting } in
      let more = entry_added (first ++ own) before.rules o log (moment_of before) is event fits (omega (arith, few, room)) in
      let whole : IsTranscript (first ++ (own ++ line)) next.rules o (log ++ EntryPart (event, reply) ∷ []) (moment_of next) = subst (λ (l : List ℕ). IsTranscript l before.rules o (log ++ EntryPart (event, reply) ∷ []) (moment_of next)) (append_assoc first own line) more in
      let moments : after.moment ≡ next.moment = does.moment ∙ ap (λ (r : RuleSet). moment_after (table_of r) before.moment event) (sym same) in
      let texts : after.text ≡ next.text = does.text ∙ ap (λ (r : RuleSet). before.text ++ entry_line (before.count + 1) event (reply_of (table_of r) before.moment.state before.moment.spent event)) (sym same) in
      let lands = same_progress after next does.rules moments does.count texts refl in
      (does.rules ∙ same, subst (IsWrittenAfter ended first o) (sym lands) (own ++ line, longer before.text ended own line split, (log ++ EntryPart (event, reply) ∷ [], whole)))

  pub based : (before : Progress) → Well before → Well (with_checkpoint before)
  based before (same, (own, split, (log, is))) =
      let base = base_of before.count before.moment in
      let text = base_text before.rules before.moment.state.network.size base in
      (same, (own ++ text, longer before.text ended own text split, (log ++ BasePart base ∷ [], subst (λ (l : List ℕ). IsTranscript l before.rules o (log ++ BasePart base ∷ []) (moment_of before)) (append_assoc first own text) (base_added (first ++ own) before.rules o log (moment_of before) is))))

  stays : (before after : Progress) → after ≡ before → Well before → Well after
  stays before after is well = subst Well (sym is) well

  -- ---- turns

  turn : (drawn : Option Event) (Others : Progress → Type 0) (before after : Progress) → IfSome drawn IsEvent → before.count < limit → ((next : Progress) → Well next → Others next → Well after) → TurnDoes (table_of rules) drawn Others before after → Well before → Well after
  turn None Others before after fits room others does well = stays before after does well
  turn (Some event) Others before after fits room others (next, appends, rest) well =
      others next (appended event before next fits room appends well) rest

  turns : (draws : Draws) → DrawEvents draws (table_of rules) → (n : ℕ) (stream : Stream) (before after : Progress) → TurnsDo draws (table_of rules) limit n stream before after → Well before → Well after
  turns draws events zero stream before after does well = stays before after does well
  turns draws events (suc n) stream before after (room, does) well =
      let t = table_of rules in
      let behind = (draws t before.moment.state stream).1 in
      turn (draws t before.moment.state stream).0 (λ next. TurnsDo draws t limit n behind next after) before after (events before.moment.state (named before well) stream) room
      (λ next is rest. turns draws events n behind next after rest is) does well

  turn_filled : (drawn : Option Event) (Others : Progress → Type 0) (before after : Progress) → IfSome drawn IsEvent → before.count < limit → ((next : Progress) → Well next → Others next → Well after) → TurnFills (table_of rules) drawn Others before → Well before → Well after
  turn_filled None Others before after fits room others does well = absurd does
  turn_filled (Some event) Others before after fits room others (next, appends, rest) well =
      others next (appended event before next fits room appends well) rest

  turns_filled : (draws : Draws) → DrawEvents draws (table_of rules) → (n : ℕ) (stream : Stream) (before after : Progress) → TurnsFill draws (table_of rules) limit n stream before after → Well before → Well after
  turns_filled draws events zero stream before after does well = absurd does
  turns_filled draws events (suc n) stream before after (inl full) well = stays before after full.1 well
  turns_filled draws events (suc n) stream before after (inr (room, does)) well =
      let t = table_of rules in
      let behind = (draws t before.moment.state stream).1 in
      turn_filled (draws t before.moment.state stream).0 (λ next. TurnsFill draws t limit n behind next after) before after (events before.moment.state (named before well) stream) room
      (λ next is rest. turns_filled draws events n behind next after rest is) does well

  -- ---- commands and lines

  command : (c : Command) (before after : Progress) → IsCommand c → CommandDoes (table_of rules) limit c before after → Well before → Well after
  command (Tell event) before after fits does well = appended event before after fits does.0 does.1 well
  command (Drive n) before after fits does well =
      turns drawn_step (steps_are_events (table_of rules)) n.count (seeded_stream n.seed) before after does well
  command (Scramble n) before after fits does well =
      turns drawn_fault (faults_are_events (table_of rules)) n.count (seeded_stream n.seed) before after does well
  command Checkpoint before after fits does well = stays (with_checkpoint before) after does (based before well)

  filled : (c : Command) (before after : Progress) → CommandFills (table_of rules) limit c before after → Well before → Well after
  filled (Tell event) before after does well = stays before after does.1 well
  filled (Drive n) before after does well =
      turns_filled drawn_step (steps_are_events (table_of rules)) n.count (seeded_stream n.seed) before after does well
  filled (Scramble n) before after does well =
      turns_filled drawn_fault (faults_are_events (table_of rules)) n.count (seeded_stream n.seed) before after does well
  filled Checkpoint before after does well = absurd does

  one_line : (line : List ℕ) (before after : Progress) → LineDoes (table_of rules) limit line before after → Well before → Well after
  one_line [] before after does well = stays before after does well
  one_line (b ∷ line) before after (c, says, does) well = command c before after says.0 does well

  -- ---- however a line or a command ends

  begun : (c : Command) (before after : Progress) → CommandBegins (table_of rules) limit c before after → Well before → Well after
  begun (Tell event) before after does well = stays before after does well
  begun (Drive n) before after (taken, within, does) well =
      turns drawn_step (steps_are_events (table_of rules)) taken (seeded_stream n.seed) before after does well
  begun (Scramble n) before after (taken, within, does) well =
      turns drawn_fault (faults_are_events (table_of rules)) taken (seeded_stream n.seed) before after does well
  begun Checkpoint before after does well = stays before after does well

  pub command_ended : (c : Command) (before after : Progress) (result : Result Unit RecordFault) → IsCommand c → CommandEnds (table_of rules) limit c before after result → Well before → Well after
  command_ended c before after (Ok done) fits does well = command c before after fits does well
  command_ended c before after (Err LogFull) fits does well = filled c before after does well
  command_ended c before after (Err Memory) fits does well = begun c before after does well

  pub line_ended : (number : ℕ) (line : List ℕ) (before after : Progress) (result : Result Unit LineError) → LineEnds (table_of rules) limit number line before after result → Well before → Well after
  line_ended number line before after (Ok done) does well = one_line line before after does well
  line_ended number line before after (Err (BadLine n)) does well = stays before after does.2 well
  line_ended number line before after (Err (Record LogFull)) (c, says, fills) well = filled c before after fills well
  line_ended number line before after (Err (Record Memory)) (inl same) well = stays before after same well
  line_ended number line before after (Err (Record Memory)) (inr (c, says, begins)) well = begun c before after begins well

  all_lines : (lines : List (List ℕ)) (before after : Progress) → LinesDo (table_of rules) limit lines before after → Well before → Well after
  all_lines [] before after does well = stays before after does well
  all_lines (line ∷ lines) before after (next, does, rest) well =
      all_lines lines next after rest (one_line line before next does well)

  pub reached : (lines : List (List ℕ)) (start end : Progress) → start.rules ≡ rules → IsWrittenAfter ended first o start → LinesReachEnd (table_of rules) limit lines start end → Well end
  reached lines start end same written (inl does) = all_lines lines start end does (same, written)
  reached lines start end same written (inr (line, before, does, (c, says, fills))) =
      filled c before end fills (all_lines lines start before does (same, written))

-- ---- without earlier transcripts

-- nothing comes before the text
pub from_start : (first : List ℕ) (o : Opening) (p : Progress) → IsWrittenBehind first o p → IsWrittenAfter [] first o p
from_start first o p is = (p.text, refl, is)

pub to_start : (first : List ℕ) (o : Opening) (p : Progress) → IsWrittenAfter [] first o p → IsWrittenBehind first o p
to_start first o p (own, split, (log, is)) = (log, subst (λ (l : List ℕ). IsTranscript (first ++ l) p.rules o log (moment_of p)) (sym split) is)
