-- How a line ends, by how its command does.
use Rattle.script_run.proofs.Prelude.{◌≡◌, ℕ, List, [], Option, Result, Ok, Err, inl, inr, refl, sym, subst, arith, Stream, Event, RuleTable, Command, Tell, Drive, Scramble, seeded_stream, drawn_step, drawn_fault, FailsToRead, SaysSome, CommandEnds, Progress, RecordFault, LogFull, Memory, LineError, Record, RunFault, fault_of, with_text, StepEnds, TurnsWrite, CommandEndsAtOnce, CommandWrites, LineWrites, SplitsOutput}
use Rattle.run_session.specs.declared.line_error.LineError.TheVariants.{BadLine}
use Rattle.script_text.specs.declared.command.Turns.{Turns}
use Rattle.script_run.specs.declared.fault.RunFault.TheVariants as fault
use Rattle.script_run.proofs.RestOfLine.{line_does}
use Rattle.script_run.proofs.RunEnds.{Hands-none}

module _ (t : RuleTable) (limit : ℕ) where
  -- ---- commands whose text is not written before they end

  pub ended_at_once : (c : Command) (before after : Progress) (result : Result Unit RecordFault) → CommandEnds t limit c before after result → CommandEndsAtOnce t limit c before after result
  ended_at_once c before after (Ok done) ends = ends
  ended_at_once c before after (Err LogFull) ends = ends
  ended_at_once c before after (Err Memory) begun = (after, begun, refl)

  stepped_so : (event : Event) (before after : Progress) (result : Result Unit RecordFault) → StepEnds t limit event before after result → CommandEndsAtOnce t limit (Tell event) before after result
  stepped_so event before after (Ok done) ends = ends
  stepped_so event before after (Err LogFull) (full, same) = (omega (arith, full), same)
  stepped_so event before after (Err Memory) same = (before, refl, same)

  pub stepped_at_once : (c : Command) (event : Event) (before after : Progress) (result : Result Unit RecordFault) → StepEnds t limit event before after result → c ≡ Tell event → CommandEndsAtOnce t limit c before after result
  stepped_at_once c event before after result ends is =
      subst (λ command. CommandEndsAtOnce t limit command before after result) (sym is) (stepped_so event before after result ends)

  pub done_at_once : {done ended : Unit} (c : Command) (before after : Progress) (had : Option (List ℕ)) (some : Result Unit RecordFault) → CommandEndsAtOnce t limit c before after some → some ≡ Ok done → CommandWrites t limit c before after had had (Ok ended)
  done_at_once c before after had some ends was =
      (after.text, subst (CommandEndsAtOnce t limit c before after) was ends, Hands-none had after.text)

  failed_so : (c : Command) (before after : Progress) (had : Option (List ℕ)) (why : RecordFault) → CommandEndsAtOnce t limit c before after (Err why) → CommandWrites t limit c before after had had (Err (fault_of (Record why)))
  failed_so c before after had LogFull fills = (after.text, fills, Hands-none had after.text)
  failed_so c before after had Memory (end, begun, same) =
      (end, begun, subst (λ l. SplitsOutput had had l after.text) same (Hands-none had after.text))

  pub failed_at_once : (c : Command) (before after : Progress) (had : Option (List ℕ)) (why : RecordFault) (some : Result Unit RecordFault) (result : Result Unit RunFault) → CommandEndsAtOnce t limit c before after some → some ≡ Err why → result ≡ Err (fault_of (Record why)) → CommandWrites t limit c before after had had result
  failed_at_once c before after had why some result ends was is =
      subst (CommandWrites t limit c before after had had) (sym is) (failed_so c before after had why (subst (CommandEndsAtOnce t limit c before after) was ends))

  -- ---- turns

  driven : (turns : Turns) (before after : Progress) (had has : Option (List ℕ)) (result : Result Unit RunFault) → TurnsWrite drawn_step t limit turns.count (seeded_stream turns.seed) before after had has result → CommandWrites t limit (Drive turns) before after had has result
  driven turns before after had has (Ok done) ends = ends
  driven turns before after had has (Err fault.LogFull) ends = ends
  driven turns before after had has (Err fault.Memory) (text, begun, handed) = (with_text after text, begun, handed)
  driven turns before after had has (Err fault.Write) ends = ends
  driven turns before after had has (Err other) never = absurd never

  scrambled : (turns : Turns) (before after : Progress) (had has : Option (List ℕ)) (result : Result Unit RunFault) → TurnsWrite drawn_fault t limit turns.count (seeded_stream turns.seed) before after had has result → CommandWrites t limit (Scramble turns) before after had has result
  scrambled turns before after had has (Ok done) ends = ends
  scrambled turns before after had has (Err fault.LogFull) ends = ends
  scrambled turns before after had has (Err fault.Memory) (text, begun, handed) = (with_text after text, begun, handed)
  scrambled turns before after had has (Err fault.Write) ends = ends
  scrambled turns before after had has (Err other) never = absurd never

  module _ (turns : Turns) (c : Command) (stream : Stream) (before after : Progress) (had has : Option (List ℕ)) (result : Result Unit RunFault) (seeded : stream ≡ seeded_stream turns.seed) where
    pub drive_writes : c ≡ Drive turns → TurnsWrite drawn_step t limit turns.count stream before after had has result → CommandWrites t limit c before after had has result
    drive_writes is ends =
        subst (λ command. CommandWrites t limit command before after had has result) (sym is)
        (driven turns before after had has result (subst (λ s. TurnsWrite drawn_step t limit turns.count s before after had has result) seeded ends))

    pub scramble_writes : c ≡ Scramble turns → TurnsWrite drawn_fault t limit turns.count stream before after had has result → CommandWrites t limit c before after had has result
    scramble_writes is ends =
        subst (λ command. CommandWrites t limit command before after had has result) (sym is)
        (scrambled turns before after had has result (subst (λ s. TurnsWrite drawn_fault t limit turns.count s before after had has result) seeded ends))

  -- ---- lines

  read_so : (number : ℕ) (line : List ℕ) (before : Progress) (had : Option (List ℕ)) (error : LineError) → FailsToRead number line error → LineWrites t limit number line before before had had (Err (fault_of error))
  read_so number line before had (BadLine n) (same, bad) = (same, bad, (before.text, refl, Hands-none had before.text))
  read_so number line before had (Record LogFull) never = absurd never
  read_so number line before had (Record Memory) fails = (before, inl refl, Hands-none had before.text)

  pub line_unread : (number : ℕ) (line : List ℕ) (before : Progress) (had : Option (List ℕ)) (error : LineError) (result : Result Unit RunFault) → FailsToRead number line error → result ≡ Err (fault_of error) → LineWrites t limit number line before before had had result
  line_unread number line before had error result fails is =
      subst (LineWrites t limit number line before before had had) (sym is) (read_so number line before had error fails)

  pub line_unkept : (number : ℕ) (line : List ℕ) (before : Progress) (had : Option (List ℕ)) (result : Result Unit RunFault) → result ≡ Err fault.Memory → LineWrites t limit number line before before had had result
  line_unkept number line before had result is =
      subst (LineWrites t limit number line before before had had) (sym is) (before, inl refl, Hands-none had before.text)

  pub line_empty : {done : Unit} (number : ℕ) (line : List ℕ) (before : Progress) (had : Option (List ℕ)) → line ≡ [] → LineWrites t limit number line before before had had (Ok done)
  line_empty number line before had none =
      rw none (before.text, refl, Hands-none had before.text)

  followed_so : (number : ℕ) (line : List ℕ) (c : Command) (before after : Progress) (had has : Option (List ℕ)) (result : Result Unit RunFault) → SaysSome line c → CommandWrites t limit c before after had has result → LineWrites t limit number line before after had has result
  followed_so number line c before after had has (Ok done) (some, says) (text, does, handed) =
      (text, line_does t limit line c before (with_text after text) some says does, handed)
  followed_so number line c before after had has (Err fault.LogFull) (some, says) (text, fills, handed) =
      (text, (c, says, fills), handed)
  followed_so number line c before after had has (Err fault.Memory) some (end, begun, handed) = (end, inr (c, some, begun), handed)
  followed_so number line c before after had has (Err fault.Write) some (end, begun, part) = (end, inr (c, some, begun), part)
  followed_so number line c before after had has (Err other) some never = absurd never

  pub line_followed : (number : ℕ) (line : List ℕ) (c : Command) (before after : Progress) (had has : Option (List ℕ)) (followed result : Result Unit RunFault) → SaysSome line c → CommandWrites t limit c before after had has followed → followed ≡ result → LineWrites t limit number line before after had has result
  line_followed number line c before after had has followed result some ends was =
      followed_so number line c before after had has result some (subst (CommandWrites t limit c before after had has) was ends)
