-- How a storm ends, from how its parts do.
use Rattle.storm_runner.proofs.Prelude.{arith, ◌≡◌, ℕ, inl, inr, List, Option, None, Some, Result, Err, refl, IsErr, IsErrAnd, IsErrOf, sym, subst, Appends, RuleTable, RetainedLog, CallFault, Behind, LogFull, Memory, ScriptLine, StormStart, AllHold, StormFault, of_call, Leaves, LeavesText, EndsAllScripts, WritesKept, FailsToPlay, FailsToWrite}
use Rattle.std.specs.Io.KnownBytes.{Keeps}
use Rattle.storm_runner.specs.declared.fault.StormFault.TheVariants as storm

told : (result : Result Unit StormFault) (fault : StormFault) → IsErr result → IsErrAnd result (λ found. found ≡ fault) → Err fault ≡ result
told result fault is gives = grind arith

-- a writer to which nothing was written
pub keeps_all : (known : Option (List ℕ)) → Keeps known known
keeps_all None = tt
keeps_all (Some bytes) = refl

-- the fault of a call is no failed write
pub not_of_call : (P : Type 0) (fault : CallFault) (found : StormFault) → found ≡ of_call fault → IsErrOf {T = Unit} (Err found) storm.Write → P
not_of_call P fault found is same = grind arith

-- no log was left
not_left : (t : RuleTable) (weight : ℕ) (at : StormStart) (texts : List (Option (List ℕ))) (scripts : List (List ScriptLine)) (old new : Option (List ℕ)) (fault : StormFault) → AllHold texts scripts → FailsToPlay t at scripts fault → Keeps old new → EndsAllScripts t weight at texts old new (Err fault)
not_left t weight at texts scripts old new storm.Memory held fails nothing = inr nothing
not_left t weight at texts scripts old new (storm.Unsettled why) held fails nothing = (fails.0, (scripts, held, fails.1), nothing)
not_left t weight at texts scripts old new fault held fails nothing = absurd fails

pub told_not_left : (t : RuleTable) (weight : ℕ) (at : StormStart) (texts : List (Option (List ℕ))) (scripts : List (List ScriptLine)) (old new : Option (List ℕ)) (fault : StormFault) (result : Result Unit StormFault) → IsErr result → IsErrAnd result (λ found. found ≡ fault) → AllHold texts scripts → FailsToPlay t at scripts fault → Keeps old new
    → EndsAllScripts t weight at texts old new result
told_not_left t weight at texts scripts old new fault result is gives held fails nothing =
    subst (λ (r : Result Unit StormFault). EndsAllScripts t weight at texts old new r) (told result fault is gives) (not_left t weight at texts scripts old new fault held fails nothing)

module _ {t : RuleTable} {weight : ℕ} {at : StormStart} {scripts : List (List ScriptLine)} {kept : RetainedLog} (texts : List (Option (List ℕ))) (old new : Option (List ℕ)) where
  -- all was written, and the first fault that a script met is returned
  told_fault : (fault : CallFault) → AllHold texts scripts → Leaves t weight at scripts (Some fault) kept → WritesKept (Appends old new) at.asked kept
      → EndsAllScripts t weight at texts old new (Err (of_call fault))
  told_fault (Behind front seen) held leaves wrote = (front, seen, (scripts, kept, held, leaves, wrote))
  told_fault LogFull held leaves wrote = (scripts, kept, held, leaves, wrote)
  told_fault Memory held leaves wrote = inl (scripts, kept, held, leaves, wrote)

  -- or not all was written
  failed : {met : Option CallFault} (fault : StormFault) → AllHold texts scripts → Leaves t weight at scripts met kept → FailsToWrite old new at.asked kept fault
      → EndsAllScripts t weight at texts old new (Err fault)
  failed {met} storm.Write held leaves wrote = (met, (scripts, kept, held, leaves, wrote))
  failed storm.Memory held leaves nothing = inr nothing
  failed fault held leaves never = absurd never

  -- so that is returned
  pub told_failed : {met : Option CallFault} (fault : StormFault) (result : Result Unit StormFault) → IsErr result → IsErrAnd result (λ found. found ≡ fault) → AllHold texts scripts
      → Leaves t weight at scripts met kept → FailsToWrite old new at.asked kept fault → EndsAllScripts t weight at texts old new result
  told_failed fault result is gives held leaves fails =
      subst (λ (r : Result Unit StormFault). EndsAllScripts t weight at texts old new r) (told result fault is gives) (failed fault held leaves fails)

  -- all scripts were played to their ends, and all was written
  pub done_all : {met : Option CallFault} → met ≡ None → AllHold texts scripts → Leaves t weight at scripts met kept → WritesKept (Appends old new) at.asked kept
      → LeavesText t weight at texts None (Appends old new)
  done_all is held leaves wrote =
      (scripts, kept, held, subst (λ (f : Option CallFault). Leaves t weight at scripts f kept) is leaves, wrote)

  -- a script met a fault, and all was written
  pub told_met : {met : Option CallFault} (fault : CallFault) (found : StormFault) → met ≡ Some fault → found ≡ of_call fault → AllHold texts scripts → Leaves t weight at scripts met kept
      → WritesKept (Appends old new) at.asked kept → EndsAllScripts t weight at texts old new (Err found)
  told_met fault found is same held leaves wrote =
      subst (λ (f : StormFault). EndsAllScripts t weight at texts old new (Err f)) (sym same)
      (told_fault fault held (subst (λ (f : Option CallFault). Leaves t weight at scripts f kept) is leaves) wrote)
