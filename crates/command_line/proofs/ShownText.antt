-- The end if a text is shown.
use Rattle.std.proofs.Common.{ℕ, List, Option, None, Some, IfSome, Result, Ok, Err, OnErr, IfOk, inl, inr}
use Rattle.script_run.specs.declared.fault.RunFault.TheVariants as run
use Rattle.command_line.specs.WriterStates.{WriterState}
use Rattle.command_line.specs.ViewEnds.{WrittenBytes, ShowsSome, ShowsText, TellsEarly}

-- it is shown, if there was memory for it
pub some_shown : {V E : Type 0} (bytes : V → List ℕ) (made : Result V E) (old new before : WrittenBytes) (after : WriterState) (status : ℕ)
    → IfOk made (λ v. ShowsText (bytes v) 0 old new before after status) → OnErr made (TellsEarly run.Memory old new before after status)
    → ShowsSome old new before after status
some_shown bytes (Ok v) old new before after status shown memory = inl (bytes v, shown)
some_shown bytes (Err want) old new before after status shown memory = inr memory

-- what holds whatever is read
pub for_all : (a : Option (List ℕ)) (P : List ℕ → Type 0) → ((input : List ℕ) → P input) → IfSome a P
for_all None P all = tt
for_all (Some input) P all = all input
