-- The end if there is no such entry.
use Rattle.std.proofs.Common.{◌≡◌, ℕ, List, Result, Ok, Err, OnErr, IfOk, inl, inr, subst}
use Rattle.std.proofs.KnownBytes.{Keeps-refl}
use Rattle.script_run.specs.declared.fault.RunFault.TheVariants as run
use Rattle.command_line.specs.FaultText.{run_fault_line}
use Rattle.command_line.specs.WriterStates.{WriterState, WritesLine}
use Rattle.command_line.specs.ViewEnds.{WrittenBytes, TellsMissing}

-- it is reported in a line, unless memory ran out for it
pub missed : {V E : Type 0} (items : V → List ℕ) (line : Result V E) (text : List ℕ) (old before : WrittenBytes) (after : WriterState) (status : ℕ)
    → IfOk line (λ v. items v ≡ text) → IfOk line (λ v. (status ≡ 2) × WritesLine before after (items v)) → OnErr line ((status ≡ 4) × WritesLine before after (run_fault_line run.Memory))
    → TellsMissing text old old before after status
missed items (Ok v) text old before after status is told memory =
    inl (told.0, Keeps-refl old, subst (λ (l : List ℕ). WritesLine before after l) is told.1)
missed items (Err e) text old before after status is told memory = inr (memory.0, Keeps-refl old, memory.1)
