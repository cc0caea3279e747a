-- What a writer has got of a line, by whether a write of it failed.
use Rattle.storm_runner.proofs.Prelude.{◌≡◌, ℕ, Bool, true, false, List, Option, Result, OnErr, OnOk, arith, Appends}

-- it is written whole if no write failed
pub written_whole : {E : Type 0} (old new : Option (List ℕ)) (text : List ℕ) (failed : Bool) (result : Result Unit E) → OnOk result (Appends old new text) → OnErr result (failed ≡ true) → failed ≡ false → Appends old new text
written_whole old new text failed result wrote unwritten good = grind arith
