-- A line that is too long to be a command.
use Rattle.script_run.proofs.Prelude.{◌≡◌, ℕ, ◌+◌, ◌<◌, List, ◌++◌, length, sym, subst, arith, length-append, long_says_nothing}
use Rattle.script_text.specs.Command.{SaysNothing}

pub long_bad : (line front behind : List ℕ) → line ≡ front ++ behind → 1048576 < length front + length behind → SaysNothing line
long_bad line front behind is long =
    subst SaysNothing (sym is) (long_says_nothing (front ++ behind) (omega (arith, long, length-append front behind)))
