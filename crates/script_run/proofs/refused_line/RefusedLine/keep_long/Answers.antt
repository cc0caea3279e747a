use Rattle.std.proofs.Common.{◌≡◌, ◌++◌, rules}
use Rattle.script_run.proofs.RefusedLines.{long_bad}
use Rattle.script_run.proofs.refused_line.RefusedLine.keep_long.Goals as goal

pub invariant_of-self-else-is_err-2 : goal.invariant_of-self-else-is_err-2
invariant_of-self-else-is_err-2 c =
    let all : c.extend_from_slice-2.new.self.items ≡ c.args.front.now ++ c.args.behind.now = search rules in
    record { bad = λ some. long_bad _ _ _ all c.requires }
