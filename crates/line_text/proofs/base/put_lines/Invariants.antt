use Rattle.line_text.proofs.Prelude.{◌≡◌, ◌++◌, take, lines_with_ends}
use Rattle.line_text.proofs.base.put_lines.Given as goal

abbrev pub invariant-loop-line : goal.invariant-loop-line
invariant-loop-line g l =
    l.out.items ≡ l.fn.out.items ++ lines_with_ends g.L.Line.text (take l.line-index l.lines)
