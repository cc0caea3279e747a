use Rattle.script_text.proofs.Prelude.{◌+◌, sym, subst, arith, lines_of, TextHolds}
use Rattle.script_text.proofs.TextLines.{held, passed, held_all}
use Rattle.script_text.proofs.text.read_text.Goals as goal

pub loop-line-preserved : goal.loop-line-preserved
loop-line-preserved c =
    let all = lines_of c.args.text.now in
    let rest = lines_of c.loop-line.rest.now in
    let lines = lines_of c.in-Some.behind.now in
    let line = c.in-Some.line.now in
    let number = c.loop-line.number + 1 in
    let added = c.in_ok-add_line.ensures.line in
    record {
      holds = held all lines rest line number c.loop-line.lines.items added.0 c.add_line.new.lines.items c.in-Some.ensures.lines added.1 added.2 c.loop-line.invariant.holds;
      bad = passed all lines rest line number added.0 c.in-Some.ensures.lines added.2 c.loop-line.invariant.bad;
      room = omega (arith, c.loop-line.invariant.room, c.in-Some.ensures.shorter);
    }

pub returns-clause-script : goal.returns-clause-script
returns-clause-script c =
    let all = lines_of c.args.text.now in
    let rest = lines_of c.loop-line.rest.now in
    subst (TextHolds c.args.text.now) (sym c.from_vec.ensures) (held_all all rest (c.loop-line.number + 1) c.loop-line.lines.items c.in_default.ensures.lines c.loop-line.invariant.holds)
