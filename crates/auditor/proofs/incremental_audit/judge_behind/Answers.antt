use Rattle.auditor.proofs.Prelude.{◌-◌, length, arith, nil_from_length}
use Rattle.auditor.proofs.PieceReading.{compared_more, dropped}
use Rattle.auditor.proofs.incremental_audit.judge_behind.Goals as goal

pub pass_parts-requires-clause-compared : goal.pass_parts-requires-clause-compared
pass_parts-requires-clause-compared c =
    let none = nil_from_length c.args.held.now.items (grind arith) in
    rw none at (compared_more _ _ c.args.bytes.now c.requires.compared)

pub returns-then-is_empty-clause-at : goal.returns-then-is_empty-clause-at
returns-then-is_empty-clause-at c read at =
    let none = nil_from_length c.args.held.now.items (grind arith) in
    rw (c.in_ok-extend_from_slice.ensures.items, none) (c.in-Ok.ensures.at read (rw none at at))

pub pass_parts-requires-2-clause-compared : goal.pass_parts-requires-2-clause-compared
pass_parts-requires-2-clause-compared c = rw (c.deref.ensures.value, c.in_ok-extend_from_slice-2.ensures.items) (compared_more _ _ _ c.requires.compared)

pub returns-clause-at : goal.returns-clause-at
returns-clause-at c read at =
    let rest = c.in-Ok-pass_parts.rest.now in
    let same = dropped _ _ rest _ (c.len.result - length rest) c.deref.ensures.value c.in-Ok-pass_parts.ensures.behind (omega (arith, c.len.ensures, c.deref.ensures.len)) c.drop_front.ensures in
    rw same (c.in-Ok-pass_parts.ensures.at read (rw (c.deref.ensures.value, c.in_ok-extend_from_slice-2.ensures.items) at))
