use Rattle.graph_store.proofs.Prelude.{◌++◌, arith, ap, ◌∙◌, length-set}
use Rattle.graph_store.proofs.Contents.{row_elsewhere, row_written}
use Rattle.graph_store.proofs.blocks.add_long.Goals as goal

pub returns-clause-others : goal.returns-clause-others
returns-clause-others c v apart inside =
    let longer = c.add_empty.ensures.longer in
    let same = row_elsewhere c.add_empty.new.long.items c.args.place v c.extend_from_slice.new.self apart (omega (arith, longer, inside)) in
    let kept = c.add_empty.ensures.kept v inside in
    (same.0 ∙ kept.0, same.1 ∙ kept.1)

pub returns-clause-row : goal.returns-clause-row
returns-clause-row c =
    let count = c.in_ok-add_empty.ensures.count in
    let len = length-set c.add_empty.new.long.items c.args.place c.extend_from_slice.new.self in
    let there = row_written c.add_empty.new.long.items c.args.place c.extend_from_slice.new.self (omega (arith, count)) in
    (omega (arith, len, count), there.0 ∙ c.in_ok-extend_from_slice.ensures.items ∙ ap (λ l. l ++ c.args.row.now) c.in_ok-names.ensures.items)

pub returns-clause-room : goal.returns-clause-room
returns-clause-room c =
    let count = c.in_ok-add_empty.ensures.count in
    let there = row_written c.add_empty.new.long.items c.args.place c.extend_from_slice.new.self (omega (arith, count)) in
    let len = c.in_ok-extend_from_slice.ensures.len in
    let empty = c.in_ok-names.ensures.len in
    let room = c.in_ok-names.ensures.capacity in
    let more = c.extend_from_slice.ensures.capacity in
    omega (arith, there.1, len, empty, room, more)
