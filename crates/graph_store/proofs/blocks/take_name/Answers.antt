use Rattle.graph_store.proofs.Prelude.{◌≡◌, ◌+◌, ◌-◌, length, take, drop, get_or, arith, ap, sym, ◌∙◌, length-take-le, get_or-take, get_or-drop}
use Rattle.std.proofs.Common.{length-drop}
use Rattle.graph_store.proofs.PooledRows.{IsWritten, is_written, take_from_row, apart_same}
use borrow.Rule.Slice.PartMut.{put_mid}
use Rattle.graph_store.proofs.blocks.take_name.Goals as goal

-- the part from the name on has been written to
written : (c : goal.After-pool-1) → IsWritten c.args.pool.now (put_mid (c.args.start + c.args.place) (c.args.start + c.args.len - (c.args.start + c.args.place)) c.args.pool.now c.drop_first.new.tail) c.drop_first.new.tail (c.args.start + c.args.place) (c.args.start + c.args.len - (c.args.start + c.args.place))
written c =
    let from = c.args.start + c.args.place in
    let size = c.args.start + c.args.len - from in
    let rest = length-drop from c.args.pool.now in
    let part = length-take-le size (drop from c.args.pool.now) (omega (arith, rest, c.requires.room)) in
    is_written c.args.pool.now c.drop_first.new.tail from size (omega (arith, c.requires.room, c.requires.inside)) (omega (arith, part, c.drop_first.auto.tail))

pub returns : goal.returns
returns c =
    let pool = c.args.pool.now in
    let from = c.args.start + c.args.place in
    let size = c.args.start + c.args.len - from in
    let tail = take size (drop from pool) in
    let rest = length-drop from pool in
    let part = length-take-le size (drop from pool) (omega (arith, rest, c.requires.room)) in
    record {
      row = take_from_row pool (put_mid from size pool c.drop_first.new.tail) c.drop_first.new.tail c.args.start c.args.len c.args.place size c.requires.inside c.requires.room (omega (arith, c.requires.inside)) (written c)
          (λ i lt.
          sym (get_or-take (length tail - 1) c.drop_first.new.tail i 0 (omega (arith, lt, part)))
          ∙ ap (λ l. get_or l i 0) c.drop_first.ensures
          ∙ get_or-drop 1 tail i 0
          ∙ get_or-take size (drop from pool) (1 + i) 0 (omega (arith, lt))
          ∙ get_or-drop from pool (1 + i) 0
          ∙ ap (λ k. get_or pool k 0) (let e : from + (1 + i) ≡ from + (i + 1) = omega arith in e));
      others = λ s n apart. apart_same c.args.pool.now (put_mid from size c.args.pool.now c.drop_first.new.tail) c.drop_first.new.tail from size c.args.start c.args.len s n (written c) (omega arith) (omega (arith, c.requires.inside)) apart;
    }
