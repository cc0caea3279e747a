use Rattle.graph_store.proofs.Prelude.{◌+◌, ◌-◌, ◌∷◌, length, take, drop, get_or, arith, add-one, ap, ◌∙◌, length-take-le, get_or-take, get_or-drop}
use Rattle.std.proofs.Common.{length-drop}
use Rattle.graph_store.proofs.PooledRows.{IsWritten, is_written, put_in_row, apart_same}
use borrow.Rule.Slice.PartMut.{put_mid}
use Rattle.graph_store.proofs.blocks.put_name.Goals as goal

-- the part from the name on has been written to
written : (c : goal.After-pool-1) → IsWritten c.args.pool.now (put_mid (c.args.start + c.args.place) (c.args.start + c.args.len + 1 - (c.args.start + c.args.place)) c.args.pool.now c.put_first.new.tail) c.put_first.new.tail (c.args.start + c.args.place) (c.args.start + c.args.len + 1 - (c.args.start + c.args.place))
written c =
    let from = c.args.start + c.args.place in
    let size = c.args.start + c.args.len + 1 - from in
    let rest = length-drop from c.args.pool.now in
    let part = length-take-le size (drop from c.args.pool.now) (omega (arith, rest, c.requires.room)) in
    is_written c.args.pool.now c.put_first.new.tail from size (omega (arith, c.requires.room, c.requires.inside)) (omega (arith, part, c.put_first.auto.tail))

pub returns : goal.returns
returns c =
    let pool = c.args.pool.now in
    let from = c.args.start + c.args.place in
    let size = c.args.start + c.args.len + 1 - from in
    let tail = take size (drop from pool) in
    let rest = length-drop from pool in
    let part = length-take-le size (drop from pool) (omega (arith, rest, c.requires.room)) in
    record {
      row = put_in_row pool (put_mid from size pool c.put_first.new.tail) c.put_first.new.tail c.args.start c.args.len c.args.place c.args.name size c.requires.inside c.requires.room (omega (arith, c.requires.inside)) (written c)
          (ap (λ l. get_or l 0 0) c.put_first.ensures)
          (λ i lt.
          ap (λ l. get_or l (i + 1) 0) c.put_first.ensures
          ∙ ap (λ k. get_or (c.args.name ∷ take (length tail - 1) tail) k 0) (add-one i)
          ∙ get_or-take (length tail - 1) tail i 0 (omega (arith, lt, part))
          ∙ get_or-take size (drop from pool) i 0 (omega (arith, lt))
          ∙ get_or-drop from pool i 0);
      others = λ s n apart. apart_same c.args.pool.now (put_mid from size c.args.pool.now c.put_first.new.tail) c.put_first.new.tail from size c.args.start (c.args.len + 1) s n (written c) (omega arith) (omega (arith, c.requires.inside)) apart;
    }
