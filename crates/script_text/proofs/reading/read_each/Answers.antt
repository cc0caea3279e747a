use Rattle.script_text.proofs.Prelude.{◌∙◌, map, drop, YieldsList-from_vec, YieldsList-end}
use Rattle.script_text.proofs.TextLines.{none_left, all_held}
use Rattle.script_text.proofs.reading.read_each.Goals as goal

pub returns-clause-scripts : goal.returns-clause-scripts
returns-clause-scripts g c =
    let known = g.In.Read.remaining in
    let readers = c.args.readers.items in
    let n = c.loop-reader.number in
    let from = c.into_iter-reader-iterator.ensures.into_iter_gives in
    let over = YieldsList-end (YieldsList-from_vec {s = c.into_iter-reader-iterator.result} readers from.0 (from.1 ∙ c.args.readers.ok.0)) c.loop-reader.yielded c.loop-reader.reader-iterator c.loop-reader.yielded_by c.next.result c.next.new.self c.in-None.is c.next.ensures.steps in
    all_held (map known readers) (map known (drop n readers)) c.loop-reader.scripts.items (none_left known readers n _ c.loop-reader.invariant.number over.1) c.loop-reader.invariant.holds
