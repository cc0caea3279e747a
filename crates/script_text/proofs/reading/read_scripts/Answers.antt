use Rattle.script_text.proofs.Prelude.{map, arith, length-map}
use Rattle.script_text.proofs.TextLines.{few}
use Rattle.script_text.proofs.reading.read_scripts.Goals as goal

pub returns-clause-few : goal.returns-clause-few
returns-clause-few g c =
    let known = g.In.Read.remaining in
    let readers = c.args.readers in
    few (λ v. v.items) (map known readers.items) 64 c.read_each.result (omega (arith, length-map readers.items known, c.if-len-gt-MAX_SCRIPTS.false, c.len.ensures, readers.ok.0)) c.read_each.ensures.scripts
