use Rattle.script_text.proofs.Prelude.{List, ℕ, sym, subst, IsReadSoFar}
use Rattle.std.specs.Prelude.{IfSome}
use Rattle.script_text.proofs.LongLines.{fault_read, script_read}
use Rattle.script_text.proofs.reading.read_from.Goals as goal

pub returns-clause-script : goal.returns-clause-script
returns-clause-script g c =
    let known = g.In.Read.remaining in
    let text = c.deref.result.now in
    let read : IfSome (known c.args.reader) (λ all. IsReadSoFar all text) =
    subst (λ r. IfSome (known r) (λ all. IsReadSoFar all text)) c.new-reader.ensures.reader (subst (λ (t : List ℕ). IfSome (known c.new-reader.result.reader) (λ all. IsReadSoFar all t)) (sym c.deref.ensures.value) c.in-Ok.ensures.text) in
    script_read (λ s. s) (known c.args.reader) text c.read_text.result read c.read_text.ensures.script

pub returns-clause-fault : goal.returns-clause-fault
returns-clause-fault g c =
    let known = g.In.Read.remaining in
    let text = c.deref.result.now in
    let read : IfSome (known c.args.reader) (λ all. IsReadSoFar all text) =
    subst (λ r. IfSome (known r) (λ all. IsReadSoFar all text)) c.new-reader.ensures.reader (subst (λ (t : List ℕ). IfSome (known c.new-reader.result.reader) (λ all. IsReadSoFar all t)) (sym c.deref.ensures.value) c.in-Ok.ensures.text) in
    fault_read c.args.number (known c.args.reader) text c.read_text.result read c.read_text.ensures.fault
