use Rattle.std.proofs.Common.{◌≡◌, ◌++◌, ℕ, List, codes, subst, ◌∙◌}
use Rattle.std.specs.Io.KnownBytes.{Appends}
use Rattle.line_text.specs.Words.{number_text}
use Rattle.byte_streams.specs.PartialOutput.{AppendsLess}
use Rattle.byte_streams.proofs.SplitWrites.{front_begins, less_begins, third_whole, third_begins, begins_at_err}
use Rattle.command_line.proofs.fault_line.write_bad_line.Goals as goal

pub returns-in_err-write_whole-clause-fault : goal.returns-in_err-write_whole-clause-fault
returns-in_err-write_whole-clause-fault g c =
    let known = g.Faults.Write.contents in
    begins_at_err _ _ _ c.from_residual.result
    (less_begins (known c.args.faults.now.writer) (known c.write_whole.new.self.writer) (codes "! line ") (number_text c.args.line ++ codes ": not a command\n") c.in_err-write_whole.ensures.fault)

pub returns-in_err-write_whole-2-clause-fault : goal.returns-in_err-write_whole-2-clause-fault
returns-in_err-write_whole-2-clause-fault g c =
    let known = g.Faults.Write.contents in
    let mid = known c.write_whole.new.self.writer in
    let new = known c.write_whole-2.new.self.writer in
    let digits : c.as_bytes.result.now ≡ number_text c.args.line = c.as_bytes.ensures.value ∙ c.format.ensures.text in
    let less = subst (λ (d : List ℕ). AppendsLess mid new d) digits c.in_err-write_whole-2.ensures.fault in
    begins_at_err _ _ _ c.from_residual-in_err-write_whole-2.result
    (front_begins (known c.args.faults.now.writer) mid new (codes "! line ") (number_text c.args.line ++ codes ": not a command\n") c.in_ok-write_whole.ensures.ok
    (less_begins mid new (number_text c.args.line) (codes ": not a command\n") less))

pub returns-clause-ok : goal.returns-clause-ok
returns-clause-ok g c =
    let known = g.Faults.Write.contents in
    let mid = known c.write_whole.new.self.writer in
    let late = known c.write_whole-2.new.self.writer in
    let digits : c.as_bytes.result.now ≡ number_text c.args.line = c.as_bytes.ensures.value ∙ c.format.ensures.text in
    let wrote = subst (λ (d : List ℕ). Appends mid late d) digits c.in_ok-write_whole-2.ensures.ok in
    third_whole (known c.args.faults.now.writer) mid late (known c.finish.new.self.writer) (codes "! line ") (number_text c.args.line) (codes ": not a command\n") c.finish.result c.in_ok-write_whole.ensures.ok wrote c.finish.ensures.ok

pub returns-clause-fault : goal.returns-clause-fault
returns-clause-fault g c =
    let known = g.Faults.Write.contents in
    let mid = known c.write_whole.new.self.writer in
    let late = known c.write_whole-2.new.self.writer in
    let digits : c.as_bytes.result.now ≡ number_text c.args.line = c.as_bytes.ensures.value ∙ c.format.ensures.text in
    let wrote = subst (λ (d : List ℕ). Appends mid late d) digits c.in_ok-write_whole-2.ensures.ok in
    third_begins (known c.args.faults.now.writer) mid late (known c.finish.new.self.writer) (codes "! line ") (number_text c.args.line) (codes ": not a command\n") c.finish.result c.in_ok-write_whole.ensures.ok wrote c.finish.ensures.fault
