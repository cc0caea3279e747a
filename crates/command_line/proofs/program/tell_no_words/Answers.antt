use Rattle.std.proofs.Common.{rules, ◌≡◌, codes, sym, subst}
use Rattle.std.specs.declared.io.ErrorKind as io
use Rattle.std.specs.declared.io.ErrorKind.TheVariants.{InvalidData}
use Rattle.std.specs.contracts.io.ErrorKind.{the_type}
use denote.Enum.Bare.{same_true}
use Rattle.std.specs.Io.KnownBytes.{Appends}
use Rattle.byte_streams.specs.PartialOutput.{AppendsBeginning}
use Rattle.command_line.specs.FaultText.{no_words_line}
use Rattle.byte_streams.proofs.SplitWrites.{either_begins}
use Rattle.storm_runner.proofs.LineOutput.{written_whole}
use Rattle.command_line.proofs.program.tell_no_words.Goals as goal

pub returns-then-eq-clause-told : goal.returns-then-eq-clause-told
returns-then-eq-clause-told g c =
    let known = g.Faults.Write.contents in
    let same : c.args.kind ≡ InvalidData = same_true the_type (search rules) _ _ (sym c.if-eq.ensures) in
    subst (λ (k : io.ErrorKind). AppendsBeginning (known c.args.faults.now.writer) (known c.finish.new.self.writer) (no_words_line k)) (sym same)
    (either_begins (known c.args.faults.now.writer) (known c.finish.new.self.writer) (codes "! a word is not UTF-8\n") c.finish.result c.finish.ensures.ok c.finish.ensures.fault)

pub returns-then-eq-clause-whole : goal.returns-then-eq-clause-whole
returns-then-eq-clause-whole g c good =
    let known = g.Faults.Write.contents in
    let told = c.finish in
    let same : c.args.kind ≡ InvalidData = same_true the_type (search rules) _ _ (sym c.if-eq.ensures) in
    subst (λ (k : io.ErrorKind). Appends (known c.args.faults.now.writer) (known told.new.self.writer) (no_words_line k)) (sym same)
    (written_whole (known c.args.faults.now.writer) (known told.new.self.writer) (codes "! a word is not UTF-8\n") told.new.self.failed told.result told.ensures.ok told.ensures.unwritten good)
