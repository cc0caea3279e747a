use Rattle.byte_streams.proofs.SplitWrites.{either_begins}
use Rattle.storm_runner.proofs.LineOutput.{written_whole}
use Rattle.storm_runner.proofs.ending.storm_end.Goals as goal

pub returns-in-Err-clause-told : goal.returns-in-Err-clause-told
returns-in-Err-clause-told g c = rw c.in-Err.is (either_begins _ _ _ c.write_fault.result c.write_fault.ensures.ok c.write_fault.ensures.fault)

pub returns-in-Err-clause-whole : goal.returns-in-Err-clause-whole
returns-in-Err-clause-whole g c good = rw c.in-Err.is (written_whole _ _ _ _ c.write_fault.result c.write_fault.ensures.ok c.write_fault.ensures.unwritten good)
