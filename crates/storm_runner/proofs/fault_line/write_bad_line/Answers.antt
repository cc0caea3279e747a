use Rattle.byte_streams.proofs.SplitWrites.{front_begins, less_begins, third_whole, third_begins, begins_at_err}
use Rattle.storm_runner.proofs.fault_line.write_bad_line.Goals as goal

pub returns-in_err-write_numbered-clause-fault : goal.returns-in_err-write_numbered-clause-fault
returns-in_err-write_numbered-clause-fault g c = begins_at_err _ _ _ c.from_residual.result (less_begins _ _ _ _ c.in_err-write_numbered.ensures.fault)

pub returns-in_err-write_numbered-2-clause-fault : goal.returns-in_err-write_numbered-2-clause-fault
returns-in_err-write_numbered-2-clause-fault g c =
    begins_at_err _ _ _ c.from_residual-in_err-write_numbered-2.result
    (front_begins _ _ _ _ _ c.in_ok-write_numbered.ensures.ok (less_begins _ _ _ _ c.in_err-write_numbered-2.ensures.fault))

pub returns-clause-ok : goal.returns-clause-ok
returns-clause-ok g c = third_whole _ _ _ _ _ _ _ c.finish.result c.in_ok-write_numbered.ensures.ok c.in_ok-write_numbered-2.ensures.ok c.finish.ensures.ok

pub returns-clause-fault : goal.returns-clause-fault
returns-clause-fault g c = third_begins _ _ _ _ _ _ _ c.finish.result c.in_ok-write_numbered.ensures.ok c.in_ok-write_numbered-2.ensures.ok c.finish.ensures.fault
