use Rattle.std.proofs.Common.{◌≡◌, length, drop, arith, take_at}
use Rattle.step_log.specs.JournalViews.{kept_of}
use Rattle.storm_runner.proofs.run.play_scripts.Goals as goal

pub settle_own-requires : goal.settle_own-requires
settle_own-requires g c =
    let told = c.play_beside-fault.new.clerks in
    let size : length told ≡ c.in-Ok.clerks.len = omega arith in
    rw (take_at told (drop (length told) c.in-Ok.clerks.items) c.in-Ok.clerks.len size) c.play_beside-fault.ensures.notes

pub returns-in-Ok-settle_own-clause-storm : goal.returns-in-Ok-settle_own-clause-storm
returns-in-Ok-settle_own-clause-storm g c =
    let told = c.play_beside-fault.new.clerks in
    let size : length told ≡ c.in-Ok.clerks.len = omega arith in
    let same = take_at told (drop (length told) c.in-Ok.clerks.items) c.in-Ok.clerks.len size in
    let own = rw same at c.in-Ok-settle_own.ensures.noted in
    record {
      clerks = told;
      settled = rw same at c.in-Ok-settle_own.ensures.settled;
      part = own.part;
      told = c.play_beside-fault.ensures.told.each own.part.log.entries own.begins;
    }

pub returns-in-Err-clause-fault : goal.returns-in-Err-clause-fault
returns-in-Err-clause-fault g c settled =
    let told = c.play_beside-fault.new.clerks in
    let size : length told ≡ c.in-Ok.clerks.len = omega arith in
    let same = take_at told (drop (length told) c.in-Ok.clerks.items) c.in-Ok.clerks.len size in
    let own = rw same at (c.in-Err.ensures.back_noted settled) in
    record {
      kept = kept_of c.in-Err.unsettled.journal;
      clerks = told;
      fault = c.play_beside-fault.result;
      differs = rw same at c.in-Err.ensures.fault;
      part = own.part;
      told = c.play_beside-fault.ensures.told.each own.part.log.entries own.begins;
    }
