use Rattle.round_counter.proofs.Prelude.{false, refl}
use Rattle.round_counter.proofs.Counting.{begun, listed}
use Rattle.round_counter.proofs.counter.RoundCounter.begin_step.Goals as goal

pub returns-then-self-clause-count : goal.returns-then-self-clause-count
returns-then-self-clause-count c t s is =
    listed t s c.args.enabled.now c.args.self.now (record { rounds = c.args.self.now.rounds; is_new = false; pending = c.copy_from.new.self }) c.if-self.true refl refl c.copy_from.ensures is

pub returns-then-self-clause-counted : goal.returns-then-self-clause-counted
returns-then-self-clause-counted c t start log s is it = begun t start log s c.args.enabled.now c.args.self.now _ c.if-self.true refl refl c.copy_from.ensures is it
