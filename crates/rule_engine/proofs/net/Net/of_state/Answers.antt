use Rattle.rule_engine.proofs.net.Net.of_state.Goals as goal

pub with_derived-requires-clause-budget : goal.with_derived-requires-clause-budget
with_derived-requires-clause-budget g c = record { is_state = c.registers.ensures.sound; within = c.requires.within; unflagged = c.requires.unflagged }
