-- The events of a line's turns: each event is found from the present state and the words of a generator that
-- the line seeds.
use Rattle.std.specs.Prelude.{ℕ, Option}
use Rattle.std.specs.Option.{option_map}
use Rattle.rand_core.specs.Stream.{Stream}
use Rattle.rand_core.specs.Steps.{stream_of, steps_u32}
use Rattle.rand_core.specs.Pcg32Seed.{pcg32_seed}
use Rattle.rand_pcg.specs.Lcg.{Lcg}
use Rattle.rand_pcg.specs.Pcg.{pcg32, pcg32_of_seed}
use Rattle.rule_machine.specs.declared.event.Event.{Event}
use Rattle.rule_machine.specs.declared.event.Event.TheVariants.{Step}
use Rattle.rule_machine.specs.State.{State}
use Rattle.rule_machine.specs.RuleTable.{RuleTable, enabled_names}
use Rattle.daemon.specs.DrawnChoices as daemon
use Rattle.fault_injector.specs.DrawnFaults as injector

-- the event, if any, that a state and the words to come give, and the words that are left
abbrev pub Draws : Type 0
Draws = RuleTable → State → Stream → Option Event × Stream

-- the words that a generator of the program will give
abbrev pub pcg32_stream : Lcg → Stream
pcg32_stream generator = stream_of (steps_u32 pcg32) generator

-- the words of the generator with this seed (O'Neill's PCG XSH RR 64/32, seeded as rand_pcg seeds it from 64
-- bits)
abbrev pub seeded_stream : ℕ → Stream
seeded_stream seed = pcg32_stream (pcg32_of_seed (pcg32_seed 16 seed))

-- a daemon's turn: a step of the nodes that the daemon chooses among the enabled nodes
abbrev pub drawn_step : Draws
drawn_step t s stream =
    let choice = daemon.choice_drawn t.central (enabled_names t s) stream in (option_map (λ items. Step items) choice.0, choice.1)

-- an injector's turn: a fault of a register
abbrev pub drawn_fault : Draws
drawn_fault t s stream = injector.fault_drawn s.network t.flags stream
