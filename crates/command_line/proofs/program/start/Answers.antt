use Rattle.std.proofs.Common.{inr, map}
use Rattle.command_line.proofs.TaskEnds.{three_of}
use Rattle.command_line.proofs.program.start.Goals as goal

pub returns-in-None-clause-device : goal.returns-in-None-clause-device
returns-in-None-clause-device g c three = three_of (map g.S.AsStr.text c.args.words.now) c.in-Ok.field-0.task _ _ c.in-Ok.ensures.answers (c.perform.ensures.device three) (λ ends. inr ends)
