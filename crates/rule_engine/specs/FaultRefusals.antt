-- The edge store's faults as refusals, and refusals as replies.
use Rattle.std.specs.Prelude.{Option, None, Some}
use Rattle.graph_store.specs.declared.fault.GraphFault.{GraphFault}
use Rattle.graph_store.specs.declared.fault.GraphFault.TheVariants as fault
use Rattle.rule_machine.specs.declared.refusal.Refusal.{Refusal}
use Rattle.rule_machine.specs.declared.reply.Reply.{Reply}
use Rattle.rule_machine.specs.declared.reply.Reply.TheVariants.{Accepted, Refused}
use Rattle.rule_machine.specs.declared.refusal.Refusal.TheVariants.{UnknownNode, SelfLoop, AlreadyLinked, NotLinked, TooManyEdges, AlreadyPresent}

-- the refusal that corresponds to a fault, if any
abbrev pub refused_as : GraphFault → Option Refusal
refused_as fault.UnknownNode = Some UnknownNode
refused_as fault.SelfLoop = Some SelfLoop
refused_as fault.AlreadyLinked = Some AlreadyLinked
refused_as fault.NotLinked = Some NotLinked
refused_as fault.TooManyEdges = Some TooManyEdges
refused_as fault.AlreadyPresent = Some AlreadyPresent
refused_as fault.TooManyNodes = None
refused_as fault.Memory = None

-- the reply to an edit or a fault: refused, or accepted if there is no refusal
abbrev pub edit_reply : Option Refusal → Reply
edit_reply (Some refusal) = Refused refusal
edit_reply None = Accepted
