use Rattle.line_text.proofs.EventsOnce.{spells_once}
use Rattle.line_text.proofs.law.one_reading.Goals as goal

pub returns : goal.returns
returns c = spells_once
