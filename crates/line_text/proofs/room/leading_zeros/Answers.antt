use Rattle.line_text.proofs.Windows.{zeros_led}
use Rattle.line_text.proofs.room.leading_zeros.Goals as goal

pub returns : goal.returns
returns c = λ n h e. zeros_led n c.args.digits h e
