use Rattle.reply_checker.proofs.Prelude.{◌∙◌, sym}
use Rattle.reply_checker.proofs.EnabledNodes.{hsu_huang_null}
use Rattle.reply_checker.proofs.Witnesses.{hsu_huang_on_caller}
use Rattle.reply_checker.proofs.hsu_huang.is_enabled.Goals as goal

pub returns-in-None-clause-value : goal.returns-in-None-clause-value
returns-in-None-clause-value c = c.calls_any.ensures.value ∙ hsu_huang_null c.args.net.now.state c.args.v (sym c.pointer.ensures ∙ c.in-None.is)

pub returns-in-None-clause-rests : goal.returns-in-None-clause-rests
returns-in-None-clause-rests c =
    hsu_huang_on_caller c.args.net.now.state c.args.v c.calls_any.new.witness.node c.calls_any.ensures.sound (sym c.pointer.ensures ∙ c.in-None.is) c.calls_any.ensures.linked c.calls_any.ensures.calls
