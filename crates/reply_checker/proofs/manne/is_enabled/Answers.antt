use Rattle.reply_checker.proofs.Prelude.{◌∙◌, sym}
use Rattle.reply_checker.proofs.EnabledNodes.{manne_null}
use Rattle.reply_checker.proofs.Witnesses.{manne_flagged, manne_on_caller, manne_on_itself, manne_on_target}
use Rattle.reply_checker.proofs.manne.is_enabled.Goals as goal

pub returns-in-None-clause-value : goal.returns-in-None-clause-value
returns-in-None-clause-value c = sym (manne_flagged c.args.net.now.state c.args.v (sym c.pointer.ensures ∙ c.in-None.is) (sym c.flag.ensures ∙ c.if-flag.true))

pub returns-in-None-clause-rests : goal.returns-in-None-clause-rests
returns-in-None-clause-rests c = manne_on_itself c.args.net.now.state c.args.v (sym c.pointer.ensures ∙ c.in-None.is) (sym c.flag.ensures ∙ c.if-flag.true)

pub returns-in-Some-clause-rests : goal.returns-in-Some-clause-rests
returns-in-Some-clause-rests c = manne_on_target c.args.net.now.state c.args.v c.in-Some.w c.updates_or_abandons.ensures.sound (sym c.pointer.ensures ∙ c.in-Some.is)

pub returns-in-None-2-clause-value : goal.returns-in-None-2-clause-value
returns-in-None-2-clause-value c = c.calls_any.ensures.value ∙ manne_null c.args.net.now.state c.args.v (sym c.flag.ensures ∙ c.if-flag.false) (sym c.pointer.ensures ∙ c.in-None-2.is)

pub returns-in-None-2-clause-rests : goal.returns-in-None-2-clause-rests
returns-in-None-2-clause-rests c =
    manne_on_caller c.args.net.now.state c.args.v c.calls_any.new.witness.node c.calls_any.ensures.sound (sym c.pointer.ensures ∙ c.in-None-2.is) (sym c.flag.ensures ∙ c.if-flag.false) c.calls_any.ensures.linked c.calls_any.ensures.calls
