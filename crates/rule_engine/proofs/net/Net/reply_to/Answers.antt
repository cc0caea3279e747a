use Rattle.rule_engine.proofs.Prelude.{sym, subst, AllocError, Prepares, stored_reply}
use Rattle.rule_engine.proofs.net.Net.reply_to.Goals as goal

pub returns-in-Link : goal.returns-in-Link
returns-in-Link g c =
    subst (λ event. Prepares {E = AllocError} g.R.Rules.table c.args.self.now event (stored_reply c.prepare_link.result c.prepare_link.new.reply) c.prepare_link.new.self) (sym c.in-Link.is) c.prepare_link.ensures

pub returns-in-Step : goal.returns-in-Step
returns-in-Step g c =
    subst (λ event. Prepares {E = AllocError} g.R.Rules.table c.args.self.now event (stored_reply c.prepare_choice.result c.prepare_choice.new.reply) c.prepare_choice.new.self) (sym c.in-Step.is) c.prepare_choice.ensures

pub returns-in-Enabled : goal.returns-in-Enabled
returns-in-Enabled g c =
    subst (λ event. Prepares {E = AllocError} g.R.Rules.table c.args.self.now event (stored_reply c.prepare_enabled.result c.prepare_enabled.new.reply) c.args.self.now) (sym c.in-Enabled.is) c.prepare_enabled.ensures

pub returns-in-Matching : goal.returns-in-Matching
returns-in-Matching g c =
    subst (λ event. Prepares {E = AllocError} g.R.Rules.table c.args.self.now event (stored_reply c.prepare_matching.result c.prepare_matching.new.reply) c.prepare_matching.new.self) (sym c.in-Matching.is) c.prepare_matching.ensures
