use Rattle.locked_net.proofs.Prelude.{◌≡◌, List, Bool, Option, IfSome, ap, sym, ◌∙◌, subst, enabled_names, members, IsLawful, Item, Some, Step, Reply, RuleTable, least_moves, reply_by, Receipt, RetainedLog, RecordsEvent, Drives}
use Rattle.locked_net.proofs.DaemonSteps.{lawful_taken}
use Rattle.locked_net.proofs.ChosenEvents.{choice_on}
use Rattle.locked_net.proofs.held.HeldNet.drive.Goals as goal

-- a lawful choice is answered by its moves
drives : (t : RuleTable) (before after : RetainedLog) (old new : List Receipt) (reply : Reply) (bits : List Bool) (central : Bool) (found : Option (List Item)) (items : List Item) → members bits ≡ enabled_names t before.state → central ≡ t.central → found ≡ Some items → IfSome found (IsLawful bits central)
    → RecordsEvent t before after old new (Step items) reply → Drives t before after old new reply
drives t before after old new reply bits central found items names same some chosen told =
    let lawful : IsLawful bits t.central items = subst (λ b. IsLawful bits b items) same (subst (λ o. IfSome o (IsLawful bits central)) some chosen) in
    record {
      items = items;
      moves = least_moves t before.state items;
      entry = told;
      moved = told.reply_is ∙ ap (reply_by t before.state before.spent (Step items)) (lawful_taken t before.state bits items names lawful);
      one = lawful.one;
    }

pub returns-in_ok-record-in-Some-clause-step : goal.returns-in_ok-record-in-Some-clause-step
returns-in_ok-record-in-Some-clause-step g c =
    let t = g.R.Rules.table in
    let same : members c.enabled.result.now ≡ enabled_names t c.args.self.now.log.state = c.enabled.ensures ∙ ap (enabled_names t) c.net.ensures.state in
    drives t c.args.self.now.log c.record.new.self.log c.args.clerk.now.receipts c.record.new.clerk.receipts c.in_ok-record-in-Some.field-0 c.enabled.result.now c.CENTRAL.result c.in_ok-choice.field-0 c.in-Some.choice
    same (c.CENTRAL.ensures ∙ sym g.R.Rules.laws.is_central) c.in-Some.is c.in_ok-choice.ensures.lawful c.in_ok-record-in-Some.ensures.recorded

pub returns-in_ok-record-in-Some-clause-chosen : goal.returns-in_ok-record-in-Some-clause-chosen
returns-in_ok-record-in-Some-clause-chosen g c =
    let t = g.R.Rules.table in
    let same : members c.enabled.result.now ≡ enabled_names t c.args.self.now.log.state = c.enabled.ensures ∙ ap (enabled_names t) c.net.ensures.state in
    let recorded = c.in_ok-record-in-Some.ensures.recorded in
    choice_on t c.args.self.now.log (λ names central choice. g.D.Daemon.chooses names central c.args.daemon.now choice c.choose.new.self) (members c.enabled.result.now) c.CENTRAL.result c.in_ok-choice.field-0 c.in-Some.choice c.args.clerk.now.receipts c.record.new.clerk.receipts c.in_ok-record-in-Some.field-0
    same (c.CENTRAL.ensures ∙ sym g.R.Rules.laws.is_central) c.in-Some.is c.in_ok-choice.ensures.chosen recorded.reply_is recorded.receipt
