use Rattle.reply_checker.proofs.Prelude.{◌≡◌, ◌≤◌, ◌∙◌, ℕ, false, length, sym, subst, true≢false, charge_bound, RuleSet, IsBaseMoment, State, flag, table_of, weight_of, HasLines}
use Rattle.reply_checker.proofs.BaseStarts.{too_much, fit_flags, begins, lines_made}
use Rattle.reply_checker.proofs.judge.Judge.at_base.Goals as goal

-- the flags that are true are used by the rules
abbrev HasFitFlags : RuleSet → State → Type 0
HasFitFlags rules s = (table_of rules).flags ≡ false → (v : ℕ) → flag s v ≡ false

pub returns-then-not-is_within-clause-none : goal.returns-then-not-is_within-clause-none
returns-then-not-is_within-clause-none c = λ none start begun few.
    let base = c.args.base.now in
    let made = c.in_ok-counted.counted.net.state in
    let lines = subst (HasLines c.args.size base.nodes base.edges) (sym c.in_ok-counted.ensures) (lines_made c.args.size base c.as_slice-nodes.result.now c.as_slice-edges.result.now c.in_ok-net.field-0 c.in-Some.net c.in_ok-net.ensures.some c.in-Some.is c.as_slice-nodes.ensures c.as_slice-edges.ensures) in
    too_much (table_of c.args.rules) (charge_bound (weight_of c.args.rules)) c.args.size base made start c.is_within.ensures.sound lines
    (sym c.is_within.ensures.within ∙ c.if-not-is_within.true) begun

pub returns-then-not-has_fit_flags-clause-none : goal.returns-then-not-has_fit_flags-clause-none
returns-then-not-has_fit_flags-clause-none c = λ none start begun few.
    let base = c.args.base.now in
    let made = c.in_ok-counted.counted.net.state in
    let lines = subst (HasLines c.args.size base.nodes base.edges) (sym c.in_ok-counted.ensures) (lines_made c.args.size base c.as_slice-nodes.result.now c.as_slice-edges.result.now c.in_ok-net.field-0 c.in-Some.net c.in_ok-net.ensures.some c.in-Some.is c.as_slice-nodes.ensures c.as_slice-edges.ensures) in
    let fit = fit_flags (table_of c.args.rules) (charge_bound (weight_of c.args.rules)) c.args.size base made start c.is_within.ensures.sound lines begun in
    true≢false (sym (c.has_fit_flags.ensures.1 (subst (HasFitFlags c.args.rules) (sym c.is_within.ensures.kept) fit)) ∙ c.if-not-has_fit_flags.true)

pub returns-clause-begun : goal.returns-clause-begun
returns-clause-begun c =
    let base = c.args.base.now in
    let t = table_of c.args.rules in
    let bound = charge_bound (weight_of c.args.rules) in
    let made = c.in_ok-counted.counted.net.state in
    let lines = subst (HasLines c.args.size base.nodes base.edges) (sym c.in_ok-counted.ensures) (lines_made c.args.size base c.as_slice-nodes.result.now c.as_slice-edges.result.now c.in_ok-net.field-0 c.in-Some.net c.in_ok-net.ensures.some c.in-Some.is c.as_slice-nodes.ensures c.as_slice-edges.ensures) in
    let begun = begins t bound c.args.size base made c.is_within.ensures.sound lines (subst (HasFitFlags c.args.rules) c.is_within.ensures.kept (c.has_fit_flags.ensures.0 c.if-not-has_fit_flags.false)) (sym c.is_within.ensures.within ∙ c.if-not-is_within.false) in (
      subst (λ (s : State). IsBaseMoment t bound c.args.size base (record { state = s; spent = base.spent })) (sym (c.in_ok-of_counted.ensures ∙ c.is_within.ensures.kept)) begun,
      subst (λ edges. length edges ≤ 1048576) c.as_slice-edges.ensures c.if-edges.false,
    )
