use Rattle.reply_checker.proofs.Prelude.{◌≡◌, ◌↔◌, ◌∙◌, ℕ, List, IsTrue, ap, eqb-true, length, sym, subst, Act, EnabledAre, State, table_of, enabled, AreRising, ruled_node}
use Rattle.reply_checker.proofs.AscendingLists.{enabled_count, enabled_listed}
use Rattle.reply_checker.proofs.questions.are_enabled.Goals as goal

same_nodes : (xs ys : List (ℕ × Act)) → EnabledAre xs ≡ EnabledAre ys → xs ≡ ys
same_nodes xs ys e = cc

pub returns-then-given-totals-clause-value : goal.returns-then-given-totals-clause-value
returns-then-given-totals-clause-value c =
    let t = table_of c.args.rules in
    let s = c.args.counted.now.net.state in
    let given = c.as_slice-given.result.now in
    let reply = c.in-EnabledAre.is ∙ ap EnabledAre (sym c.as_slice-given.ensures) in
    let walked = subst (λ (u : State). IsTrue c.are_ruled.result ↔ AreRising (ruled_node t u) 0 given) c.totals-totals.ensures.kept
    (subst (λ rules. IsTrue c.are_ruled.result ↔ AreRising (ruled_node (table_of rules) c.totals-totals.new.self.net.state) 0 given) c.totals-totals.ensures.rules c.are_ruled.ensures) in
    let listed = enabled_listed t s given (c.if-given-totals.true ∙ c.totals-totals.ensures.value.enabled) in
    (λ yes. reply ∙ ap EnabledAre (listed.0 (walked.0 yes)), λ same. walked.1 (listed.1 (same_nodes given (enabled t s) (sym reply ∙ same))))

pub returns-else-given-totals-clause-value : goal.returns-else-given-totals-clause-value
returns-else-given-totals-clause-value c =
    let t = table_of c.args.rules in
    let s = c.args.counted.now.net.state in
    let given = c.as_slice-given.result.now in
    let reply = c.in-EnabledAre.is ∙ ap EnabledAre (sym c.as_slice-given.ensures) in (
      λ yes. absurd (c.if-given-totals.false (eqb-true (length given) c.totals-totals.result.enabled yes)),
      λ same. absurd (c.if-given-totals.false (ap length (same_nodes given (enabled t s) (sym reply ∙ same)) ∙ sym (enabled_count t s) ∙ sym c.totals-totals.ensures.value.enabled)),
    )
