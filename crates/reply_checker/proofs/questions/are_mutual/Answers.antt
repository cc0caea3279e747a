use Rattle.reply_checker.proofs.Prelude.{◌≡◌, ◌↔◌, ◌∙◌, ℕ, List, IsTrue, ap, sym, subst, Pairs, State, mutual_pairs, AreRising, lower_end_pair}
use Rattle.reply_checker.proofs.AscendingLists.{pairs_listed}
use Rattle.reply_checker.proofs.questions.are_mutual.Goals as goal

same_pairs : (xs ys : List (ℕ × ℕ)) → Pairs xs ≡ Pairs ys → xs ≡ ys
same_pairs xs ys e = cc

pub returns-then-given-totals-clause-value : goal.returns-then-given-totals-clause-value
returns-then-given-totals-clause-value c =
    let s = c.args.counted.now.net.state in
    let given = c.as_slice-given.result.now in
    let reply = c.in-Pairs.is ∙ ap Pairs (sym c.as_slice-given.ensures) in
    let walked = subst (λ (u : State). IsTrue c.are_pairs.result ↔ AreRising (lower_end_pair u) 0 given) c.totals-totals.ensures.kept c.are_pairs.ensures in
    let listed = pairs_listed s given (c.if-given-totals.true ∙ c.totals-totals.ensures.value.pairs) in
    (λ yes. reply ∙ ap Pairs (listed.0 (walked.0 yes)), λ same. walked.1 (listed.1 (same_pairs given (mutual_pairs s) (sym reply ∙ same))))
