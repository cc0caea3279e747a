use Rattle.storm_runner.proofs.Prelude.{◌≡◌, ◌∙◌, ℕ, ◌≤◌, Option, ap, sym, subst, arith, RuleTable, Base, RetainedLog, beginning_of, name_count_of, first_nodes_of, log_limit_of}
use Rattle.std.specs.Prelude.{IfOk, max, min}
use Rattle.rule_machine.specs.Network.{node_count}
use Rattle.rule_machine.specs.Run.{Moment}
use Rattle.step_log.specs.BaseStarts.{resumed_log}
use Rattle.storm_runner.proofs.opening.resumed_net.Goals as goal

-- what a journal keeps that goes on with the network of a moment
at_moment : (kept : RetainedLog) (here there : Moment) (number limit : ℕ) → kept ≡ resumed_log here number limit → here ≡ there → kept ≡ resumed_log there number limit
at_moment kept here there number limit is same = is ∙ ap (λ (m : Moment). resumed_log m number limit) same

limit_kept : (number limit : ℕ) → number ≤ limit → limit ≤ 16777216 → max number (min limit 16777216) ≡ limit
limit_kept number limit within few = grind arith

pub of_state-requires-clause-unflagged : goal.of_state-requires-clause-unflagged
of_state-requires-clause-unflagged g c none v = c.args.restart.unflagged (ap (λ (t : RuleTable). t.flags) c.requires.table ∙ none) v

pub of_journal-requires-clause-present : goal.of_journal-requires-clause-present
of_journal-requires-clause-present g c =
    let kept = c.in_ok-journal.ensures.kept in
    ap (λ (k : RetainedLog). k.present) kept ∙ sym (ap (λ (k : RetainedLog). node_count k.state.network) kept)

pub returns-clause-nodes : goal.returns-clause-nodes
returns-clause-nodes g c =
    let restart = c.args.restart in
    let kept = at_moment _ _ _ restart.number restart.limit c.in_ok-journal.ensures.kept c.in_ok-net.ensures.moment in
    subst (λ (n : ℕ). IfOk c.of_journal.result (λ made. name_count_of made ≡ n)) (ap (λ (k : RetainedLog). k.state.network.size) kept) c.of_journal.ensures.nodes

pub returns-clause-present : goal.returns-clause-present
returns-clause-present g c =
    let restart = c.args.restart in
    let kept = at_moment _ _ _ restart.number restart.limit c.in_ok-journal.ensures.kept c.in_ok-net.ensures.moment in
    subst (λ (n : ℕ). IfOk c.of_journal.result (λ made. first_nodes_of made ≡ n)) (ap (λ (k : RetainedLog). k.present) kept) c.of_journal.ensures.present

pub returns-clause-limit : goal.returns-clause-limit
returns-clause-limit g c =
    let restart = c.args.restart in
    let limit = ap (λ (k : RetainedLog). k.limit) c.in_ok-journal.ensures.kept ∙ limit_kept restart.number restart.limit restart.numbered restart.few_entries in
    subst (λ (n : ℕ). IfOk c.of_journal.result (λ made. log_limit_of made ≡ n)) limit c.of_journal.ensures.limit

pub returns-clause-beginning : goal.returns-clause-beginning
returns-clause-beginning g c =
    let restart = c.args.restart in
    let kept = at_moment _ _ _ restart.number restart.limit c.in_ok-journal.ensures.kept c.in_ok-net.ensures.moment in
    subst (λ (base : Option Base). IfOk c.of_journal.result (λ made. beginning_of made ≡ base)) (ap (λ (k : RetainedLog). k.base) kept) c.of_journal.ensures.beginning
