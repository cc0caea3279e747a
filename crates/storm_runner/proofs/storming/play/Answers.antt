use Rattle.storm_runner.proofs.Prelude.{Option, ap, subst, Base, beginning_of, name_count_of, first_nodes_of, log_limit_of, asked_of, kept_of, StormStart, Leaves}
use Rattle.storm_runner.proofs.StormResults.{leaves_as_asked}
use Rattle.storm_runner.proofs.storming.play.Goals as goal

pub returns-clause-log : goal.returns-clause-log
returns-clause-log g c =
    let t = g.R.Rules.table in
    let weight = g.R.Rules.NODE_WEIGHT in
    let asked = asked_of c.args.options.now in
    let left = c.in_ok-play_scripts.field-0 in
    let told = c.in_ok-play_scripts.ensures in
    let net = c.in-Ok.net in
    let made = c.in-Ok.ensures in
    let start = ap (λ (b : Option Base). record { asked = asked; base = b }) made.beginning in
    subst (λ (at : StormStart). Leaves t weight at c.args.scripts.now left.1 (kept_of left.0)) start
    (leaves_as_asked t weight asked (beginning_of net) (name_count_of net) (first_nodes_of net) (log_limit_of net) c.roamers.result c.turns.result c.args.scripts.now left.1 (kept_of left.0) made.nodes made.present made.limit c.roamers.ensures.count c.turns.ensures.count told.run told.upheld told.size told.storm)
