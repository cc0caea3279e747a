use Rattle.cli_args.proofs.Prelude.{refl, ◌^◌, codes, found_of, one_text}
use Rattle.std.specs.contracts.prelude.U16FromStr.TheImpl.{ghosts}
use Rattle.cli_args.proofs.FoundMatches.{no_rules, rules_are, run_held, maybe_read, none_given}
use Rattle.cli_args.proofs.task.network.Goals as goal

pub returns-in_default : goal.returns-in_default
returns-in_default c r n p k h = no_rules (found_of c.args.found.now) r n p k c.in_default.ensures h

pub returns-in_default-rules_named : goal.returns-in_default-rules_named
returns-in_default-rules_named c r n p k h =
    c.in_default-rules_named.ensures r (rules_are (found_of c.args.found.now) c.in-Some.word.now r n p k c.in-Some.ensures h)

pub returns-in_default-number : goal.returns-in_default-number
returns-in_default-number c r n p k h = c.in_default-number.ensures n h.nodes_is

pub returns-in_default-try_get_one : goal.returns-in_default-try_get_one
returns-in_default-try_get_one c r n p k h =
    none_given ghosts.from_str_gives (2 ^ 16) (codes "present") (found_of c.args.found.now) c.in_default-try_get_one.field-0 p c.in_default-try_get_one.ensures.none c.in_default-try_get_one.ensures.value (λ t v none is. none.0 is.0) h.present_is

pub returns-in_default-number-2 : goal.returns-in_default-number-2
returns-in_default-number-2 c r n p k h = c.in_default-number-2.ensures k h.workers_is

pub returns : goal.returns
returns c =
    let f = found_of c.args.found.now in
    run_held f c.in-Some.word.now c.in-Some-rules_named.rules c.in-Some-number.nodes c.in-Ok.present c.in-Some-number-2.workers c.in-Some.ensures c.in-Some-rules_named.ensures c.in-Some-number.ensures
    (maybe_read ghosts.from_str_gives (2 ^ 16) (codes "present") f (one_text f (codes "present")) c.in-Ok.present refl c.in-Ok.ensures.none c.in-Ok.ensures.value (λ t v read. read.0))
    c.in-Some-number-2.ensures
