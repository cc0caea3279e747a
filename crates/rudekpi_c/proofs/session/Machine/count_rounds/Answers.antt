use Rattle.std.proofs.Common.{◌≡◌, OnOk, ap, subst, sym}
use Rattle.rule_machine.specs.Tables.{table_of}
use Rattle.run_session.specs.Line.{progress}
use Rattle.auditor.proofs.PieceReading.{for_on}
use Rattle.rudekpi_c.specs.RoundCalls.{counted_from}
use Rattle.rudekpi_c.specs.declared.session.Machine.{Machine}
use Rattle.rudekpi_c.specs.Session.{stands_at, rules_at}
use Rattle.rudekpi_c.proofs.session.Machine.count_rounds.Goals as goal

pub returns-in-Hh-clause-ok : goal.returns-in-Hh-clause-ok
returns-in-Hh-clause-ok c =
    let run = c.in-Hh.run' in
    let after = c.count_rounds.new.self in
    subst (λ (m : Machine). OnOk c.count_rounds.result (progress run.rules after run.text.items ≡ counted_from (table_of (rules_at m)) (stands_at m))) (sym c.in-Hh.is)
    (for_on c.count_rounds.result _ _ c.count_rounds.ensures.ok (λ e. ap (λ recorder. progress run.rules recorder run.text.items) e))

pub returns-in-Manne-clause-ok : goal.returns-in-Manne-clause-ok
returns-in-Manne-clause-ok c =
    let run = c.in-Manne.run' in
    let after = c.count_rounds-in-Manne.new.self in
    subst (λ (m : Machine). OnOk c.count_rounds-in-Manne.result (progress run.rules after run.text.items ≡ counted_from (table_of (rules_at m)) (stands_at m))) (sym c.in-Manne.is)
    (for_on c.count_rounds-in-Manne.result _ _ c.count_rounds-in-Manne.ensures.ok (λ e. ap (λ recorder. progress run.rules recorder run.text.items) e))
