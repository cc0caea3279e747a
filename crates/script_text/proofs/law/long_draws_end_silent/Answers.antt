use Rattle.script_text.proofs.Prelude.{hsu_huang, manne, hsu_huang_table, manne_table, hsu_huang_charged, manne_charged}
use Rattle.script_text.proofs.DrawnTurns.{driven_is_quiet}
use Rattle.script_text.proofs.law.long_draws_end_silent.Goals as goal

pub returns-clause-hsu_huang : goal.returns-clause-hsu_huang
returns-clause-hsu_huang c s good turns few stream = driven_is_quiet hsu_huang 1 hsu_huang_table hsu_huang_charged turns s good few stream

pub returns-clause-manne : goal.returns-clause-manne
returns-clause-manne c s good turns few stream = driven_is_quiet manne 3 manne_table manne_charged turns s good few stream
