use Rattle.script_text.proofs.Prelude.{hsu_huang, manne, hsu_huang_table, manne_table, hsu_huang_charged, manne_charged}
use Rattle.script_text.proofs.Silence.{lines_end_silent}
use Rattle.script_text.proofs.law.long_drives_end_silent.Goals as goal

pub returns-clause-hsu_huang : goal.returns-clause-hsu_huang
returns-clause-hsu_huang c = lines_end_silent hsu_huang 1 hsu_huang_table hsu_huang_charged

pub returns-clause-manne : goal.returns-clause-manne
returns-clause-manne c = lines_end_silent manne 3 manne_table manne_charged
