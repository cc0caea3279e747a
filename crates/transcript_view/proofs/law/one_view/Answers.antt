use Rattle.transcript_view.proofs.Once.{picture_once, table_once}
use Rattle.transcript_view.proofs.law.one_view.Goals as goal

pub returns-clause-picture : goal.returns-clause-picture
returns-clause-picture c = picture_once

pub returns-clause-table : goal.returns-clause-table
returns-clause-table c = table_once
