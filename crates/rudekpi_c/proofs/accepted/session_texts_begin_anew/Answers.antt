use Rattle.rudekpi_c.proofs.RunningSessions.{begins, begins_anew, goes_on}
use Rattle.rudekpi_c.proofs.accepted.session_texts_begin_anew.Goals as goal

pub returns-clause-begins : goal.returns-clause-begins
returns-clause-begins c = begins

pub returns-clause-goes_on : goal.returns-clause-goes_on
returns-clause-goes_on c = goes_on

pub returns-clause-anew : goal.returns-clause-anew
returns-clause-anew c = begins_anew
