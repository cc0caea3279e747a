use Rattle.transcript_laws.proofs.AcceptedLaws.{first_written, joined_start, own_start}
use Rattle.transcript_laws.proofs.Sessions.{command_stays, line_stays, text_accepted, text_taken}
use Rattle.transcript_laws.proofs.law.sessions_stay_transcripts.Goals as goal

pub returns-clause-begins : goal.returns-clause-begins
returns-clause-begins c = first_written

pub returns-clause-resumes : goal.returns-clause-resumes
returns-clause-resumes c = joined_start

pub returns-clause-alone : goal.returns-clause-alone
returns-clause-alone c = own_start

pub returns-clause-line : goal.returns-clause-line
returns-clause-line c = line_stays

pub returns-clause-command : goal.returns-clause-command
returns-clause-command c = command_stays

pub returns-clause-taken : goal.returns-clause-taken
returns-clause-taken c = text_taken

pub returns-clause-accepted : goal.returns-clause-accepted
returns-clause-accepted c = text_accepted
