use Rattle.rudekpi_c.proofs.SessionTexts.{command_stays, counting_stays, kept_stays, line_stays, opened_written, read_on, renumbered_next, resumed_written, text_is_accepted, unchanged_stays, unread_stays}
use Rattle.rudekpi_c.proofs.accepted.session_texts_are_accepted.Goals as goal

pub returns-clause-opened : goal.returns-clause-opened
returns-clause-opened c = opened_written

pub returns-clause-resumed : goal.returns-clause-resumed
returns-clause-resumed c = resumed_written

pub returns-clause-line : goal.returns-clause-line
returns-clause-line c line was status number old new answers ended first opening has = line_stays ended first opening line was status number old new answers has

pub returns-clause-command : goal.returns-clause-command
returns-clause-command c command status told old new answers ended first opening has = command_stays ended first opening command status told old new answers has

pub returns-clause-counted : goal.returns-clause-counted
returns-clause-counted c status old new answers ended first opening has = counting_stays ended first opening status old new answers has

pub returns-clause-kept : goal.returns-clause-kept
returns-clause-kept c status old new answers ended first opening has = kept_stays ended first opening status old new answers has

pub returns-clause-read : goal.returns-clause-read
returns-clause-read c = read_on

pub returns-clause-unread : goal.returns-clause-unread
returns-clause-unread c was out n old new handed less ended first opening has = unread_stays ended first opening was out n old new handed less has

pub returns-clause-renumbered : goal.returns-clause-renumbered
returns-clause-renumbered c = renumbered_next

pub returns-clause-unchanged : goal.returns-clause-unchanged
returns-clause-unchanged c status n old new answers other ended first opening has = unchanged_stays ended first opening status n old new answers other has

pub returns-clause-accepted : goal.returns-clause-accepted
returns-clause-accepted c s ended first opening has = text_is_accepted ended first opening s has
