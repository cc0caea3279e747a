use Rattle.std.proofs.Common.{refl}
use Rattle.auditor.proofs.ReadOpenings.{header_opened}
use Rattle.auditor.proofs.Windows.{rest_few}
use Rattle.auditor.proofs.transcript_cursor.TranscriptCursor.at_header.Goals as goal

pub lines_before-requires : goal.lines_before-requires
lines_before-requires c = rest_few _ _ _ c.requires.line.1

pub returns-clause-begins : goal.returns-clause-begins
returns-clause-begins c = record {
  opened = header_opened _ _ _ c.args.header _ _ c.requires.line.1 c.requires.line.2 c.in_ok-judge.ensures c.new.ensures;
  counted = c.lines_before.ensures;
  unwanted = c.new-2.ensures.items;
  none_same = refl;
}
