use Rattle.auditor.proofs.LongLines.{base_too_long}
use Rattle.auditor.proofs.Prelude.{◌+◌, ◌*◌, length, ◌<◌, ◌≤◌, arith, refl, inr, base_head, base_lines, line_feeds}
use Rattle.auditor.proofs.ReadOpenings.{base_opened, breaks_few, edges_rise}
use Rattle.auditor.proofs.NextParts.{broken_more, nowhere_more}
use Rattle.auditor.proofs.Windows.{base_few, breaks_last}
use Rattle.auditor.proofs.transcript_cursor.TranscriptCursor.at_base.Goals as goal
use Rattle.auditor.proofs.transcript_cursor.TranscriptCursor.at_base.Goals.{else-line_feeds-number-via-then-line_feeds-number+else-is_short, else-line_feeds-number-via-else-line_feeds-number}

pub returns-then-is_short-clause-begins : goal.returns-then-is_short-clause-begins
returns-then-is_short-clause-begins c =
    let bad = c.in-Err-BadLine in
    let short : line_feeds c.args.rest.now < bad.number = omega (arith, c.line_feeds.ensures, bad.number-is, c.if-line_feeds-number.true) in
    inr (record { rules = c.args.rules; size = c.args.size; rest = c.args.rest.now; few = c.requires.few; first = c.requires.first; breaks = breaks_last _ _ (bad.ensures.bad bad.number bad.field-0-is) short })

pub is_short-requires : goal.is_short-requires
is_short-requires c =
    let few = breaks_few _ _ (c.in-Err-BadLine.ensures.bad c.in-Err-BadLine.number c.in-Err-BadLine.field-0-is) in
    grind (arith, c.in-Err-BadLine.number-is)

pub overflow_add-result : goal.overflow_add-result
overflow_add-result c =
    let few = breaks_few _ _ (c.in-Err-BadLine.ensures.bad c.in-Err-BadLine.number c.in-Err-BadLine.field-0-is) in
    grind (arith, c.in-Err-BadLine.number-is)

pub returns-in-Err-BadLine-clause-fault : goal.returns-in-Err-BadLine-clause-fault
returns-in-Err-BadLine-clause-fault c more =
    let bad = c.in-Err-BadLine in
    let breaks = bad.ensures.bad bad.number bad.field-0-is in
    rw bad.number-is
    (elim c.else-line_feeds-number.branch [
      | else-line_feeds-number-via-then-line_feeds-number+else-is_short w ↦
          let short : line_feeds c.args.rest.now < bad.number = omega (arith, c.line_feeds.ensures, bad.number-is, w.if-line_feeds-number.true) in
          let long : 128 * bad.number + 128 ≤ length c.args.rest.now = omega (arith, bad.number-is, w.is_short.ensures w.if-is_short.false) in
          base_too_long _ _ _ _ _ c.requires.few c.requires.first breaks short long more
      | else-line_feeds-number-via-else-line_feeds-number w ↦
          broken_more _ _ more _ _ _ c.requires.few c.requires.first breaks (omega (arith, c.line_feeds.ensures, bad.number-is, w.if-line_feeds-number.false))
    ])

pub returns-then-base-gt-MAX_ENTRIES-clause-fault : goal.returns-then-base-gt-MAX_ENTRIES-clause-fault
returns-then-base-gt-MAX_ENTRIES-clause-fault c =
    nowhere_more _ _ _ _ _ _ c.requires.few c.requires.first c.in-Ok.ensures.shaped c.in-Ok.ensures.base (λ start opens. omega (arith, opens.fits.number, c.if-base-gt-MAX_ENTRIES.true))

pub at_base-requires-clause-edges_rise : goal.at_base-requires-clause-edges_rise
at_base-requires-clause-edges_rise c = edges_rise _ _ c.in-Ok.ensures.shaped.edges_rise

pub returns-in_default-clause-fault : goal.returns-in_default-clause-fault
returns-in_default-clause-fault c =
    nowhere_more _ _ _ _ _ _ c.requires.few c.requires.first c.in-Ok.ensures.shaped c.in-Ok.ensures.base (λ start opens. c.in_ok-judge.ensures.none c.in_default.is start.moment opens.begins opens.fits.edges)

pub lines_before-requires : goal.lines_before-requires
lines_before-requires c = base_few c.args.text.now (base_head c.args.rules c.args.size) c.args.rest.now (base_lines c.in-Ok.found.0) c.in-Ok.found.1.now c.requires.first c.in-Ok.ensures.base

pub returns-clause-begins : goal.returns-clause-begins
returns-clause-begins c = record {
  opened = base_opened _ _ _ _ _ _ _ _ _ c.requires.few c.requires.first c.in-Ok.ensures.base c.in-Ok.ensures.shaped (omega (arith, c.if-base-gt-MAX_ENTRIES.false)) c.in_ok-judge.ensures.begun c.in-Some.is c.new.ensures;
  counted = c.lines_before.ensures;
  unwanted = c.new-2.ensures.items;
  none_same = refl;
}
