-- Texts that meet at a base: the base's lines end the first text and begin the second.
use Rattle.std.specs.Prelude.{◌≡◌, ℕ, ◌+◌, ◌-◌, List, [], ◌∷◌, ◌++◌, Result, Ok, Err}
use Rattle.byte_streams.specs.Lines.{IsLine}
use Rattle.entry_grammar.specs.declared.base_line.BaseNumbers.{BaseNumbers}
use Rattle.entry_grammar.specs.Spelling.{AreCounts, numbers_text}
use Rattle.auditor.specs.declared.fault.AuditFault.{AuditFault}
use Rattle.auditor.specs.declared.fault.AuditFault.TheVariants.{BadHeader, NotALine, OutOfOrder, NotTheMachines, BadBase, Read, Memory}
use Rattle.auditor.specs.declared.summary.Summary.{Summary}
use Rattle.auditor.specs.Damage.{BeginsBase, line_feeds}

-- the text is empty, or consists of whole lines
abbrev pub EndsLine : List ℕ → Type 0
EndsLine [] = Unit {0}
EndsLine (b ∷ []) = b ≡ 10
EndsLine (b ∷ c ∷ bytes) = EndsLine (c ∷ bytes)

-- A text whose length follows from its beginning: a base's first line, a second line, and whole lines after
-- these two. If the second line has the numbers of a base, one more line follows for each node and each edge
-- that the numbers count, whatever these lines contain.
pub record IsSeam (text : List ℕ) : Type 0 where
  pub head : List ℕ
  pub numbers : List ℕ
  pub rest : List ℕ
  pub is : text ≡ head ++ 10 ∷ (numbers ++ 10 ∷ rest)
  pub begins : BeginsBase head
  pub first : IsLine head
  pub second : IsLine numbers
  pub whole : EndsLine rest
  pub told : (q : BaseNumbers) → AreCounts q → numbers ≡ numbers_text q → line_feeds rest ≡ q.nodes + q.edges

-- The first text ends with a seam, and the second begins with the same seam. The joined text has the seam
-- once: the first text's lines before the seam, then the second text.
pub record Meets (first second : List ℕ) : Type 0 where
  pub own : List ℕ
  pub seam : List ℕ
  pub behind : List ℕ
  pub lines : EndsLine own
  pub is_seam : IsSeam seam
  pub ends : first ≡ own ++ seam
  pub begins : second ≡ seam ++ behind

-- ---- verdicts

abbrev pub Verdict : Type 0
Verdict = Result Summary AuditFault

-- the counts of both texts: the second begins in the last epoch of the first
abbrev pub counted_both : Summary → Summary → Summary
counted_both c d = record { entries = c.entries + d.entries; epochs = c.epochs + d.epochs - 1; moves = c.moves + d.moves }

-- the damage, its line increased by this many lines; other faults name no line
abbrev pub further : ℕ → AuditFault → AuditFault
further lines BadHeader = BadHeader
further lines (NotALine line) = NotALine (lines + line)
further lines (OutOfOrder line) = OutOfOrder (lines + line)
further lines (NotTheMachines line) = NotTheMachines (lines + line)
further lines (BadBase line) = BadBase (lines + line)
further lines Read = Read
further lines Memory = Memory

-- the verdict of two texts as one, if the first text has this many lines before the seam
abbrev pub joined_verdict : Verdict → ℕ → Verdict → Verdict
joined_verdict (Err fault) lines second = Err fault
joined_verdict (Ok c) lines (Ok d) = Ok (counted_both c d)
joined_verdict (Ok c) lines (Err fault) = Err (further lines fault)
