use Rattle.auditor.proofs.Prelude.{inr, length, refl, ap, arith, ∥∥₁_elim, props}
use Rattle.auditor.proofs.NextParts.{wanted_is}
use Rattle.auditor.proofs.Spent.{reached_within}
use Rattle.auditor.proofs.transcript_cursor.TranscriptCursor.want_base.Goals as goal

pub base-requires : goal.base-requires
base-requires c = record { bounded = ∥∥₁_elim c.requires.at.1 (search props) (λ at. reached_within at.bytes _ _ _ _ at.at.reached) }

pub returns-then-not-is_empty : goal.returns-then-not-is_empty
returns-then-not-is_empty c = record {
  rules = refl;
  size = refl;
  audit = refl;
  lines = refl;
  same = refl;
  text = wanted_is _ _ c.requires.compared.1 (λ e. let none = ap length e in grind (arith, none));
  before_it = inr refl;
}
