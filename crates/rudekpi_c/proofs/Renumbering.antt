-- A session that was renumbered and is put back.
use Rattle.std.proofs.Common.{◌≡◌, ◌∙◌, ℕ, Bool, true, false, Option, Some, inl, inr, refl, ap}
use Rattle.script_text.specs.Script.{Progress}
use Rattle.rudekpi_c.specs.declared.session.Machine.{Machine}
use Rattle.rudekpi_c.specs.declared.session.Session.{Session}
use Rattle.rudekpi_c.specs.Session.{stands, stands_at, with_text_if, HasSameRules}
use Rattle.rudekpi_c.specs.Slot.{IsPutBack}
use Rattle.rudekpi_c.specs.Renumbering.{renumbered, ended_length, RenumberingEnds, IsRenumbered}

moment_kept : (keeps : Bool) (at : Progress) → (with_text_if keeps at).moment ≡ at.moment
moment_kept true at = refl
moment_kept false at = refl

-- a session was taken out, and is put back
ended_so : {status ended : ℕ} {old new : Option Session} (s : Session) (m : Machine) → old ≡ Some s → HasSameRules s.machine m → IsPutBack (record s { machine = m }) new → RenumberingEnds status ended s (stands_at m) → (stands_at m).moment ≡ (stands s).moment → IsRenumbered status ended old new
ended_so s m was same back ends moment = record {
  s = s;
  t = record s { machine = back.machine };
  was = was;
  is = back.is;
  goes_on = record { rules = back.same.0 ∙ same.0; limit = back.same.1 ∙ same.1; keeps = refl };
  lines_is = refl;
  answer_is = refl;
  after = stands_at m;
  ends = ends;
  stands_is = back.stands_is;
  same_moment = ap (λ (p : Progress). p.moment) back.stands_is ∙ moment_kept s.keeps (stands_at m) ∙ moment;
}

-- the entries are numbered from 1 again
pub was_renumbered : {ended : ℕ} {old new : Option Session} (s : Session) (m : Machine) → old ≡ Some s → HasSameRules s.machine m → IsPutBack (record s { machine = m }) new → stands_at m ≡ renumbered (stands s) → ended ≡ ended_length s → IsRenumbered 0 ended old new
was_renumbered s m was same back done is = ended_so s m was same back (inl (refl, is, done)) (ap (λ (p : Progress). p.moment) done)

-- memory ran out
pub was_not_renumbered : {old new : Option Session} (s : Session) (m : Machine) → old ≡ Some s → HasSameRules s.machine m → IsPutBack (record s { machine = m }) new → stands_at m ≡ stands s → IsRenumbered 3 0 old new
was_not_renumbered s m was same back kept = ended_so s m was same back (inr (refl, refl, kept)) (ap (λ (p : Progress). p.moment) kept)
