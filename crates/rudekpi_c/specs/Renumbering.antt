-- Sessions whose entries are numbered from 1 again.
use Rattle.std.specs.Prelude.{◌≡◌, ◌⊎◌, ℕ, Bool, true, false, length, Option, Some}
use Rattle.script_text.specs.Script.{Progress, with_checkpoint}
use Rattle.rudekpi_c.specs.Session.{stands, with_text_if, GoesOn}
use Rattle.rudekpi_c.specs.Slot.{IsNobody}
use Rattle.rudekpi_c.specs.declared.session.Session.{Session}

-- the progress with no entry counted; the state and the moves spent are the same
abbrev pub recounted : Progress → Progress
recounted at = record at { count = 0 }

-- The base of the state ends the transcript so far. The base of the same state with the number 0 begins the
-- next transcript, and no entry is counted.
abbrev pub renumbered : Progress → Progress
renumbered at = with_checkpoint (recounted (with_checkpoint at))

abbrev pub length_if : Bool → ℕ → ℕ
length_if true n = n
length_if false n = 0

-- how many bytes of the text belong to the transcript so far; 0 if no transcript is kept
abbrev pub ended_length : Session → ℕ
ended_length s = length_if s.keeps (length (with_checkpoint (stands s)).text)

-- 0: the entries are numbered from 1 again; 3: memory ran out, and nothing was done
abbrev pub RenumberingEnds : ℕ → ℕ → Session → Progress → Type 0
RenumberingEnds status ended s after =
    ((status ≡ 0) × (ended ≡ ended_length s) × (after ≡ renumbered (stands s)))
    ⊎ ((status ≡ 3) × (ended ≡ 0) × (after ≡ stands s))

-- the session goes on in the same state, with the same number of moves spent
pub record IsRenumbered (status ended : ℕ) (old new : Option Session) : Type 0 where
  pub s : Session
  pub t : Session
  pub was : old ≡ Some s
  pub is : new ≡ Some t
  pub goes_on : GoesOn s t
  pub lines_is : t.lines ≡ s.lines
  pub answer_is : t.answer ≡ s.answer
  pub after : Progress
  pub ends : RenumberingEnds status ended s after
  pub stands_is : stands t ≡ with_text_if t.keeps after
  pub same_moment : (stands t).moment ≡ (stands s).moment

-- the session was renumbered, or memory ran out; or there was no session
abbrev pub AnswersRenumber : ℕ → ℕ → Option Session → Option Session → Type 0
AnswersRenumber status ended old new = IsRenumbered status ended old new ⊎ (IsNobody status old new × (ended ≡ 0))
