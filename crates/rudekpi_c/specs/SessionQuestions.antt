-- What C reads of a session without an entry.
use Rattle.std.specs.Prelude.{◌≡◌, ◌⊎◌, ◌≤◌, ◌<◌, ◌++◌, ℕ, Bool, List, [], length, drop, Option, None, Some}
use Rattle.rudekpi_c.specs.Session.{stands, rules_of, limit_of, with_text_if}
use Rattle.rudekpi_c.specs.ReplyNumbers.{rows_of}
use Rattle.rudekpi_c.specs.declared.call_result.Row.{Row}
use Rattle.rudekpi_c.specs.declared.session.Session.{Session}

-- 4: there is no session, and nothing is written; else this answer of the session
abbrev pub AnswersInSession : (Session → Type 0) → ℕ → Type 0 → Option Session → Type 0
AnswersInSession answer status nothing None = (status ≡ 4) × nothing
AnswersInSession answer status nothing (Some s) = answer s

-- 5: an argument is out of range, and nothing is written; else as `AnswersInSession` says
abbrev pub AnswersInRange : Type 0 → (Session → Type 0) → ℕ → Type 0 → Option Session → Type 0
AnswersInRange range answer status nothing session =
    ((range → ⊥) × (status ≡ 5) × nothing) ⊎ (range × AnswersInSession answer status nothing session)

-- the items are at the start and the rest is unchanged; if there is too little room, all is unchanged
abbrev pub ArePut : {X : Type 0} → List X → List X → List X → Type 0
ArePut items old new =
    (length items ≤ length old → new ≡ items ++ drop (length items) old) × (length old < length items → new ≡ old)

-- there is no list: the count is 0, and nothing was copied
abbrev pub IsUnlisted : {X : Type 0} → ℕ → List X → List X → Type 0
IsUnlisted count old new = (count ≡ 0) × (new ≡ old)

-- 0: how many items there are; they were copied if there is room for all
abbrev pub Lists : {X : Type 0} → List X → ℕ → ℕ → List X → List X → Type 0
Lists items status count old new = (status ≡ 0) × (count ≡ length items) × ArePut items old new

-- 3: memory ran out; 0: as `Lists` says
abbrev pub ListsInMemory : {X : Type 0} → List X → ℕ → ℕ → List X → List X → Type 0
ListsInMemory items status count old new = ((status ≡ 3) × IsUnlisted count old new) ⊎ Lists items status count old new

-- the rows of the last answer
abbrev pub rows_kept : Option Session → List Row
rows_kept None = []
rows_kept (Some s) = rows_of s.answer.reply

-- from now on the session keeps its text; or it does not, and its text is empty
pub record KeepsTranscript (keeps : Bool) (s : Session) (new : Option Session) : Type 0 where
  pub t : Session
  pub is : new ≡ Some t
  pub rules : rules_of t ≡ rules_of s
  pub limit : limit_of t ≡ limit_of s
  pub lines : t.lines ≡ s.lines
  pub answer : t.answer ≡ s.answer
  pub keeps_is : t.keeps ≡ keeps
  pub stands_is : stands t ≡ with_text_if keeps (stands s)

abbrev pub AnswersKeep : Bool → ℕ → Option Session → Option Session → Type 0
AnswersKeep keeps status None new = (status ≡ 4) × (new ≡ None)
AnswersKeep keeps status (Some s) new = (status ≡ 0) × KeepsTranscript keeps s new
