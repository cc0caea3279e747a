-- A clerk's note, a later note, and the log.
use Rattle.locked_net.proofs.Prelude.{◌≡◌, List, Option, None, Some, Result, Ok, Err, IfOk, IfErr, MatchOption, inl, inr, refl, sym, subst, All, Entry, AreComparable, PublishedLog, ClerkView, noted, IsPartNoted, IsPublished, Setting, Book, RetainedLog}
use mathlib.Core.List.{IsPrefix}

-- without a note, the empty log is a prefix of each log
pub none_begins : (note : Option PublishedLog) (other : List Entry) → ((told : PublishedLog) → note ≡ Some told → ⊥) → AreComparable (noted note) other
none_begins None other none = inl (other, refl)
none_begins (Some told) other none = absurd (none told refl)

pub none_follows : {A : Type 0} (found : Option A) (Has : A → Type 0) (note : Option PublishedLog) (other : List Entry) → ((a : A) → found ≡ Some a → ⊥) → MatchOption found (note ≡ None) Has → AreComparable other (noted note)
none_follows None Has note other none is = rw is (inr (other, refl))
none_follows (Some a) Has note other none is = absurd (none a refl)

-- ---- the log

-- what is kept is a part of the noted log, and each clerk's note is of a prefix of that
pub part_noted : (setting : Setting) (book : Book) (kept : RetainedLog) (note : PublishedLog) (clerks : List ClerkView) → IsPublished setting book kept note → All (λ clerk. IsPrefix (noted clerk.note) note.log) clerks → IsPartNoted setting kept clerks
part_noted setting book kept note clerks is begin =
    record { part = is.part; begins = subst (λ (log : List Entry). All (λ clerk. IsPrefix (noted clerk.note) log) clerks) is.published begin }

-- ---- what holds of a journal holds of it if it comes back

pub holds_at_ok : {A E : Type 0} (P : A → Type 0) (whole : A) (result : Result A E) → P whole → IfOk result (λ a. a ≡ whole) → IfOk result P
holds_at_ok P whole (Ok a) holds same = subst P (sym same) holds
holds_at_ok P whole (Err e) holds same = tt

pub holds_at_err : {A E : Type 0} {P Q S : E → Type 0} (result : Result A E) → IfErr result P → IfErr result Q → ((e : E) → P e → Q e → S e) → IfErr result S
holds_at_err (Ok a) one other then = tt
holds_at_err (Err e) one other then = then e one other
