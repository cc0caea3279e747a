-- A transcript that is gone through from its beginning to its end.
use Rattle.auditor.proofs.Prelude.{◌≡◌, ℕ, ◌+◌, ◌<◌, ◌^◌, inl, List, [], ◌++◌, None, Err, length, sym, ap, ◌∙◌, append_assoc, arith, append_cancel_right, length-append, ∥∥₁_elim, ∥∥₁_map, props, AuditFault, Memory, TranscriptCursor, part_text, stand_of, IsMetBehind, IsMetFirst, IsCursorAfter, IsCursorAt, IsCompared, IsPassed, IsReachable, StaysInPlace, IsJudged}
use Rattle.auditor.proofs.Chains.{comes_shorter}
use Rattle.auditor.proofs.LineCounts.{feeds_few}
use Rattle.auditor.proofs.AuditPositions.{opened_reached, reached_more}
use Rattle.auditor.proofs.Windows.{feeds_append, same_none}

-- what is met is what is judged
pub first_judged : (bytes : List ℕ) (fault : AuditFault) → IsMetFirst bytes fault → IsJudged bytes (Err fault)
first_judged bytes Memory met = tt
first_judged bytes damage met = (met None).is

pub behind_judged : (bytes : List ℕ) (count : ℕ) (fault : AuditFault) → IsMetBehind bytes count fault → IsJudged bytes (Err fault)
behind_judged bytes count Memory met = tt
behind_judged bytes count damage met = (met None tt).is

-- ---- where a replay is

-- all that it has counted is in the bytes
pub somewhere_few : (replay : TranscriptCursor) (rest : List ℕ) → IsReachable replay rest → replay.lines + length rest < 2 ^ 63
somewhere_few replay rest somewhere = ∥∥₁_elim somewhere (search props) (λ s.
    let f = s.at.reached.follows in
    omega (arith, s.few, s.at.counted f.good f.splits, feeds_few f.good, ap length f.splits, length-append f.good rest))

-- another replay is at the same place
pub waited : (bytes : List ℕ) (old new : TranscriptCursor) (rest all : List ℕ) → StaysInPlace old new rest → IsCursorAt bytes old all → IsCursorAt bytes new all
waited bytes old new rest all w at = record { reached = rw (w.rules, w.size, w.audit) at.reached; counted = λ good e. w.lines ∙ at.counted good e }

pub waited_somewhere : (old new : TranscriptCursor) (rest : List ℕ) → IsReachable old rest → StaysInPlace old new rest → IsReachable new rest
waited_somewhere old new rest somewhere w = ∥∥₁_map somewhere (λ at. record { bytes = at.bytes; few = at.few; at = waited at.bytes old new rest rest w at.at })

-- ---- behind the beginning

pub begun_at : (text : List ℕ) (replay : TranscriptCursor) (rest : List ℕ) → IsCursorAfter text replay rest → IsCursorAt text replay rest
begun_at text replay rest b =
    let o = b.opened in
    record { reached = opened_reached text replay.rules replay.size replay.audit rest o.start o.follows o.size_is o.opening; counted = b.counted }

-- no base's text is there yet
pub compared_none : (replay : TranscriptCursor) (rest : List ℕ) → replay.wanted.items ≡ [] → replay.same ≡ 0 → IsCompared replay rest
compared_none replay rest unwanted none = ∣ record { text = inl unwanted; alike = same_none replay.wanted.items rest replay.same none } ∣₁

-- ---- one part further

-- the part, cut out of the text
pub passed_at : (bytes : List ℕ) (old new : TranscriptCursor) (rest behind : List ℕ) → IsCursorAt bytes old rest → IsPassed old new rest behind → IsCursorAt bytes new behind
passed_at bytes old new rest behind at p = record {
  reached = rw (p.rules, p.size) (reached_more bytes old.rules old.size old.audit new.audit rest behind at.reached p.further);
  counted = λ good e.
      let f = at.reached.follows in
      let text = part_text old.rules old.size old.audit.number p.further.part in
      let is : rest ≡ text ++ behind = p.further.comes.is in
      let same : good ≡ f.good ++ text = append_cancel_right good (f.good ++ text) behind (sym e ∙ f.splits ∙ ap (λ (z : List ℕ). f.good ++ z) is ∙ sym (append_assoc f.good text behind)) in
      p.lines text is ∙ simp (same, feeds_append, at.counted f.good f.splits);
}

pub passed_somewhere : (old new : TranscriptCursor) (rest behind : List ℕ) → IsReachable old rest → IsPassed old new rest behind → IsReachable new behind
passed_somewhere old new rest behind somewhere p = ∥∥₁_map somewhere (λ at. record { bytes = at.bytes; few = at.few; at = passed_at at.bytes old new rest behind at.at p })

pub passed_compared : (old new : TranscriptCursor) (rest behind : List ℕ) → IsPassed old new rest behind → IsCompared new behind
passed_compared old new rest behind p = compared_none new behind p.unwanted p.none_same

pub passed_shorter : (old new : TranscriptCursor) (rest behind : List ℕ) → IsPassed old new rest behind → length behind < length rest
passed_shorter old new rest behind p =
    comes_shorter old.rules old.size (stand_of old.audit) rest p.further.part (stand_of new.audit) behind p.further.comes
