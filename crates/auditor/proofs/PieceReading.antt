-- A transcript that is read piece by piece.
use Rattle.auditor.proofs.Prelude.{◌≡◌, ℕ, ◌+◌, ◌-◌, ◌<◌, ◌^◌, inl, inr, ⊎_elim, List, [], ◌++◌, Option, None, Some, IfSome, Result, Ok, Err, IfErr, OnOk, length, take, drop, refl, sym, ap, ap₂, subst, ◌∙◌, append_assoc, append-nil, arith, MatchOption, Consumes, append_cancel_right, length-append, take-append-drop, drop-append_seam, take-append_seam, Consumes-trans, ∥∥₁_elim, ∥∥₁_map, ∥∥₁_prop, AuditFault, IncrementalAudit, TranscriptCursor, part_text, EndsIn, IsCursorAt, IsCompared, IsMetAt, IsPassed, IsRead, IsReadOf, IsReachable, IsUnderway, StaysInPlace, IsJudged}
use Rattle.auditor.proofs.WholeTranscripts.{behind_judged}
use Rattle.auditor.proofs.Windows.{begins_more, same_more}

-- ---- more bytes come

-- the same transcript, in a text with another rest
at_with : (bytes text : List ℕ) (replay : TranscriptCursor) (rest left : List ℕ) (at : IsCursorAt bytes replay rest) → text ≡ at.reached.follows.good ++ left → ((good : List ℕ) → text ≡ good ++ left → bytes ≡ good ++ rest) → IsCursorAt text replay left
at_with bytes text replay rest left at splits same =
    let r = at.reached in
    record {
      reached = record {
        log = r.log;
        follows = record { opening = r.follows.opening; good = r.follows.good; transcript = r.follows.transcript; splits = splits };
        size_is = r.size_is;
        counts = r.counts;
      };
      counted = λ good e. at.counted good (same good e);
    }

pub at_more : (bytes more : List ℕ) (replay : TranscriptCursor) (rest : List ℕ) → IsCursorAt bytes replay rest → IsCursorAt (bytes ++ more) replay (rest ++ more)
at_more bytes more replay rest at =
    at_with bytes (bytes ++ more) replay rest (rest ++ more) at (ap (λ (l : List ℕ). l ++ more) at.reached.follows.splits ∙ append_assoc at.reached.follows.good rest more)
    (λ good e. append_cancel_right bytes (good ++ rest) more (e ∙ sym (append_assoc good rest more)))

-- and fewer
at_less : (bytes more : List ℕ) (replay : TranscriptCursor) (rest all : List ℕ) → all ≡ rest ++ more → IsCursorAt bytes replay all → (front : List ℕ) × (bytes ≡ front ++ more) × IsCursorAt front replay rest
at_less bytes more replay rest all is at =
    let good = at.reached.follows.good in
    let splits : bytes ≡ (good ++ rest) ++ more = at.reached.follows.splits ∙ ap (λ (l : List ℕ). good ++ l) is ∙ sym (append_assoc good rest more) in
    (good ++ rest, splits, at_with bytes (good ++ rest) replay all rest at refl (λ fine e. splits ∙ ap (λ (l : List ℕ). l ++ more) e ∙ append_assoc fine rest more ∙ ap (λ (l : List ℕ). fine ++ l) (sym is)))

pub somewhere_less : (more : List ℕ) (replay : TranscriptCursor) (rest all : List ℕ) → all ≡ rest ++ more → IsReachable replay all → IsReachable replay rest
somewhere_less more replay rest all is somewhere = ∥∥₁_map somewhere (λ s.
    let less = at_less s.bytes more replay rest all is s.at in
    record { bytes = less.0; few = omega (arith, ap length less.1, length-append less.0 more, s.few); at = less.2 })

-- if what is made of fewer bytes holds, more of them may follow
pub at_on : (bytes more : List ℕ) (old new : TranscriptCursor) (rest all behind : List ℕ) → all ≡ rest ++ more → ((read : List ℕ) → IsCursorAt read old rest → IsCursorAt read new behind) → IsCursorAt bytes old all → IsCursorAt bytes new (behind ++ more)
at_on bytes more old new rest all behind is on at =
    let less = at_less bytes more old rest all is at in
    subst (λ (l : List ℕ). IsCursorAt l new (behind ++ more)) (sym less.1) (at_more less.0 more new behind (on less.0 less.2))

pub somewhere_on : (more : List ℕ) (old new : TranscriptCursor) (rest all behind : List ℕ) → all ≡ rest ++ more → ((read : List ℕ) → IsCursorAt read old rest → IsCursorAt read new behind) → IsReachable old all → IsReachable new (behind ++ more)
somewhere_on more old new rest all behind is on somewhere =
    ∥∥₁_map somewhere (λ s. record { bytes = s.bytes; few = s.few; at = at_on s.bytes more old new rest all behind is on s.at })

pub fault_less : (bytes more later : List ℕ) (replay : TranscriptCursor) (rest all : List ℕ) (fault : AuditFault) → all ≡ rest ++ more → ((read later : List ℕ) → IsCursorAt read replay rest → IsJudged (read ++ later) (Err fault)) → IsCursorAt bytes replay all → IsJudged (bytes ++ later) (Err fault)
fault_less bytes more later replay rest all fault is judged at =
    let less = at_less bytes more replay rest all is at in
    subst (λ (l : List ℕ). IsJudged l (Err fault)) (sym (append_assoc less.0 more later) ∙ ap (λ (l : List ℕ). l ++ later) (sym less.1)) (judged less.0 (more ++ later) less.2)

pub compared_more : (replay : TranscriptCursor) (rest more : List ℕ) → IsCompared replay rest → IsCompared replay (rest ++ more)
compared_more replay rest more compared =
    ∥∥₁_map compared (λ c. record { text = ⊎_elim (λ none. inl none) (λ base. inr (begins_more rest more base.0, base.1)) c.text; alike = same_more replay.wanted.items rest more replay.same c.alike })

pub read_more : (read piece : List ℕ) (run : Option TranscriptCursor) (held : List ℕ) → IsReadOf read run held → IsReadOf (read ++ piece) run (held ++ piece)
read_more read piece None held is = ap (λ (l : List ℕ). l ++ piece) is
read_more read piece (Some run) held is = (at_more read piece run held is.0, compared_more run held piece is.1)

-- if something was judged
pub held_some : (read piece : List ℕ) (found : Option TranscriptCursor) (run : TranscriptCursor) (held new : List ℕ) → found ≡ Some run → new ≡ held ++ piece → IsReadOf read found held → IsCursorAt (read ++ piece) run new × IsCompared run new
held_some read piece found run held new is grown there = rw grown (read_more read piece (Some run) held (rw is at there))

-- ---- some bytes were read

held_at : (read : List ℕ) (trial : IncrementalAudit) (run : TranscriptCursor) (held : List ℕ) → trial.run ≡ Some run → held ≡ trial.held.items → IsRead read trial → IsCursorAt read run held × IsCompared run held
held_at read trial run held is same (counted, there) = rw same (rw is at there)

pub held_somewhere : (trial : IncrementalAudit) (run : TranscriptCursor) (held : List ℕ) → trial.run ≡ Some run → held ≡ trial.held.items → IsUnderway trial → IsReachable run held
held_somewhere trial run held is same (few, some) =
    ∥∥₁_map some (λ r. record { bytes = r.0; few = omega (arith, r.1.0, few); at = (held_at r.0 trial run held is same r.1).0 })

pub held_compared : (trial : IncrementalAudit) (run : TranscriptCursor) (held : List ℕ) → trial.run ≡ Some run → held ≡ trial.held.items → IsUnderway trial → IsCompared run held
held_compared trial run held is same (few, some) = ∥∥₁_elim some ∥∥₁_prop (λ r. (held_at r.0 trial run held is same r.1).1)

pub grown_somewhere : (trial : IncrementalAudit) (piece : List ℕ) (run : TranscriptCursor) (new : List ℕ) → trial.run ≡ Some run → new ≡ trial.held.items ++ piece → trial.len + length piece < 2 ^ 63 → IsUnderway trial → IsReachable run new
grown_somewhere trial piece run new is grown room (few, some) =
    ∥∥₁_map some (λ r. record { bytes = r.0 ++ piece; few = omega (arith, length-append r.0 piece, r.1.0, room); at = (held_some r.0 piece trial.run run trial.held.items new is grown r.1.1).0 })

-- ---- the parts in what is held

pub waits_by : {X : Type 0} (now : X → List ℕ) (found : Option X) (old new : TranscriptCursor) (rest : List ℕ) → MatchOption found (StaysInPlace old new rest) (λ b. IsPassed old new rest (now b)) → ((x : X) → found ≡ Some x → ⊥) → StaysInPlace old new rest
waits_by now None old new rest ahead none = ahead
waits_by now (Some b) old new rest ahead none = absurd (none b refl)

pub ends_further : (old new : TranscriptCursor) (held rest behind : List ℕ) → EndsIn held rest → IsPassed old new rest behind → EndsIn held behind
ends_further old new held rest behind (front, is) p =
    let text = part_text old.rules old.size old.audit.number p.further.part in
    (front ++ text, is ∙ ap (λ (l : List ℕ). front ++ l) p.further.comes.is ∙ sym (append_assoc front text behind))

pub parts_fault : (bytes more : List ℕ) (replay : TranscriptCursor) (rest : List ℕ) (fault : AuditFault) → IsMetAt replay rest fault → IsCursorAt bytes replay rest → IsJudged (bytes ++ more) (Err fault)
parts_fault bytes more replay rest fault met at = behind_judged (bytes ++ more) replay.audit.number fault (met (bytes ++ more) more (at_more bytes more replay rest at))

-- ---- what is dropped

pub dropped : (all held rest new : List ℕ) (n : ℕ) → held ≡ all → EndsIn held rest → n ≡ length held - length rest → new ≡ drop n all → new ≡ rest
dropped all held rest new n same (front, is) count e =
    let at : n ≡ length front = omega (arith, count, ap length is, length-append front rest) in
    e ∙ simp (at, sym same ∙ is, drop-append_seam)

pub ends_behind : (text rest behind : List ℕ) → EndsIn text rest → EndsIn rest behind → EndsIn text behind
ends_behind text rest behind (front, is) (more, splits) = (front ++ more, is ∙ ap (λ (l : List ℕ). front ++ l) splits ∙ sym (append_assoc front more behind))

-- what is cut in two
pub halves : (held piece first others : List ℕ) (n : ℕ) → first ≡ take n piece → others ≡ drop n piece → held ++ piece ≡ (held ++ first) ++ others
halves held piece first others n front back =
    ap (λ (l : List ℕ). held ++ l) (sym (take-append-drop n piece) ∙ sym (ap₂ (λ (x y : List ℕ). x ++ y) front back)) ∙ sym (append_assoc held first others)

-- ---- results

pub for_on : {T E : Type 0} (r : Result T E) (A B : Type 0) → OnOk r A → (A → B) → OnOk r B
for_on (Ok x) A B h f = f h
for_on (Err e) A B h f = tt

pub for_both : {T E : Type 0} (r : Result T E) (A B C : Type 0) → OnOk r A → OnOk r B → (A → B → C) → OnOk r C
for_both (Ok x) A B C h g f = f h g
for_both (Err e) A B C h g f = tt

pub for_err : {T E : Type 0} (r : Result T E) (P Q : E → Type 0) → IfErr r P → ((e : E) → P e → Q e) → IfErr r Q
for_err (Ok x) P Q h f = tt
for_err (Err e) P Q h f = f e h

-- what holds of all texts that begin so, holds of what the reader had
pub of_consumed : (old new : Option (List ℕ)) (read : List ℕ) (P : List ℕ → Type 0) → Consumes old new read → ((more : List ℕ) → P (read ++ more)) → IfSome old P
of_consumed None new read P consumes all = tt
of_consumed (Some xs) None read P consumes all = absurd consumes
of_consumed (Some xs) (Some ys) read P consumes all = subst P (sym consumes) (all ys)

-- ---- what a read gave

pub refilled : (k : ℕ) (new old : List ℕ) → length new ≡ k → take k (new ++ drop (length new) old) ≡ new
refilled k new old same = ap (λ (n : ℕ). take n (new ++ drop (length new) old)) (sym same) ∙ take-append_seam new (drop (length new) old)

pub consumed_more : (a b c : Option (List ℕ)) (read given piece : List ℕ) (n : ℕ) → Consumes a b read → given ≡ piece → Consumes b c (take n given) → Consumes a c (read ++ take n piece)
consumed_more a b c read given piece n before same now =
    Consumes-trans a b c read (take n piece) before (subst (λ (l : List ℕ). Consumes b c (take n l)) same now)

-- a read that gave nothing
pub consumed_none : (a b c : Option (List ℕ)) (read given : List ℕ) (n : ℕ) → Consumes a b read → n ≡ 0 → Consumes b c (take n given) → Consumes a c read
consumed_none a b c read given n before none now =
    subst (Consumes a c) (append-nil read) (Consumes-trans a b c read [] before (subst (λ (k : ℕ). Consumes b c (take k given)) none now))
