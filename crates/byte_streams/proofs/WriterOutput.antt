-- What a writer has got, and what is left to write.
use Rattle.std.proofs.Common.{◌≡◌, ◌∙◌, ◌<◌, ◌+◌, ℕ, List, [], ◌++◌, length, take, drop, Option, None, Some, refl, sym, ap, subst, append_assoc, append-nil, take-append-drop, length-append, arith}
use Rattle.std.proofs.Math.Seq.{take-append_seam, take-length}
use Rattle.std.specs.Io.KnownBytes.{Appends, Keeps}
use Rattle.std.proofs.KnownBytes.{Appends-nil, Appends-trans, Appends-kept}
use Rattle.byte_streams.specs.PartialOutput.{AppendsBeginning, AppendsLess}

-- of all the bytes, the rest is not written yet
pub record Handed (old new : Option (List ℕ)) (all rest : List ℕ) : Type 0 where
  pub done : List ℕ
  pub splits : all ≡ done ++ rest
  pub wrote : Appends old new done

pub Handed-none : (old : Option (List ℕ)) (all : List ℕ) → Handed old old all all
Handed-none old all = record { done = []; splits = refl; wrote = Appends-nil old }

pub Handed-more : (old new newer : Option (List ℕ)) (all rest : List ℕ) (n : ℕ) → Handed old new all rest → Appends new newer (take n rest) → Handed old newer all (drop n rest)
Handed-more old new newer all rest n h wrote = record {
  done = h.done ++ take n rest;
  splits = h.splits ∙ ap (λ l. h.done ++ l) (sym (take-append-drop n rest)) ∙ sym (append_assoc h.done (take n rest) (drop n rest));
  wrote = Appends-trans old new newer h.done (take n rest) h.wrote wrote;
}

pub Handed-all : (old new : Option (List ℕ)) (all rest : List ℕ) → Handed old new all rest → rest ≡ [] → Appends old new all
Handed-all old new all rest h none = rw (h.splits ∙ ap (λ l. h.done ++ l) none ∙ append-nil h.done) h.wrote

-- if a rest is left, not all was written
pub Handed-less : (old new newer : Option (List ℕ)) (all rest : List ℕ) → Handed old new all rest → 0 < length rest → Keeps new newer → AppendsLess old newer all
Handed-less old new newer all rest h left kept = (
  length h.done,
  (let e : length all ≡ length h.done + length rest = ap length h.splits ∙ length-append h.done rest in omega (arith, e, left)),
  (let P : List ℕ → Type 0 = λ l. Appends old newer l in
      subst P (sym (ap (take (length h.done)) h.splits ∙ take-append_seam h.done rest)) (Appends-kept old new newer h.done h.wrote kept)),
)

-- a write that took no byte kept what there was
pub Keeps-none : (old new : Option (List ℕ)) (bs : List ℕ) (n : ℕ) → n ≡ 0 → Appends old new (take n bs) → Keeps old new
Keeps-none None new bs n e wrote = tt
Keeps-none (Some x) None bs n e wrote = wrote
Keeps-none (Some x) (Some y) bs n e wrote = wrote ∙ ap (λ k. x ++ take k bs) e ∙ append-nil x

pub AppendsLess-kept : (old new newer : Option (List ℕ)) (bs : List ℕ) → AppendsLess old new bs → Keeps new newer → AppendsBeginning old newer bs
AppendsLess-kept old new newer bs (n, lt, wrote) kept = (n, Appends-kept old new newer (take n bs) wrote kept)

pub AppendsAll-kept : (old new newer : Option (List ℕ)) (bs : List ℕ) → Appends old new bs → Keeps new newer → AppendsBeginning old newer bs
AppendsAll-kept old new newer bs wrote kept =
    let P : List ℕ → Type 0 = λ l. Appends old newer l in
    (length bs, subst P (sym (take-length bs)) (Appends-kept old new newer bs wrote kept))
