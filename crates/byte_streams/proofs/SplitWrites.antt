-- What a writer has got of a text that is written in parts.
use Rattle.std.proofs.Common.{◌≤◌, ◌+◌, ℕ, List, ◌++◌, length, take, Option, Result, Ok, Err, OnOk, OnErr, sym, subst, arith}
use Rattle.std.proofs.Math.Seq.{take-length, take-append-add}
use Rattle.std.proofs.lemmas.List.{take-append-le}
use Rattle.std.specs.Io.KnownBytes.{Appends}
use Rattle.std.proofs.KnownBytes.{Appends-trans}
use Rattle.byte_streams.specs.PartialOutput.{AppendsBeginning, AppendsLess}

-- all of it is a beginning of it
pub whole_begins : (old new : Option (List ℕ)) (text : List ℕ) → Appends old new text → AppendsBeginning old new text
whole_begins old new text wrote =
    let P : List ℕ → Type 0 = λ l. Appends old new l in
    (length text, subst P (sym (take-length text)) wrote)

-- the front of a text, and a beginning of what follows it
pub front_begins : (old mid new : Option (List ℕ)) (front text : List ℕ) → Appends old mid front → AppendsBeginning mid new text → AppendsBeginning old new (front ++ text)
front_begins old mid new front text wrote (n, began) =
    let P : List ℕ → Type 0 = λ l. Appends old new l in
    (length front + n, subst P (sym (take-append-add front text n)) (Appends-trans old mid new front (take n text) wrote began))

-- less than the front of a text is a beginning of it
pub less_begins : (old new : Option (List ℕ)) (front text : List ℕ) → AppendsLess old new front → AppendsBeginning old new (front ++ text)
less_begins old new front text (n, few, wrote) =
    let P : List ℕ → Type 0 = λ l. Appends old new l in
    let le : n ≤ length front = omega (arith, few) in
    (n, subst P (sym (take-append-le n front text le)) wrote)

-- a result known in either case
pub either_begins : {E : Type 0} (old new : Option (List ℕ)) (text : List ℕ) (result : Result Unit E) → OnOk result (Appends old new text) → OnErr result (AppendsBeginning old new text) → AppendsBeginning old new text
either_begins old new text (Ok done) ok fault = whole_begins old new text ok
either_begins old new text (Err failed) ok fault = fault

pub begins_at_err : {E : Type 0} (old new : Option (List ℕ)) (text : List ℕ) (result : Result Unit E) → AppendsBeginning old new text → OnErr result (AppendsBeginning old new text)
begins_at_err old new text (Ok done) began = tt
begins_at_err old new text (Err failed) began = began

-- two parts are written, and the third as the result says
pub third_whole : {E : Type 0} (old mid late new : Option (List ℕ)) (a b c : List ℕ) (result : Result Unit E) → Appends old mid a → Appends mid late b → OnOk result (Appends late new c) → OnOk result (Appends old new (a ++ (b ++ c)))
third_whole old mid late new a b c (Ok done) first second third = Appends-trans old mid new a (b ++ c) first (Appends-trans mid late new b c second third)
third_whole old mid late new a b c (Err failed) first second third = tt

pub third_begins : {E : Type 0} (old mid late new : Option (List ℕ)) (a b c : List ℕ) (result : Result Unit E) → Appends old mid a → Appends mid late b → OnErr result (AppendsBeginning late new c) → OnErr result (AppendsBeginning old new (a ++ (b ++ c)))
third_begins old mid late new a b c (Ok done) first second third = tt
third_begins old mid late new a b c (Err failed) first second third = front_begins old mid new a (b ++ c) first (front_begins mid late new b c second third)
