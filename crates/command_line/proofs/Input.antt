-- What was shown of all that a reader had.
use Rattle.std.proofs.Common.{◌≡◌, ◌∙◌, ◌+◌, ◌<◌, ◌≤◌, inl, inr, List, [], ℕ, ◌++◌, None, Some, Option, Result, Ok, Err, length, take, append-nil, arith, refl, subst, sym}
use Rattle.std.proofs.lemmas.List.{length-take}
use Rattle.std.specs.Prelude.{IfOk, IfErr, IfSome}
use Rattle.std.specs.Io.KnownBytes.{Consumes, IsAtEnd}
use Rattle.std.proofs.KnownBytes.{Consumes-trans, Consumes-whole}
use Rattle.byte_streams.specs.declared.input_fault.InputFault.{InputFault}
use Rattle.script_text.specs.Texts.{EndsInLine}
use Rattle.transcript_view.specs.declared.view.View.{View}
use Rattle.command_line.specs.ReadTexts.{IsReadEnough}
use Rattle.command_line.specs.WriterStates.{WriterState}
use Rattle.command_line.specs.ViewEnds.{WrittenBytes, TellsView, Views}

pub from_input : {V : Type 0} (items : V → List ℕ) (left : WrittenBytes) (read : Result V InputFault) (viewed : Result View InputFault) (is : List ℕ → View → Type 0) (old new before : WrittenBytes) (after : WriterState) (status : ℕ)
    → IfSome left (λ input. IfOk read (λ text. IsReadEnough input (items text))) → ((input : List ℕ) → IfOk read (λ text. IsReadEnough input (items text) → IfOk viewed (is input))) → IfErr read (λ f. viewed ≡ Err f) → TellsView viewed old new before after status
    → IfSome left (λ bytes. Views (is bytes) old new before after status)
from_input items None read viewed is old new before after status are shown unread told = tt
from_input items (Some input) (Ok text) viewed is old new before after status are shown unread told = (viewed, shown input are, told)
from_input items (Some input) (Err fault) viewed is old new before after status are shown unread told =
    let none = subst (λ (r : Result View InputFault). IfOk r (is input)) (sym unread) tt in
    (viewed, none, told)

-- ---- what was read

pub few_after : (begun len after : ℕ) (piece : List ℕ) → begun ≤ 2097152 → len ≤ 65536 → after ≤ begun + length (take len piece) → after ≤ 2162688
few_after begun len after piece few most grown = omega (arith, few, grown, taken len piece most)
  where
    taken : (n : ℕ) (l : List ℕ) → n ≤ 65536 → length (take n l) ≤ 65536
    taken n l most = let is = length-take n l in grind (arith, is)

-- all that was left
pub read_all : (a b c : WrittenBytes) (text given : List ℕ) (n : ℕ) → Consumes a b text → n ≡ 0 → Consumes b c (take n given) → IsAtEnd c → IfSome a (λ input. IsReadEnough input text)
read_all a b c text given n before none now end =
    let nothing : Consumes b c [] = subst (λ (k : ℕ). Consumes b c (take k given)) none now in
    let all : Consumes a c text = subst (Consumes a c) (append-nil text) (Consumes-trans a b c text [] before nothing) in
    Consumes-whole a c text (λ input. IsReadEnough input text) all end (inl refl)

-- or a last line that is too long
pub read_far : (a b : WrittenBytes) (text : List ℕ) (begun : ℕ) → Consumes a b text → EndsInLine text begun → 2097152 < begun → IfSome a (λ input. IsReadEnough input text)
read_far None b text begun read ends far = tt
read_far (Some input) None text begun read ends far = absurd read
read_far (Some input) (Some more) text begun read ends far = inr (more, begun, read, ends, far)

-- what holds of the text that was read
pub of_read : {V E : Type 0} (items : V → List ℕ) (read : Result V E) (text : V) (input : List ℕ) (P : Type 0) → read ≡ Ok text → (IsReadEnough input (items text) → P) → IfOk read (λ t. IsReadEnough input (items t) → P)
of_read {V} {E} items read text input P is holds =
    subst (λ (r : Result V E). IfOk r (λ t. IsReadEnough input (items t) → P)) (sym is) holds
