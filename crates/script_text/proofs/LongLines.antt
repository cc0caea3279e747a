-- Texts that were read up to a line that is too long to be a command.
use Rattle.script_text.proofs.Prelude.{◌≡◌, ◌∙◌, ℕ, ◌+◌, ◌<◌, ◌≤◌, ◌==◌, Bool, true, false, if◌then◌else◌, inl, inr, List, [], ◌∷◌, ◌++◌, length, refl, sym, ap, subst, append_assoc, arith, length-append, lines_of, onto_first, IsLine, ScriptLine, LinesHold, TextHolds, IsBadLine, FirstBad, EndsInLine, IsReadSoFar, IsReadUntil, Option, None, Some}
use Rattle.std.proofs.Common.{take, drop, Result, Ok, Err, IfOk, IfErr}
use Rattle.std.proofs.KnownBytes.{Consumes-trans, Consumes-whole}
use Rattle.std.proofs.Math.Seq.{take-append_seam}
use Rattle.std.proofs.lemmas.List.{append-nil, length-take}
use Rattle.std.specs.Io.KnownBytes.{Consumes, IsAtEnd}
use Rattle.std.specs.Prelude.{IfSome}
use Rattle.script_text.specs.Readers.{IsReaderFault}
use Rattle.script_text.specs.Texts.{IsTextFault}
use Rattle.script_text.specs.declared.fault.TextsFault.{TextsFault}
use Rattle.script_text.specs.declared.fault.TextsFault.TheVariants.{TooManyScripts, BadLine, Read, Memory}
use Rattle.script_text.proofs.Lengths.{long_says_nothing}
use Rattle.script_text.proofs.LineEnds.{goes_on, line_joined, lines_of-whole}

-- ---- how far the last line has come

pub begun_none : (text : List ℕ) → EndsInLine text 0
begun_none text = (text, [], sym (append-nil text), tt, refl)

pub begun_more : (text piece : List ℕ) (begun : ℕ) → IsLine piece → EndsInLine text begun → EndsInLine (text ++ piece) (begun + length piece)
begun_more text piece begun free (front, line, is, own, long) = (
  front,
  line ++ piece,
  ap (λ (l : List ℕ). l ++ piece) is ∙ append_assoc front line piece,
  line_joined line piece own free,
  length-append line piece ∙ ap (λ (n : ℕ). n + length piece) long,
)

-- ---- what a read gave

pub few_after : (most begun len after : ℕ) (piece : List ℕ) → begun ≤ most → len ≤ 65536 → after ≤ begun + length (take len piece) → after ≤ most + 65536
few_after most begun len after piece few short grown =
    omega (arith, few, grown, short, length-take len piece)

pub refilled : (k : ℕ) (new old : List ℕ) → length new ≡ k → take k (new ++ drop (length new) old) ≡ new
refilled k new old same = ap (λ (n : ℕ). take n (new ++ drop (length new) old)) (sym same) ∙ take-append_seam new (drop (length new) old)

pub consumed_more : (a b c : Option (List ℕ)) (read given piece : List ℕ) (n : ℕ) → Consumes a b read → given ≡ piece → Consumes b c (take n given) → Consumes a c (read ++ take n piece)
consumed_more a b c read given piece n before same now =
    Consumes-trans a b c read (take n piece) before (subst (λ (l : List ℕ). Consumes b c (take n l)) same now)

-- all was read
pub read_to_end : (most : ℕ) (a b c : Option (List ℕ)) (text given : List ℕ) (n : ℕ) → Consumes a b text → n ≡ 0 → Consumes b c (take n given) → IsAtEnd c → IfSome a (λ all. IsReadUntil most all text)
read_to_end most a b c text given n before none now end =
    let nothing : Consumes b c [] = subst (λ (k : ℕ). Consumes b c (take k given)) none now in
    let whole : Consumes a c text = subst (Consumes a c) (append-nil text) (Consumes-trans a b c text [] before nothing) in
    Consumes-whole a c text (λ all. IsReadUntil most all text) whole end (inl refl)

-- the last line is too long
pub read_far : (most : ℕ) (a b : Option (List ℕ)) (text : List ℕ) (begun : ℕ) → Consumes a b text → EndsInLine text begun → most < begun → IfSome a (λ all. IsReadUntil most all text)
read_far most None b text begun read ends far = tt
read_far most (Some all) None text begun read ends far = absurd read
read_far most (Some all) (Some more) text begun read ends far = inr (more, begun, read, ends, far)

-- ---- the lines of the text, and those of all of it

-- they differ from a line on that is too long in both
record Cut (lines wholes : List (List ℕ)) : Type 0 where
  good : List (List ℕ)
  last : List ℕ
  longer : List ℕ
  others : List (List ℕ)
  read : lines ≡ good ++ last ∷ []
  all : wholes ≡ good ++ longer ∷ others
  far : 1048576 < length last
  further : 1048576 < length longer

cut_line : (line more : List ℕ) → IsLine line → 1048576 < length line → Cut (lines_of line) (lines_of (line ++ more))
cut_line [] more free far = absurd (omega (arith, far))
cut_line (b ∷ line) more free far =
    let on = goes_on b line more free in
    record {
      good = [];
      last = b ∷ line;
      longer = (b ∷ line) ++ on.more;
      others = on.others;
      read = lines_of-whole (b ∷ line) (λ e. omega (arith, far, ap length e)) free;
      all = on.lines;
      far = far;
      further = omega (arith, far, length-append (b ∷ line) on.more);
    }

cut_onto : (b : ℕ) (lines wholes good : List (List ℕ)) (last longer : List ℕ) (others : List (List ℕ)) → lines ≡ good ++ last ∷ [] → wholes ≡ good ++ longer ∷ others → 1048576 < length last → 1048576 < length longer → Cut (onto_first b lines) (onto_first b wholes)
cut_onto b lines wholes [] last longer others read all far further = record {
  good = [];
  last = b ∷ last;
  longer = b ∷ longer;
  others = others;
  read = ap (onto_first b) read;
  all = ap (onto_first b) all;
  far = omega (arith, far);
  further = omega (arith, further);
}
cut_onto b lines wholes (line ∷ good) last longer others read all far further = record {
  good = (b ∷ line) ∷ good;
  last = last;
  longer = longer;
  others = others;
  read = ap (onto_first b) read;
  all = ap (onto_first b) all;
  far = far;
  further = further;
}

cut_first : (lines wholes : List (List ℕ)) → Cut lines wholes → Cut ([] ∷ lines) ([] ∷ wholes)
cut_first lines wholes c = record {
  good = [] ∷ c.good;
  last = c.last;
  longer = c.longer;
  others = c.others;
  read = ap (λ (l : List (List ℕ)). [] ∷ l) c.read;
  all = ap (λ (l : List (List ℕ)). [] ∷ l) c.all;
  far = c.far;
  further = c.further;
}

cut_byte : (b : ℕ) (bytes all : List ℕ) → Cut (lines_of bytes) (lines_of all) → Cut (lines_of (b ∷ bytes)) (lines_of (b ∷ all))
cut_byte b bytes all c = by (b == 10)
  where
    by : (v : Bool) → Cut (if v then [] ∷ lines_of bytes else onto_first b (lines_of bytes)) (if v then [] ∷ lines_of all else onto_first b (lines_of all))
    by true = cut_first (lines_of bytes) (lines_of all) c
    by false = cut_onto b (lines_of bytes) (lines_of all) c.good c.last c.longer c.others c.read c.all c.far c.further

cut_text : (front line more : List ℕ) → IsLine line → 1048576 < length line → Cut (lines_of (front ++ line)) (lines_of ((front ++ line) ++ more))
cut_text [] line more free far = cut_line line more free far
cut_text (b ∷ front) line more free far = cut_byte b (front ++ line) ((front ++ line) ++ more) (cut_text front line more free far)

cut_of : (all text more : List ℕ) (begun : ℕ) → all ≡ text ++ more → EndsInLine text begun → 1048576 < begun → Cut (lines_of text) (lines_of all)
cut_of all text more begun is (front, line, ends, free, long) far =
    let whole : all ≡ (front ++ line) ++ more = is ∙ ap (λ (l : List ℕ). l ++ more) ends in
    subst (λ (l : List ℕ). Cut (lines_of l) (lines_of all)) (sym ends)
    (subst (λ (l : List ℕ). Cut (lines_of (front ++ line)) (lines_of l)) (sym whole) (cut_text front line more free (omega (arith, far, long))))

-- ---- what the text holds

long_bad : (line : List ℕ) → 1048576 < length line → IsBadLine line
long_bad line far = (λ e. omega (arith, far, ap length e), long_says_nothing line far)

holds_none : (number : ℕ) (good : List (List ℕ)) (last : List ℕ) (script : List ScriptLine) → 1048576 < length last → LinesHold number (good ++ last ∷ []) script → ⊥
holds_none number [] [] script far holds = omega (arith, far)
holds_none number [] (b ∷ last) script far (own, rest, is, line, behind) = long_says_nothing (b ∷ last) far line.0 line.1
holds_none number (line ∷ good) last script far (own, rest, is, holds, behind) = holds_none (number + 1) good last rest far behind

bad_too : (number bad : ℕ) (good : List (List ℕ)) (last longer : List ℕ) (others : List (List ℕ)) → 1048576 < length last → 1048576 < length longer → FirstBad number (good ++ last ∷ []) bad → FirstBad number (good ++ longer ∷ others) bad
bad_too number bad [] last longer others far further (inl (here, is)) = inl (here, long_bad longer further)
bad_too number bad [] last longer others far further (inr (good, later)) = absurd later
bad_too number bad (line ∷ good) last longer others far further (inl here) = inl here
bad_too number bad (line ∷ good) last longer others far further (inr (fine, later)) = inr (fine, bad_too (number + 1) bad good last longer others far further later)

pub held_all : (all text : List ℕ) (script : List ScriptLine) → IsReadSoFar all text → TextHolds text script → TextHolds all script
held_all all text script (inl same) holds = subst (λ (l : List ℕ). TextHolds l script) (sym same) holds
held_all all text script (inr (more, begun, is, ends, far)) holds =
    let c = cut_of all text more begun is ends far in
    absurd (holds_none 1 c.good c.last script c.far (subst (λ (l : List (List ℕ)). LinesHold 1 l script) c.read holds))

pub bad_all : (all text : List ℕ) (bad : ℕ) → IsReadSoFar all text → FirstBad 1 (lines_of text) bad → FirstBad 1 (lines_of all) bad
bad_all all text bad (inl same) is_bad = subst (λ (l : List ℕ). FirstBad 1 (lines_of l) bad) (sym same) is_bad
bad_all all text bad (inr (more, begun, is, ends, far)) is_bad =
    let c = cut_of all text more begun is ends far in
    subst (λ (l : List (List ℕ)). FirstBad 1 l bad) (sym c.all) (bad_too 1 bad c.good c.last c.longer c.others c.far c.further (subst (λ (l : List (List ℕ)). FirstBad 1 l bad) c.read is_bad))

-- the same of what a reader had, if that is known
known_fault : (number : ℕ) (known : Option (List ℕ)) (text : List ℕ) (fault : TextsFault) → IfSome known (λ all. IsReadSoFar all text) → IsTextFault number text fault → IsReaderFault number known fault
known_fault number known text TooManyScripts read is = is
known_fault number known text Read read is = tt
known_fault number known text Memory read is = tt
known_fault number None text (BadLine script line) read (own, bad) = (own, tt)
known_fault number (Some all) text (BadLine script line) read (own, bad) = (own, bad_all all text line read bad)

pub script_read : {S : Type 0} (lines : S → List ScriptLine) (known : Option (List ℕ)) (text : List ℕ) (result : Result S TextsFault) → IfSome known (λ all. IsReadSoFar all text) → IfOk result (λ script. TextHolds text (lines script)) → IfOk result (λ script. IfSome known (λ all. TextHolds all (lines script)))
script_read lines None text (Ok script) read holds = tt
script_read lines (Some all) text (Ok script) read holds = held_all all text (lines script) read holds
script_read lines known text (Err fault) read holds = tt

pub fault_read : {S : Type 0} (number : ℕ) (known : Option (List ℕ)) (text : List ℕ) (result : Result S TextsFault) → IfSome known (λ all. IsReadSoFar all text) → IfErr result (IsTextFault number text) → IfErr result (IsReaderFault number known)
fault_read number known text (Ok script) read is = tt
fault_read number known text (Err fault) read is = known_fault number known text fault read is
