-- The opening of a transcript, and the beginning of its run, are determined by the text.
use Rattle.auditor.proofs.Prelude.{◌≡◌, ℕ, ◌+◌, ◌≤◌, ◌⊎◌, inl, inr, List, [], ◌∷◌, ◌++◌, Some, get_or, refl, sym, ap, ap₂, subst, ◌∙◌, append_assoc, arith, same_Some, Base, Header, RuleSet, LogPart, NumberedMoment, table_of, weight_of, begins_once, charge_bound, header_text, base_head, Head, first_line, base_lines, first_line-ended, spells_header_once, spells_base_line_once, line_free, base_text_is, base_once, base_unbroken, breaks_once, Opening, Named, Based, IsOpening, Opens, size_of, present_of, base_in, opening_text, parts_text, BeginsWithTranscript, HasBadHeader, HasBadStart, HasBrokenBase, HasImpossibleBase}
use Rattle.auditor.proofs.Feedless.{header_free}

-- ---- the first line

-- the first line of an opening
abbrev pub line_in : RuleSet → Opening → List ℕ
line_in rules (Named size count) = header_text rules size count
line_in rules (Based size base) = base_head rules size

-- what follows it
abbrev pub behind_in : Opening → List ℕ → List ℕ
behind_in (Named size count) more = more
behind_in (Based size base) more = base_lines base ++ more

pub opening_first : (rules : RuleSet) (opening : Opening) (more : List ℕ) → IsOpening opening → first_line (opening_text rules opening ++ more) ≡ Some (line_in rules opening, behind_in opening more)
opening_first rules (Named size count) more is =
    let header = header_text rules size count in
    ap first_line (append_assoc header (10 ∷ []) more) ∙ first_line-ended header more (header_free rules size count is.few is.within)
opening_first rules (Based size base) more is =
    let head = base_head rules size in
    let lines = base_lines base in
    ap first_line (ap (λ (t : List ℕ). t ++ more) (base_text_is rules size base) ∙ append_assoc (head ++ 10 ∷ []) lines more ∙ append_assoc head (10 ∷ []) (lines ++ more))
    ∙ first_line-ended head (lines ++ more) (line_free (Head rules size) is.few)

-- a header is no head
pub header_no_head : (r q : RuleSet) (size count names : ℕ) → header_text r size count ≡ base_head q names → ⊥
header_no_head r q size count names e = let byte : 32 ≡ 50 = ap (λ (l : List ℕ). get_or l 8 0) e in omega (arith, byte)

-- a head has one rule set and one number of names
pub head_once : (r q : RuleSet) (m n : ℕ) → m ≤ 65535 → n ≤ 65535 → base_head r m ≡ base_head q n → (r ≡ q) × (m ≡ n)
head_once r q m n few little e =
    let same : Head r m ≡ Head q n = spells_base_line_once (base_head r m) (Head r m) (Head q n) (record { fits = few; is = refl }) (record { fits = little; is = e }) in
    ((cc), (cc))

-- ---- one opening

text_once : (r q : RuleSet) (o u : Opening) (x y : List ℕ) → IsOpening o → IsOpening u → line_in r o ≡ line_in q u → behind_in o x ≡ behind_in u y → (r ≡ q) × (o ≡ u) × (x ≡ y)
text_once r q (Named m c) (Named n d) x y f g line behind =
    let a : Header = record { rules = r; names = m; present = c } in
    let b : Header = record { rules = q; names = n; present = d } in
    let once = spells_header_once (header_text r m c) a b (record { few = f.few; within = f.within; is = refl }) (record { few = g.few; within = g.within; is = line }) in
    (ap (λ (h : Header). h.rules) once, ap (λ (h : Header). Named h.names h.present) once, behind)
text_once r q (Named m c) (Based n b) x y f g line behind = absurd (header_no_head r q m c n line)
text_once r q (Based m a) (Named n d) x y f g line behind = absurd (header_no_head q r n d m (sym line))
text_once r q (Based m a) (Based n b) x y f g line behind =
    let head = head_once r q m n f.few g.few line in
    let lines = base_once (base_lines a ++ x) a b x y f.shaped g.shaped refl behind in
    (head.0, ap₂ (λ (z : ℕ) (base : Base). Based z base) head.1 lines.0, lines.1)

-- with the beginning of its run
pub record SameOpening (r q : RuleSet) (o u : Opening) (start begin : NumberedMoment) (x y : List ℕ) : Type 0 where
  pub rules : r ≡ q
  pub openings : o ≡ u
  pub starts : start ≡ begin
  pub rests : x ≡ y

start_once : (rules : RuleSet) (o : Opening) (start begin : NumberedMoment) → Opens rules o start → Opens rules o begin → start ≡ begin
start_once rules o start begin x y =
    let moments = begins_once (table_of rules) (charge_bound (weight_of rules)) (size_of o) (present_of o) (base_in o) start.moment begin.moment x.begins y.begins in
    λ i. record { moment = moments i; count = (x.count ∙ sym y.count) i }

pub opening_once : (r q : RuleSet) (o u : Opening) (start begin : NumberedMoment) (x y : List ℕ) → Opens r o start → Opens q u begin → opening_text r o ++ x ≡ opening_text q u ++ y → SameOpening r q o u start begin x y
opening_once r q o u start begin x y opens opened e =
    let first : (line_in r o, behind_in o x) ≡ (line_in q u, behind_in u y) = same_Some _ _ (sym (opening_first r o x opens.fits) ∙ ap first_line e ∙ opening_first q u y opened.fits) in
    let text = text_once r q o u x y opens.fits opened.fits (ap (λ (p : List ℕ × List ℕ). p.0) first) (ap (λ (p : List ℕ × List ℕ). p.1) first) in
    record { rules = text.0; openings = text.1; starts = start_once r o start begin opens (rw (text.0, text.1) opened); rests = text.2 }

-- ---- a text that begins with none

-- the parts, and what is left
abbrev pub parts_behind : (bytes : List ℕ) (rules : RuleSet) (log : List LogPart) (end : NumberedMoment) (rest : List ℕ) → BeginsWithTranscript bytes rules log end rest → List ℕ
parts_behind bytes rules log end rest f = parts_text rules (size_of f.opening) f.transcript.start.count log ++ rest

pub follows_text : (bytes : List ℕ) (rules : RuleSet) (log : List LogPart) (end : NumberedMoment) (rest : List ℕ) (f : BeginsWithTranscript bytes rules log end rest) → bytes ≡ opening_text rules f.opening ++ parts_behind bytes rules log end rest f
follows_text bytes rules log end rest f =
    f.splits ∙ ap (λ (z : List ℕ). z ++ rest) f.transcript.text ∙ append_assoc (opening_text rules f.opening) (parts_text rules (size_of f.opening) f.transcript.start.count log) rest

pub follows_first : (bytes : List ℕ) (rules : RuleSet) (log : List LogPart) (end : NumberedMoment) (rest : List ℕ) (f : BeginsWithTranscript bytes rules log end rest) → first_line bytes ≡ Some (line_in rules f.opening, behind_in f.opening (parts_behind bytes rules log end rest f))
follows_first bytes rules log end rest f =
    ap first_line (follows_text bytes rules log end rest f) ∙ opening_first rules f.opening (parts_behind bytes rules log end rest f) f.transcript.opens.fits

line_good : (rules : RuleSet) (opening : Opening) (behind : List ℕ) → IsOpening opening → HasBadHeader (Some (line_in rules opening, behind)) → ⊥
line_good rules (Named size count) behind is bad = bad.0 (record { rules = rules; names = size; present = count }) (record { few = is.few; within = is.within; is = refl })
line_good rules (Based size base) behind is bad = bad.1 rules size is.few refl

pub header_good : (bytes : List ℕ) (rules : RuleSet) (log : List LogPart) (end : NumberedMoment) (rest : List ℕ) → HasBadHeader (first_line bytes) → BeginsWithTranscript bytes rules log end rest → ⊥
header_good bytes rules log end rest bad f =
    line_good rules f.opening (behind_in f.opening (parts_behind bytes rules log end rest f)) f.transcript.opens.fits (subst HasBadHeader (follows_first bytes rules log end rest f) bad)

-- the lines of a base are whole, and a run begins there
lines_good : (r : RuleSet) (m : ℕ) (behind : List ℕ) (line : ℕ) (q : RuleSet) (opening : Opening) (start : NumberedMoment) (more : List ℕ) → m ≤ 65535 → HasBrokenBase behind line ⊎ HasImpossibleBase r m behind line → Opens q opening start → base_head r m ≡ line_in q opening → behind ≡ behind_in opening more → ⊥
lines_good r m behind line q (Named size count) start more few bad opens head lines = header_no_head q r size count m (sym head)
lines_good r m behind line q (Based size base) start more few (inl breaks) opens head lines =
    base_unbroken behind base more breaks.number opens.fits.shaped lines breaks.breaks
lines_good r m behind line q (Based size base) start more few (inr nowhere) opens head lines =
    let same = head_once r q m size few opens.fits.few head in
    let once = base_once behind nowhere.base base nowhere.more more nowhere.shaped opens.fits.shaped nowhere.is lines in
    nowhere.nowhere start (rw (same.0, same.1, once.0) opens)

pub start_good : (bytes : List ℕ) (line : ℕ) (rules : RuleSet) (log : List LogPart) (end : NumberedMoment) (rest : List ℕ) → HasBadStart bytes line → BeginsWithTranscript bytes rules log end rest → ⊥
start_good bytes line rules log end rest bad f =
    let same : (base_head bad.rules bad.size, bad.rest) ≡ (line_in rules f.opening, _) = same_Some _ _ (sym bad.first ∙ follows_first bytes rules log end rest f) in
    lines_good bad.rules bad.size bad.rest line rules f.opening f.transcript.start _ bad.few bad.bad f.transcript.opens (ap (λ (p : List ℕ × List ℕ). p.0) same) (ap (λ (p : List ℕ × List ℕ). p.1) same)

-- ---- a bad start is one

-- a head is the first of a base
pub header_no_start : (bytes : List ℕ) (line : ℕ) → HasBadHeader (first_line bytes) → HasBadStart bytes line → ⊥
header_no_start bytes line none bad = (subst HasBadHeader bad.first none).1 bad.rules bad.size bad.few refl

start_line : (r q : RuleSet) (m n : ℕ) (rest : List ℕ) (k l : ℕ) → HasBrokenBase rest k ⊎ HasImpossibleBase r m rest k → HasBrokenBase rest l ⊎ HasImpossibleBase q n rest l → k ≡ l
start_line r q m n rest k l (inl x) (inl y) =
    x.line_is ∙ ap (λ (z : ℕ). z + 1) (breaks_once rest x.number y.number x.breaks y.breaks) ∙ sym y.line_is
start_line r q m n rest k l (inl x) (inr y) = absurd (base_unbroken rest y.base y.more x.number y.shaped y.is x.breaks)
start_line r q m n rest k l (inr x) (inl y) = absurd (base_unbroken rest x.base x.more y.number x.shaped x.is y.breaks)
start_line r q m n rest k l (inr x) (inr y) = x.line_is ∙ sym y.line_is

pub start_once_bad : (bytes : List ℕ) (k l : ℕ) → HasBadStart bytes k → HasBadStart bytes l → k ≡ l
start_once_bad bytes k l x y =
    let same : (base_head x.rules x.size, x.rest) ≡ (base_head y.rules y.size, y.rest) = same_Some _ _ (sym x.first ∙ y.first) in
    start_line x.rules y.rules x.size y.size y.rest k l (subst (λ (z : List ℕ). HasBrokenBase z k ⊎ HasImpossibleBase x.rules x.size z k) (ap (λ (p : List ℕ × List ℕ). p.1) same) x.bad) y.bad
