-- The laws of specs/Laws.
use Rattle.audit_parts.proofs.Prelude.{◌≡◌, ℕ, ◌+◌, List, [], ◌∷◌, ◌++◌, map, Ok, Err, Option, None, Some, IfSome, refl, sym, ap, subst, ◌∙◌, append_assoc, append-nil, arith, lines_with_ends, base_head, link_text, numbers_line, node_record_text, Head, AreCounts, BaseNumbers, base_numbers, same_numbers, spells_base_line_once, line_free, Read, Memory, line_feeds, IsJudged, AreLinesBefore, AllPartsAreAccepted, AreParts, BasesAreSeams, FirstDamageStays, HasVerdict, IsAcceptedText, JoinedIsAccepted, PartsAreAccepted, PartsAreJudged, SecondDamageMoves, Meets, Verdict, joined_verdict, IsAccepted, IsDamage, further, counted_both}
use Rattle.entry_grammar.specs.declared.base_line.BaseLine.TheVariants.{Base as Numbers}
use Rattle.audit_parts.proofs.Damages.{first_is_the_wholes, second_is_the_wholes}
use Rattle.audit_parts.proofs.MeetingTexts.{parts_accepted, whole_accepted}
use Rattle.audit_parts.proofs.SeamRuns.{base_lines_are, others_told}

-- ---- the texts of two that meet

-- what holds of the joined text, for its three parts
whole_of : (first second : List ℕ) (m : Meets first second) (P : List ℕ → Type 0) → P (m.own ++ (m.seam ++ m.behind)) → P (m.own ++ second)
whole_of first second m P p = subst (λ (l : List ℕ). P (m.own ++ l)) (sym m.begins) p

pub joined_is_accepted : JoinedIsAccepted
joined_is_accepted first second m c d x y =
    whole_of first second m (λ l. IsAccepted l (counted_both c d)) (whole_accepted m.own m.seam m.behind m.lines m.is_seam c d (subst (λ (l : List ℕ). IsAccepted l c) m.ends x) (subst (λ (l : List ℕ). IsAccepted l d) m.begins y))

pub parts_are_accepted : PartsAreAccepted
parts_are_accepted first second m (c, x) =
    let both = parts_accepted m.own m.seam m.behind m.lines m.is_seam c (subst (λ (l : List ℕ). IsAccepted (m.own ++ l) c) m.begins x) in
    ((both.first, subst (λ (l : List ℕ). IsAccepted l both.first) (sym m.ends) both.first_is), (both.second, subst (λ (l : List ℕ). IsAccepted l both.second) (sym m.begins) both.second_is))

pub first_damage_stays : FirstDamageStays
first_damage_stays first second m d x =
    whole_of first second m (λ l. IsDamage l d) (first_is_the_wholes m.own m.seam m.lines m.is_seam m.behind d (subst (λ (l : List ℕ). IsDamage l d) m.ends x))

pub second_damage_moves : SecondDamageMoves
second_damage_moves first second m c d x y =
    whole_of first second m (λ l. IsDamage l (further (line_feeds m.own) d))
    (second_is_the_wholes m.own m.seam m.lines m.is_seam m.behind c d (subst (λ (l : List ℕ). IsAccepted l c) m.ends x) (subst (λ (l : List ℕ). IsDamage l d) m.begins y))

pub judged_both : (first second : List ℕ) (m : Meets first second) (v w : Verdict) → IsJudged first v → IsJudged second w → IsJudged (m.own ++ second) (joined_verdict v (line_feeds m.own) w)
judged_both first second m (Ok c) (Ok d) x y = joined_is_accepted first second m c d x y
judged_both first second m (Ok c) (Err Memory) x y = tt
judged_both first second m (Ok c) (Err d) x y = second_damage_moves first second m c d x y
judged_both first second m (Err Memory) w x y = tt
judged_both first second m (Err d) w x y = first_damage_stays first second m d x

-- the lines before the seam count only if they matter
pub joined_judged : (v w : Verdict) (lines : ℕ) (found : Option Verdict) → IfSome found (λ all. all ≡ joined_verdict v lines w) → (first second : List ℕ) (m : Meets first second) → AreLinesBefore lines m.own v w → IsJudged first v → IsJudged second w → IfSome found (IsJudged (m.own ++ second))
joined_judged v w lines None is first second m before x y = tt
joined_judged v w lines (Some all) is first second m before x y =
    subst (IsJudged (m.own ++ second)) (sym is) (subst (IsJudged (m.own ++ second)) (same v w before) (judged_both first second m v w x y))
  where
    same : (v w : Verdict) → AreLinesBefore lines m.own v w → joined_verdict v (line_feeds m.own) w ≡ joined_verdict v lines w
    same (Ok c) (Ok d) before = refl
    same (Ok c) (Err Read) before = refl
    same (Ok c) (Err Memory) before = refl
    same (Ok c) (Err d) before = ap (λ (n : ℕ). joined_verdict (Ok c) n (Err d)) (sym before)
    same (Err fault) w before = refl

-- ---- any number

-- a text that begins as the second does meets the first
abbrev longer : (first next more rest : List ℕ) (m : Meets first next) → rest ≡ next ++ more → (n : Meets first rest) × (n.own ≡ m.own)
longer first next more rest m e = (
  record {
    own = m.own;
    seam = m.seam;
    behind = m.behind ++ more;
    lines = m.lines;
    is_seam = m.is_seam;
    ends = m.ends;
    begins = e ∙ ap (λ (l : List ℕ). l ++ more) m.begins ∙ append_assoc m.seam m.behind more;
  },
  refl,
)

begins_with : (first : List ℕ) (others : List (List ℕ)) (whole : List ℕ) → AreParts first others whole → (more : List ℕ) × (whole ≡ first ++ more)
begins_with first [] whole is = ([], is ∙ sym (append-nil first))
begins_with first (next ∷ others) whole (m, rest, parts, is) =
    let more = begins_with next others rest parts in
    (m.behind ++ more.0, is ∙ ap (λ (l : List ℕ). m.own ++ l) (more.1 ∙ ap (λ (l : List ℕ). l ++ more.0) m.begins ∙ append_assoc m.seam m.behind more.0) ∙ sym (append_assoc m.own m.seam (m.behind ++ more.0)) ∙ ap (λ (l : List ℕ). l ++ (m.behind ++ more.0)) (sym m.ends))

pub all_parts_are_accepted : AllPartsAreAccepted
all_parts_are_accepted first [] whole is fine = (subst IsAcceptedText is fine, tt)
all_parts_are_accepted first (next ∷ others) whole (m, rest, parts, is) fine =
    let more = begins_with next others rest parts in
    let n = longer first next more.0 rest m more.1 in
    let both = parts_are_accepted first rest n.0 (subst IsAcceptedText is fine) in
    (both.0, all_parts_are_accepted next others rest parts both.1)

verdict_parts : (first : List ℕ) (v : Verdict) (others : List (List ℕ × Verdict)) (whole : List ℕ) (all : Verdict) → HasVerdict first v others whole all → AreParts first (map (λ (part : List ℕ × Verdict). part.0) others) whole
verdict_parts first v [] whole all is = is.0
verdict_parts first v (next ∷ others) whole all (m, rest, sum, parts, is, all_is) = (m, rest, verdict_parts next.0 next.1 others rest sum parts, is)

judged_same : (text whole : List ℕ) (v all : Verdict) → whole ≡ text → all ≡ v → IsJudged text v → IsJudged whole all
judged_same text whole v all is same judged = subst (λ (l : List ℕ). IsJudged l all) (sym is) (subst (IsJudged text) (sym same) judged)

pub parts_are_judged : PartsAreJudged
parts_are_judged first v [] whole all is judged others_judged = judged_same first whole v all is.0 is.1 judged
parts_are_judged first v (next ∷ others) whole all (m, rest, sum, parts, is, all_is) judged others_judged =
    let behind = parts_are_judged next.0 next.1 others rest sum parts others_judged.0 others_judged.1 in
    let more = begins_with next.0 (map (λ (part : List ℕ × Verdict). part.0) others) rest (verdict_parts next.0 next.1 others rest sum parts) in
    let n = longer first next.0 more.0 rest m more.1 in
    judged_same (m.own ++ rest) whole (joined_verdict v (line_feeds m.own) sum) all is all_is (judged_both first rest n.0 v sum judged behind)

-- ---- seams

pub bases_are_seams : BasesAreSeams
bases_are_seams rules size base few shaped =
    let numbers = numbers_line base in
    let others = others_told base shaped in
    let counts : AreCounts (base_numbers base) = (shaped.number, shaped.spent, shaped.nodes, shaped.edges) in
    record {
      head = base_head rules size;
      numbers = numbers;
      rest = lines_with_ends node_record_text base.nodes ++ lines_with_ends link_text base.edges;
      is = base_lines_are rules size base;
      begins = (_, refl);
      first = line_free (Head rules size) few;
      second = line_free (Numbers (base_numbers base)) counts;
      whole = others.1;
      told = λ q fits e.
          let line = spells_base_line_once numbers (Numbers (base_numbers base)) (Numbers q) (record { fits = counts; is = refl }) (record { fits = fits; is = e }) in
          let same = ap (λ (n : BaseNumbers). n.nodes + n.edges) (same_numbers (base_numbers base) q line) in
          omega (arith, others.0, same);
    }
