-- What holds whatever follows a text: its first line, a base's lines in it, and how far it agrees with
-- another.
use Rattle.auditor.proofs.Prelude.{◌≡◌, ℕ, ◌+◌, ◌<◌, ◌≤◌, List, [], ◌∷◌, ◌++◌, Option, None, Some, length, take, drop, refl, sym, ap, subst, ◌∙◌, append_assoc, arith, codes, AllByRecursion, get_or_append_left, length-append, take-append-drop, take-append-le, take_all, same_Some, lines_with_ends, BaseLine, first_line, IsFree, IsBaseLine, base_line_text, BreaksAt, MayFollow, first_line-ended, first_line-is, first_line-splits, first_line-then, no_first_line, line_free, cons_parts, free_by, BeginsBase, line_feeds, AreSameUpTo, ArePartedAt}
use Rattle.std.proofs.lemmas.Bool.Decides.{nat_tests}
use Rattle.auditor.proofs.LineCounts.{PartAt, feeds_few, feeds_first, part_inside}

-- ---- line feeds

pub feeds_append : (a b : List ℕ) → line_feeds (a ++ b) ≡ line_feeds a + line_feeds b
feeds_append [] b = omega arith
feeds_append (x ∷ a) b = omega (arith, feeds_first x (a ++ b), feeds_first x a, feeds_append a b)

pub free_feeds : (bytes : List ℕ) → IsFree 10 bytes → line_feeds bytes ≡ 0
free_feeds [] free = refl
free_feeds (b ∷ bytes) free = let rest = free_feeds bytes free.1 in let other = free.0 in grind (arith, nat_tests)

-- ---- the first line

-- it is the first line of a longer text too
pub first_line-more : (bs more line rest : List ℕ) → first_line bs ≡ Some (line, rest) → first_line (bs ++ more) ≡ Some (line, rest ++ more)
first_line-more bs more line rest e =
    let first = first_line-is bs line rest e in
    first_line-then (bs ++ more) line (rest ++ more) (first.0, ap (λ (l : List ℕ). l ++ more) first.1 ∙ append_assoc line (10 ∷ rest) more)

-- without a first line no line ends
pub no_line_no_feed : (bs : List ℕ) → first_line bs ≡ None → line_feeds bs ≡ 0
no_line_no_feed bs e = free_feeds bs (no_first_line bs e)

pub feeds_behind : (rest line behind : List ℕ) → first_line rest ≡ Some (line, behind) → line_feeds rest ≡ 1 + line_feeds behind
feeds_behind rest line behind cut =
    omega (arith, ap line_feeds (first_line-splits rest line behind cut) ∙ feeds_append line (10 ∷ behind), free_feeds line (first_line-is rest line behind cut).0)

-- one line ends before what follows the first
pub one_feed : (rest line behind text : List ℕ) → first_line rest ≡ Some (line, behind) → rest ≡ text ++ behind → line_feeds text ≡ 1
one_feed rest line behind text cut splits = omega (arith, feeds_behind rest line behind cut, ap line_feeds splits ∙ feeds_append text behind)

-- ---- whether a base begins there

pub front_in_line : (front line x m : List ℕ) → IsFree 10 front → front ++ m ≡ line ++ 10 ∷ x → (k : List ℕ) × (line ≡ front ++ k)
front_in_line [] line x m free e = (line, refl)
front_in_line (b ∷ front) [] x m free e = absurd (free.0 (cons_parts b 10 (front ++ m) x e).0)
front_in_line (b ∷ front) (c ∷ line) x m free e =
    let parts = cons_parts b c (front ++ m) (line ++ 10 ∷ x) e in
    let inside = front_in_line front line x m free.1 parts.1 in
    (inside.0, ap (λ (z : ℕ). z ∷ line) (sym parts.0) ∙ ap (λ (l : List ℕ). b ∷ l) inside.1)

abbrev word : List ℕ
word = codes "matching2"

pub begins_more : (rest more : List ℕ) → BeginsBase rest → BeginsBase (rest ++ more)
begins_more rest more (m, is) = (m ++ more, ap (λ (l : List ℕ). l ++ more) is ∙ append_assoc word m more)

-- the first line shows it
pub begins_less : (rest more line behind : List ℕ) → first_line rest ≡ Some (line, behind) → BeginsBase (rest ++ more) → BeginsBase rest
begins_less rest more line behind cut (m, is) =
    let splits = first_line-splits rest line behind cut in
    let whole : word ++ m ≡ line ++ 10 ∷ (behind ++ more) = sym is ∙ ap (λ (l : List ℕ). l ++ more) splits ∙ append_assoc line (10 ∷ behind) more in
    let inside = front_in_line word line (behind ++ more) m (free_by 10 word refl) whole in
    (inside.0 ++ 10 ∷ behind, splits ∙ ap (λ (l : List ℕ). l ++ 10 ∷ behind) inside.1 ∙ append_assoc word inside.0 (10 ∷ behind))

-- ---- the lines of a base that break off

feeds_ended : (lines : List BaseLine) → AllByRecursion IsBaseLine lines → line_feeds (lines_with_ends base_line_text lines) ≡ length lines
feeds_ended [] fit = refl
feeds_ended (line ∷ lines) fit =
    let text = base_line_text line in
    omega (arith, feeds_append (text ++ 10 ∷ []) (lines_with_ends base_line_text lines), feeds_append text (10 ∷ []), free_feeds text (line_free line fit.0), feeds_ended lines fit.1)

-- as many lines end as come before the break, and those after it
pub feeds_broken : (bytes : List ℕ) (k : ℕ) (b : BreaksAt bytes k) → line_feeds bytes + 1 ≡ k + line_feeds b.rest
feeds_broken bytes k b =
    omega (arith, ap line_feeds b.is ∙ feeds_append (lines_with_ends base_line_text b.lines) b.rest, feeds_ended b.lines b.fit, b.number)

-- they do so in a longer text too if no line of a base goes on with what follows
pub breaks_with : (bytes more : List ℕ) (k : ℕ) (b : BreaksAt bytes k) → ((found : BaseLine) (m : List ℕ) → IsBaseLine found → MayFollow (b.lines ++ found ∷ []) → b.rest ++ more ≡ base_line_text found ++ 10 ∷ m → ⊥) → BreaksAt (bytes ++ more) k
breaks_with bytes more k b stops = record {
  lines = b.lines;
  rest = b.rest ++ more;
  is = ap (λ (l : List ℕ). l ++ more) b.is ∙ append_assoc (lines_with_ends base_line_text b.lines) b.rest more;
  fit = b.fit;
  follow = b.follow;
  short = b.short;
  number = b.number;
  stops = stops;
}

-- if the line is whole, they do so in a longer text too
pub breaks_more : (bytes more : List ℕ) (k : ℕ) → BreaksAt bytes k → k ≤ line_feeds bytes → BreaksAt (bytes ++ more) k
breaks_more bytes more k b whole = by (first_line b.rest) refl
  where
    by : (found : Option (List ℕ × List ℕ)) → first_line b.rest ≡ found → BreaksAt (bytes ++ more) k
    by None cut = absurd (omega (arith, no_line_no_feed b.rest cut, feeds_broken bytes k b, whole))
    by (Some (line, behind)) cut =
        breaks_with bytes more k b (λ found m fits follows e.
        let text = base_line_text found in
        let same : (line, behind ++ more) ≡ (text, m) = same_Some (line, behind ++ more) (text, m) (sym (first_line-more b.rest more line behind cut) ∙ ap first_line e ∙ first_line-ended text m (line_free found fits)) in
        b.stops found behind fits follows (first_line-splits b.rest line behind cut ∙ ap (λ (p : List ℕ × List ℕ). p.0 ++ 10 ∷ behind) same))

-- if it is not, it is the last
pub breaks_last : (bytes : List ℕ) (k : ℕ) → BreaksAt bytes k → line_feeds bytes < k → BreaksAt bytes (line_feeds bytes + 1)
breaks_last bytes k b cut = subst (BreaksAt bytes) (omega (arith, feeds_broken bytes k b, cut)) b

-- ---- how far two texts are the same

pub same_none : (text bytes : List ℕ) (n : ℕ) → n ≡ 0 → AreSameUpTo text bytes n
same_none text bytes n none = rw none (record { within = omega arith; inside = omega arith; alike = refl })

pub same_more : (text bytes more : List ℕ) (n : ℕ) → AreSameUpTo text bytes n → AreSameUpTo text (bytes ++ more) n
same_more text bytes more n same =
    record { within = same.within; inside = omega (arith, same.inside, length-append bytes more); alike = same.alike ∙ sym (take-append-le n bytes more same.inside) }

-- the bytes begin with all of the text
pub same_whole : (text bytes : List ℕ) (n : ℕ) → AreSameUpTo text bytes n → n ≡ length text → bytes ≡ text ++ drop n bytes
same_whole text bytes n same all =
    sym (take-append-drop n bytes) ∙ ap (λ (z : List ℕ). z ++ drop n bytes) (sym same.alike ∙ take_all n text (omega (arith, all)))

-- all the bytes are a beginning of it
pub same_end : (text bytes : List ℕ) (n : ℕ) → AreSameUpTo text bytes n → n ≡ length bytes → text ≡ bytes ++ drop n text
same_end text bytes n same all =
    sym (take-append-drop n text) ∙ ap (λ (z : List ℕ). z ++ drop n text) (same.alike ∙ take_all n bytes (omega (arith, all)))

-- another byte comes in both
pub part_more : (text bytes more : List ℕ) (n : ℕ) → AreSameUpTo text bytes n → ArePartedAt text bytes n → n < length text → n < length bytes → PartAt text (bytes ++ more) n
part_more text bytes more n same apart less few =
    part_inside text (bytes ++ more) n less (omega (arith, few, length-append bytes more)) (same_more text bytes more n same).alike (λ e. apart less few (e ∙ get_or_append_left bytes more 0 n few))

-- ---- what follows is no longer than all

pub behind_few : (text front rest : List ℕ) → text ≡ front ++ rest → length rest ≤ length text
behind_few text front rest splits = omega (arith, ap length splits, length-append front rest)

pub rest_few : (text line rest : List ℕ) → first_line text ≡ Some (line, rest) → length rest ≤ length text
rest_few text line rest cut =
    behind_few text (line ++ 10 ∷ []) rest (first_line-splits text line rest cut ∙ sym (append_assoc line (10 ∷ []) rest))

pub base_few : (text head rest lines behind : List ℕ) → first_line text ≡ Some (head, rest) → rest ≡ lines ++ behind → length behind ≤ length text
base_few text head rest lines behind cut splits = omega (arith, rest_few text head rest cut, behind_few rest lines behind splits)

pub feeds_take : (rest : List ℕ) (n : ℕ) → line_feeds (take n rest) ≤ length rest
feeds_take rest n = omega (arith, ap line_feeds (take-append-drop n rest), feeds_append (take n rest) (drop n rest), feeds_few rest)
