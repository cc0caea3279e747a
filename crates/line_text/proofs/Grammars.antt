-- Grammars by combinators: when a text, and what follows it, are read back in one way.
use Rattle.line_text.proofs.Prelude.{◌≡◌, ℕ, zero, ◌<◌, List, ◌∷◌, ◌++◌, length, Option, None, Some, Bool, true, false, get_or, refl, sym, ap, ap₂, subst, ◌∙◌, append_assoc, arith, IfSome, slice_index, IsInRange, AllByRecursion, AllDigits, append_cancel_left, decimal_nonempty, digits_decimal, digit_from_value, number_text, IsName, marked_text, spaced, joined_texts, joined_or, lines_with_ends, target_text, bool_text, NoDigit, ItemEnds, []}
pub use Rattle.line_text.specs.ReadBack.{IsReadBack}
pub use Rattle.line_text.proofs.Digits.{Undigited, number_back, name_back}
use Rattle.line_text.proofs.Digits.{own, cons_parts}

-- whatever follows ends the text
abbrev pub Always : {X : Type 0} → X → List ℕ → Type 0
Always x rest = Unit {0}

-- ---- from one grammar to another

-- a value whose text nothing follows
pub alone : {X : Type 0} {fits : X → Type 0} {text : X → List ℕ} {ends : X → List ℕ → Type 0} → IsReadBack fits text ends → ((x : X) → ends x []) → (x y : X) → fits x → fits y → text x ≡ text y → x ≡ y
alone one last x y f g e = (one.once x y [] [] f g (last x) (last y) (ap (λ (z : List ℕ). z ++ []) e)).0

-- fewer values
pub for_fewer : {X : Type 0} {fits : X → Type 0} {text : X → List ℕ} {ends : X → List ℕ → Type 0} → (few : X → Type 0) → IsReadBack fits text ends → ((x : X) → few x → fits x) → IsReadBack few text ends
for_fewer few one fewer = record { once = λ x y r s f g a b e. one.once x y r s (fewer x f) (fewer y g) a b e }

-- fewer ends
pub ended_by : {X : Type 0} {fits : X → Type 0} {text : X → List ℕ} {ends : X → List ℕ → Type 0} → (few : X → List ℕ → Type 0) → IsReadBack fits text ends → ((x : X) (r : List ℕ) → few x r → ends x r) → IsReadBack fits text few
ended_by few one fewer = record { once = λ x y r s f g a b e. one.once x y r s f g (fewer x r a) (fewer y s b) e }

-- values that their parts determine
pub through : {X Y : Type 0} {fits : Y → Type 0} {text : Y → List ℕ} {ends : Y → List ℕ → Type 0} → IsReadBack fits text ends → (parts : X → Y) (whole : Y → X) → ((x : X) → whole (parts x) ≡ x) → IsReadBack (λ x. fits (parts x)) (λ x. text (parts x)) (λ x. ends (parts x))
through one parts whole back = record {
  once = λ x y r s f g a b e.
      let same = one.once (parts x) (parts y) r s f g a b e in
      (sym (back x) ∙ ap whole same.0 ∙ back y, same.1);
}

-- ---- sequences

-- a word, and a value after it
pub after_word : {X : Type 0} {fits : X → Type 0} {text : X → List ℕ} {ends : X → List ℕ → Type 0} → (word : List ℕ) → IsReadBack fits text ends → IsReadBack fits (λ x. word ++ text x) ends
after_word {X} {fits} {text} word one = record {
  once = λ x y r s f g a b e.
      one.once x y r s f g a b (append_cancel_left word (text x ++ r) (text y ++ s) (sym (append_assoc word (text x) r) ∙ e ∙ append_assoc word (text y) s));
}

-- two values, the first of which ends where the second begins
pub both : {X Y : Type 0} {fits : X → Type 0} {own : Y → Type 0} {text : X → List ℕ} {next : Y → List ℕ} {ends : X → List ℕ → Type 0} {last : Y → List ℕ → Type 0} → IsReadBack fits text ends → IsReadBack own next last
    → ((x : X) (y : Y) (r : List ℕ) → own y → last y r → ends x (next y ++ r)) → IsReadBack (λ (p : X × Y). fits p.0 × own p.1) (λ p. text p.0 ++ next p.1) (λ p. last p.1)
both {X} {Y} {fits} {own} {text} {next} one two goes = record {
  once = λ p q r s f g a b e.
      let whole = sym (append_assoc (text p.0) (next p.1) r) ∙ e ∙ append_assoc (text q.0) (next q.1) s in
      let first = one.once p.0 q.0 (next p.1 ++ r) (next q.1 ++ s) f.0 g.0 (goes p.0 p.1 r f.1 a) (goes q.0 q.1 s g.1 b) whole in
      let second = two.once p.1 q.1 r s f.1 g.1 a b first.1 in
      (ap₂ (λ (x : X) (y : Y). (x, y)) first.0 second.0, second.1);
}

-- two values with a mark between them
pub apart_by : {X Y : Type 0} {fits : X → Type 0} {own : Y → Type 0} {text : X → List ℕ} {next : Y → List ℕ} {ends : X → List ℕ → Type 0} {last : Y → List ℕ → Type 0} → (mark : ℕ) → IsReadBack fits text ends → IsReadBack own next last
    → ((x : X) (r : List ℕ) → ends x (mark ∷ r)) → IsReadBack (λ (p : X × Y). fits p.0 × own p.1) (λ p. text p.0 ++ mark ∷ [] ++ next p.1) (λ p. last p.1)
apart_by {X} {Y} {fits} {own} {text} {next} mark one two goes = record {
  once = λ p q r s f g a b e.
      let first = one.once p.0 q.0 (mark ∷ (next p.1 ++ r)) (mark ∷ (next q.1 ++ s)) f.0 g.0 (goes p.0 (next p.1 ++ r)) (goes q.0 (next q.1 ++ s)) (sym (split p r) ∙ e ∙ split q s) in
      let second = two.once p.1 q.1 r s f.1 g.1 a b (cons_parts mark mark (next p.1 ++ r) (next q.1 ++ s) first.1).1 in
      (ap₂ (λ (x : X) (y : Y). (x, y)) first.0 second.0, second.1);
}
  where
    split : (p : X × Y) (r : List ℕ) → (text p.0 ++ mark ∷ [] ++ next p.1) ++ r ≡ text p.0 ++ mark ∷ (next p.1 ++ r)
    split p r = append_assoc (text p.0 ++ mark ∷ []) (next p.1) r ∙ append_assoc (text p.0) (mark ∷ []) (next p.1 ++ r)

-- ---- flags

-- the end of the text ends a number
pub nothing_ends : NoDigit []
nothing_ends h = omega (arith, h.0)

-- so does a space
pub space_ends : {X : Type 0} (x : X) (rest : List ℕ) → NoDigit (32 ∷ rest)
space_ends x rest h = omega (arith, h.0)

pub bool_back : IsReadBack (λ (b : Bool). Unit {0}) bool_text Always
bool_back = record { once = once }
  where
    once : (x y : Bool) (r s : List ℕ) → Unit {0} → Unit {0} → Unit {0} → Unit {0} → bool_text x ++ r ≡ bool_text y ++ s → (x ≡ y) × (r ≡ s)
    once true true r s f g a b e = (refl, (cons_parts 49 49 r s e).1)
    once false false r s f g a b e = (refl, (cons_parts 48 48 r s e).1)
    once x y r s f g a b e = absurd (omega (arith, ap (λ (z : List ℕ). get_or z 0 0) e))

-- ---- texts that begin with a digit, as a name's does

abbrev pub Digital : List ℕ → Type 0
Digital text = NoDigit text → ⊥

pub digital_on : (x y : List ℕ) → Digital x → Digital (x ++ y)
digital_on [] y h = absurd (h nothing_ends)
digital_on (b ∷ x) y h = h

pub name_digital : (n : ℕ) → IsName n → Digital (number_text n)
name_digital n h = some (number_text n) (digits_decimal own n (omega (arith, h.1))) (decimal_nonempty n (omega (arith, h.1)))
  where
    some : (digits : List ℕ) → AllDigits 10 digits → 0 < length digits → Digital digits
    some [] all more = omega (arith, more)
    some (d ∷ digits) all more = λ none. none (digit_from_value d all.0)

-- no other text is one
pub not_digital : (x y : List ℕ) → NoDigit x → Digital y → x ≡ y → ⊥
not_digital x y none h e = h (subst NoDigit e none)

-- ---- a name that may be missing

-- a dash is no name
dash_name : (w : ℕ) (r s : List ℕ) → IsName w → 45 ∷ r ≡ number_text w ++ s → ⊥
dash_name w r s f e = not_digital (45 ∷ r) (number_text w ++ s) (λ (h : IsInRange 48 57 45). omega (arith, h.0)) (digital_on (number_text w) s (name_digital w f)) e

pub target_back : IsReadBack (λ target. IfSome target IsName) target_text Undigited
target_back = record { once = once }
  where
    once : (x y : Option ℕ) (r s : List ℕ) → IfSome x IsName → IfSome y IsName → NoDigit r → NoDigit s → target_text x ++ r ≡ target_text y ++ s → (x ≡ y) × (r ≡ s)
    once None None r s f g a b e = (refl, (cons_parts 45 45 r s e).1)
    once None (Some w) r s f g a b e = absurd (dash_name w r s g e)
    once (Some v) None r s f g a b e = absurd (dash_name v s r f (sym e))
    once (Some v) (Some w) r s f g a b e = let same = name_back.once v w r s f g a b e in (ap (λ (n : ℕ). Some n) same.0, same.1)

-- a name after a `>`
pub wish_back : IsReadBack (λ wish. IfSome wish IsName) (marked_text (62 ∷ [])) ItemEnds
wish_back = record { once = once }
  where
    once : (x y : Option ℕ) (r s : List ℕ) → IfSome x IsName → IfSome y IsName → ItemEnds x r → ItemEnds y s → marked_text (62 ∷ []) x ++ r ≡ marked_text (62 ∷ []) y ++ s → (x ≡ y) × (r ≡ s)
    once None None r s f g a b e = (refl, e)
    once None (Some w) r s f g a b e = absurd (a.1 (ap (λ (z : List ℕ). slice_index z 0) e))
    once (Some v) None r s f g a b e = absurd (b.1 (sym (ap (λ (z : List ℕ). slice_index z 0) e)))
    once (Some v) (Some w) r s f g a b e =
        let same = name_back.once v w r s f g a b (cons_parts 62 62 (number_text v ++ r) (number_text w ++ s) e).1 in
        (ap (λ (n : ℕ). Some n) same.0, same.1)

-- it ends a name, and the end of the text or a space ends it
pub wish_ends : (wish : Option ℕ) (rest : List ℕ) → ItemEnds wish rest → NoDigit (marked_text (62 ∷ []) wish ++ rest)
wish_ends None rest h = h.0
wish_ends (Some w) rest h = λ (p : IsInRange 48 57 62). omega (arith, p.0, p.1)

pub wish_last : (wish : Option ℕ) → ItemEnds wish []
wish_last None = (nothing_ends, λ e. omega (arith, e))
wish_last (Some w) = nothing_ends

pub wish_space : (wish : Option ℕ) (rest : List ℕ) → ItemEnds wish (32 ∷ rest)
wish_space None rest = (space_ends zero rest, λ e. omega (arith, e))
wish_space (Some w) rest = space_ends w rest

-- ---- lists

-- what holds of each item of two lists holds of each item of both
pub all_both : {X : Type 0} (P : X → Type 0) (xs ys : List X) → AllByRecursion P xs → AllByRecursion P ys → AllByRecursion P (xs ++ ys)
all_both P [] ys f g = g
all_both P (x ∷ xs) ys f g = (f.0, all_both P xs ys f.1 g)

-- the end of the text, or a space, ends each item
pub record EndsItem {X : Type 0} (ends : X → List ℕ → Type 0) : Type 0 where
  pub last : (x : X) → ends x []
  pub space : (x : X) (r : List ℕ) → ends x (32 ∷ r)

pub item_ends : {X : Type 0} {ends : X → List ℕ → Type 0} → EndsItem ends → (text : X → List ℕ) (x : X) (xs : List X) → ends x (spaced text xs)
item_ends item text x [] = item.last x
item_ends item text x (y ∷ ys) = item.space x (text y ++ spaced text ys)

-- items after one space each
pub spaced_back : {X : Type 0} {fits : X → Type 0} {text : X → List ℕ} {ends : X → List ℕ → Type 0} → IsReadBack fits text ends → EndsItem ends → (xs ys : List X) → AllByRecursion fits xs → AllByRecursion fits ys → spaced text xs ≡ spaced text ys → xs ≡ ys
spaced_back one item [] [] f g e = refl
spaced_back one item [] (y ∷ ys) f g e = absurd cc
spaced_back one item (x ∷ xs) [] f g e = absurd cc
spaced_back {X} {fits} {text} one item (x ∷ xs) (y ∷ ys) f g e =
    let behind = (cons_parts 32 32 (text x ++ spaced text xs) (text y ++ spaced text ys) e).1 in
    let first = one.once x y (spaced text xs) (spaced text ys) f.0 g.0 (item_ends item text x xs) (item_ends item text y ys) behind in
    ap₂ (λ (z : X) (l : List X). z ∷ l) first.0 (spaced_back one item xs ys f.1 g.1 first.1)

-- items that can be joined by one space, each of which begins with a digit
pub record IsList {X : Type 0} (fits : X → Type 0) (text : X → List ℕ) (ends : X → List ℕ → Type 0) : Type 0 where
  pub one : IsReadBack fits text ends
  pub item : EndsItem ends
  pub begins : (x : X) → fits x → Digital (text x)

-- a text that begins with no digit is none of their lists
pub no_list : {X : Type 0} {fits : X → Type 0} {text : X → List ℕ} {ends : X → List ℕ → Type 0} → IsList fits text ends → (x : X) (xs : List X) (word : List ℕ) → fits x → NoDigit word → joined_texts text (x ∷ xs) ≡ word → ⊥
no_list {X} {fits} {text} list x xs word f none e = not_digital word (text x ++ spaced text xs) none (digital_on (text x) (spaced text xs) (list.begins x f)) (sym e)

pub joined_back : {X : Type 0} {fits : X → Type 0} {text : X → List ℕ} {ends : X → List ℕ → Type 0} → IsList fits text ends → (xs ys : List X) → AllByRecursion fits xs → AllByRecursion fits ys → joined_texts text xs ≡ joined_texts text ys → xs ≡ ys
joined_back list [] [] f g e = refl
joined_back list [] (y ∷ ys) f g e = absurd (no_list list y ys [] g.0 nothing_ends (sym e))
joined_back list (x ∷ xs) [] f g e = absurd (no_list list x xs [] f.0 nothing_ends e)
joined_back {X} {fits} {text} list (x ∷ xs) (y ∷ ys) f g e =
    let first = list.one.once x y (spaced text xs) (spaced text ys) f.0 g.0 (item_ends list.item text x xs) (item_ends list.item text y ys) e in
    ap₂ (λ (z : X) (l : List X). z ∷ l) first.0 (spaced_back list.one list.item xs ys f.1 g.1 first.1)

-- or a word if there are none
pub joined_or_back : {X : Type 0} {fits : X → Type 0} {text : X → List ℕ} {ends : X → List ℕ → Type 0} → IsList fits text ends → (word : List ℕ) → NoDigit word → (xs ys : List X) → AllByRecursion fits xs → AllByRecursion fits ys → joined_or word text xs ≡ joined_or word text ys → xs ≡ ys
joined_or_back list word none [] [] f g e = refl
joined_or_back list word none [] (y ∷ ys) f g e = absurd (no_list list y ys word g.0 none (sym e))
joined_or_back list word none (x ∷ xs) [] f g e = absurd (no_list list x xs word f.0 none e)
joined_or_back list word none (x ∷ xs) (y ∷ ys) f g e = joined_back list (x ∷ xs) (y ∷ ys) f g e

-- as many lines, each with its LF
pub lines_back : {X : Type 0} {fits : X → Type 0} {text : X → List ℕ} {ends : X → List ℕ → Type 0} → IsReadBack fits text ends → ((x : X) (r : List ℕ) → ends x (10 ∷ r)) → (xs ys : List X) (r s : List ℕ) → AllByRecursion fits xs → AllByRecursion fits ys → length xs ≡ length ys
    → lines_with_ends text xs ++ r ≡ lines_with_ends text ys ++ s → (xs ≡ ys) × (r ≡ s)
lines_back one feed [] [] r s f g len e = (refl, e)
lines_back one feed [] (y ∷ ys) r s f g len e = absurd (omega (arith, len))
lines_back one feed (x ∷ xs) [] r s f g len e = absurd (omega (arith, len))
lines_back {X} {fits} {text} one feed (x ∷ xs) (y ∷ ys) r s f g len e =
    let first = one.once x y (10 ∷ (lines_with_ends text xs ++ r)) (10 ∷ (lines_with_ends text ys ++ s)) f.0 g.0 (feed x (lines_with_ends text xs ++ r)) (feed y (lines_with_ends text ys ++ s)) (sym (split x xs r) ∙ e ∙ split y ys s) in
    let more = lines_back one feed xs ys r s f.1 g.1 (omega (arith, len)) (cons_parts 10 10 (lines_with_ends text xs ++ r) (lines_with_ends text ys ++ s) first.1).1 in
    (ap₂ (λ (z : X) (l : List X). z ∷ l) first.0 more.0, more.1)
  where
    split : (z : X) (zs : List X) (t : List ℕ) → lines_with_ends text (z ∷ zs) ++ t ≡ text z ++ 10 ∷ (lines_with_ends text zs ++ t)
    split z zs t = append_assoc (text z ++ 10 ∷ []) (lines_with_ends text zs) t ∙ append_assoc (text z) (10 ∷ []) (lines_with_ends text zs ++ t)
