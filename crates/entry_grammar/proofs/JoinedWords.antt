-- Words that are joined by one space.
use Rattle.entry_grammar.proofs.Prelude.{◌≡◌, ◌≢◌, ℕ, List, ◌∷◌, ◌++◌, length, refl, sym, ap, ◌∙◌, append_assoc, arith, codes, AllByRecursion, spaced, joined_texts, joined_or, EndsWord, TokenThen, cons_parts, []}
use Rattle.line_text.specs.ReadBack.{IsReadBack}
use Rattle.entry_grammar.proofs.Free.{all_both}

-- Some words were read, and a non-empty rest is left. With the words of the rest they make the whole text;
-- and whatever words the whole text spells, the rest spells some.
pub record SoFar {X : Type 0} (text : X → List ℕ) (fits : X → Type 0) (bytes : List ℕ) (words : List X) (rest : List ℕ) : Type 0 where
  pub read : AllByRecursion fits words
  pub onto : (w : X) (more : List X) → rest ≡ joined_texts text (w ∷ more) → bytes ≡ joined_texts text (words ++ w ∷ more)
  pub left : (all : List X) → AllByRecursion fits all → bytes ≡ joined_texts text all → (w : X) × (more : List X) × AllByRecursion fits (w ∷ more) × (rest ≡ joined_texts text (w ∷ more))

-- if a space follows the first word, more words follow the space
next_word : {X : Type 0} (text : X → List ℕ) (fits : X → Type 0) → IsReadBack fits text (λ x. EndsWord) → (rest next : List ℕ) (x w : X) (more : List X) → fits x → rest ≡ text x ++ 32 ∷ next → AllByRecursion fits (w ∷ more) → rest ≡ joined_texts text (w ∷ more) → (v : X) × (others : List X) × AllByRecursion fits (v ∷ others) × (next ≡ joined_texts text (v ∷ others))
next_word text fits back rest next x w [] g is f e = let behind : 32 ∷ next ≡ [] = (back.once x w (32 ∷ next) [] g f.0 refl refl (sym is ∙ e)).1 in absurd cc
next_word text fits back rest next x w (v ∷ others) g is f e =
    let behind = (back.once x w (32 ∷ next) (32 ∷ joined_texts text (v ∷ others)) g f.0 refl refl (sym is ∙ e)).1 in
    (v, others, f.1, (cons_parts 32 32 next (joined_texts text (v ∷ others)) behind).1)

-- one more word was read
pub SoFar-more : {X : Type 0} {text : X → List ℕ} {fits : X → Type 0} {bytes : List ℕ} {words : List X} {rest behind next : List ℕ} {x : X} → IsReadBack fits text (λ x. EndsWord) → SoFar text fits bytes words rest → TokenThen fits text rest x behind → behind ≡ 32 ∷ next → SoFar text fits bytes (words ++ x ∷ []) next
SoFar-more {X} {text} {fits} {bytes} {words} {rest} {behind} {next} {x} back s h space =
    let is : rest ≡ text x ++ 32 ∷ next = h.is ∙ ap (λ (z : List ℕ). text x ++ z) space in
    record {
      read = all_both fits words (x ∷ []) s.read (h.fits, tt);
      onto = λ w more e.
          s.onto x (w ∷ more) (is ∙ ap (λ (z : List ℕ). text x ++ 32 ∷ z) e)
          ∙ ap (joined_texts text) (sym (append_assoc words (x ∷ []) (w ∷ more)));
      left = λ all g e.
          let l = s.left all g e in
          next_word text fits back rest next x l.0 l.1 h.fits is l.2 l.3;
    }

-- only an empty text and another make an empty text
front_nil : (x y : List ℕ) → x ++ y ≡ [] → x ≡ []
front_nil [] y e = refl
front_nil (b ∷ x) y e = absurd (omega (arith, ap length e))

-- an empty text spells no words, not even none
pub none_empty : {X : Type 0} (text : X → List ℕ) (fits : X → Type 0) → ((x : X) → fits x → text x ≢ []) → (bytes : List ℕ) → length bytes ≡ 0 → (all : List X) → AllByRecursion fits all → bytes ≡ joined_or (codes "none") text all → ⊥
none_empty text fits some bytes n [] f e = omega (arith, n, ap length e)
none_empty text fits some [] n (x ∷ all) f e = some x f.0 (front_nil (text x) (spaced text all) (sym e))
none_empty text fits some (b ∷ bytes) n (x ∷ all) f e = omega (arith, n)
