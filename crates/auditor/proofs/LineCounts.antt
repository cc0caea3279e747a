-- Lines of a text, counted by their line feeds; and how far two texts are the same.
use Rattle.auditor.proofs.Prelude.{◌≡◌, ℕ, ◌+◌, ◌<◌, ◌≤◌, ◌==◌, if◌then◌else◌, List, [], ◌∷◌, ◌++◌, length, take, drop, get_or, refl, sym, ap, ◌∙◌, arith, take-append-drop, drop_more, CommonPrefix, line_feeds}
use Rattle.std.proofs.lemmas.Bool.Decides.{nat_tests}

-- one more if the byte is a line feed
abbrev pub feed : ℕ → ℕ
feed b = if b == 10 then 1 else 0

pub feeds_first : (b : ℕ) (bytes : List ℕ) → line_feeds (b ∷ bytes) ≡ feed b + line_feeds bytes
feeds_first b bytes = grind (arith, nat_tests)

pub feeds_few : (bytes : List ℕ) → line_feeds bytes ≤ length bytes
feeds_few [] = omega arith
feeds_few (b ∷ bytes) = let rest = feeds_few bytes in grind (arith, nat_tests)

-- a text and bytes are the same so far, and no further
pub record PartAt (text bytes : List ℕ) (len : ℕ) : Type 0 where
  pub within : len ≤ length bytes
  pub parting : CommonPrefix text bytes
  pub common_is : take len bytes ≡ parting.common

first_of : (xs : List ℕ) (n b : ℕ) (x : List ℕ) → n < length xs → drop n xs ≡ b ∷ x → get_or xs n 0 ≡ b
first_of xs n b x h e = ap (λ (l : List ℕ). get_or l 0 0) (sym (drop_more xs n 0 h) ∙ e)

-- they part at another byte
pub part_inside : (text bytes : List ℕ) (n : ℕ) → n < length text → n < length bytes → take n text ≡ take n bytes → (get_or text n 0 ≡ get_or bytes n 0 → ⊥) → PartAt text bytes n
part_inside text bytes n h k same other = record {
  within = omega (arith, k);
  parting = record {
    common = take n bytes;
    missing = drop n text;
    more = drop n bytes;
    wanted = sym (take-append-drop n text) ∙ ap (λ (z : List ℕ). z ++ drop n text) same;
    had = sym (take-append-drop n bytes);
    some = λ e. let nothing = sym (drop_more text n 0 h) ∙ e in absurd cc;
    apart = λ b x y e f. other (first_of text n b x h e ∙ sym (first_of bytes n b y k f));
  };
  common_is = refl;
}
