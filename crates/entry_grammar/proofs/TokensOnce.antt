-- The words of replies have texts of their own, and what the readers of words find in front is determined.
use Rattle.entry_grammar.proofs.Prelude.{◌≡◌, ◌≢◌, ℕ, List, ◌∷◌, ◌++◌, Option, None, Some, get_or, refl, sym, ap, ◌∙◌, arith, IfSome, codes, IsInRange, AllByRecursion, append_cancel_left, Act, Update, Marry, Seduce, Abandon, Moved, number_text, IsName, marked_text, joined_texts, target_text, act_word, enabled_text, move_text, mutual_text, NoDigit, ItemEnds, IsReadBack, IsList, Always, Undigited, Digital, apart_by, both, digital_on, ended_by, for_fewer, name_back, name_digital, no_list, not_digital, nothing_ends, through, wish_back, wish_last, wish_space, IsOrderedPair, EndsWord, deed_text, [], slice_index_or, first_byte, PairThen, cons_parts}
use Rattle.entry_grammar.specs.Spelling.{IsMoved, IsEnabled}

-- ---- names with a mark

-- a name and what follows its mark are determined
pub marked_once : (mark : ℕ) (m n : ℕ) (x y : List ℕ) → (IsInRange 48 57 mark → ⊥) → IsName m → IsName n → number_text m ++ mark ∷ x ≡ number_text n ++ mark ∷ y → (m ≡ n) × (x ≡ y)
marked_once mark m n x y o f g e =
    let r = name_back.once m n (mark ∷ x) (mark ∷ y) f g o o e in
    (r.0, (cons_parts mark mark x y r.1).1)

-- what follows two names and the mark between them is determined
pub pair_rest : (mark : ℕ) (bytes : List ℕ) (p q : ℕ × ℕ) (x y : List ℕ) → (IsInRange 48 57 mark → ⊥) → PairThen mark bytes p x → PairThen mark bytes q y → x ≡ y
pair_rest mark bytes p q x y o a b =
    let r = marked_once mark p.0 q.0 (number_text p.1 ++ x) (number_text q.1 ++ y) o a.fits.0 b.fits.0 (sym a.is ∙ b.is) in
    (name_back.once p.1 q.1 x y a.fits.1 b.fits.1 a.ends b.ends r.1).1

-- ---- a rule's word, and the words of replies

-- the first byte of a text with a rule's word in front
pub act_begins : (act : Act) (bytes rest : List ℕ) → bytes ≡ act_word act ++ rest → first_byte act ≡ slice_index_or bytes 0 0
act_begins Update bytes rest e = sym (ap (λ (z : List ℕ). slice_index_or z 0 0) e)
act_begins act bytes rest e = sym (ap (λ (z : List ℕ). slice_index_or z 0 0) e)

-- a rule's word is determined by its first byte
pub act_by_first : (a b : Act) → first_byte a ≡ first_byte b → a ≡ b
act_by_first Update Update e = refl
act_by_first Marry Marry e = refl
act_by_first Seduce Seduce e = refl
act_by_first Abandon Abandon e = refl
act_by_first a b e = absurd (omega (arith, e))

-- a rule's word in front is one
pub act_first : (a b : Act) (x y : List ℕ) → act_word a ++ x ≡ act_word b ++ y → (a ≡ b) × (x ≡ y)
act_first Update Update x y e = (refl, append_cancel_left (act_word Update) x y e)
act_first Marry Marry x y e = (refl, append_cancel_left (act_word Marry) x y e)
act_first Seduce Seduce x y e = (refl, append_cancel_left (act_word Seduce) x y e)
act_first Abandon Abandon x y e = (refl, append_cancel_left (act_word Abandon) x y e)
act_first a b x y e = absurd (omega (arith, ap (λ (z : List ℕ). get_or z 0 0) e))

act_back : IsReadBack (λ (a : Act). Unit {0}) act_word Always
act_back = record { once = λ a b r s f g x y e. act_first a b r s e }

colon_ends : (name : ℕ) (r : List ℕ) → NoDigit (58 ∷ r)
colon_ends name r = λ (p : IsInRange 48 57 58). omega (arith, p.1)

enabled_back : IsReadBack IsEnabled enabled_text Always
enabled_back = for_fewer IsEnabled (apart_by 58 name_back act_back colon_ends) (λ e f. (f, tt))

move_back : IsReadBack IsMoved move_text (λ m. ItemEnds m.target)
move_back =
    for_fewer IsMoved (through (both (apart_by 58 name_back act_back colon_ends) wish_back (λ p target r f a. tt)) (λ m. ((m.node, m.act), m.target)) (λ p. record { node = p.0.0; act = p.0.1; target = p.1 }) (λ m. refl)) (λ m f. ((f.0, tt), f.1))

pub deed_back : IsReadBack (λ (d : Act × Option ℕ). Unit {0} × IfSome d.1 IsName) (λ d. deed_text d.0 d.1) (λ d. ItemEnds d.1)
deed_back = both act_back wish_back (λ act target r f ends. tt)

pair_back : IsReadBack IsOrderedPair mutual_text Undigited
pair_back = for_fewer IsOrderedPair (apart_by 45 name_back name_back (λ n r (p : IsInRange 48 57 45). omega (arith, p.0))) (λ p f. (f.0, f.1))

-- ---- each begins with a name

enabled_begins : (e : ℕ × Act) → IsEnabled e → Digital (enabled_text e)
enabled_begins e f = digital_on (number_text e.0 ++ codes ":") (act_word e.1) (digital_on (number_text e.0) (codes ":") (name_digital e.0 f))

move_begins : (m : Moved) → IsMoved m → Digital (move_text m)
move_begins m f = digital_on (number_text m.node ++ codes ":" ++ act_word m.act) (marked_text (codes ">") m.target) (enabled_begins (m.node, m.act) f.0)

pair_begins : (p : ℕ × ℕ) → IsOrderedPair p → Digital (mutual_text p)
pair_begins p f = digital_on (number_text p.0 ++ codes "-") (number_text p.1) (digital_on (number_text p.0) (codes "-") (name_digital p.0 f.0))

pub some_enabled : (x : ℕ × Act) → IsEnabled x → enabled_text x ≢ []
some_enabled x f e = not_digital [] (enabled_text x) nothing_ends (enabled_begins x f) (sym e)

pub some_pair : (p : ℕ × ℕ) → IsOrderedPair p → mutual_text p ≢ []
some_pair p f e = not_digital [] (mutual_text p) nothing_ends (pair_begins p f) (sym e)

-- ---- their lists

-- no digit begins an end
pub ends_digit : (rest : List ℕ) → EndsWord rest → NoDigit rest
ends_digit [] e = λ h. omega (arith, h.0)
ends_digit (b ∷ rest) e = λ (h : IsInRange 48 57 b). omega (arith, h.0, h.1, e)

pub ends_wish : (wish : Option ℕ) (rest : List ℕ) → EndsWord rest → ItemEnds wish rest
ends_wish None [] e = wish_last None
ends_wish None (b ∷ rest) e = (ends_digit (b ∷ rest) e, λ h. omega (arith, h, e))
ends_wish (Some w) rest e = ends_digit rest e

pub move_words : IsReadBack IsMoved move_text (λ m. EndsWord)
move_words = ended_by (λ m. EndsWord) move_back (λ m. ends_wish m.target)

pub enabled_words : IsReadBack IsEnabled enabled_text (λ x. EndsWord)
enabled_words = ended_by (λ x. EndsWord) enabled_back (λ x rest e. tt)

pub pair_words : IsReadBack IsOrderedPair mutual_text (λ p. EndsWord)
pair_words = ended_by (λ p. EndsWord) pair_back (λ p. ends_digit)

pub moves : IsList IsMoved move_text (λ m. ItemEnds m.target)
moves = record { one = move_back; item = record { last = λ m. wish_last m.target; space = λ m. wish_space m.target }; begins = move_begins }

pub enabled : IsList IsEnabled enabled_text Always
enabled = record { one = enabled_back; item = record { last = λ e. tt; space = λ e r. tt }; begins = enabled_begins }

pub pairs : IsList IsOrderedPair mutual_text Undigited
pairs = record { one = pair_back; item = record { last = λ p. nothing_ends; space = λ p r (h : IsInRange 48 57 32). omega (arith, h.0) }; begins = pair_begins }

-- a text that begins with a letter is no list and no name
pub letter : NoDigit (codes "none")
letter h = omega (arith, h.1)

refused : (words : List ℕ) → NoDigit (codes "refused " ++ words)
refused words = λ (h : IsInRange 48 57 114). omega (arith, h.1)

-- moves are not said as a refusal is
pub refused_moves : (x : List Moved) (words : List ℕ) → AllByRecursion IsMoved x → joined_texts move_text x ≡ codes "refused " ++ words → ⊥
refused_moves [] words f e = absurd cc
refused_moves (m ∷ x) words f e = no_list moves m x (codes "refused " ++ words) f.0 (refused words) e

-- nor is a target
pub refused_target : (v : Option ℕ) (words : List ℕ) → IfSome v IsName → target_text v ≡ codes "refused " ++ words → ⊥
refused_target None words f e = omega (arith, ap (λ (z : List ℕ). get_or z 0 0) e)
refused_target (Some v) words f e = not_digital (codes "refused " ++ words) (number_text v) (refused words) (name_digital v f) (sym e)
