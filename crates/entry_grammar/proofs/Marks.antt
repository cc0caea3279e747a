-- Texts without a line feed, which ends a line, and texts without a `=`, which comes before a reply.
use Rattle.entry_grammar.proofs.Prelude.{◌≡◌, ◌≢◌, ℕ, ◌<◌, Bool, true, false, not, List, ◌∷◌, ◌++◌, Option, None, Some, refl, arith, codes, IfSome, nat_eq, IsInRange, AllByRecursion, list_all, Item, Event, Unlink, Point, Flag, Step, Show, Enabled, Matching, Status, Join, Leave, number_text, marked_text, spaced, joined_texts, IsName, IsItem, IsEvent, bool_text, event_text, flag_text, item_text, pair_text, point_text, target_text, IsFree, []}
use Rattle.rule_machine.specs.declared.event.Event.TheVariants.{Link}
use Rattle.entry_grammar.proofs.Free.{all_both, free_by, free_name, free_number}

pub data Mark : Type 0 where
  feed : Mark
  equals : Mark

abbrev pub byte_of : Mark → ℕ
byte_of feed = 10
byte_of equals = 61

abbrev pub Lacks : Mark → List ℕ → Type 0
Lacks m text = IsFree (byte_of m) text

-- ---- words, numbers, and texts of several

pub word_lacks : (m : Mark) (x : List ℕ) → list_all (λ b. not (nat_eq b 10)) x ≡ true → list_all (λ b. not (nat_eq b 61)) x ≡ true → Lacks m x
word_lacks feed x no_feed no_equals = free_by 10 x no_feed
word_lacks equals x no_feed no_equals = free_by 61 x no_equals

no_digit : (m : Mark) → IsInRange 48 57 (byte_of m) → ⊥
no_digit feed h = omega (arith, h.0)
no_digit equals h = omega (arith, h.1)

pub number_lacks : (m : Mark) (n : ℕ) → n < 18446744073709551616 → Lacks m (number_text n)
number_lacks m n h = free_number (byte_of m) n (no_digit m) h

pub name_lacks : (m : Mark) (n : ℕ) → IsName n → Lacks m (number_text n)
name_lacks m n f = free_name (byte_of m) n (no_digit m) f

pub both_lack : (m : Mark) (x y : List ℕ) → Lacks m x → Lacks m y → Lacks m (x ++ y)
both_lack m x y f g = all_both (λ b. b ≢ byte_of m) x y f g

-- with a space between them
pub apart_lack : (m : Mark) (x y : List ℕ) → Lacks m x → Lacks m y → Lacks m (x ++ codes " " ++ y)
apart_lack m x y f g = both_lack m (x ++ codes " ") y (both_lack m x (codes " ") f (word_lacks m (codes " ") refl refl)) g

-- after spaces, and joined by them
pub spaced_lack : {X : Type 0} (m : Mark) (fits : X → Type 0) (text : X → List ℕ) → ((x : X) → fits x → Lacks m (text x)) → (xs : List X) → AllByRecursion fits xs → Lacks m (spaced text xs)
spaced_lack m fits text free [] f = tt
spaced_lack m fits text free (x ∷ xs) f =
    both_lack m (codes " " ++ text x) (spaced text xs) (both_lack m (codes " ") (text x) (word_lacks m (codes " ") refl refl) (free x f.0)) (spaced_lack m fits text free xs f.1)

pub joined_lack : {X : Type 0} (m : Mark) (fits : X → Type 0) (text : X → List ℕ) → ((x : X) → fits x → Lacks m (text x)) → (xs : List X) → AllByRecursion fits xs → Lacks m (joined_texts text xs)
joined_lack m fits text free [] f = tt
joined_lack m fits text free (x ∷ xs) f = both_lack m (text x) (spaced text xs) (free x f.0) (spaced_lack m fits text free xs f.1)

-- ---- events

pub target_lacks : (m : Mark) (target : Option ℕ) → IfSome target IsName → Lacks m (target_text target)
target_lacks m None f = word_lacks m (codes "-") refl refl
target_lacks m (Some w) f = name_lacks m w f

pub bool_lacks : (m : Mark) (flag : Bool) → Lacks m (bool_text flag)
bool_lacks m true = word_lacks m (codes "1") refl refl
bool_lacks m false = word_lacks m (codes "0") refl refl

pub marked_lacks : (m : Mark) (target : Option ℕ) → IfSome target IsName → Lacks m (marked_text (codes ">") target)
marked_lacks m None f = tt
marked_lacks m (Some w) f = both_lack m (codes ">") (number_text w) (word_lacks m (codes ">") refl refl) (name_lacks m w f)

item_lacks : (m : Mark) (i : Item) → IsItem i → Lacks m (item_text i)
item_lacks m i f = both_lack m (number_text i.node) (marked_text (codes ">") i.wish) (name_lacks m i.node f.0) (marked_lacks m i.wish f.1)

pub event_lacks : (m : Mark) (event : Event) → IsEvent event → Lacks m (event_text event)
event_lacks m (Link a b) f = both_lack m (codes "link ") (pair_text a b) (word_lacks m (codes "link ") refl refl) (apart_lack m (number_text a) (number_text b) (name_lacks m a f.0) (name_lacks m b f.1))
event_lacks m (Unlink a b) f = both_lack m (codes "unlink ") (pair_text a b) (word_lacks m (codes "unlink ") refl refl) (apart_lack m (number_text a) (number_text b) (name_lacks m a f.0) (name_lacks m b f.1))
event_lacks m (Point v target) f = both_lack m (codes "point ") (point_text v target) (word_lacks m (codes "point ") refl refl) (apart_lack m (number_text v) (target_text target) (name_lacks m v f.0) (target_lacks m target f.1))
event_lacks m (Flag v value) f = both_lack m (codes "flag ") (flag_text v value) (word_lacks m (codes "flag ") refl refl) (apart_lack m (number_text v) (bool_text value) (name_lacks m v f) (bool_lacks m value))
event_lacks m (Join v) f = both_lack m (codes "join ") (number_text v) (word_lacks m (codes "join ") refl refl) (name_lacks m v f)
event_lacks m (Leave v) f = both_lack m (codes "leave ") (number_text v) (word_lacks m (codes "leave ") refl refl) (name_lacks m v f)
event_lacks m (Step items) f = both_lack m (codes "step") (spaced item_text items) (word_lacks m (codes "step") refl refl) (spaced_lack m IsItem item_text (item_lacks m) items f.1)
event_lacks m (Show v) f = both_lack m (codes "show ") (number_text v) (word_lacks m (codes "show ") refl refl) (name_lacks m v f)
event_lacks m Enabled f = word_lacks m (codes "enabled") refl refl
event_lacks m Matching f = word_lacks m (codes "matching") refl refl
event_lacks m Status f = word_lacks m (codes "status") refl refl
