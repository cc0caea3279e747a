-- A line spells at most one event.
use Rattle.line_text.proofs.Prelude.{◌≡◌, ℕ, ◌+◌, ◌*◌, Bool, List, Option, get_or, refl, sym, ap, ◌∙◌, arith, IfSome, append_cancel_left, Item, Event, Link, Unlink, Point, Flag, Step, Show, Enabled, Matching, Status, Join, Leave, IsName, spaced, IsEvent, Spells, event_text, pair_text, point_text, flag_text, item_text}
use Rattle.std.specs.Prelude.{codes}
use Rattle.line_text.proofs.Grammars.{IsReadBack, Always, Undigited, alone, after_word, apart_by, bool_back, name_back, nothing_ends, space_ends, spaced_back, target_back}
use Rattle.line_text.proofs.ItemsOnce.{item_back, items_end}

pair_back : IsReadBack (λ (p : ℕ × ℕ). IsName p.0 × IsName p.1) (λ p. pair_text p.0 p.1) Undigited
pair_back = apart_by 32 name_back name_back space_ends

point_back : IsReadBack (λ (p : ℕ × Option ℕ). IsName p.0 × IfSome p.1 IsName) (λ p. point_text p.0 p.1) Undigited
point_back = apart_by 32 name_back target_back space_ends

flag_back : IsReadBack (λ (p : ℕ × Bool). IsName p.0 × Unit {0}) (λ p. flag_text p.0 p.1) Always
flag_back = apart_by 32 name_back bool_back space_ends

-- the first three bytes, which distinguish the eleven commands
abbrev head_of : List ℕ → ℕ
head_of line = get_or line 0 0 + 256 * get_or line 1 0 + 65536 * get_or line 2 0

-- an event has one text
event_once : (e f : Event) → IsEvent e → IsEvent f → event_text e ≡ event_text f → e ≡ f
event_once (Link a b) (Link c d) f g e = ap (λ (p : ℕ × ℕ). Link p.0 p.1) (alone (after_word (codes "link ") pair_back) (λ p. nothing_ends) (a, b) (c, d) f g e)
event_once (Unlink a b) (Unlink c d) f g e = ap (λ (p : ℕ × ℕ). Unlink p.0 p.1) (alone (after_word (codes "unlink ") pair_back) (λ p. nothing_ends) (a, b) (c, d) f g e)
event_once (Point a v) (Point c w) f g e = ap (λ (p : ℕ × Option ℕ). Point p.0 p.1) (alone (after_word (codes "point ") point_back) (λ p. nothing_ends) (a, v) (c, w) f g e)
event_once (Flag a v) (Flag c w) f g e = ap (λ (p : ℕ × Bool). Flag p.0 p.1) (alone (after_word (codes "flag ") flag_back) (λ p. tt) (a, v) (c, w) (f, tt) (g, tt) e)
event_once (Join a) (Join b) f g e = ap (λ (x : ℕ). Join x) (alone (after_word (codes "join ") name_back) (λ n. nothing_ends) a b f g e)
event_once (Leave a) (Leave b) f g e = ap (λ (x : ℕ). Leave x) (alone (after_word (codes "leave ") name_back) (λ n. nothing_ends) a b f g e)
event_once (Step is) (Step js) f g e =
    ap (λ (x : List Item). Step x) (spaced_back item_back items_end is js f.1 g.1 (append_cancel_left (codes "step") (spaced item_text is) (spaced item_text js) e))
event_once (Show a) (Show b) f g e = ap (λ (x : ℕ). Show x) (alone (after_word (codes "show ") name_back) (λ n. nothing_ends) a b f g e)
event_once Enabled Enabled f g e = refl
event_once Matching Matching f g e = refl
event_once Status Status f g e = refl
event_once d c f g e = absurd (omega (arith, ap head_of e))

-- a line spells one event
pub spells_once : (line : List ℕ) (e f : Event) → Spells line e → Spells line f → e ≡ f
spells_once line e f p q = event_once e f p.0 q.0 (sym p.1 ∙ q.1)
