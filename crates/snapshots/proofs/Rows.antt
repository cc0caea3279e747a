-- The effect of entries on the pointers.
use Rattle.snapshots.proofs.Prelude.{◌≡◌, ℕ, Bool, true, false, List, [], ◌∷◌, length, map, fold, Option, None, refl, ◌∙◌, length-set, length-map, slice_set, if◌then◌else◌, Act, Update, Marry, Seduce, Abandon, Event, Unlink, Point, Leave, Moved, Reply, Accepted, Moves, is_at, unless_at, Entry, Row, pointer_in, without_pointer_at, moved_by, moved, disturbed_row, effect_of, row_effect}

cleared_when : (row : Row) (v : ℕ) (b : Bool) → length (if b then slice_set row v None else row) ≡ length row
cleared_when row v true = length-set row v None
cleared_when row v false = refl

cleared_length : (row : Row) (v w : ℕ) → length (without_pointer_at row v w) ≡ length row
cleared_length row v w = cleared_when row v (is_at (pointer_in row v) w)

moved_length : (row : Row) (v : ℕ) (act : Act) (target : Option ℕ) → length (moved_by row v act target) ≡ length row
moved_length row v Update target = refl
moved_length row v Marry target = length-set row v target
moved_length row v Seduce target = length-set row v target
moved_length row v Abandon target = length-set row v None

moves_length : (moves : List Moved) (row : Row) → length (fold moved row moves) ≡ length row
moves_length [] row = refl
moves_length (m ∷ moves) row = moves_length moves (moved row m) ∙ moved_length row m.node m.act m.target

disturbed_length : (row : Row) (event : Event) → length (disturbed_row row event) ≡ length row
disturbed_length row (Unlink a b) = cleared_length (without_pointer_at row a b) b a ∙ cleared_length row a b
disturbed_length row (Point v target) = length-set row v target
disturbed_length row (Leave v) = length-set (map (unless_at v) row) v None ∙ length-map row (unless_at v)
disturbed_length row event = refl

by_reply : (row : Row) (event : Event) (reply : Reply) → length (effect_of row event reply) ≡ length row
by_reply row event Accepted = disturbed_length row event
by_reply row event (Moves moves) = moves_length moves row
by_reply row event reply = refl

-- no entry adds a place or takes one away
pub effect_length : (row : Row) (entry : Entry) → length (row_effect row entry) ≡ length row
effect_length row entry = by_reply row entry.0 entry.1
