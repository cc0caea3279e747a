-- What a seeded daemon draws, given the members of a set (ascending) and a stream of words: a choice,
-- and the rest of the stream.
use Rattle.std.specs.Prelude.{ℕ, ◌%◌, Bool, cond, List, [], ◌∷◌, length, nat_eq, slice_index, Option, None, Some}
use Rattle.rand_core.specs.Stream.{Stream, next_u32}
use Rattle.rule_machine.specs.declared.choice.Item.{Item}
use Rattle.daemon.specs.DaemonLaws.{plain}

-- the name that a word picks: the (word mod count)-th, from 0
abbrev pub picked : List ℕ → ℕ → ℕ
picked names word = slice_index names (word % length names)

-- one name, picked by one word, and the rest of the stream
abbrev pub draw_one : List ℕ → Stream → List ℕ × Stream
draw_one names stream = (picked names (next_u32 stream).0 ∷ [], (next_u32 stream).1)

-- the names, with v put before them if the word is odd
abbrev pub keep_odd : ℕ → ℕ → List ℕ → List ℕ
keep_odd v word names = cond (nat_eq (word % 2) 1) (v ∷ names) names

-- the names whose words are odd, if one word is drawn for each name; and the rest of the stream
abbrev pub draw_odd : List ℕ → Stream → List ℕ × Stream
draw_odd [] stream = ([], stream)
draw_odd (v ∷ names) stream =
    (keep_odd v (next_u32 stream).0 (draw_odd names (next_u32 stream).1).0, (draw_odd names (next_u32 stream).1).1)

-- the names drawn so far; if there are none, one name picked by one more word
abbrev pub or_one : List ℕ → List ℕ → Stream → List ℕ × Stream
or_one names [] stream = draw_one names stream
or_one names (v ∷ chosen) stream = (v ∷ chosen, stream)

-- at least one name, and the rest of the stream
abbrev pub draw_some : List ℕ → Stream → List ℕ × Stream
draw_some names stream = or_one names (draw_odd names stream).0 (draw_odd names stream).1

-- the names that are drawn (one if the daemon is central), and the rest of the stream
abbrev pub draw : Bool → List ℕ → Stream → List ℕ × Stream
draw central names stream = cond central (draw_one names stream) (draw_some names stream)

-- the choice of the names drawn, and the rest of the stream
abbrev pub as_choice : List ℕ × Stream → List Item × Stream
as_choice d = (plain d.0, d.1)

-- The choice, and the rest of the stream. If there are no names, there is no choice and no word is drawn;
-- `seeded_rests_among_nobody` proves that only then there is no choice.
abbrev pub choice_drawn : Bool → List ℕ → Stream → Option (List Item) × Stream
choice_drawn central [] stream = (None, stream)
choice_drawn central (v ∷ names) stream =
    (Some (as_choice (draw central (v ∷ names) stream)).0, (as_choice (draw central (v ∷ names) stream)).1)
