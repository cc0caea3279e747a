-- A fault of a register, drawn by the words of a generator: the node, the register and its new value.
use Rattle.std.specs.Prelude.{ℕ, zero, suc, ◌+◌, ◌-◌, ◌%◌, Bool, true, false, Option, None, Some, if◌then◌else◌, nat_eq, length, slice_get, slice_index}
use Rattle.rand_core.specs.Stream.{Stream, next_u32}
use Rattle.rule_machine.specs.declared.event.Event.{Event}
use Rattle.rule_machine.specs.declared.event.Event.TheVariants.{Point, Flag}
use Rattle.rule_machine.specs.Network.{Network, names, neighbours, node_count}

-- the next word of a stream
abbrev pub word : Stream → ℕ
word stream = (next_u32 stream).0

-- the stream after its next word
abbrev pub rest : Stream → Stream
rest stream = (next_u32 stream).1

-- the stream after this number of words
abbrev pub behind : ℕ → Stream → Stream
behind zero stream = stream
behind (suc words) stream = behind words (rest stream)

-- whether a word is odd
abbrev pub is_odd : ℕ → Bool
is_odd w = nat_eq (w % 2) 1

-- the node that a word picks among the nodes, ascending
abbrev pub node_at : Network → ℕ → ℕ
node_at net w = slice_index (names net) (w % node_count net)

-- the new pointer of v: null for 0, otherwise the neighbour with that number, counted from 1
abbrev pub pointer_at : Network → ℕ → ℕ → Option ℕ
pointer_at net v number = if nat_eq number 0 then None else slice_get (neighbours net v) (number - 1)

-- the new pointer of v by a word
abbrev pub drawn_target : Network → ℕ → ℕ → Option ℕ
drawn_target net v w = pointer_at net v (w % (length (neighbours net v) + 1))

-- a fault of v's pointer, by one word
abbrev pub pointer_fault : Network → ℕ → Stream → Option Event × Stream
pointer_fault net v stream = (Some (Point v (drawn_target net v (word stream))), rest stream)

-- a fault of v's flag, by one word: the flag becomes true if the word is odd
abbrev pub flag_fault : ℕ → Stream → Option Event × Stream
flag_fault v stream = (Some (Flag v (is_odd (word stream))), rest stream)

-- a fault at v if there are flags: a fault of the flag if the word is odd, otherwise of the pointer
abbrev pub either_fault : Network → ℕ → Stream → Option Event × Stream
either_fault net v stream = if is_odd (word stream) then flag_fault v (rest stream) else pointer_fault net v (rest stream)

-- a fault at v
abbrev pub fault_at : Network → Bool → ℕ → Stream → Option Event × Stream
fault_at net flags v stream = if flags then either_fault net v stream else pointer_fault net v stream

-- the fault drawn by a stream's words, and the stream after these words; no fault, and no word taken, if
-- there is no node
abbrev pub fault_drawn : Network → Bool → Stream → Option Event × Stream
fault_drawn net flags stream =
    if nat_eq (node_count net) 0 then (None, stream) else fault_at net flags (node_at net (word stream)) (rest stream)

-- how many words a fault takes, with flags and without
abbrev pub fault_words : Bool → ℕ
fault_words flags = if flags then 3 else 2

-- whether an event writes a register of one node
abbrev pub is_register_fault : Event → Bool
is_register_fault (Point v target) = true
is_register_fault (Flag v value) = true
is_register_fault event = false
