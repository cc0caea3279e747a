-- What accepted edits and faults do to a state. This project's own.
use Rattle.std.specs.Prelude.{ℕ, Bool, false, map, Option, None, if◌then◌else◌}
use Rattle.rule_machine.specs.Network.{with_edge, without_edge, with_node, without_node}
use Rattle.rule_machine.specs.State.{State, Registers, is_at, points, with_pointer, with_flag}

abbrev pub after_link : State → ℕ → ℕ → State
after_link s a b = record s { network = with_edge s.network a b }

-- v's pointer becomes null if v points at w
abbrev pub without_pointer : Registers → ℕ → ℕ → Registers
without_pointer r v w = if points r v w then with_pointer r v None else r

-- the edge is removed; if an end points at the other end, that pointer becomes null; flags stay
abbrev pub after_unlink : State → ℕ → ℕ → State
after_unlink s a b =
    record { network = without_edge s.network a b; registers = without_pointer (without_pointer s.registers a b) b a }

abbrev pub after_point : State → ℕ → Option ℕ → State
after_point s v target = record s { registers = with_pointer s.registers v target }

abbrev pub after_flag : State → ℕ → Bool → State
after_flag s v value = record s { registers = with_flag s.registers v value }

-- a name becomes present; like every absent name, it has a null pointer and a false flag already
abbrev pub after_join : State → ℕ → State
after_join s v = record s { network = with_node s.network v }

-- the pointer, or null if it is at v
abbrev pub unless_at : ℕ → Option ℕ → Option ℕ
unless_at v target = if is_at target v then None else target

-- v's pointer and every pointer at v become null, and v's flag becomes false; other flags stay
abbrev pub without_name : Registers → ℕ → Registers
without_name r v = with_flag (with_pointer (record r { pointers = map (unless_at v) r.pointers }) v None) v false

-- the node and its edges are removed
abbrev pub after_leave : State → ℕ → State
after_leave s v = record { network = without_node s.network v; registers = without_name s.registers v }
