-- A state: a network, and the registers of each node.
use Rattle.std.specs.Prelude.{◌≡◌, ℕ, ◌+◌, Bool, false, cond, not, ◌&&◌, List, length, replicate, Option, None, Some, is_some, IfSome, IsTrue, nat_eq, find, slice_index_or, slice_set, refl}
use Rattle.std.specs.Coded.{Coded, code_by, coded×, coded_ℕ, coded_bool, coded_list, coded_option}
use Rattle.rule_machine.specs.Network.{Network, network_code, IsNetwork, edgeless_with, present, linked, neighbours}

-- Each node's pointer and married flag, at its name's index; index 0 belongs to no node.
pub record Registers : Type 0 where
  pub pointers : List (Option ℕ)
  pub flags : List Bool

abbrev pub registers_code : Coded Registers
registers_code =
    code_by (List (Option ℕ) × List Bool) (coded× (coded_list (coded_option coded_ℕ)) (coded_list coded_bool)) (λ r. (r.pointers, r.flags)) (λ p. record { pointers = p.0; flags = p.1 }) (λ _. refl)

-- all pointers null and all flags false, for `size` names
abbrev pub blank : ℕ → Registers
blank size = record { pointers = replicate (size + 1) None; flags = replicate (size + 1) false }

-- v's pointer; None for null
abbrev pub pointer_of : Registers → ℕ → Option ℕ
pointer_of r v = slice_index_or r.pointers v None

abbrev pub flag_of : Registers → ℕ → Bool
flag_of r v = slice_index_or r.flags v false

abbrev pub with_pointer : Registers → ℕ → Option ℕ → Registers
with_pointer r v target = record r { pointers = slice_set r.pointers v target }

abbrev pub with_flag : Registers → ℕ → Bool → Registers
with_flag r v value = record r { flags = slice_set r.flags v value }

-- whether a pointer is at w
abbrev pub is_at : Option ℕ → ℕ → Bool
is_at None w = false
is_at (Some x) w = nat_eq x w

-- whether a pointer is at a name and that name passes the test
abbrev pub holds_at : (ℕ → Bool) → Option ℕ → Bool
holds_at test None = false
holds_at test (Some w) = test w

-- whether v points at w
abbrev pub points : Registers → ℕ → ℕ → Bool
points r v w = is_at (pointer_of r v) w

pub record State : Type 0 where
  pub network : Network
  pub registers : Registers

abbrev pub state_code : Coded State
state_code =
    code_by (Network × Registers) (coded× network_code registers_code) (λ s. (s.network, s.registers)) (λ p. record { network = p.0; registers = p.1 }) (λ _. refl)

abbrev pub pointer : State → ℕ → Option ℕ
pointer s v = pointer_of s.registers v

abbrev pub flag : State → ℕ → Bool
flag s v = flag_of s.registers v

-- the beginning of a run: no edges, all pointers null, all flags false, and the first `count` names present
abbrev pub opening_with : ℕ → ℕ → State
opening_with size count = record { network = edgeless_with size count; registers = blank size }

-- the beginning of a run with all names present
abbrev pub opening : ℕ → State
opening size = opening_with size size

-- whether w points at v: then w is a suitor of v
abbrev pub suits : State → ℕ → ℕ → Bool
suits s v w = points s.registers w v

-- the first neighbour that points at v, if any does
abbrev pub first_suitor : State → ℕ → Option ℕ
first_suitor s v = find (suits s v) (neighbours s.network v)

abbrev pub has_suitor : State → ℕ → Bool
has_suitor s v = is_some (first_suitor s v)

-- v and w point at each other
abbrev pub is_mutual : State → ℕ → ℕ → Bool
is_mutual s v w = points s.registers v w && points s.registers w v

-- the neighbour w such that v and w point at each other, if any
abbrev pub partner : State → ℕ → Option ℕ
partner s v = find (is_mutual s v) (neighbours s.network v)

abbrev pub married : State → ℕ → Bool
married s v = is_some (partner s v)

-- v's flag says whether v is married
abbrev pub is_settled : State → ℕ → Bool
is_settled s v = cond (married s v) (flag s v) (not (flag s v))

-- v points at a node that does not point back
abbrev pub is_unanswered : State → ℕ → Bool
is_unanswered s v = holds_at (λ w. not (points s.registers w v)) (pointer s v)

-- Each name has a pointer and a flag. Each pointer is null or at a neighbour, and only a present
-- node's flag can be true.
pub record IsState (s : State) : Type 0 where
  pub is_network : IsNetwork s.network
  pub pointers_len : length s.registers.pointers ≡ s.network.size + 1
  pub flags_len : length s.registers.flags ≡ s.network.size + 1
  pub neighbourly : (v : ℕ) → IfSome (pointer s v) (λ w. IsTrue (linked s.network v w))
  pub flagged_present : (v : ℕ) → IsTrue (flag s v) → IsTrue (present s.network v)
