-- A step may be written in two passes: first all flags, computed from the pointers before the step, then
-- all pointers.
use Rattle.machine_laws.proofs.ChargePrelude.Imports.{◌≡◌, ℕ, Bool, List, [], ◌∷◌, fold, Some, is_some, refl, sym, ap, ◌∙◌, Act, Update, Moved, State, Registers, IsState, pointer, with_flag, points, married, partner, after_move, registers_after, true≢false, is_answered_at, flag_read_by, flag_read, pointer_written, arith}
use Rattle.machine_laws.proofs.Neighbours.{option_cases}
use Rattle.machine_laws.proofs.Pointers.{partner_from, null_unmarried, unanswered_unmarried, points_true, points_from}

-- the flag that it writes, read from the state before
abbrev flag_by : State → Registers → ℕ → Act → Registers
flag_by before r v Update = with_flag r v (married before v)
flag_by before r v act = r

abbrev flag_written : State → Registers → Moved → Registers
flag_written before r m = flag_by before r m.node m.act

-- ---- a node is married where the node that it points at points back

at_pointer : (s : State) (v w : ℕ) → IsState s → pointer s v ≡ Some w → (b : Bool) → points s.registers w v ≡ b → is_some (partner s v) ≡ b
at_pointer s v w good at x back = grind (arith, partner_from, points_true, unanswered_unmarried, true≢false, points_from)

pub married_answered : (s : State) (v : ℕ) → IsState s → married s v ≡ is_answered_at s.registers v
married_answered s v good = grind (arith, null_unmarried, at_pointer, option_cases)

-- ---- flags and pointers are written past each other

-- a move's write is that of its flag, then of its pointer
split_write : (before : State) (r : Registers) (m : Moved) → after_move before r m ≡ pointer_written (flag_written before r m) m
split_write before r m = grind arith

pass_write : (before : State) (r : Registers) (m n : Moved) → flag_written before (pointer_written r m) n ≡ pointer_written (flag_written before r n) m
pass_write before r m n = grind arith

pass_writes : (before : State) (r : Registers) (m : Moved) (moves : List Moved) → fold (flag_written before) (pointer_written r m) moves ≡ pointer_written (fold (flag_written before) r moves) m
pass_writes before r m [] = refl
pass_writes before r m (n ∷ moves) = ap (λ q. fold (flag_written before) q moves) (pass_write before r m n) ∙ pass_writes before (flag_written before r n) m moves

two_passes : (before : State) (r : Registers) (moves : List Moved) → fold (after_move before) r moves ≡ fold pointer_written (fold (flag_written before) r moves) moves
two_passes before r [] = refl
two_passes before r (m ∷ moves) = grind (arith, two_passes before (after_move before r m) moves, split_write, pass_writes)

-- ---- over the pointers of before, a flag that is read is the one of before

same_flag : (s : State) → IsState s → (r : Registers) → r.pointers ≡ s.registers.pointers → (v : ℕ) (act : Act) → flag_read_by r v act ≡ flag_by s r v act
same_flag s good r same v act = grind (arith, married_answered)

flag_keeps_pointers : (s : State) (r : Registers) (v : ℕ) (act : Act) → (flag_by s r v act).pointers ≡ r.pointers
flag_keeps_pointers s r v act = grind arith

flags_read : (s : State) → IsState s → (r : Registers) (moves : List Moved) → r.pointers ≡ s.registers.pointers → fold flag_read r moves ≡ fold (flag_written s) r moves
flags_read s good r [] same = refl
flags_read s good r (m ∷ moves) same = grind (arith, flags_read s good (flag_by s r m.node m.act) moves (flag_keeps_pointers s r m.node m.act ∙ same), same_flag, flag_keeps_pointers)

-- the registers after flags that are read, and then pointers
pub written_in_two : (s : State) → IsState s → (moves : List Moved) → fold pointer_written (fold flag_read s.registers moves) moves ≡ registers_after s moves
written_in_two s good moves = ap (λ q. fold pointer_written q moves) (flags_read s good s.registers moves refl) ∙ sym (two_passes s s.registers moves)
