-- In a step each node writes its own registers alone, so a node's registers after the step follow from its own
-- move.
use Rattle.local_rule.proofs.Prelude.{◌≡◌, ◌≢◌, ℕ, zero, suc, ◌+◌, ◌<◌, ◌≤◌, true, false, List, [], ◌∷◌, length, map, get_or, Option, None, IsTrue, refl, sym, ap, ◌∙◌, subst, ⊎_elim, arith, IsStrictlyIncreasing, Act, Update, Marry, Seduce, Abandon, State, IsState, pointer, flag, pointer_of, flag_of, RuleTable, rule_at, present, RisesFrom, rises_from, find_passes, acts, cases_Bool, pointer_linked, linked_present, present_range}
use Rattle.std.proofs.Common.{fold, Contains, Any}
use Rattle.std.proofs.lemmas.List.{length-set}
use Rattle.rule_machine.specs.declared.act.Moved.{Moved}
use Rattle.rule_machine.specs.declared.choice.Item.{Item}
use Rattle.rule_machine.specs.State.{Registers, married}
use Rattle.rule_machine.specs.Step.{IsStep, IsMoveOf, IsTarget, written, after_move}
use Rattle.rule_machine.specs.Table.{AsksForWork}
use Rattle.machine_laws.proofs.Pointers.{married_some, suitor_linked}
use Rattle.machine_laws.proofs.StepTests.{is_move_of_decides}
use Rattle.machine_laws.proofs.Writes.{pointer-with_pointer_same, flag-with_flag_same, pointer-with_pointer_other, flag-with_flag_other}
use Rattle.local_rule.specs.Moves.{local_move}
use Rattle.local_rule.specs.Steps.{IsLocalIn}

-- another node's registers stay
other_pointer : (s : State) (r : Registers) (x : ℕ) (act : Act) (target : Option ℕ) (v : ℕ) → v ≢ x → pointer_of (written s r x act target) v ≡ pointer_of r v
other_pointer s r x Update target v apart = refl
other_pointer s r x Marry target v apart = pointer-with_pointer_other r x target v apart
other_pointer s r x Seduce target v apart = pointer-with_pointer_other r x target v apart
other_pointer s r x Abandon target v apart = pointer-with_pointer_other r x None v apart

other_flag : (s : State) (r : Registers) (x : ℕ) (act : Act) (target : Option ℕ) (v : ℕ) → v ≢ x → flag_of (written s r x act target) v ≡ flag_of r v
other_flag s r x Update target v apart = flag-with_flag_other r x (married s x) v apart
other_flag s r x Marry target v apart = refl
other_flag s r x Seduce target v apart = refl
other_flag s r x Abandon target v apart = refl

-- as do the lengths
same_pointers_length : (s : State) (r : Registers) (x : ℕ) (act : Act) (target : Option ℕ) → length (written s r x act target).pointers ≡ length r.pointers
same_pointers_length s r x Update target = refl
same_pointers_length s r x Marry target = length-set _ _ _
same_pointers_length s r x Seduce target = length-set _ _ _
same_pointers_length s r x Abandon target = length-set _ _ _

same_flags_length : (s : State) (r : Registers) (x : ℕ) (act : Act) (target : Option ℕ) → length (written s r x act target).flags ≡ length r.flags
same_flags_length s r x Update target = length-set _ _ _
same_flags_length s r x Marry target = refl
same_flags_length s r x Seduce target = refl
same_flags_length s r x Abandon target = refl

-- at v the registers are those of the state, and there is room for them
record AsBefore (s : State) (r : Registers) (v : ℕ) : Type 0 where
  points : pointer_of r v ≡ pointer s v
  flagged : flag_of r v ≡ flag s v
  room : v < length r.pointers
  flag_room : v < length r.flags
  room_before : v < length s.registers.pointers
  flag_room_before : v < length s.registers.flags

-- v has its registers of the move
record AsMoved (s : State) (r : Registers) (m : Moved) : Type 0 where
  points : pointer_of r m.node ≡ (local_move s m.node m.act m.target).pointer
  flagged : flag_of r m.node ≡ (local_move s m.node m.act m.target).flag

moved_by : (s : State) (r : Registers) (v : ℕ) (act : Act) (target : Option ℕ) → AsBefore s r v → AsMoved s (written s r v act target) (record { node = v; act = act; target = target })
moved_by s r v Update target b = record {
  points = b.points;
  flagged = flag-with_flag_same r v (married s v) b.flag_room ∙ sym (flag-with_flag_same s.registers v (married s v) b.flag_room_before);
}
moved_by s r v Marry target b = record {
  points = pointer-with_pointer_same r v target b.room ∙ sym (pointer-with_pointer_same s.registers v target b.room_before);
  flagged = b.flagged;
}
moved_by s r v Seduce target b = record {
  points = pointer-with_pointer_same r v target b.room ∙ sym (pointer-with_pointer_same s.registers v target b.room_before);
  flagged = b.flagged;
}
moved_by s r v Abandon target b = record {
  points = pointer-with_pointer_same r v None b.room ∙ sym (pointer-with_pointer_same s.registers v None b.room_before);
  flagged = b.flagged;
}

-- moves of nodes above leave it
stay_moved : (s : State) (r : Registers) (moves : List Moved) (m : Moved) → RisesFrom (m.node + 1) (map (λ (x : Moved). x.node) moves) → AsMoved s r m → AsMoved s (fold (after_move s) r moves) m
unfolding RisesFrom
stay_moved s r [] m up done = done
stay_moved s r (x ∷ moves) m up done =
    let le = up.0 in
    let apart : m.node ≢ x.node = λ same. omega arith in
    stay_moved s (after_move s r x) moves m (lower (x.node + 1) (m.node + 1) (map (λ (y : Moved). y.node) moves) (omega arith) up.1) (record {
      points = other_pointer s r x.node x.act x.target m.node apart ∙ done.points;
      flagged = other_flag s r x.node x.act x.target m.node apart ∙ done.flagged;
    })
  where
    lower : (a b : ℕ) (xs : List ℕ) → b ≤ a → RisesFrom a xs → RisesFrom b xs
    lower a b [] low up = tt
    lower a b (x ∷ xs) low up = (let le = up.0 in omega arith, up.1)

-- a move among the others
above_all : (a : ℕ) (moves : List Moved) (m : Moved) (k : ℕ) → RisesFrom a (map (λ (x : Moved). x.node) moves) → k < length moves → get_or moves k m ≡ m → a ≤ m.node
unfolding RisesFrom
above_all a [] m k up inside at = absurd (omega arith)
above_all a (x ∷ moves) m zero up inside at = let le = up.0 in let same = ap (λ (y : Moved). y.node) at in omega (arith, same)
above_all a (x ∷ moves) m (suc k) up inside at = let le = up.0 in let more = above_all (x.node + 1) moves m k up.1 (omega arith) at in omega arith

moved_in : (s : State) (r : Registers) (a : ℕ) (moves : List Moved) (m : Moved) (k : ℕ) → RisesFrom a (map (λ (x : Moved). x.node) moves) → k < length moves → get_or moves k m ≡ m → AsBefore s r m.node → AsMoved s (fold (after_move s) r moves) m
unfolding RisesFrom
moved_in s r a [] m k up inside at b = absurd (omega arith)
moved_in s r a (x ∷ moves) m zero up inside at b =
    subst (λ y. AsMoved s (fold (after_move s) (after_move s r x) moves) y) at
    (stay_moved s (after_move s r x) moves x up.1 (moved_by s r x.node x.act x.target (subst (λ (y : Moved). AsBefore s r y.node) (sym at) b)))
moved_in s r a (x ∷ moves) m (suc k) up inside at b =
    let above = above_all (x.node + 1) moves m k up.1 (omega arith) at in
    let apart : m.node ≢ x.node = λ same. omega arith in
    let len = same_pointers_length s r x.node x.act x.target in
    let flag_len = same_flags_length s r x.node x.act x.target in
    let room = b.room in
    let flag_room = b.flag_room in
    moved_in s (after_move s r x) (x.node + 1) moves m k up.1 (omega arith) at (record {
      points = other_pointer s r x.node x.act x.target m.node apart ∙ b.points;
      flagged = other_flag s r x.node x.act x.target m.node apart ∙ b.flagged;
      room = omega (arith, len, room);
      flag_room = omega (arith, flag_len, flag_room);
      room_before = b.room_before;
      flag_room_before = b.flag_room_before;
    })

-- ---- what a step's move is

without_wish : (t : RuleTable) (s : State) (v : ℕ) (act : Act) (wish target : Option ℕ) → IsTarget t s v act wish target → IsTarget t s v act None target
without_wish t s v Update wish target h = h
without_wish t s v Marry wish target h = (h.0, λ some. absurd cc)
without_wish t s v Seduce wish target h = (h.0, λ some. absurd cc)
without_wish t s v Abandon wish target h = h

-- the item that asks for a move has its node
asked : (t : RuleTable) (s : State) (item : Item) (m : Moved) → IsMoveOf t s item m → IsMoveOf t s (record { node = m.node; wish = None }) m
asked t s item m h = record {
  node = refl;
  rule = ap (rule_at t s) h.node ∙ h.rule;
  target = subst (λ v. IsTarget t s v m.act None m.target) (sym h.node) (without_wish t s item.node m.act item.wish m.target h.target);
}

-- only a present node is enabled
enabled_present : (t : RuleTable) (s : State) (v : ℕ) (act : Act) → AsksForWork t → IsState s → IsTrue (t.guard s v act) → IsTrue (present s.network v)
enabled_present t s v Update asks good h =
    ⊎_elim
    (λ (up : flag s v ≡ true). good.flagged_present v up)
    (
    λ (down : flag s v ≡ false). ⊎_elim
    (λ (paired : married s v ≡ true). let found = married_some s v paired in linked_present s.network v found.0 good.is_network (pointer_linked s v found.0 good found.1))
    (λ (single : married s v ≡ false). absurd ((asks.update s v h).1 (down ∙ sym single)))
    (cases_Bool (married s v))
    )
    (cases_Bool (flag s v))
enabled_present t s v Marry asks good h =
    let found = (asks.marry s v h).1 in
    linked_present s.network v found.0 good.is_network (suitor_linked s v found.0 good found.1)
enabled_present t s v Seduce asks good h =
    let found = (asks.seduce s v h).1 in
    linked_present s.network v found.0 good.is_network found.1
enabled_present t s v Abandon asks good h =
    let found = asks.abandon s v h in
    linked_present s.network v found.0 good.is_network (pointer_linked s v found.0 good found.1)

rise : (moves : List Moved) → IsStrictlyIncreasing (map (λ (m : Moved). m.node) moves) → RisesFrom 0 (map (λ (m : Moved). m.node) moves)
unfolding RisesFrom
rise [] up = tt
rise (m ∷ moves) up = rises_from 0 m.node (map (λ (x : Moved). x.node) moves) (omega arith) up

pub step_is_local : (t : RuleTable) (s after : State) (choice : List Item) (moves : List Moved) → AsksForWork t → IsState s → IsStep t s choice moves after → (m : Moved) → Contains moves m → IsLocalIn t s after m
step_is_local t s after choice moves asks good step m (k, inside, at) =
    let any = subst (λ x. Any (λ item. IsMoveOf t s item x) choice) at (step.each k m inside) in
    let mine = asked t s any.1 m any.4 in
    let here = enabled_present t s m.node m.act asks good (find_passes (t.guard s m.node) acts m.act mine.rule) in
    let bounds = present_range s.network m.node here in
    let len = good.pointers_len in
    let flag_len = good.flags_len in
    let room : m.node < length s.registers.pointers = omega (arith, len, bounds.1) in
    let flag_room : m.node < length s.registers.flags = omega (arith, flag_len, bounds.1) in
    let done = moved_in s s.registers 0 moves m k (rise moves step.ascending) inside at (record { points = refl; flagged = refl; room = room; flag_room = flag_room; room_before = room; flag_room_before = flag_room }) in
    record {
      may = (is_move_of_decides t s (record { node = m.node; wish = None }) m).1 mine;
      points = ap (λ u. pointer u m.node) step.after ∙ done.points;
      flagged = ap (λ u. flag u m.node) step.after ∙ done.flagged;
    }
