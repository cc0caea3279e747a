-- An index that is updated for one node's change.
use Rattle.suitor_index.proofs.Prelude.{◌≡◌, ℕ, ◌<◌, ◌≤◌, Bool, true, ◌&&◌, List, length, Option, Some, IfSome, nat_eq, IsTrue, refl, sym, ap, ap₂, ◌∙◌, subst, arith, list_any, IsStrictlyIncreasing, and_parts, Network, linked, neighbours, present, State, Registers, IsState, pointer, flag, pointer_of, flag_of, with_pointer, with_flag, is_open, pointer-with_pointer_other, pointer-with_pointer_same, flag-with_flag_other, flag-with_flag_same, if_some_from, linked_back, linked_present, present_range, pointer_linked, Tally, StateView, IsChange, state_of, Pointed, Flagged, WasIndexed, asks_for, tally_of, IsIndexOf, IsIndexed, AddsSuitor, IsAimed, IsRepointed, IsTurned, HasSuitor, HasTallyRoom, CanTurn}
use Rattle.suitor_index.proofs.NeighbourSums.{listed_linked, neighbours_rise}
use Rattle.suitor_index.proofs.OtherTallies.{AreAlike, near, has_suitor, has_room, can_turn, index_turned}

-- v's registers went from those of the table to those of the state, and the tallies are of the table
pub record IsRegisterWrite (above : Bool) (opens : Option ℕ → Bool → Bool) (r : Registers) (s : State) (v : ℕ) (start : List Tally) : Type 0 where
  pub before : IsState (state_of s.network r)
  pub now : IsState s
  pub alike : AreAlike v r s.registers
  pub here : IsTrue (present s.network v)
  pub few : s.network.size ≤ 65535
  pub index : IsIndexOf above opens (state_of s.network r) start

write_of : (above : Bool) (opens : Option ℕ → Bool → Bool) (start : List Tally) (b s : State) (v : ℕ) → IsState b → IsState s → s.network ≡ b.network → AreAlike v b.registers s.registers → IsTrue (present b.network v) → IsIndexed above opens b start → IsRegisterWrite above opens b.registers s v start
write_of above opens start b s v was is same alike here told = record {
  before = subst (λ (n : Network). IsState (state_of n b.registers)) (sym same) was;
  now = is;
  alike = alike;
  here = ap (λ n. present n v) same ∙ here;
  few = subst (λ (n : Network). n.size ≤ 65535) (sym same) told.few;
  index = subst (λ (n : Network). IsIndexOf above opens (state_of n b.registers) start) (sym same) told.index;
}

point_write : (above : Bool) (opens : Option ℕ → Bool → Bool) (start : List Tally) (now : StateView) (v : ℕ) (was is : Option ℕ) (told : WasIndexed above opens start (Pointed v was is) now) → IsRegisterWrite above opens told.0.state.registers now.state v start
point_write above opens start now v was is told =
    let r = told.0.state.registers in
    let q : now.state.registers ≡ with_pointer r v is = ap (λ (s : State). s.registers) told.1.0.made in
    write_of above opens start told.0.state now.state v told.1.0.was_state told.1.0.is_state (ap (λ (s : State). s.network) told.1.0.made)
    (record { pointers = λ x apart. sym (ap (λ t. pointer_of t x) q ∙ pointer-with_pointer_other r v is x apart); flags = λ x apart. sym (ap (λ t. flag_of t x) q) })
    told.1.0.due.0 told.1.1

flag_write : (above : Bool) (opens : Option ℕ → Bool → Bool) (start : List Tally) (now : StateView) (v : ℕ) (was is : Bool) (told : WasIndexed above opens start (Flagged v was is) now) → IsRegisterWrite above opens told.0.state.registers now.state v start
flag_write above opens start now v was is told =
    let r = told.0.state.registers in
    let q : now.state.registers ≡ with_flag r v is = ap (λ (s : State). s.registers) told.1.0.made in
    write_of above opens start told.0.state now.state v told.1.0.was_state told.1.0.is_state (ap (λ (s : State). s.network) told.1.0.made)
    (record { pointers = λ x apart. sym (ap (λ t. pointer_of t x) q); flags = λ x apart. sym (ap (λ t. flag_of t x) q ∙ flag-with_flag_other r v is x apart) })
    told.1.0.due.0 told.1.1

-- the register is the one written
pub pointer_now : (before now : StateView) (v : ℕ) (was is : Option ℕ) → IsChange before (Pointed v was is) now → pointer now.state v ≡ is
pointer_now before now v was is change =
    let within = present_range before.state.network v change.due.0 in
    ap (λ (s : State). pointer s v) change.made ∙ pointer-with_pointer_same before.state.registers v is (omega (arith, within.1, change.was_state.pointers_len))

pub flag_now : (before now : StateView) (v : ℕ) (was is : Bool) → IsChange before (Flagged v was is) now → flag now.state v ≡ is
flag_now before now v was is change =
    let within = present_range before.state.network v change.due.0 in
    ap (λ (s : State). flag s v) change.made ∙ flag-with_flag_same before.state.registers v is (omega (arith, within.1, change.was_state.flags_len))

near_present : (net : Network) (r : Registers) (v w : ℕ) → IsState (state_of net r) → IsTrue (linked net v w) → IsTrue (present net w)
near_present net r v w good h = linked_present net w v good.is_network (linked_back net w v ∙ h)

pub target_present : (s : State) (v w : ℕ) → IsState s → pointer s v ≡ Some w → IsTrue (present s.network w)
target_present s v w good at = near_present s.network s.registers v w good (pointer_linked s v w good at)

-- the old target has v among its suitors
pub old_counted : (above : Bool) (opens : Option ℕ → Bool → Bool) (start : List Tally) (now : StateView) (v : ℕ) (was is : Option ℕ) (told : WasIndexed above opens start (Pointed v was is) now) → IfSome was (λ w. HasSuitor (tally_of start w))
old_counted above opens start now v was is told =
    let r = told.0.state.registers in
    let net = now.state.network in
    let c = point_write above opens start now v was is told in
    if_some_from was _ (λ w e. let at = sym told.1.0.due.1 ∙ e in has_suitor above opens net r v w start c.before c.index c.here (target_present (state_of net r) v w c.before at) at)

-- the new target has room for it
pub new_fits : (above : Bool) (opens : Option ℕ → Bool → Bool) (start : List Tally) (now : StateView) (v : ℕ) (was is : Option ℕ) (told : WasIndexed above opens start (Pointed v was is) now) (left : List Tally) → AddsSuitor was v left start → IfSome is (λ w. HasTallyRoom (tally_of left w))
new_fits above opens start now v was is told left out =
    let c = point_write above opens start now v was is told in
    if_some_from is _ (
    λ w e.
    let at = pointer_now told.0 now v was is told.1.0 ∙ e in
    has_room above opens now.state.network told.0.state.registers now.state.registers v w start left c.before c.now c.alike c.here (target_present now.state v w c.now at) c.few c.index
    (subst (λ o. AddsSuitor o v left start) told.1.0.due.1 out)
    at
    )

-- and the new target has a place
pub new_within : (above : Bool) (opens : Option ℕ → Bool → Bool) (start : List Tally) (now : StateView) (v : ℕ) (was is : Option ℕ) (told : WasIndexed above opens start (Pointed v was is) now) (left : List Tally) → AddsSuitor was v left start → IfSome is (λ w. w < length left)
new_within above opens start now v was is told left out =
    let c = point_write above opens start now v was is told in
    if_some_from is _ (
    λ w e.
    let bounds = present_range now.state.network w (target_present now.state v w c.now (pointer_now told.0 now v was is told.1.0 ∙ e)) in
    omega (arith, bounds.1, out.places, c.index.places)
    )

-- removed at the old target and added at the new one, to which v then points
pub repointed : (v : ℕ) (start left moved pointed : List Tally) (old new p q : Option ℕ) → p ≡ old → new ≡ q → AddsSuitor old v left start → AddsSuitor new v left moved → IsAimed v new moved pointed → IsRepointed p q v start pointed
repointed v start left moved pointed old new p q was is out into aimed =
    subst (λ o. IsRepointed o q v start pointed) (sym was) (subst (λ o. IsRepointed old o v start pointed) is record {
      places = aimed.places ∙ into.places ∙ sym out.places;
      suitors = λ k. let a = out.suitors k in let b = into.suitors k in let c = aimed.suitors k in omega arith;
      sum = λ k. let a = out.sum k in let b = into.sum k in let c = aimed.sum k in omega arith;
      reached = λ k. aimed.reached k ∙ into.reached k ∙ sym (out.reached k);
      aim = aimed.aim;
      others = λ k apart. aimed.others k apart ∙ into.aims k ∙ sym (out.aims k);
    })

-- after the pointer's part: these nodes are next to learn whether v was open, and whether it is
pub record IsHalfTold (above : Bool) (opens : Option ℕ → Bool → Bool) (r : Registers) (s : State) (v : ℕ) (start pointed : List Tally) (nodes : List ℕ) (was is : Bool) : Type 0 where
  pub change : IsRegisterWrite above opens r s v start
  pub told : IsRepointed (pointer_of r v) (pointer s v) v start pointed
  pub all : nodes ≡ neighbours s.network v
  pub before : was ≡ opens (pointer_of r v) (flag_of r v)
  pub now : is ≡ is_open opens s v

pub half_pointed : (above : Bool) (opens : Option ℕ → Bool → Bool) (start : List Tally) (now : StateView) (v : ℕ) (was is : Option ℕ) (told : WasIndexed above opens start (Pointed v was is) now) (left moved pointed : List Tally) (nodes : List ℕ) (raised was_open opened : Bool) → AddsSuitor was v left start → AddsSuitor is v left moved → IsAimed v is moved pointed → nodes ≡ neighbours now.state.network v → raised ≡ flag now.state v → was_open ≡ opens was raised → opened ≡ opens is raised → IsHalfTold above opens told.0.state.registers now.state v start pointed nodes was_open opened
half_pointed above opens start now v was is told left moved pointed nodes raised was_open opened out into aimed all flagged before after =
    let written = pointer_now told.0 now v was is told.1.0 in
    record {
      change = point_write above opens start now v was is told;
      told = repointed v start left moved pointed was is (pointer told.0.state v) (pointer now.state v) (sym told.1.0.due.1) (sym written) out into aimed;
      all = all;
      before = before ∙ ap₂ opens told.1.0.due.1 (flagged ∙ ap (λ (s : State). flag s v) told.1.0.made);
      now = after ∙ ap₂ opens (sym written) flagged;
    }

pub half_flagged : (above : Bool) (opens : Option ℕ → Bool → Bool) (start : List Tally) (now : StateView) (v : ℕ) (was is : Bool) (told : WasIndexed above opens start (Flagged v was is) now) (nodes : List ℕ) (one two : Option ℕ) (was_open opened : Bool) → nodes ≡ neighbours now.state.network v → one ≡ pointer now.state v → two ≡ pointer now.state v → was_open ≡ opens one was → opened ≡ opens two is → IsHalfTold above opens told.0.state.registers now.state v start start nodes was_open opened
half_flagged above opens start now v was is told nodes one two was_open opened all first second before after =
    let same = ap (λ (s : State). pointer s v) told.1.0.made in
    record {
      change = flag_write above opens start now v was is told;
      told = subst (λ o. IsRepointed (pointer told.0.state v) o v start start) (sym same) record {
        places = refl;
        suitors = λ k. refl;
        sum = λ k. refl;
        reached = λ k. refl;
        aim = ap (λ (t : Tally). t.pointer) (told.1.1.index.counted v told.1.0.due.0);
        others = λ k apart. refl;
      };
      all = all;
      before = before ∙ ap₂ opens (first ∙ same) told.1.0.due.1;
      now = after ∙ ap₂ opens second (sym (flag_now told.0 now v was is told.1.0));
    }

-- they rise and have places, and the counts of those that ask have room for it
pub told_ready : (above : Bool) (opens : Option ℕ → Bool → Bool) (r : Registers) (s : State) (v : ℕ) (start pointed : List Tally) (nodes : List ℕ) (was is : Bool) → IsHalfTold above opens r s v start pointed nodes was is → IsStrictlyIncreasing nodes × ((k : ℕ) → list_any (nat_eq k) nodes ≡ true → k < length pointed) × ((k : ℕ) → (list_any (nat_eq k) nodes && asks_for above k v) ≡ true → CanTurn was is (tally_of pointed k))
told_ready above opens r s v start pointed nodes was is half =
    let c = half.change in
    let net = s.network in
    let listed_present : (k : ℕ) → list_any (nat_eq k) nodes ≡ true → IsTrue (present net k) = λ k listed. near_present net r v k c.before (listed_linked net v k (ap (list_any (nat_eq k)) (sym half.all) ∙ listed)) in (
      subst IsStrictlyIncreasing (sym half.all) (neighbours_rise net v),
      λ k listed. let bounds = present_range net k (listed_present k listed) in omega (arith, bounds.1, half.told.places, c.index.places),
      λ k asks.
          let listed_k : near above net v k ≡ true = ap (λ (ns : List ℕ). list_any (nat_eq k) ns && asks_for above k v) (sym half.all) ∙ asks in
          let has = listed_present k (and_parts (list_any (nat_eq k) nodes) (asks_for above k v) asks).0 in
          subst (λ b. CanTurn b is (tally_of pointed k)) (sym half.before)
          (subst (λ b. CanTurn (opens (pointer_of r v) (flag_of r v)) b (tally_of pointed k)) (sym half.now) (can_turn above opens net r s.registers v k start pointed c.before c.now c.alike c.here has listed_k c.few c.index half.told)),
    )

-- then the tallies are those of the state
pub told_index : (above : Bool) (opens : Option ℕ → Bool → Bool) (r : Registers) (s : State) (v : ℕ) (start pointed : List Tally) (nodes : List ℕ) (was is : Bool) (turned : List Tally) → IsHalfTold above opens r s v start pointed nodes was is → IsTurned (λ k. list_any (nat_eq k) nodes && asks_for above k v) was is pointed turned → IsIndexed above opens s turned
told_index above opens r s v start pointed nodes was is turned half told =
    let c = half.change in
    let one = subst (λ (ns : List ℕ). IsTurned (λ k. list_any (nat_eq k) ns && asks_for above k v) was is pointed turned) half.all told in
    let two = subst (λ b. IsTurned (near above s.network v) b is pointed turned) half.before one in
    let three = subst (λ b. IsTurned (near above s.network v) (opens (pointer_of r v) (flag_of r v)) b pointed turned) half.now two in
    record {
      is_state = c.now;
      index = index_turned above opens s.network r s.registers v start pointed turned c.before c.now c.alike c.here c.index half.told three;
      few = c.few;
    }
