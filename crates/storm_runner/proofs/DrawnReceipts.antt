-- What the receipts of drawn events are: a drawn step is answered by its moves, and a drawn fault is accepted.
use Rattle.storm_runner.proofs.Prelude.{◌≡◌, ◌∙◌, ℕ, ◌+◌, ◌-◌, ◌<◌, ◌≤◌, Bool, true, false, List, [], ◌∷◌, length, Option, None, Some, slice_get, inl, inr, refl, sym, ap, subst, arith, option_map, slice_get_within, get_or_from_slice_get, Event, Step, RuleTable, enabled_names, State, choice_drawn, Draws, drawn_step, drawn_fault, Receipt, RetainedLog, next_receipt, IsOfStep, IsOfFault, IsQuiet, IsEmpty}
use Rattle.std.proofs.Common.{◌⊎◌, ◌%◌, if◌then◌else◌, nat_eq}
use Rattle.std.specs.List.{range_with_len}
use Rattle.std.proofs.lemmas.Bool.{eqb-false, eqb-true}
use Rattle.std.proofs.lemmas.List.Elements.{All-filter, All-get_or, filter_passes}
use Rattle.std.proofs.lemmas.Option.{none-some, same_Some}
use Rattle.rand_core.specs.Stream.{Stream}
use Rattle.rule_machine.specs.declared.event.Event.TheVariants.{Flag, Point}
use Rattle.rule_machine.specs.Least.{least_moves, reply_by}
use Rattle.rule_machine.specs.Network.{Network, linked, names, neighbours, node_count, present}
use Rattle.rule_machine.specs.Refuse.{flag_refusal, point_refusal, step_refusal}
use Rattle.daemon.specs.DaemonLaws.{plain}
use Rattle.daemon.specs.DrawnChoices.{draw}
use Rattle.fault_injector.specs.DrawnFaults.{fault_at, flag_fault, is_odd, node_at, pointer_at, pointer_fault, rest, word}
use Rattle.script_text.proofs.DrawnTurns.{drawn_taken}

-- nothing is found in an idle state, or an event whose receipt is of a kind
abbrev pub Finds : (Receipt → Type 0) → Type 0 → RuleTable → RetainedLog → Option Event → Type 0
Finds P Idle t log found = (Idle × (found ≡ None)) ⊎ ((event : Event) × (found ≡ Some event) × P (next_receipt t log event))

-- so it is of each draw
abbrev pub AllFind : Draws → (Receipt → Type 0) → (RuleTable → State → Type 0) → Type 0
AllFind draws P Idle =
    (t : RuleTable) (log : RetainedLog) (words : Stream) → Finds P (Idle t log.state) t log (draws t log.state words).0

-- an event that was found is of the kind
pub found_is : (P : Receipt → Type 0) (Idle : Type 0) (t : RuleTable) (log : RetainedLog) (found : Option Event) (event : Event) → Finds P Idle t log found → found ≡ Some event → P (next_receipt t log event)
found_is P Idle t log found event (inl (idle, none)) is = absurd (none-some event (sym none ∙ is))
found_is P Idle t log found event (inr (other, some, holds)) is = subst (λ e. P (next_receipt t log e)) (same_Some other event (sym some ∙ is)) holds

pub idle_is : (P : Receipt → Type 0) (Idle : Type 0) (t : RuleTable) (log : RetainedLog) (found : Option Event) → Finds P Idle t log found → found ≡ None → Idle
idle_is P Idle t log found (inl (idle, none)) is = idle
idle_is P Idle t log found (inr (event, some, holds)) is = absurd (none-some event (sym is ∙ some))

pub steps_found : AllFind drawn_step IsOfStep IsQuiet
steps_found t log words = by_names (enabled_names t log.state) refl
  where
    by_names : (nodes : List ℕ) → nodes ≡ enabled_names t log.state → Finds IsOfStep (IsQuiet t log.state) t log (option_map (λ items. Step items) (choice_drawn t.central nodes words).0)
    by_names [] same = inl (sym same, refl)
    by_names (v ∷ nodes) same =
        let items = plain (draw t.central (v ∷ nodes) words).0 in
        let taken : step_refusal t log.state items ≡ None = subst (λ ns. 1 ≤ length ns → step_refusal t log.state (plain (draw t.central ns words).0) ≡ None) (sym same) (drawn_taken t log.state words) (omega arith) in
        inr (Step items, refl, record { items = items; moves = least_moves t log.state items; stepped = refl; moved = ap (reply_by t log.state log.spent (Step items)) taken })

-- ---- faults

-- null and neighbours are accepted as targets
target_taken : (net : Network) (v number : ℕ) → present net v ≡ true → point_refusal net v (pointer_at net v number) ≡ None
target_taken net v number here = by_zero (nat_eq number 0)
  where
    near : (o : Option ℕ) → slice_get (neighbours net v) (number - 1) ≡ o → point_refusal net v o ≡ None
    near None is = rw here
    near (Some w) is =
        let within = slice_get_within (neighbours net v) (number - 1) w is in
        let at = get_or_from_slice_get (neighbours net v) (number - 1) w w is in
        let Has = λ (u : ℕ). present net u ≡ true in
        let there = subst Has at (All-get_or Has (neighbours net v) (number - 1) w within (All-filter (linked net v) Has (names net) (filter_passes (present net) (range_with_len 1 net.size)))) in
        let joined = subst (λ u. linked net v u ≡ true) at (All-get_or (λ u. linked net v u ≡ true) (neighbours net v) (number - 1) w within (filter_passes (linked net v) (names net))) in
        rw (here, there, joined)

    by_zero : (b : Bool) → point_refusal net v (if b then None else slice_get (neighbours net v) (number - 1)) ≡ None
    by_zero true = rw here
    by_zero false = near (slice_get (neighbours net v) (number - 1)) refl

module _ (t : RuleTable) (log : RetainedLog) where
  abbrev FindsFault : Option Event → Type 0
  FindsFault = Finds IsOfFault (IsEmpty t log.state) t log

  of_pointer : (v : ℕ) (words : Stream) → present log.state.network v ≡ true → FindsFault (pointer_fault log.state.network v words).0
  of_pointer v words here =
      let number = word words % (length (neighbours log.state.network v) + 1) in
      let event : Event = Point v (pointer_at log.state.network v number) in
      inr (event, refl, record { register = refl; accepted = ap (reply_by t log.state log.spent event) (target_taken log.state.network v number here) })

  of_flag : (v : ℕ) (words : Stream) → t.flags ≡ true → present log.state.network v ≡ true → FindsFault (flag_fault v words).0
  of_flag v words flags here =
      let taken : flag_refusal t log.state.network v ≡ None = rw (flags, here) in
      let event : Event = Flag v (is_odd (word words)) in
      inr (event, refl, record { register = refl; accepted = ap (reply_by t log.state log.spent event) taken })

  of_node : (flags : Bool) (v : ℕ) (words : Stream) → t.flags ≡ flags → present log.state.network v ≡ true → FindsFault (fault_at log.state.network flags v words).0
  of_node false v words off here = of_pointer v words here
  of_node true v words on here = by_odd (is_odd (word words))
    where
      by_odd : (b : Bool) → FindsFault (if b then flag_fault v (rest words) else pointer_fault log.state.network v (rest words)).0
      by_odd true = of_flag v (rest words) on here
      by_odd false = of_pointer v (rest words) here

pub faults_found : AllFind drawn_fault IsOfFault IsEmpty
faults_found t log words = by_count (nat_eq (node_count log.state.network) 0) refl
  where
    by_count : (b : Bool) → nat_eq (node_count log.state.network) 0 ≡ b
        → Finds IsOfFault (IsEmpty t log.state) t log (if b then (None, words) else fault_at log.state.network t.flags (node_at log.state.network (word words)) (rest words)).0
    by_count true e = inl (eqb-true (node_count log.state.network) 0 e, refl)
    by_count false e =
        let net = log.state.network in
        let some = eqb-false (node_count net) 0 e in
        let here = All-get_or (λ v. present net v ≡ true) (names net) (word words % node_count net) 0 (omega (arith, some)) (filter_passes (present net) (range_with_len 1 net.size)) in
        of_node t log t.flags (node_at net (word words)) (rest words) refl here
