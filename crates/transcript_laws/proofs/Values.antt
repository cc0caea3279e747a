-- What the machine answers, and what the turns of a line draw, are values of the program's types of replies and events.
use Rattle.std.proofs.Common.{◌≡◌, ℕ, zero, suc, ◌<◌, ◌≤◌, Bool, true, false, cond, filter, List, [], ◌∷◌, length, get_or, Option, None, Some, IfSome, refl, arith, ◌+◌, ◌*◌, IsTrue, is_some, nat_lt, ◌∙◌, subst, ltb-true, ◌-◌, ◌%◌, if◌then◌else◌, nat_eq}
use Rattle.std.specs.List.{AllByRecursion, cons_option, filter_map, slice_get, range_with_len}
use Rattle.std.specs.Option.{option_map}
use Rattle.std.proofs.lemmas.Option.{cond_some, none-some, same_Some}
use Rattle.rule_machine.specs.declared.act.Act.{Act}
use Rattle.rule_machine.specs.declared.act.Moved.{Moved}
use Rattle.rule_machine.specs.declared.event.Event.{Event}
use Rattle.rule_machine.specs.declared.event.Event.TheVariants.{Step, Show, Enabled, Matching, Status}
use Rattle.rule_machine.specs.declared.refusal.Refusal.{Refusal}
use Rattle.rule_machine.specs.Least.{accepted_reply, least_moves, reply_by, reply_of}
use Rattle.rule_machine.specs.Network.{Network, edge_count, linked, names, neighbours, node_count, present}
use Rattle.rule_machine.specs.Refuse.{refusal_of}
use Rattle.rule_machine.specs.RuleTable.{RuleTable, enabled, enabled_names, rule_at}
use Rattle.rule_machine.specs.Stable.{mutual_pairs, pair_above}
use Rattle.rule_machine.specs.State.{State, IsState, partner, pointer}
use Rattle.machine_laws.specs.TwoPasses.{IsMoveIn}
use Rattle.machine_laws.proofs.LeastMoves.{IsTable, least_moves_in}
use Rattle.machine_laws.proofs.Neighbours.{linked_back, linked_present, present_range}
use Rattle.machine_laws.proofs.Pointers.{partner_some, pointer_linked}
use Rattle.line_text.specs.ReplyText.{IsEnabled, IsMoved, IsOrderedPair, IsReply}
use Rattle.line_text.specs.Words.{IsName}
use Rattle.step_log.proofs.ReplyKinds.{nodes_few}
use Rattle.std.proofs.lemmas.Bool.{true≢false}
use Rattle.rand_core.specs.Stream.{Stream, next_u32}
use Rattle.line_text.specs.EventText.{IsEvent, IsItem}
use Rattle.daemon.specs.DaemonLaws.{plain}
use Rattle.daemon.proofs.Climb.{length_plain}
use Rattle.std.proofs.lemmas.List.Sums.{count_by-le-length, length-filter}
use Rattle.daemon.specs.DrawnChoices.{choice_drawn, draw, draw_odd, draw_one, keep_odd, or_one}
use Rattle.fault_injector.specs.DrawnFaults.{either_fault, fault_at, fault_drawn, flag_fault, is_odd, node_at, pointer_at, pointer_fault, rest, word}
use Rattle.seeded_turns.specs.DrawnEvents.{Draws, drawn_fault, drawn_step}

-- ---- what all elements of a list satisfy, when some are picked or kept

pub all_at : {X : Type 0} (P : X → Type 0) (xs : List X) (k : ℕ) (d : X) → AllByRecursion P xs → k < length xs → P (get_or xs k d)
all_at P [] k d all within = absurd (omega arith)
all_at P (x ∷ xs) zero d all within = all.0
all_at P (x ∷ xs) (suc k) d all within = all_at P xs k d all.1 (omega (arith, within))

pub some_at : {X : Type 0} (P : X → Type 0) (xs : List X) (k : ℕ) → AllByRecursion P xs → IfSome (slice_get xs k) P
some_at P [] k all = tt
some_at P (x ∷ xs) zero all = all.0
some_at P (x ∷ xs) (suc k) all = some_at P xs k all.1

cond_all : {X : Type 0} (P : X → Type 0) (b : Bool) (x : X) (xs : List X) → (b ≡ true → P x) → AllByRecursion P xs → AllByRecursion P (cond b (x ∷ xs) xs)
cond_all P true x xs is all = (is refl, all)
cond_all P false x xs is all = all

-- of what passes a test
pub all_passing : {X : Type 0} (P : X → Type 0) (q : X → Bool) (xs : List X) → ((x : X) → q x ≡ true → P x) → AllByRecursion P (filter q xs)
all_passing P q [] is = tt
all_passing P q (x ∷ xs) is = cond_all P (q x) x (filter q xs) (is x) (all_passing P q xs is)

-- of what a filter keeps
pub all_kept : {X : Type 0} (P : X → Type 0) (q : X → Bool) (xs : List X) → AllByRecursion P xs → AllByRecursion P (filter q xs)
all_kept P q [] all = tt
all_kept P q (x ∷ xs) all = cond_all P (q x) x (filter q xs) (λ h. all.0) (all_kept P q xs all.1)

pub few_kept : {X : Type 0} (q : X → Bool) (xs : List X) → length (filter q xs) ≤ length xs
few_kept q xs = omega (arith, length-filter q xs, count_by-le-length q xs)

cons_all : {Y : Type 0} (Q : Y → Type 0) (o : Option Y) (ys : List Y) → ((y : Y) → o ≡ Some y → Q y) → AllByRecursion Q ys → AllByRecursion Q (cons_option o ys)
cons_all Q None ys is all = all
cons_all Q (Some y) ys is all = (is y refl, all)

-- of what a list's elements give
pub all_given : {X Y : Type 0} (P : X → Type 0) (Q : Y → Type 0) (h : X → Option Y) (xs : List X) → AllByRecursion P xs → ((x : X) (y : Y) → P x → h x ≡ Some y → Q y) → AllByRecursion Q (filter_map h xs)
all_given P Q h [] all is = tt
all_given P Q h (x ∷ xs) all is = cons_all Q (h x) (filter_map h xs) (λ y e. is x y all.0 e) (all_given P Q h xs all.1 is)

pub all_weaker : {X : Type 0} (P Q : X → Type 0) (xs : List X) → ((x : X) → P x → Q x) → AllByRecursion P xs → AllByRecursion Q xs
all_weaker P Q [] is all = tt
all_weaker P Q (x ∷ xs) is all = (is x all.0, all_weaker P Q xs is all.1)

pub if_some : {X : Type 0} (P Q : X → Type 0) (o : Option X) → ((x : X) → P x → Q x) → IfSome o P → IfSome o Q
if_some P Q None is h = tt
if_some P Q (Some x) is h = is x h

pub if_some_of : {X : Type 0} (Q : X → Type 0) (o : Option X) → ((x : X) → o ≡ Some x → Q x) → IfSome o Q
if_some_of Q None is = tt
if_some_of Q (Some x) is = is x refl

pub record IsWithin (t : RuleTable) (s : State) (spent : ℕ) : Type 0 where
  pub few : s.network.size ≤ 65535
  pub edges : edge_count s.network ≤ 1048576
  pub bounded : spent + t.charge s ≤ 2 * edge_count s.network + 3 * node_count s.network

pub present_name : (net : Network) → net.size ≤ 65535 → (v : ℕ) → present net v ≡ true → IsName v
present_name net few v has = let range = present_range net v has in (range.0, omega (arith, range.1, few))

pub names_named : (net : Network) → net.size ≤ 65535 → AllByRecursion IsName (names net)
names_named net few = all_passing IsName (present net) (range_with_len 1 net.size) (present_name net few)

pub near_named : (net : Network) → net.size ≤ 65535 → (v : ℕ) → AllByRecursion IsName (neighbours net v)
near_named net few v = all_kept IsName (linked net v) (names net) (names_named net few)

linked_name : (s : State) → IsState s → s.network.size ≤ 65535 → (v w : ℕ) → IsTrue (linked s.network v w) → IsName w
linked_name s good few v w near =
    present_name s.network few w (linked_present s.network w v good.is_network (linked_back s.network w v ∙ near))

-- ---- lists

moved_named : (s : State) → IsState s → s.network.size ≤ 65535 → (m : Moved) → IsMoveIn s.network m → IsMoved m
moved_named s good few m is = (
  present_name s.network few m.node is.has,
  if_some_of IsName m.target (λ w e. linked_name s good few m.node w (is.near w e)),
)

enabled_named : (t : RuleTable) (s : State) → s.network.size ≤ 65535 → AllByRecursion IsEnabled (enabled t s)
enabled_named t s few =
    all_given IsName IsEnabled (λ v. option_map (λ act. (v, act)) (rule_at t s v)) (names s.network) (names_named s.network few) (λ v e name is. given v (rule_at t s v) e name is)
  where
    given : (v : ℕ) (rule : Option Act) (e : ℕ × Act) → IsName v → option_map (λ act. (v, act)) rule ≡ Some e → IsEnabled e
    given v None e name is = absurd (none-some e is)
    given v (Some act) e name is = subst IsEnabled (same_Some (v, act) e is) name

pairs_named : (s : State) → IsState s → s.network.size ≤ 65535 → AllByRecursion IsOrderedPair (mutual_pairs s)
pairs_named s good few =
    all_given IsName IsOrderedPair (λ v. pair_above v (partner s v)) (names s.network) (names_named s.network few) (λ v e name is. given v (partner s v) refl e name is)
  where
    given : (v : ℕ) (o : Option ℕ) → partner s v ≡ o → (e : ℕ × ℕ) → IsName v → pair_above v o ≡ Some e → IsOrderedPair e
    given v None found e name is = absurd (none-some e is)
    given v (Some w) found e name is =
        let parts = cond_some (nat_lt v w) (v, w) e is in
        let near = pointer_linked s v w good (partner_some s v w found).0 in
        subst IsOrderedPair parts.1 (name, linked_name s good few v w near, ltb-true v w parts.0)

-- ---- numbers

longer : {Y : Type 0} (o : Option Y) (ys : List Y) (n : ℕ) → length ys ≤ n → length (cons_option o ys) ≤ n + 1
longer None ys n few = omega (arith, few)
longer (Some y) ys n few = omega (arith, few)

given_few : {Y : Type 0} (h : ℕ → Option Y) (xs : List ℕ) → length (filter_map h xs) ≤ length xs
given_few h [] = omega arith
given_few h (x ∷ xs) = let more = longer (h x) (filter_map h xs) (length xs) (given_few h xs) in omega (arith, more)

pairs_few : (s : State) → length (mutual_pairs s) ≤ node_count s.network
pairs_few s = given_few (λ v. pair_above v (partner s v)) (names s.network)

-- ---- replies

accepted_in : (t : RuleTable) → IsTable t → (s : State) → IsState s → (spent : ℕ) → IsWithin t s spent → (event : Event) → IsReply (accepted_reply t s spent event)
accepted_in t table s good spent within (Step items) =
    all_weaker (IsMoveIn s.network) IsMoved (least_moves t s items) (moved_named s good within.few) (least_moves_in t table s items)
accepted_in t table s good spent within (Show v) =
    if_some (λ w. IsTrue (linked s.network v w)) IsName (pointer s v) (linked_name s good within.few v) (good.neighbourly v)
accepted_in t table s good spent within Enabled = enabled_named t s within.few
accepted_in t table s good spent within Matching = pairs_named s good within.few
accepted_in t table s good spent within Status =
    let nodes : node_count s.network ≤ 65535 = omega (arith, nodes_few s.network, within.few) in
    let spends : spent + t.charge s ≤ 2293760 = omega (arith, within.bounded, within.edges, nodes) in
    let moving : length (enabled_names t s) ≤ 65535 = omega (arith, few_kept (λ v. is_some (rule_at t s v)) (names s.network), nodes) in
    (omega (arith, nodes), omega (arith, within.edges), omega (arith, pairs_few s, nodes), omega (arith, moving), omega (arith, spends), omega (arith, spends))
accepted_in t table s good spent within event = tt

reply_in_by : (t : RuleTable) → IsTable t → (s : State) → IsState s → (spent : ℕ) → IsWithin t s spent → (event : Event) (r : Option Refusal) → IsReply (reply_by t s spent event r)
reply_in_by t table s good spent within event None = accepted_in t table s good spent within event
reply_in_by t table s good spent within event (Some refusal) = tt

pub reply_in : (t : RuleTable) → IsTable t → (s : State) → IsState s → (spent : ℕ) → IsWithin t s spent → (event : Event) → IsReply (reply_of t s spent event)
reply_in t table s good spent within event = reply_in_by t table s good spent within event (refusal_of t s event)

-- ---- what turns draw

abbrev pub DrawEvents : Draws → RuleTable → Type 0
DrawEvents draws t =
    (s : State) → s.network.size ≤ 65535 → (stream : Stream) → IfSome (draws t s stream).0 IsEvent

-- ---- steps

-- as many names as these at most
record AreNamed (most : ℕ) (chosen : List ℕ) : Type 0 where
  named : AllByRecursion IsName chosen
  few : length chosen ≤ most

one_named : (nodes : List ℕ) (s : Stream) → 1 ≤ length nodes → AllByRecursion IsName nodes → AreNamed (length nodes) (draw_one nodes s).0
one_named nodes s some named = record {
  named = (all_at IsName nodes ((next_u32 s).0 % length nodes) 0 named (omega (arith, some)), tt);
  few = omega (arith, some);
}

kept : (v w : ℕ) (most : ℕ) (chosen : List ℕ) → IsName v → AreNamed most chosen → AreNamed (suc most) (keep_odd v w chosen)
kept v w most chosen name are = by_bit (nat_eq (w % 2) 1)
  where
    by_bit : (b : Bool) → AreNamed (suc most) (cond b (v ∷ chosen) chosen)
    by_bit true = let few = are.few in record { named = (name, are.named); few = omega (arith, few) }
    by_bit false = let few = are.few in record { named = are.named; few = omega (arith, few) }

odd_named : (nodes : List ℕ) (s : Stream) → AllByRecursion IsName nodes → AreNamed (length nodes) (draw_odd nodes s).0
odd_named [] s named = record { named = tt; few = omega arith }
odd_named (v ∷ nodes) s named =
    kept v (next_u32 s).0 (length nodes) (draw_odd nodes (next_u32 s).1).0 named.0 (odd_named nodes (next_u32 s).1 named.1)

or_named : (nodes chosen : List ℕ) (s : Stream) → 1 ≤ length nodes → AllByRecursion IsName nodes → AreNamed (length nodes) chosen → AreNamed (length nodes) (or_one nodes chosen s).0
or_named nodes [] s some named are = one_named nodes s some named
or_named nodes (v ∷ chosen) s some named are = are

drawn_named : (central : Bool) (nodes : List ℕ) (s : Stream) → 1 ≤ length nodes → AllByRecursion IsName nodes → AreNamed (length nodes) (draw central nodes s).0
drawn_named true nodes s some named = one_named nodes s some named
drawn_named false nodes s some named = or_named nodes (draw_odd nodes s).0 (draw_odd nodes s).1 some named (odd_named nodes s named)

plain_items : (chosen : List ℕ) → AllByRecursion IsName chosen → AllByRecursion IsItem (plain chosen)
plain_items [] named = tt
plain_items (v ∷ chosen) named = ((named.0, tt), plain_items chosen named.1)

choice_items : (central : Bool) (nodes : List ℕ) (s : Stream) → AllByRecursion IsName nodes → length nodes ≤ 65535 → IfSome (option_map (λ items. Step items) (choice_drawn central nodes s).0) IsEvent
choice_items central [] s named few = tt
choice_items central (v ∷ nodes) s named few =
    let are = drawn_named central (v ∷ nodes) s (omega arith) named in
    (omega (arith, are.few, length_plain (draw central (v ∷ nodes) s).0, few), plain_items (draw central (v ∷ nodes) s).0 are.named)

pub steps_are_events : (t : RuleTable) → DrawEvents drawn_step t
steps_are_events t s few stream =
    choice_items t.central (enabled_names t s) stream (all_kept IsName (λ v. is_some (rule_at t s v)) (names s.network) (names_named s.network few)) (omega (arith, nodes_few s.network, few_kept (λ v. is_some (rule_at t s v)) (names s.network), few))

-- ---- faults

target_named : (net : Network) → net.size ≤ 65535 → (v number : ℕ) → IfSome (pointer_at net v number) IsName
target_named net few v number = by_zero (nat_eq number 0)
  where
    by_zero : (b : Bool) → IfSome (if b then None else slice_get (neighbours net v) (number - 1)) IsName
    by_zero true = tt
    by_zero false = some_at IsName (neighbours net v) (number - 1) (near_named net few v)

pointer_event : (net : Network) → net.size ≤ 65535 → (v : ℕ) (stream : Stream) → IsName v → IfSome (pointer_fault net v stream).0 IsEvent
pointer_event net few v stream name = (name, target_named net few v (word stream % (length (neighbours net v) + 1)))

either_event : (net : Network) → net.size ≤ 65535 → (v : ℕ) (stream : Stream) → IsName v → IfSome (either_fault net v stream).0 IsEvent
either_event net few v stream name = by_bit (is_odd (word stream))
  where
    by_bit : (b : Bool) → IfSome (if b then flag_fault v (rest stream) else pointer_fault net v (rest stream)).0 IsEvent
    by_bit true = name
    by_bit false = pointer_event net few v (rest stream) name

at_event : (net : Network) → net.size ≤ 65535 → (flags : Bool) (v : ℕ) (stream : Stream) → IsName v → IfSome (fault_at net flags v stream).0 IsEvent
at_event net few true v stream name = either_event net few v stream name
at_event net few false v stream name = pointer_event net few v stream name

some_from : (n : ℕ) → nat_eq n 0 ≡ false → 1 ≤ n
some_from zero e = absurd (true≢false e)
some_from (suc n) e = omega arith

fault_event : (net : Network) → net.size ≤ 65535 → (flags : Bool) (stream : Stream) → IfSome (fault_drawn net flags stream).0 IsEvent
fault_event net few flags stream = by_none (nat_eq (node_count net) 0) refl
  where
    by_none : (b : Bool) → nat_eq (node_count net) 0 ≡ b → IfSome (if b then (None, stream) else fault_at net flags (node_at net (word stream)) (rest stream)).0 IsEvent
    by_none true e = tt
    by_none false e =
        at_event net few flags (node_at net (word stream)) (rest stream) (all_at IsName (names net) (word stream % node_count net) 0 (names_named net few) (omega (arith, some_from (node_count net) e)))

pub faults_are_events : (t : RuleTable) → DrawEvents drawn_fault t
faults_are_events t s few stream = fault_event s.network few t.flags stream
