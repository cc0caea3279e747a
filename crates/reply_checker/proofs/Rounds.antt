-- A name's contribution depends only on the surroundings of the names that it asks.
use Rattle.reply_checker.proofs.Prelude.{◌≡◌, ℕ, ◌+◌, Bool, true, false, cond, not, ◌&&◌, ◌||◌, List, length, find, nat_eq, nat_lt, nat_le, Option, None, Some, is_some, is_none, IsTrue, refl, sym, ap, ap₂, subst, ◌∙◌, eq-eqb, or_left, or_right, and_from, is_in, Act, Update, Marry, Seduce, Abandon, RuleSet, Hh, Manne, linked, neighbours, State, IsState, is_at, holds_at, is_unanswered, pointer, flag, points, married, has_suitor, hsu_huang, hsu_huang_opens, manne, may_court, is_open, rule_at, pair_above, table_of, near_agree, points_from, pointer_linked, EdgeStance, Shut, Courted, Free, IsSameRound, same_suitors, same_partner, same_marriage, Contribution, asks, closes, edge_stance_by, flag_charge, IsContributionAt, AreExactIfFresh, OpenEdges, CountsOpenEdges, Vec, Global}

-- two states are the same round all that a name asks
abbrev pub AreSameRounds : State → State → ℕ → Type 0
AreSameRounds s u v = (w : ℕ) → asks s v w ≡ true → IsSameRound s u w

-- ---- whom a name asks

pub itself : (s : State) (v : ℕ) → asks s v v ≡ true
itself s v = or_left _ _ (eq-eqb v v refl)

own : (s u : State) (v : ℕ) → AreSameRounds s u v → IsSameRound s u v
own s u v rounds = rounds v (itself s v)

-- its target
at_target : (s : State) (v w : ℕ) → IsState s → pointer s v ≡ Some w → asks s v w ≡ true
at_target s v w good at =
    or_right (nat_eq v w) _ (and_from (linked s.network v w) _ (pointer_linked s v w good at) (or_right (is_none (pointer s v)) _ (points_from s v w at)))

-- its neighbours, if its pointer is null
at_neighbour : (s : State) (v w : ℕ) → pointer s v ≡ None → IsTrue (linked s.network v w) → asks s v w ≡ true
at_neighbour s v w null link =
    or_right (nat_eq v w) _ (and_from (linked s.network v w) _ link (or_left _ _ (ap is_none null)))

pub same_asks : (s u : State) (v w : ℕ) → IsSameRound s u v → asks s v w ≡ asks u v w
same_asks s u v w round = λ i. nat_eq v w || (round.link w i && (is_none (round.own_pointer i) || is_at (round.own_pointer i) w))

-- tests of a target
held_alike : (f g : ℕ → Bool) (o p : Option ℕ) → o ≡ p → ((w : ℕ) → o ≡ Some w → f w ≡ g w) → holds_at f o ≡ holds_at g p
held_alike f g None p same alike = cc
held_alike f g (Some w) p same alike = cc (alike w refl)

-- whether a neighbour passes a test, if the name's pointer is null
near_alike : (s u : State) (v : ℕ) (p q : ℕ → Bool) → AreSameRounds s u v → pointer s v ≡ None → ((w : ℕ) → IsSameRound s u w → p w ≡ q w) → find p (neighbours s.network v) ≡ find q (neighbours u.network v)
near_alike s u v p q rounds null alike =
    near_agree s.network p q v (λ w link. alike w (rounds w (at_neighbour s v w null link))) ∙ ap (find q) (own s u v rounds).near

-- ---- rules

-- the first rule that is enabled, of four
abbrev first_of : Bool → Bool → Bool → Bool → Option Act
first_of update marry seduce abandon =
    cond update (Some Update) (cond marry (Some Marry) (cond seduce (Some Seduce) (cond abandon (Some Abandon) None)))

-- by whether a node is settled, its pointer, whether it has a suitor, whether it may seduce a neighbour, and
-- whether it waits in vain
abbrev rule_of : Bool → Option ℕ → Bool → Bool → Bool → Option Act
rule_of settled o courted near vain =
    first_of (not settled) (settled && is_none o && courted) (settled && is_none o && not courted && near) (settled && vain)

-- the neighbours matter only if the node's pointer is null
rule_alike : (o p : Option ℕ) (a b c d m n x y : Bool) → o ≡ p → a ≡ b → c ≡ d → (o ≡ None → m ≡ n) → x ≡ y → rule_of a o c m x ≡ rule_of b p d n y
rule_alike None p a b c d m n x y same settled courted near vain = cc (near refl)
rule_alike (Some w) p true b c d m n x y same settled courted near vain = cc
rule_alike (Some w) p false b c d m n x y same settled courted near vain = cc

abbrev hsu_huang_vain : State → ℕ → ℕ → Bool
hsu_huang_vain s v w = is_some (pointer s w) && not (points s.registers w v)

abbrev manne_vain : State → ℕ → ℕ → Bool
manne_vain s v w = not (points s.registers w v) && (flag s w || nat_le w v)

abbrev settled_of : State → ℕ → Bool
settled_of s v = cond (married s v) (flag s v) (not (flag s v))

hsu_huang_alike : (s u : State) (v : ℕ) → IsState s → AreSameRounds s u v → rule_at hsu_huang s v ≡ rule_at hsu_huang u v
hsu_huang_alike s u v good rounds =
    let round = own s u v rounds in
    rule_alike (pointer s v) (pointer u v) true true (has_suitor s v) (has_suitor u v) _ _ _ _ round.own_pointer refl (same_suitors s u v round)
    (λ null. ap is_some (near_alike s u v (is_open hsu_huang_opens s) (is_open hsu_huang_opens u) rounds null (λ w at. ap is_none at.own_pointer)))
    (held_alike (hsu_huang_vain s v) (hsu_huang_vain u v) (pointer s v) (pointer u v) round.own_pointer (λ w at.
    ap₂ (λ o b. is_some o && not b) (rounds w (at_target s v w good at)).own_pointer (round.pointed w)))

manne_alike : (s u : State) (v : ℕ) → IsState s → AreSameRounds s u v → rule_at manne s v ≡ rule_at manne u v
manne_alike s u v good rounds =
    let round = own s u v rounds in
    rule_alike (pointer s v) (pointer u v) (settled_of s v) (settled_of u v) (has_suitor s v) (has_suitor u v) _ _ _ _ round.own_pointer
    (ap₂ (λ m f. cond m f (not f)) (same_marriage s u v round) round.own_flag)
    (same_suitors s u v round)
    (λ null. ap is_some (near_alike s u v (may_court s v) (may_court u v) rounds null (λ w at. ap₂ (λ o f. (is_none o && not f) && nat_lt v w) at.own_pointer at.own_flag)))
    (held_alike (manne_vain s v) (manne_vain u v) (pointer s v) (pointer u v) round.own_pointer (λ w at.
    ap₂ (λ b f. not b && (f || nat_le w v)) (round.pointed w) (rounds w (at_target s v w good at)).own_flag))

rules_alike : (rules : RuleSet) (s u : State) (v : ℕ) → IsState s → AreSameRounds s u v → rule_at (table_of rules) s v ≡ rule_at (table_of rules) u v
rules_alike Hh s u v good rounds = hsu_huang_alike s u v good rounds
rules_alike Manne s u v good rounds = manne_alike s u v good rounds

-- ---- what a name brings

flags_alike : (rules : RuleSet) (s u : State) (v : ℕ) → IsSameRound s u v → flag_charge rules s v ≡ flag_charge rules u v
flags_alike Hh s u v round = refl
flags_alike Manne s u v round = ap₂ (λ m f. cond {A = ℕ} m (cond f 0 1) (cond f 2 1)) (same_marriage s u v round) round.own_flag

unanswered_alike : (s u : State) (v : ℕ) → IsSameRound s u v → is_unanswered s v ≡ is_unanswered u v
unanswered_alike s u v round = λ i. holds_at (λ w. not (round.pointed w i)) (round.own_pointer i)

closes_alike : (rules : RuleSet) (s u : State) (v : ℕ) → IsState s → AreSameRounds s u v → closes rules s v ≡ closes rules u v
closes_alike Hh s u v good rounds =
    held_alike (λ w. is_none (pointer s w)) (λ w. is_none (pointer u w)) (pointer s v) (pointer u v) (own s u v rounds).own_pointer (λ w at. ap is_none (rounds w (at_target s v w good at)).own_pointer)
closes_alike Manne s u v good rounds =
    ap₂ (λ m b. not m && b) (same_marriage s u v (own s u v rounds))
    (held_alike (λ w. nat_lt v w && not (flag s w) && not (married s w)) (λ w. nat_lt v w && not (flag u w) && not (married u w)) (pointer s v) (pointer u v) (own s u v rounds).own_pointer (λ w at.
    let round = rounds w (at_target s v w good at) in
    ap₂ (λ f m. nat_lt v w && not f && not m) round.own_flag (same_marriage s u w round)))

ends_alike : (rules : RuleSet) (s u : State) (v : ℕ) → IsSameRound s u v → edge_stance_by rules s v ≡ edge_stance_by rules u v
ends_alike Hh s u v round = λ i. cond (same_marriage s u v round i) Shut (cond (is_none (round.own_pointer i) && same_suitors s u v round i) Courted Free)
ends_alike Manne s u v round = ap (λ m. cond {A = EdgeStance} m Shut Free) (same_marriage s u v round)

-- so what is kept of a name is still right
told_again : (rules : RuleSet) (s u : State) (ends : List EdgeStance) (each : List Contribution) (v : ℕ) → IsState s → AreSameRounds s u v → IsContributionAt rules s ends each v → IsContributionAt rules u ends each v
told_again rules s u ends each v good rounds told =
    let round = own s u v rounds in
    let rule = rules_alike rules s u v good rounds in
    let partners = same_partner s u v round in
    let flags = flags_alike rules s u v round in
    let unanswered = unanswered_alike s u v round in
    let closing = closes_alike rules s u v good rounds in
    record {
      share = record {
        rule = told.share.rule ∙ (λ i. cond (round.here i) (rule i) None);
        is_lower_end = told.share.is_lower_end ∙ (λ i. is_some (cond (round.here i) (pair_above v (partners i)) None));
        added = told.share.added ∙ (λ i. cond (round.here i) (cond (unanswered i) 1 0 + flags i) 0);
        closes = told.share.closes ∙ (λ i. cond (round.here i) (closing i) false);
      };
      end = λ here. told.end (round.here ∙ here) ∙ ends_alike rules s u v round;
    }

-- and so is all that is fresh, if only what is round a touched name changed
pub told_after : (rules : RuleSet) (s u : State) (it it' : OpenEdges) (each : List Contribution) (touched touched' due : List Bool) → IsState u → u.network.size ≡ s.network.size → it'.stances ≡ it.stances → CountsOpenEdges u.network it' → length touched' ≡ length touched → ((v : ℕ) → is_in touched' v ≡ false → (is_in touched v ≡ false) × IsSameRound s u v) → AreExactIfFresh rules s it each touched due → AreExactIfFresh rules u it' each touched' due
told_after rules s u it it' each touched touched' due good size same_stances counted same_places elsewhere told = record {
  sound = good;
  places = told.places ∙ places;
  touched_places = same_places ∙ told.touched_places ∙ places;
  due_places = told.due_places ∙ places;
  nobody = told.nobody;
  told = λ v fresh.
      let here = (elsewhere v (fresh.untouched v (itself u v))).1 in
      let away : (w : ℕ) → asks s v w ≡ true → (is_in touched w ≡ false) × IsSameRound s u w = λ w asked. elsewhere w (fresh.untouched w (sym (same_asks s u v w here) ∙ asked)) in
      let was = told.told v (record { not_due = fresh.not_due; untouched = λ w asked. (away w asked).0 }) in
      subst (λ (l : Vec EdgeStance Global). IsContributionAt rules u l.items each v) (sym same_stances)
      (told_again rules s u it.stances.items each v told.sound (λ w asked. (away w asked).1) was);
  counted = counted;
} where
  places : s.network.size + 1 ≡ u.network.size + 1
  places = sym (ap (λ (n : ℕ). n + 1) size)
