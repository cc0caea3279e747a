-- Manne, Mjelde, Pilard and Tixeuil, "A new self-stabilizing maximal matching algorithm", 2009.
-- Any set of enabled nodes moves at once. A node's name is its identity.
use Rattle.std.specs.Prelude.{ℕ, Bool, true, false, not, ◌&&◌, ◌||◌, Option, is_some, is_none, find, nat_lt, nat_le}
use Rattle.rule_machine.specs.declared.act.Act.{Act}
use Rattle.rule_machine.specs.declared.act.Act.TheVariants.{Update, Marry, Seduce, Abandon}
use Rattle.rule_machine.specs.Network.{linked, neighbours}
use Rattle.rule_machine.specs.State.{State, pointer, flag, holds_at, points, suits, has_suitor, is_settled}
use Rattle.rule_machine.specs.RuleTable.{RuleTable, is_open}
use Rattle.rule_machine.specs.Charge.{manne_charge}

-- a neighbour is open if its pointer is null and its flag false
abbrev pub manne_opens : Option ℕ → Bool → Bool
manne_opens target flag = is_none target && not flag

-- v may court w: w is open, and w's name is above v's
abbrev pub may_court : State → ℕ → ℕ → Bool
may_court s v w = is_open manne_opens s w && nat_lt v w

abbrev pub manne_guard : State → ℕ → Act → Bool
-- v's flag does not say whether v is married
manne_guard s v Update = not (is_settled s v)
-- v's flag is right, v's pointer is null, and a neighbour points at v
manne_guard s v Marry = is_settled s v && is_none (pointer s v) && has_suitor s v
-- v's flag is right, v's pointer is null, no neighbour points at v, and v may court a neighbour
manne_guard s v Seduce =
    is_settled s v && is_none (pointer s v) && not (has_suitor s v) && is_some (find (may_court s v) (neighbours s.network v))
-- v's flag is right, and v points at a node that does not point back and is flagged or not above v
manne_guard s v Abandon =
    is_settled s v && holds_at (λ w. not (points s.registers w v) && (flag s w || nat_le w v)) (pointer s v)

abbrev pub manne_allowed : State → ℕ → Act → ℕ → Bool
manne_allowed s v Update w = false
-- any neighbour that points at v
manne_allowed s v Marry w = linked s.network v w && suits s v w
-- the greatest neighbour that v may court
manne_allowed s v Seduce w =
    linked s.network v w && may_court s v w && not (is_some (find (λ x. may_court s v x && nat_lt w x) (neighbours s.network v)))
manne_allowed s v Abandon w = false

abbrev pub manne : RuleTable
manne = record {
  guard = manne_guard;
  allowed = manne_allowed;
  opens = manne_opens;
  charge = manne_charge;
  central = false;
  flags = true;
}
