-- Which nodes are present if an event is not refused.
use Rattle.machine_laws.proofs.ChargePrelude.{◌≡◌, ℕ, Bool, not, cond, Option, None, Some, IsTrue, ◌∙◌, Unlink, Point, Flag, Leave, UnknownNode, NoFlag, present, RuleTable, State, IsState, pointer, refusal_of, cond_none, none_cond, linked_back, linked_present, pointer_linked}
use Rattle.machine_laws.proofs.CostsOfRuns.{unlink_has, point_parts, leave_has}

-- a pointer is at a node
pub target_present : (s : State) (v u : ℕ) → IsState s → pointer s v ≡ Some u → IsTrue (present s.network u)
target_present s v u good at = linked_present s.network u v good.is_network (linked_back s.network u v ∙ pointer_linked s v u good at)

pub first_present : (t : RuleTable) (s : State) (a b : ℕ) → IsState s → refusal_of t s (Unlink a b) ≡ None → IsTrue (present s.network a)
first_present t s a b good e = linked_present s.network a b good.is_network (unlink_has t s a b e)

pub second_present : (t : RuleTable) (s : State) (a b : ℕ) → IsState s → refusal_of t s (Unlink a b) ≡ None → IsTrue (present s.network b)
second_present t s a b good e = linked_present s.network b a good.is_network (linked_back s.network b a ∙ unlink_has t s a b e)

pub pointer_present : (t : RuleTable) (s : State) (v : ℕ) (target : Option ℕ) → refusal_of t s (Point v target) ≡ None → IsTrue (present s.network v)
pointer_present t s v target e = (point_parts t s v target e).0

pub flagged_present : (t : RuleTable) (s : State) (v : ℕ) (value : Bool) → refusal_of t s (Flag v value) ≡ None → IsTrue (present s.network v)
flagged_present t s v value e = none_cond (present s.network v) UnknownNode (cond_none (not t.flags) NoFlag (cond (present s.network v) None (Some UnknownNode)) e).1

pub leaver_present : (t : RuleTable) (s : State) (v : ℕ) → refusal_of t s (Leave v) ≡ None → IsTrue (present s.network v)
leaver_present t s v e = leave_has t s v e
