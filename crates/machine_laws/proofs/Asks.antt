-- What each rule of both tables asks for at its node.
use Rattle.machine_laws.proofs.ChargePrelude.{◌≡◌, ◌≢◌, ℕ, Bool, true, cond, not, ◌&&◌, ◌||◌, Some, is_some, is_none, find, nat_le, refl, sym, ◌∙◌, and_parts, true≢false, not-true, neighbours, State, pointer, flag, points, married, has_suitor, is_settled, is_open, hsu_huang, hsu_huang_opens, manne, manne_opens, may_court, near_some, some_is, suitor_some, points_from, AsksForWork, arith}
use Rattle.machine_laws.proofs.Stances.{null_from}
use Rattle.machine_laws.proofs.PresentMovers.{holds_is}

-- a pointer that is not at v is not Some v
away : (s : State) (v w : ℕ) → not (points s.registers w v) ≡ true → pointer s w ≢ Some v
away s v w h at = true≢false (sym (points_from s w v at) ∙ not-true (points s.registers w v) h)

pub hsu_huang_asks : AsksForWork hsu_huang
hsu_huang_asks = record {
  update = λ s v h. absurd (true≢false (sym h));
  marry = λ s v h. let both = and_parts (is_none (pointer s v)) (has_suitor s v) h in (null_from (pointer s v) both.0, suitor_some s v both.1);
  seduce = λ s v h.
      let both = and_parts (is_none (pointer s v) && not (has_suitor s v)) (is_some (find (is_open hsu_huang_opens s) (neighbours s.network v))) h in
      let found = some_is (find (is_open hsu_huang_opens s) (neighbours s.network v)) both.1 in
      let near = near_some s.network (is_open hsu_huang_opens s) v found.0 found.1 in
      (null_from (pointer s v) (and_parts (is_none (pointer s v)) (not (has_suitor s v)) both.0).0, (found.0, near.0, null_from (pointer s found.0) near.1));
  abandon = λ s v h.
      let aim = holds_is (λ w. is_some (pointer s w) && not (points s.registers w v)) (pointer s v) h in
      (aim.0, aim.1, away s v aim.0 (and_parts (is_some (pointer s aim.0)) (not (points s.registers aim.0 v)) aim.2).1);
}

wrong_flag : (m f : Bool) → not (cond m f (not f)) ≡ true → f ≡ m → ⊥
wrong_flag m f h e = grind arith

pub manne_asks : AsksForWork manne
manne_asks = record {
  update = λ s v h. (refl, wrong_flag (married s v) (flag s v) h);
  marry = λ s v h.
      let both = and_parts (is_settled s v && is_none (pointer s v)) (has_suitor s v) h in
      (null_from (pointer s v) (and_parts (is_settled s v) (is_none (pointer s v)) both.0).1, suitor_some s v both.1);
  seduce = λ s v h.
      let outer = and_parts (is_settled s v && is_none (pointer s v) && not (has_suitor s v)) (is_some (find (may_court s v) (neighbours s.network v))) h in
      let inner = and_parts (is_settled s v && is_none (pointer s v)) (not (has_suitor s v)) outer.0 in
      let found = some_is (find (may_court s v) (neighbours s.network v)) outer.1 in
      let near = near_some s.network (may_court s v) v found.0 found.1 in
      let free = and_parts (is_open manne_opens s found.0) _ near.1 in
      (null_from (pointer s v) (and_parts (is_settled s v) (is_none (pointer s v)) inner.0).1, (found.0, near.0, null_from (pointer s found.0) (and_parts (is_none (pointer s found.0)) (not (flag s found.0)) free.0).0));
  abandon = λ s v h.
      let both = and_parts (is_settled s v) _ h in
      let aim = holds_is (λ w. not (points s.registers w v) && (flag s w || nat_le w v)) (pointer s v) both.1 in
      (aim.0, aim.1, away s v aim.0 (and_parts (not (points s.registers aim.0 v)) (flag s aim.0 || nat_le aim.0 v) aim.2).0);
}
