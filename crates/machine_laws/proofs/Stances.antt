-- The stance of a node: its pointer is null, or at a node that does not point back, or at a node that
-- points back.
use Rattle.machine_laws.proofs.ChargePrelude.{◌≡◌, ◌≢◌, ℕ, same_Some, Bool, true, false, cond, Option, None, Some, is_some, is_none, IsTrue, refl, sym, ap, ◌∙◌, cond-true, cond-false, false_from_ne_true, State, IsState, is_at, pointer, is_unanswered, married, married_from, null_unmarried, unanswered_unmarried, some_from_is_at, is_at_from_some, arith}
use Rattle.std.proofs.Common.{true≢false}

pub data Stance : Type 0 where
  Free : Stance
  Waiting : Stance
  Paired : Stance

abbrev pub stance_by : (ℕ → Option ℕ) → ℕ → Option ℕ → Stance
stance_by p v None = Free
stance_by p v (Some w) = cond (is_at (p w) v) Paired Waiting

-- v's stance if the pointers are p
abbrev pub stance : (ℕ → Option ℕ) → ℕ → Stance
stance p v = stance_by p v (p v)

abbrev pub is_waiting : Stance → Bool
is_waiting Waiting = true
is_waiting other = false

abbrev pub is_paired : Stance → Bool
is_paired Paired = true
is_paired other = false

-- tests of a pointer
pub null_from : (o : Option ℕ) → IsTrue (is_none o) → o ≡ None
null_from o h = grind arith

pub null_is : (o : Option ℕ) → o ≡ None → IsTrue (is_none o)
null_is o e = ap is_none e

pub not_null : (o : Option ℕ) → IsTrue (is_some o) → o ≢ None
not_null o h e = true≢false (sym h ∙ ap is_some e)

-- the stance of a node with these pointers
pub free_from : (p : ℕ → Option ℕ) (v : ℕ) → p v ≡ None → stance p v ≡ Free
free_from p v e = ap (stance_by p v) e

pub waiting_from : (p : ℕ → Option ℕ) (v w : ℕ) → p v ≡ Some w → p w ≢ Some v → stance p v ≡ Waiting
waiting_from p v w e apart =
    ap (stance_by p v) e ∙ cond-false (is_at (p w) v) Paired Waiting (false_from_ne_true (is_at (p w) v) (λ at. apart (some_from_is_at (p w) v at)))

pub paired_from : (p : ℕ → Option ℕ) (v w : ℕ) → p v ≡ Some w → p w ≡ Some v → stance p v ≡ Paired
paired_from p v w e back = ap (stance_by p v) e ∙ cond-true (is_at (p w) v) Paired Waiting (is_at_from_some (p w) v back)

-- v's pointer, for each stance
pub data StanceCase (p : ℕ → Option ℕ) (v : ℕ) : Type 0 where
  free : p v ≡ None → stance p v ≡ Free → StanceCase p v
  waiting : (w : ℕ) → p v ≡ Some w → p w ≢ Some v → stance p v ≡ Waiting → StanceCase p v
  paired : (w : ℕ) → p v ≡ Some w → p w ≡ Some v → stance p v ≡ Paired → StanceCase p v

pub stance_cases : (p : ℕ → Option ℕ) (v : ℕ) → StanceCase p v
stance_cases p v = by_pointer (p v) refl
  where
    by_back : (w : ℕ) → p v ≡ Some w → (b : Bool) → is_at (p w) v ≡ b → StanceCase p v
    by_back w e true back = let answer = some_from_is_at (p w) v back in paired w e answer (paired_from p v w e answer)
    by_back w e false back =
        let apart : p w ≢ Some v = λ answer. let at = is_at_from_some (p w) v answer in absurd cc in waiting w e apart (waiting_from p v w e apart)

    by_pointer : (o : Option ℕ) → p v ≡ o → StanceCase p v
    by_pointer None e = free e (free_from p v e)
    by_pointer (Some w) e = by_back w e (is_at (p w) v) refl

-- a pointer is unanswered exactly if its node waits
pub unanswered_is : (s : State) (v : ℕ) → is_unanswered s v ≡ is_waiting (stance (pointer s) v)
unanswered_is s v = grind arith

-- in a state the married nodes are the paired ones
pub married_is : (s : State) (v : ℕ) → IsState s → married s v ≡ is_paired (stance (pointer s) v)
married_is s v good = grind (arith, null_unmarried, unanswered_unmarried, married_from)

-- what a test of a stance implies for the pointers
pub waiting_is : (p : ℕ → Option ℕ) (v : ℕ) → IsTrue (is_waiting (stance p v)) → (w : ℕ) × (p v ≡ Some w) × (p w ≢ Some v)
waiting_is p v h = grind (arith, true≢false)

pub paired_is : (p : ℕ → Option ℕ) (v : ℕ) → IsTrue (is_paired (stance p v)) → (w : ℕ) × (p v ≡ Some w) × (p w ≡ Some v)
paired_is p v h = grind (arith, true≢false)

pub unanswered_alone : (s : State) (v u : ℕ) → is_unanswered s v ≡ true → pointer s v ≡ Some u → pointer s u ≢ Some v
unanswered_alone s v u h at = let aim = waiting_is (pointer s) v (sym (unanswered_is s v) ∙ h) in λ back. aim.2 (ap (pointer s) (same_Some aim.0 u (sym aim.1 ∙ at)) ∙ back)
