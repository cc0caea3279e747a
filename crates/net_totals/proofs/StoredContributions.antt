-- What is kept of each name, at first and after a look.
use Rattle.net_totals.proofs.Prelude.{◌≡◌, ◌≢◌, ℕ, ◌+◌, ◌≤◌, Bool, true, false, cond, List, length, set, replicate, None, Some, is_some, option_and_then, IsTrue, sym, ap, subst, ◌∙◌, ⊎_elim, arith, cases_eq, le-leb, lt-leb, true≢false, get_or-set_other, get_or-set_same, length-replicate, length-set, is_in, everywhere, EdgeStance, end_at, present, State, points, pointer, pair_above, Contribution, closing_at, stance_of, is_lower_end, no_contribution, node_part, contribution_at, IsExactAt, AreExactUnlessStale, FitsSixteenBits, All, get_or-replicate, IsState, linked_present, pointer_linked, option_cases}

-- of a name without a node no value is kept
told_nowhere : (courted_close : Bool) (closes : State → ℕ → Bool) (adds : State → ℕ → ℕ) (s : State) (ends : List EdgeStance) (each : List Contribution) (lower : List Bool) (v : ℕ) → present s.network v ≡ false → pointer s v ≡ None → contribution_at each v ≡ no_contribution → is_in lower v ≡ false → IsExactAt courted_close closes adds s ends each lower v
told_nowhere courted_close closes adds s ends each lower v absent null nothing not_lower = record {
  added = ap (λ (it : Contribution). it.added) nothing ∙ sym (ap (λ b. cond b (node_part (adds s) s v) 0) absent);
  closing = ap (λ (it : Contribution). it.closing) nothing ∙ sym (ap (λ b. cond b (closing_at (closes s) s v) 0) absent);
  is_lower = not_lower ∙ sym (ap (λ o. is_some (pair_above v (option_and_then (λ w. cond (points s.registers w v) (Some w) None) o))) null);
  end = λ here. absurd (true≢false (sym here ∙ absent));
}

-- the contributions of absent names fit sixteen bits
pub none_light : (places : ℕ) → All FitsSixteenBits (replicate places no_contribution)
none_light places k d within =
    subst FitsSixteenBits (sym (get_or-replicate places k no_contribution d (omega (arith, within, length-replicate places no_contribution)))) (omega arith, omega arith)

-- an absent name has a null pointer
absent_null : (s : State) (v : ℕ) → IsState s → present s.network v ≡ false → pointer s v ≡ None
absent_null s v good absent =
    ⊎_elim
    (λ (none : pointer s v ≡ None). none)
    (λ found. absurd (true≢false (sym (linked_present s.network v found.0 good.is_network (pointer_linked s v found.0 good found.1)) ∙ absent)))
    (option_cases (pointer s v))

-- while all names are stale, the entries fit any state
pub told_at_first : (courted_close : Bool) (closes : State → ℕ → Bool) (adds : State → ℕ → ℕ) (s : State) (ends : List EdgeStance) (stale : List Bool) → IsState s → length stale ≡ s.network.size + 1 → ((v : ℕ) → 1 ≤ v → v ≤ s.network.size → is_in stale v ≡ true) → AreExactUnlessStale courted_close closes adds s ends (replicate (s.network.size + 1) no_contribution) (replicate (s.network.size + 1) false) stale
told_at_first courted_close closes adds s ends stale good places all = record {
  places = length-replicate (s.network.size + 1) no_contribution;
  lower_places = length-replicate (s.network.size + 1) false;
  stale_places = places;
  told = λ v fresh.
      told_nowhere courted_close closes adds s ends (replicate (s.network.size + 1) no_contribution) (replicate (s.network.size + 1) false) v (absent v fresh) (absent_null s v good (absent v fresh)) (everywhere (s.network.size + 1) v no_contribution) (everywhere (s.network.size + 1) v false);
}
  where
    absent : (v : ℕ) → is_in stale v ≡ false → present s.network v ≡ false
    absent v fresh =
        let listed = all v in
        let low = lt-leb 1 v in
        let some = le-leb 1 v in
        let past = lt-leb v s.network.size in
        grind arith

-- what a look at v finds
pub record IsLook (courted_close : Bool) (closes : State → ℕ → Bool) (adds : State → ℕ → ℕ) (s : State) (v : ℕ) (contribution : Contribution) (is_lower : Bool) (stance : EdgeStance) : Type 0 where
  pub added : contribution.added ≡ cond (present s.network v) (node_part (adds s) s v) 0
  pub closing : contribution.closing ≡ cond (present s.network v) (closing_at (closes s) s v) 0
  pub lower : is_lower ≡ is_lower_end s.registers v
  pub end : IsTrue (present s.network v) → stance ≡ stance_of courted_close s v

-- a look at a name makes its entry right, and leaves the others
pub told_next : (courted_close : Bool) (closes : State → ℕ → Bool) (adds : State → ℕ → ℕ) (s : State) (ends ends' : List EdgeStance) (each each' : List Contribution) (lower lower' stale stale' : List Bool) (v : ℕ) (contribution : Contribution) (is_lower : Bool) (stance : EdgeStance) → v ≤ s.network.size → each' ≡ set each v contribution → lower' ≡ set lower v is_lower → stale' ≡ set stale v false → IsLook courted_close closes adds s v contribution is_lower stance → (IsTrue (present s.network v) → end_at ends' v ≡ stance) → ((w : ℕ) → w ≢ v → end_at ends' w ≡ end_at ends w) → AreExactUnlessStale courted_close closes adds s ends each lower stale → AreExactUnlessStale courted_close closes adds s ends' each' lower' stale'
told_next courted_close closes adds s ends ends' each each' lower lower' stale stale' v contribution is_lower stance within set_each set_lower set_stale look done others told = record {
  places = ap length set_each ∙ length-set each v contribution ∙ told.places;
  lower_places = ap length set_lower ∙ length-set lower v is_lower ∙ told.lower_places;
  stale_places = ap length set_stale ∙ length-set stale v false ∙ told.stale_places;
  told = λ w fresh.
      ⊎_elim
      (λ (same : w ≡ v). subst (λ x. IsExactAt courted_close closes adds s ends' each' lower' x) (sym same) here)
      (λ (apart : w ≢ v). there w apart (told.told w (sym (ap (λ l. is_in l w) set_stale ∙ get_or-set_other stale v w false false apart) ∙ fresh)))
      (cases_eq w v);
}
  where
    new_contribution : contribution_at each' v ≡ contribution
    new_contribution = ap (λ l. contribution_at l v) set_each ∙ get_or-set_same each v contribution no_contribution (omega (arith, told.places))

    here : IsExactAt courted_close closes adds s ends' each' lower' v
    here = record {
      added = ap (λ (it : Contribution). it.added) new_contribution ∙ look.added;
      closing = ap (λ (it : Contribution). it.closing) new_contribution ∙ look.closing;
      is_lower = ap (λ l. is_in l v) set_lower ∙ get_or-set_same lower v is_lower false (omega (arith, told.lower_places)) ∙ look.lower;
      end = λ there. done there ∙ look.end there;
    }

    there : (w : ℕ) → w ≢ v → IsExactAt courted_close closes adds s ends each lower w → IsExactAt courted_close closes adds s ends' each' lower' w
    there w apart was =
        let same = ap (λ l. contribution_at l w) set_each ∙ get_or-set_other each v w contribution no_contribution apart in
        record {
          added = ap (λ (it : Contribution). it.added) same ∙ was.added;
          closing = ap (λ (it : Contribution). it.closing) same ∙ was.closing;
          is_lower = ap (λ l. is_in l w) set_lower ∙ get_or-set_other lower v w is_lower false apart ∙ was.is_lower;
          end = λ h. others w apart ∙ was.end h;
        }
