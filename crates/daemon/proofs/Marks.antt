-- The table of the names of a list.
use Rattle.daemon.proofs.Prelude.{◌≡◌, ℕ, suc, ◌+◌, ◌<◌, ◌≤◌, Bool, true, false, ◌||◌, List, ◌∷◌, length, drop, set, replicate, get_or, nat_eq, sym, ap, ◌∙◌, arith, ⊎_elim, cases_Bool, eqb-true, eqb-false, get_or-set_same, get_or-set_other, drop_all, get_or-replicate, length-replicate, drop-cons, is_in_list, AreMarksOf}

-- The table has the names before a place of the list, and those from there on are still to come.
pub record IsMarking (marks : List Bool) (list : List ℕ) (i : ℕ) : Type 0 where
  pub covers : length marks ≡ 65536
  pub told : (v : ℕ) → v < 65536 → (get_or marks v false || is_in_list (drop i list) v) ≡ is_in_list list v

or_false : (b : Bool) → (b || false) ≡ b
or_false b = grind arith

or_true : (b c : Bool) → (b || (true || c)) ≡ true
or_true b c = grind arith

pub marking_new : (marks : List Bool) (list : List ℕ) → marks ≡ replicate 65536 false → IsMarking marks list 0
marking_new marks list is =
    record {
      covers = ap length is ∙ length-replicate 65536 false;
      told = λ v there. ap (λ b. b || is_in_list list v) (ap (λ l. get_or l v false) is ∙ get_or-replicate 65536 v false false there);
    }

pub marked_all : (marks : List Bool) (list : List ℕ) (i : ℕ) → IsMarking marks list i → length list ≤ i → AreMarksOf marks list
marked_all marks list i h end =
    record {
      covers = h.covers;
      told = λ v there. sym (or_false (get_or marks v false)) ∙ ap (λ l. get_or marks v false || is_in_list l v) (sym (drop_all i list end)) ∙ h.told v there;
    }

pub marking_more : (marks new : List Bool) (list : List ℕ) (i x : ℕ) → IsMarking marks list i → i < length list → x ≡ get_or list i x → x < 65536 → length new ≡ length marks → new ≡ set marks x true → IsMarking new list (i + 1)
marking_more marks new list i x h there read fits len is =
    let next : suc i ≡ i + 1 = omega arith in
    let split : drop i list ≡ x ∷ drop (i + 1) list = drop-cons list i x there ∙ ap (λ y. y ∷ drop (suc i) list) (sym read) ∙ ap (λ k. x ∷ drop k list) next in
    let covers = h.covers in
    record {
      covers = len ∙ h.covers;
      told = λ v small.
          let was : (get_or marks v false || (nat_eq x v || is_in_list (drop (i + 1) list) v)) ≡ is_in_list list v = ap (λ l. get_or marks v false || is_in_list l v) (sym split) ∙ h.told v small in
          ⊎_elim
          (λ (yes : nat_eq x v ≡ true).
          let e : x ≡ v = eqb-true x v yes in
          let on : get_or new v false ≡ true = ap (λ l. get_or l v false) is ∙ ap (λ k. get_or (set marks x true) k false) (sym e) ∙ get_or-set_same marks x true false (omega arith) in
          ap (λ b. b || is_in_list (drop (i + 1) list) v) on ∙ sym (or_true (get_or marks v false) (is_in_list (drop (i + 1) list) v)) ∙ ap (λ b. get_or marks v false || (b || is_in_list (drop (i + 1) list) v)) (sym yes) ∙ was)
          (λ (no : nat_eq x v ≡ false).
          let other : get_or new v false ≡ get_or marks v false = ap (λ l. get_or l v false) is ∙ get_or-set_other marks x v true false (λ e. eqb-false x v no (sym e)) in
          ap (λ b. b || is_in_list (drop (i + 1) list) v) other ∙ ap (λ b. get_or marks v false || (b || is_in_list (drop (i + 1) list) v)) (sym no) ∙ was)
          (cases_Bool (nat_eq x v));
    }
