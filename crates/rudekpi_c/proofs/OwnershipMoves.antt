-- A function that moves an address and an allocator between structs: as a box does, the second then owns what
-- the first owned.
use Rattle.rudekpi_c.proofs.Walks.{◌≡◌, refl, sym, subst, List, [], ◌∷◌, ◌++◌, Ura, Sym, Callee, Fn, place, copy, assign, rv_opd, aggregate, field, seq, return, local, value_local, ty_ptr, Val, SProp, ent, ftrue, fsep, fact, Tables, WpFn, WpFn-mono, Closed, Logic, sem, Item, ‵, raw, ◌⊛◌, ◌$◌, ◌∵◌, !, qed, by, move, drop, use1, join, split, fsplit, fjoin, suffices, done, whole, sub, agg, stop, fld, no_more, and_then, of_opd, returns, enter, alloc_all, pass_all, free_all, look_at, get, get_in, sets, RattleType, yes, Last, plain, heard, nothing, Ended, Clauses, closing, triple_of, Triple, entered, says, Stays, Silent, stay_dropped, walk_of, ends_at, Goes-dropped, walk_Meets, α, Bx, D, B, word, box_typed, box_out, box_in}
use types.Kit as kit
use Rattle.std.specs.Prelude.{Option, None, Some}
use Rattle.rudekpi_c.proofs.AsBox.{pair}

module _ (E : Bx) (Taken Made : RattleType) where
  abbrev moving : Sym → Sym → Fn
  moving taken made = record {
    lifetimes = 0;
    outlives = [];
    ty_params = [];
    givens = 0;
    params = 1;
    locals = local (pair E made) value_local ∷ local (pair E taken) value_local ∷ local ty_ptr value_local ∷ local (α E.al) value_local ∷ local ty_ptr value_local ∷ [];
    body =
        seq (assign (place 2 []) (rv_opd (copy (place 1 (field 0 ∷ [])))))
        (seq (assign (place 3 []) (rv_opd (copy (place 1 (field 1 ∷ [])))))
        (seq (assign (place 4 []) (rv_opd (copy (place 2 []))))
        (seq (assign (place 0 []) (aggregate (copy (place 4 []) ∷ copy (place 3 []) ∷ []))) return)));
  }

  abbrev ended : Ended
  ended = record { signature = record { lifetimes = 0; outlives = []; params = plain (λ _. Taken) ∷ []; result = plain (λ _. Made) }; kept = (yes, tt) }

  abbrev stayed : Stays ended.signature.params ended.kept
  stayed = (stay_dropped (plain (λ _. Taken)) yes, tt)

  module _ {M : Type 1} {𝓤 : Ura M} (𝓛 : Logic 𝓤) where
    open 𝓛 use {H}

    -- what was taken owns what the box owns, and so does what is made
    pub record Moved (taken : Taken.Denot) (Said : Made.Denot → Type 0) : Type 1 where
      pub box : D E
      pub made : Made.Denot
      pub opens : (vs : List Val) → ent 𝓤 (sem 𝓛 (Taken.own_val taken vs)) (sem 𝓛 ((B E).own_val box vs))
      pub shuts : (vs : List Val) → ent 𝓤 (sem 𝓛 ((B E).own_val box vs)) (sem 𝓛 (Made.own_val made vs))
      pub said : Said made
      pub last : Last (Taken.exit yes) taken

    module _ (Asked : Taken.Denot → SProp 𝓤) (Said : Taken.Denot → Made.Denot → Type 0) where
      abbrev clauses : Clauses 𝓤 ended
      clauses = λ κs a. record { ghost = Unit {0}; requires = λ g. Asked a.0; ensures = λ g r e. fact 𝓤 (Said a.0 r) }

      module _ (Learnt : Taken.Denot → Type 0) (learns : (t : Taken.Denot) → ent 𝓤 (Asked t) (fact 𝓤 (Learnt t))) (moved : (t : Taken.Denot) → Learnt t → Moved t (Said t)) (𝓣 : Tables 𝓤 𝓛.H) (taken made : Sym) where
        walk : (z : (walk_of 𝓛 ended stayed clauses).Ghost) → ent 𝓤 ((walk_of 𝓛 ended stayed clauses).pre z) (WpFn 𝓤 H 𝓣.C 𝓣.Λ (moving taken made) (z.0.4.0 ++ []) ((walk_of 𝓛 ended stayed clauses).post z))
        walk z =
            let Post = (walk_of 𝓛 ended stayed clauses).post z in
            let t = z.0.3.0 in
            qed 𝓛 ((‵ ftrue ⊛ ‵ (fsep (Taken.own_val t z.0.4.0) ftrue)) ∷ raw (Asked t) ∷ []) ∵ split ! $ drop ! $ fsplit ! $ move ! (2 ∷ 0 ∷ []) $
            use1 𝓛 (raw (fact 𝓤 (Learnt t))) (learns t) $ heard ! (Learnt t) (λ learnt.
            let m = moved t learnt in
            use1 𝓛 (‵ ((B E).own_val m.box z.0.4.0)) (m.opens z.0.4.0) $ box_out E ! m.box z.0.4.0 (λ b o hv at_b words fits. box_in E ! m.box b o m.box.value at_b refl $
            let w = word E hv b o in
            use1 𝓛 (‵ (Made.own_val m.made (w ∷ []))) (m.shuts (w ∷ [])) $ move ! (1 ∷ []) $ drop ! $
            let Γ : List (Item 𝓤) = ‵ (Made.own_val m.made (w ∷ [])) ∷ [] in
            by ! (subst (λ (us : List Val). ent 𝓤 (kit.⋆ 𝓛 Γ) (WpFn 𝓤 H 𝓣.C 𝓣.Λ (moving taken made) (us ++ []) Post)) (sym words)
            (qed 𝓛 Γ ∵ enter ! 𝓣.C 𝓣.Λ (moving taken made) (w ∷ []) _ $ alloc_all ! (λ ls. pass_all ! refl (box_typed E hv b o fits, tt) $
            sets ! (of_opd ! (get_in ! (fld ! refl (stop !)) (sub ! 0 refl (whole !)))) refl (tt, tt) $
            sets ! (of_opd ! (get_in ! (fld ! refl (stop !)) (sub ! 1 refl (whole !)))) refl fits $
            sets ! (of_opd ! (get ! refl)) refl (tt, tt) $
            sets ! (agg ! (and_then ! (get ! refl) (and_then ! (get ! refl) (no_more !)))) refl (box_typed E hv b o fits) $ returns ! (look_at ! 0 refl) $ free_all ! refl $
            suffices ! _ (ends_at 𝓛 ended stayed clauses z w m.made (m.last, tt) (tt, tt)) $ says ! m.said $
            nothing ! $ nothing ! $ fjoin ! $ join ! $ nothing ! $ join ! $ done !)))))

        pub moves : Silent 𝓛 0 (plain (λ _. Taken)) yes → (self : Callee) → Closed 𝓤 H 𝓣.C 𝓣.Λ self (moving taken made) → Triple 𝓤 (𝓣.C self) (triple_of 𝓛 ended.signature (closing 𝓛 ended clauses))
        moves silent self unfolded =
            entered 𝓤 H (triple_of 𝓛 ended.signature (closing 𝓛 ended clauses)) 𝓣.C 𝓣.Λ self (moving taken made) unfolded
            (walk_Meets 𝓛 ended stayed (Goes-dropped 𝓛 0 (plain (λ _. Taken)) yes silent, tt) clauses (WpFn 𝓤 H 𝓣.C 𝓣.Λ (moving taken made)) (WpFn-mono 𝓤 H 𝓛.laws 𝓣 (moving taken made)) walk)

-- what is not `None` is something
pub some_of : {A : Type 0} (o : Option A) → (o ≡ None → ⊥) → (x : A) × (o ≡ Some x)
some_of None some = absurd (some refl)
some_of (Some x) some = (x, refl)
