-- A function that makes a struct of null and the allocator, which is all that the struct owns.
use Rattle.rudekpi_c.proofs.Walks.{refl, sym, subst, List, [], ◌∷◌, ◌++◌, lit<, Ura, Sym, Callee, Fn, place, copy, int, assign, rv_opd, aggregate, seq, return, w64, local, value_local, ty_ptr, Val, vint, vstruct, vcons, vnil, has_ty, ent, emp, ftrue, fsep, fact, Tables, WpFn, WpFn-mono, Closed, Logic, sem, Item, ‵, raw, ◌⊛◌, ◌$◌, ◌∵◌, !, qed, by, move, drop, use1, join, split, fsplit, fjoin, fpack, feq_i, suffices, done, agg, no_more, and_then, of_opd, lit, returns, enter, alloc_all, pass_all, free_all, look_at, get, sets, RattleType, Valss, yes, RawPtr, null_ptr, ptr_val, plain, nothing, Struct, within, shape, Ended, Clauses, closing, triple_of, Triple, entered, says, Stays, stay_dropped, walk_of, ends_at, Goes-dropped, walk_Meets, handle_tells, α, Bx, P, owning, and_tt}
use types.Kit as kit
use Rattle.rudekpi_c.proofs.AsBox.{session_box, pair}

-- the allocator is the same of each box
abbrev E : Bx
E = session_box

module _ (Made : RattleType) where
  abbrev nulling : Sym → Fn
  nulling made = record {
    lifetimes = 0;
    outlives = [];
    ty_params = [];
    givens = 0;
    params = 1;
    locals = local (pair E made) value_local ∷ local (α E.al) value_local ∷ local ty_ptr value_local ∷ [];
    body = seq (assign (place 2 []) (rv_opd (int w64 0))) (seq (assign (place 0 []) (aggregate (copy (place 2 []) ∷ copy (place 1 []) ∷ []))) return);
  }

  abbrev ended : Ended
  ended = record { signature = record { lifetimes = 0; outlives = []; params = plain (λ _. E.al.row) ∷ []; result = plain (λ _. Made) }; kept = (yes, tt) }

  abbrev stayed : Stays ended.signature.params ended.kept
  stayed = (stay_dropped (plain (λ _. E.al.row)) yes, tt)

  -- null, and the allocator's machine value
  abbrev null_word : Val → Val
  null_word hv = vstruct (vcons (vint w64 0) (vcons hv vnil))

  module _ {M : Type 1} {𝓤 : Ura M} (𝓛 : Logic 𝓤) (made : E.al.row.Denot → Made.Denot) (Said : Made.Denot → Type 0) where
    open 𝓛 use {H}

    abbrev clauses : Clauses 𝓤 ended
    clauses = λ κs a. record { ghost = Unit {0}; requires = λ g. emp 𝓤; ensures = λ g r e. fact 𝓤 (Said r) }

    module _ (shuts : (a : E.al.row.Denot) (vs : List Val) → ent 𝓤 (sem 𝓛 (fsep ((Struct (shape (owning E))).own_val (null_ptr, (a, tt)) vs) ftrue)) (sem 𝓛 (Made.own_val (made a) vs)))
        (said : (a : E.al.row.Denot) → Said (made a)) (𝓣 : Tables 𝓤 𝓛.H) (name : Sym) where
      walk : (z : (walk_of 𝓛 ended stayed clauses).Ghost) → ent 𝓤 ((walk_of 𝓛 ended stayed clauses).pre z) (WpFn 𝓤 H 𝓣.C 𝓣.Λ (nulling name) (z.0.4.0 ++ []) ((walk_of 𝓛 ended stayed clauses).post z))
      walk z =
          let Post = (walk_of 𝓛 ended stayed clauses).post z in
          let a = z.0.3.0 in
          qed 𝓛 ((‵ ftrue ⊛ ‵ (fsep (E.al.row.own_val a z.0.4.0) ftrue)) ∷ raw (emp 𝓤) ∷ []) ∵ split ! $ drop ! $ fsplit ! $
          handle_tells E.al ! a z.0.4.0 (λ hv words fits.
          let w = null_word hv in
          -- the struct is put together from nothing and the allocator
          nothing ! $ move ! (1 ∷ 0 ∷ []) $ fjoin ! $ feq_i ! (List Val) (vint w64 0 ∷ []) (ptr_val null_ptr ∷ []) refl $ fjoin ! $ feq_i ! (List Val) (w ∷ []) (w ∷ []) refl $ fjoin ! $
          fpack ! (Valss (RawPtr ∷ P E ∷ [])) (within (shape (owning E)) (null_ptr, (a, tt)) (w ∷ [])) (vint w64 0 ∷ [], (hv ∷ [], tt)) $ nothing ! $ move ! (1 ∷ 0 ∷ []) $ fjoin ! $
          use1 𝓛 (‵ (Made.own_val (made a) (w ∷ []))) (shuts a (w ∷ [])) $ move ! (1 ∷ 2 ∷ []) $ drop ! $ drop ! $
          let Γ : List (Item 𝓤) = ‵ (Made.own_val (made a) (w ∷ [])) ∷ [] in
          by ! (subst (λ (us : List Val). ent 𝓤 (kit.⋆ 𝓛 Γ) (WpFn 𝓤 H 𝓣.C 𝓣.Λ (nulling name) (us ++ []) Post)) (sym words)
          (qed 𝓛 Γ ∵ enter ! 𝓣.C 𝓣.Λ (nulling name) (hv ∷ []) _ $ alloc_all ! (λ ls. pass_all ! refl (fits, tt) $
          sets ! (of_opd ! (lit ! tt)) refl (tt, record { fits = lit< tt }) $
          sets ! (agg ! (and_then ! (get ! refl) (and_then ! (get ! refl) (no_more !)))) refl (and_tt (has_ty (α E.al) hv) fits.0, (record { fits = lit< tt }, (fits.1, tt))) $
          returns ! (look_at ! 0 refl) $ free_all ! refl $
          suffices ! _ (ends_at 𝓛 ended stayed clauses z w (made a) (tt, tt) (tt, tt)) $ says ! (said a) $
          nothing ! $ nothing ! $ fjoin ! $ join ! $ nothing ! $ join ! $ done !))))

      pub nulls : (self : Callee) → Closed 𝓤 H 𝓣.C 𝓣.Λ self (nulling name) → Triple 𝓤 (𝓣.C self) (triple_of 𝓛 ended.signature (closing 𝓛 ended clauses))
      nulls self unfolded =
          entered 𝓤 H (triple_of 𝓛 ended.signature (closing 𝓛 ended clauses)) 𝓣.C 𝓣.Λ self (nulling name) unfolded
          (walk_Meets 𝓛 ended stayed (Goes-dropped 𝓛 0 (plain (λ _. E.al.row)) yes (λ κs x f. refl), tt) clauses (WpFn 𝓤 H 𝓣.C 𝓣.Λ (nulling name)) (WpFn-mono 𝓤 H 𝓛.laws 𝓣 (nulling name)) walk)
