-- What a node looks up is what a state that shows it has there.
use Rattle.local_rule.proofs.Prelude.{◌≡◌, ℕ, Bool, true, false, ◌&&◌, List, [], ◌∷◌, map, find, reverse, nat_lt, Option, None, Some, is_some, refl, sym, ap, ◌∙◌, inl, inr, ⊎_elim, arith, cases_Bool, cond-true, cond-false, eq-eqb, ne_eqb, option_map, NodeRecord, node_record_at, linked, neighbours, State, pointer, flag, suits, points, first_suitor, married, is_at, holds_at, is_open, first_open, last_open_above, IsNear, pointer_linked, linked_apart, ShowsAtNode, record_of, record_in, target_found, flag_in}
use Rattle.std.proofs.Common.{◌++◌}
use Rattle.std.proofs.lemmas.List.{map-append, reverse-append}
use Rattle.machine_laws.proofs.TwoPasses.{married_answered}
use Rattle.local_rule.specs.Looks.{answered_among, suitor_in, opens_in, first_open_in, open_above_in, name_found}
use Rattle.local_rule.proofs.Shown.{find_shown, shown_record, shown_linked}

-- the record of the node or of a neighbour
pub shown_in : (s : State) (own : NodeRecord) (around : List NodeRecord) (v : ℕ) → ShowsAtNode s own around → IsNear s own.node v → record_in own around v ≡ Some (node_record_at s v)
shown_in s own around v shows (inl same) =
    cond-true _ _ _ (eq-eqb own.node v (sym same)) ∙ ap Some (shows.itself ∙ ap (node_record_at s) (sym same))
shown_in s own around v shows (inr h) =
    cond-false _ _ _ (ne_eqb own.node v (linked_apart s.network own.node v shows.is_state.is_network h)) ∙ shown_record s own around v shows h

pub shown_pointer : (s : State) (own : NodeRecord) (around : List NodeRecord) (v : ℕ) → ShowsAtNode s own around → IsNear s own.node v → target_found (record_in own around v) ≡ pointer s v
shown_pointer s own around v shows near = ap target_found (shown_in s own around v shows near)

pub shown_flag : (s : State) (own : NodeRecord) (around : List NodeRecord) (v : ℕ) → ShowsAtNode s own around → IsNear s own.node v → flag_in (record_in own around v) ≡ flag s v
shown_flag s own around v shows near = ap flag_in (shown_in s own around v shows near)

pub shown_married : (s : State) (own : NodeRecord) (around : List NodeRecord) → ShowsAtNode s own around → answered_among own around ≡ married s own.node
shown_married s own around shows =
    go own.target refl ∙ ap (holds_at (λ w. points s.registers w own.node)) mine ∙ sym (married_answered s own.node shows.is_state)
  where
    mine : own.target ≡ pointer s own.node
    mine = ap (λ (r : NodeRecord). r.target) shows.itself

    go : (o : Option ℕ) → own.target ≡ o → holds_at (λ w. is_at (target_found (record_of around w)) own.node) o ≡ holds_at (λ w. points s.registers w own.node) o
    go None e = refl
    go (Some w) e =
        ap (λ r. is_at (target_found r) own.node) (shown_record s own around w shows (pointer_linked s own.node w shows.is_state (sym mine ∙ e)))

-- the name of the first neighbour that passes
names_back : (s : State) (o : Option ℕ) → name_found (option_map (node_record_at s) o) ≡ o
names_back s None = refl
names_back s (Some v) = refl

shown_find : (s : State) (own : NodeRecord) (around : List NodeRecord) (q : NodeRecord → Bool) → ShowsAtNode s own around → name_found (find q around) ≡ find (λ v. q (node_record_at s v)) (neighbours s.network own.node)
shown_find s own around q shows =
    ap (λ rows. name_found (find q rows)) shows.others ∙ ap name_found (find_shown s q (neighbours s.network own.node)) ∙ names_back s _

map_reversed : {X Y : Type 0} (f : X → Y) (xs : List X) → map f (reverse xs) ≡ reverse (map f xs)
map_reversed f [] = refl
map_reversed f (x ∷ xs) =
    ap (map f) (reverse-append (x ∷ []) xs) ∙ map-append f (reverse xs) (x ∷ []) ∙ ap (λ l. l ++ f x ∷ []) (map_reversed f xs)
    ∙ sym (reverse-append (f x ∷ []) (map f xs))

pub shown_suitor : (s : State) (own : NodeRecord) (around : List NodeRecord) → ShowsAtNode s own around → name_found (suitor_in around own.node) ≡ first_suitor s own.node
shown_suitor s own around shows = shown_find s own around (λ r. is_at r.target own.node) shows

pub shown_open : (opens : Option ℕ → Bool → Bool) (s : State) (own : NodeRecord) (around : List NodeRecord) → ShowsAtNode s own around → name_found (first_open_in opens around) ≡ first_open opens s own.node
shown_open opens s own around shows = shown_find s own around (λ r. opens r.target r.flagged) shows

pub shown_open_above : (opens : Option ℕ → Bool → Bool) (s : State) (own : NodeRecord) (around : List NodeRecord) → ShowsAtNode s own around → name_found (open_above_in opens around own.node) ≡ last_open_above opens s own.node
shown_open_above opens s own around shows =
    let q : NodeRecord → Bool = λ r. opens r.target r.flagged && nat_lt own.node r.node in
    ap (λ rows. name_found (find q (reverse rows))) shows.others
    ∙ ap (λ rows. name_found (find q rows)) (sym (map_reversed (node_record_at s) (neighbours s.network own.node)))
    ∙ ap name_found (find_shown s q (reverse (neighbours s.network own.node)))
    ∙ names_back s _

-- a neighbour that is asked for by name
beside : (s : State) (own : NodeRecord) (around : List NodeRecord) (w : ℕ) (p : Option NodeRecord → Bool) → p None ≡ false → ShowsAtNode s own around → p (record_of around w) ≡ (linked s.network own.node w && p (Some (node_record_at s w)))
beside s own around w p none shows =
    ⊎_elim
    (λ (h : linked s.network own.node w ≡ true). ap p (shown_record s own around w shows h) ∙ sym (ap (λ b. b && p (Some (node_record_at s w))) h))
    (λ (h : linked s.network own.node w ≡ false). ap p (nobody (record_of around w) (sym (shown_linked s own around w shows) ∙ h)) ∙ none ∙ sym (ap (λ b. b && p (Some (node_record_at s w))) h))
    (cases_Bool (linked s.network own.node w))
  where
    nobody : (o : Option NodeRecord) → is_some o ≡ false → o ≡ None
    nobody o e = grind arith

pub shown_suits : (s : State) (own : NodeRecord) (around : List NodeRecord) (w : ℕ) → ShowsAtNode s own around → is_at (target_found (record_of around w)) own.node ≡ (linked s.network own.node w && suits s own.node w)
shown_suits s own around w shows = beside s own around w (λ o. is_at (target_found o) own.node) refl shows

pub shown_opens : (opens : Option ℕ → Bool → Bool) (s : State) (own : NodeRecord) (around : List NodeRecord) (w : ℕ) → ShowsAtNode s own around → opens_in opens (record_of around w) ≡ (linked s.network own.node w && is_open opens s w)
shown_opens opens s own around w shows = beside s own around w (opens_in opens) refl shows
