use Rattle.rule_engine.proofs.Prelude.{◌≡◌, ◌∙◌, ℕ, Bool, List, Option, IsTrue, refl, subst, sym, if_some_from, present, with_edge, without_edge, State, StateView, RuleTable, Change, WereOn, AreOn, TurnsNone}
use Rattle.suitor_index.proofs.NodeChanges.{pointer_now, target_present}
use Rattle.rule_engine.proofs.EnabledRefresh.{kept_ends}
use Rattle.rule_engine.proofs.FarNodes.{link_far, cut_far}
use Rattle.rule_engine.proofs.JoinedNodes.{kept_joined, kept_left}
use Rattle.rule_engine.proofs.WriteRefresh.{kept_flagged, kept_pointed}
use Rattle.rule_engine.proofs.refresh.refresh.Goals as goal

told_as : (t : RuleTable) (bits : List Bool) (now : StateView) (change same : Change) → change ≡ same → WereOn t bits change now → WereOn t bits same now
told_as t bits now change same is = subst (λ (it : Change). WereOn t bits it now) is

none_as : (above : Bool) (opens : Option ℕ → Bool → Bool) (s : State) (change same : Change) → change ≡ same → TurnsNone above opens s change → TurnsNone above opens s same
none_as above opens s change same is = subst (TurnsNone above opens s) is

pub look_at_target-requires-in-Pointed-clause-has : goal.look_at_target-requires-in-Pointed-clause-has
look_at_target-requires-in-Pointed-clause-has g c =
    let now = c.args.state.now in
    let told = told_as _ _ _ _ _ c.in-Pointed.is c.requires.told in
    if_some_from c.in-Pointed.is' (λ w. IsTrue (present now.state.network w)) (λ w e. target_present now.state c.in-Pointed.v w told.1.0.is_state (pointer_now told.0 now c.in-Pointed.v _ _ told.1.0 ∙ e))

pub returns-in-Pointed-clause-set : goal.returns-in-Pointed-clause-set
returns-in-Pointed-clause-set g c =
    let above = g.R.Rules.COURTS_HIGHER_ONLY in
    let t = g.R.Rules.table in
    kept_pointed above t g.R.Rules.laws.is_glance _ _ _ _ _ _ _ _ _ (told_as _ _ _ _ _ c.in-Pointed.is c.requires.told) (λ off. none_as above t.opens c.args.state.now.state _ _ c.in-Pointed.is (c.requires.none off)) c.look_at_target.ensures.set c.look_at_target-in-Pointed.ensures.set c.look_after_write.ensures.set

pub returns-in-Pointed-clause-noted : goal.returns-in-Pointed-clause-noted
returns-in-Pointed-clause-noted g c = λ before noted. c.look_after_write.ensures.noted before (c.look_at_target-in-Pointed.ensures.noted before (c.look_at_target.ensures.noted before noted))

pub returns-in-Flagged-clause-set : goal.returns-in-Flagged-clause-set
returns-in-Flagged-clause-set g c =
    let above = g.R.Rules.COURTS_HIGHER_ONLY in
    let t = g.R.Rules.table in
    kept_flagged above t g.R.Rules.laws.is_glance _ _ _ _ _ _ _ (told_as _ _ _ _ _ c.in-Flagged.is c.requires.told) (λ off. none_as above t.opens c.args.state.now.state _ _ c.in-Flagged.is (c.requires.none off)) c.look_after_write-in-Flagged.ensures.set

pub returns-in-Linked-clause-set : goal.returns-in-Linked-clause-set
returns-in-Linked-clause-set g c =
    let told = told_as _ _ _ _ _ c.in-Linked.is c.requires.told in
    let s : State = told.0.state in
    kept_ends g.R.Rules.table g.R.Rules.laws.is_local s c.args.state.now.state (with_edge s.network c.in-Linked.a c.in-Linked.b) c.in-Linked.a c.in-Linked.b _ _ told.1.0.was_state told.1.1 told.1.0.is_state told.1.0.made refl (λ x. refl) (link_far s c.in-Linked.a c.in-Linked.b) c.look_at_ends.ensures.set

pub returns-in-Unlinked-clause-set : goal.returns-in-Unlinked-clause-set
returns-in-Unlinked-clause-set g c =
    let told = told_as _ _ _ _ _ c.in-Unlinked.is c.requires.told in
    let s : State = told.0.state in
    kept_ends g.R.Rules.table g.R.Rules.laws.is_local s c.args.state.now.state (without_edge s.network c.in-Unlinked.a c.in-Unlinked.b) c.in-Unlinked.a c.in-Unlinked.b _ _ told.1.0.was_state told.1.1 told.1.0.is_state told.1.0.made refl (λ x. refl) (cut_far s c.in-Unlinked.a c.in-Unlinked.b) c.look_at_ends-in-Unlinked.ensures.set

pub returns-in-Joined-clause-set : goal.returns-in-Joined-clause-set
returns-in-Joined-clause-set g c =
    let told = told_as _ _ _ _ _ c.in-Joined.is c.requires.told in
    let change = told.1.0 in
    kept_joined g.R.Rules.table g.R.Rules.laws.is_local told.0.state c.args.state.now.state c.in-Joined.v _ _ change.was_state told.1.1 change.due.0 change.made c.look_at.ensures.set

pub returns-in-Removed-clause-set : goal.returns-in-Removed-clause-set
returns-in-Removed-clause-set g c =
    let told = told_as _ _ _ _ _ c.in-Removed.is c.requires.told in
    let change = told.1.0 in
    subst (AreOn g.R.Rules.table c.args.state.now.state) (sym c.remove_noted.ensures.set)
    (kept_left g.R.Rules.table g.R.Rules.laws.is_local told.0.state c.args.state.now.state c.in-Removed.v c.args.enabled.now change.was_state told.1.1 change.due.0 change.due.1.0 change.is_state change.made)
