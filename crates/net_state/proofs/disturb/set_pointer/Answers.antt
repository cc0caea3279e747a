use Rattle.net_state.proofs.Prelude.{◌≡◌, IsTrue, rules, sym, subst, linked, after_point, IsState, StateView, state_of, point_keeps, if_some_at}
use Rattle.net_state.proofs.disturb.set_pointer.Goals as goal

pub saw-requires : goal.saw-requires
saw-requires g c =
    let s = c.args.net.now.state in
    let good = subst (λ (h : StateView). IsState h.state) c.net.view_is c.net.invariant in
    let made : state_of c.net.inside.store.network c.set_pointer.new.self ≡ after_point s c.args.v c.args.target = search rules in (
      c.args.net.now,
      (
        record {
          was_state = good;
          is_state = subst IsState (sym made) (point_keeps s c.args.v c.args.target good (λ x e. if_some_at c.args.target (λ w. IsTrue (linked s.network c.args.v w)) x e c.requires.near));
          due = search rules;
          made = made;
        },
        c.requires.fits,
      ),
    )
