use Rattle.snapshots.proofs.Prelude.{ℕ, Bool, ◌&&◌, List, [], ◌∷◌, ◌++◌, nat_le, sym, ap, ◌∙◌, arith, None, map-range_with_len_more, here_at_start}
use Rattle.snapshots.proofs.register_copy.here_at_start.Goals as goal

pub loop-place-preserved : goal.loop-place-preserved
loop-place-preserved c =
    let place : ℕ = c.loop-place.place in
    let f : ℕ → Bool = λ v. nat_le 1 v && nat_le v c.args.present in
    c.in_ok-push.ensures.items ∙ ap (λ (l : List Bool). l ++ c.is_present.result ∷ []) c.loop-place.invariant
    ∙ ap (λ (b : Bool). here_at_start (record { places = place; present = c.args.present; base = None }) ++ b ∷ []) c.is_present.ensures ∙ sym (map-range_with_len_more f 0 place place (omega arith))
