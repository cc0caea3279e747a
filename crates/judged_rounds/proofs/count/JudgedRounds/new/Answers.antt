use Rattle.judged_rounds.proofs.Prelude.{◌≡◌, ◌∙◌, ◌+◌, ◌<◌, ◌≤◌, ℕ, List, Bool, State, true, ap, arith, length, length-replicate, subst, sym, false, replicate, table_of, is_in, AreOnBut}
use Rattle.judged_rounds.proofs.Sets.{begun_on, put_back}
use Rattle.judged_rounds.proofs.count.JudgedRounds.new.Goals as goal

pub returns-clause-counts : goal.returns-clause-counts
returns-clause-counts c =
    let t = table_of c.args.rules in
    let s = c.args.judge.now in
    let size : c.capacity-size.result ≡ s.network.size = c.capacity-size.ensures.size ∙ ap (λ (u : State). u.network.size) c.net.ensures.value in
    let enabled : c.in_ok-enabled.enabled ≡ replicate (s.network.size + 1) false = c.in_ok-enabled.ensures ∙ ap (λ (n : ℕ). replicate (n + 1) false) size in
    let due = c.mark_all.new.self in
    let places : length due ≡ s.network.size + 1 = c.mark_all.ensures.places ∙ ap length c.in_ok-due.ensures ∙ length-replicate (c.capacity-size.result + 1) false ∙ ap (λ (n : ℕ). n + 1) size in
    let marked : (v : ℕ) → 1 ≤ v → v < length due → is_in due v ≡ true = λ v low high. c.mark_all.ensures.marked v low (subst (λ (n : ℕ). v < n) c.mark_all.ensures.places high) in
    let witnesses = c.deref_mut.result.now in
    let before : AreOnBut t s c.in_ok-enabled.enabled due witnesses = subst (λ (bits : List Bool). AreOnBut t s bits due witnesses) (sym enabled) (begun_on t s due witnesses places marked) in
    let kept = put_back c.in_ok-witnesses.witnesses.len c.look_again.new.witnesses c.in_ok-witnesses.witnesses.items (omega (arith, c.look_again.ensures.witness_places, c.deref_mut.ensures.len, ap length c.deref_mut.ensures.value)) in
    record {
      sound = c.net.ensures.sound;
      on = subst (AreOnBut t s c.look_again.new.enabled c.look_again.new.due) (sym kept) (c.look_again.ensures.on before);
      none_due = c.look_again.ensures.none;
      counted = c.in_ok-counter.ensures.counted t s;
    }
