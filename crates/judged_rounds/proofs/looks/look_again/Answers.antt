use Rattle.judged_rounds.proofs.Prelude.{◌∙◌, ◌≡◌, ap, sym, set, length, length-set, table_of, one_fewer, is_on}
use Rattle.judged_rounds.proofs.Sets.{looked_more}
use Rattle.judged_rounds.proofs.looks.look_again.Goals as goal

pub loop-v-smaller : goal.loop-v-smaller
loop-v-smaller c = one_fewer c.loop-v.due c.take.new.self c.in-Some.v c.in-Some.ensures.some c.in-Some.ensures.taken

pub loop-v-preserved : goal.loop-v-preserved
loop-v-preserved c =
    let v = c.in-Some.v in
    let t = table_of c.args.rules in
    let s = c.args.judge.now in
    let i = c.loop-v.invariant in
    let put = c.set_enabled.ensures.set ∙ ap (set c.loop-v.enabled v) c.is_on-on.ensures.value in
    let long : length c.loop-v.witnesses ≡ length c.loop-v.enabled = i.witness_places ∙ sym c.requires.witness_places ∙ sym i.places in
    record {
      on = λ first.
          looked_more t s c.loop-v.enabled c.set_enabled.new.enabled c.loop-v.due c.take.new.self c.loop-v.witnesses v c.place.result c.is_on-on.new.witness long c.place.ensures.same c.in-Some.ensures.some c.in-Some.ensures.taken put c.is_on-on.ensures.rests (i.on first);
      noted = λ before first. c.set_enabled.ensures.noted before (i.noted before first);
      places = ap length put ∙ length-set c.loop-v.enabled v (is_on t s v) ∙ i.places;
      due_places = ap length c.in-Some.ensures.taken ∙ length-set c.loop-v.due v _ ∙ i.due_places;
      witness_places = length-set c.loop-v.witnesses c.place.result c.is_on-on.new.witness ∙ i.witness_places;
    }
