use Rattle.daemon.proofs.Prelude.{◌≡◌, ◌<◌, length, map, get_or, ap, sym, ◌∙◌, arith, get_or-map, length-map}
use Rattle.daemon.proofs.RecordedPlay.{played_take, played_skip}
use Rattle.daemon.proofs.recorded.play.Goals as goal

pub returns-in-Some-clause-played : goal.returns-in-Some-clause-played
returns-in-Some-clause-played c =
    let lists = map (λ list. list.items) c.args.lists.now in
    let len = length-map c.args.lists.now (λ list. list.items) in
    let there : c.loop-place.place < length lists = omega arith in
    let read : c.deref.result.now ≡ get_or lists c.loop-place.place c.deref.result.now = c.deref.ensures.value ∙ ap (λ v. v.items) c.index-lists-place.is ∙ sym (get_or-map (λ list. list.items) c.args.lists.now c.loop-place.place c.index-lists-place.result c.deref.result.now c.loop-place-test.true) in
    sym (played_take c.args.central c.args.names.now lists c.loop-place.place c.deref.result.now c.in-Some.choice there read (sym c.in_ok-choice.ensures ∙ c.in-Some.is)) ∙ c.loop-place.invariant

pub loop-place-preserved : goal.loop-place-preserved
loop-place-preserved c =
    let lists = map (λ list. list.items) c.args.lists.now in
    let len = length-map c.args.lists.now (λ list. list.items) in
    let there : c.loop-place.place < length lists = omega arith in
    let read : c.deref.result.now ≡ get_or lists c.loop-place.place c.deref.result.now = c.deref.ensures.value ∙ ap (λ v. v.items) c.index-lists-place.is ∙ sym (get_or-map (λ list. list.items) c.args.lists.now c.loop-place.place c.index-lists-place.result c.deref.result.now c.loop-place-test.true) in
    played_skip c.args.central c.args.names.now lists c.loop-place.place c.deref.result.now there read (sym c.in_ok-choice.ensures ∙ c.in_default.is) ∙ c.loop-place.invariant
