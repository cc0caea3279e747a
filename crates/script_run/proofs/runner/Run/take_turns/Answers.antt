use Rattle.script_run.proofs.Prelude.{◌≡◌, ◌∙◌, ◌+◌, ◌-◌, ◌≤◌, true, false, Ok, refl, arith, progress, returned}
use Rattle.script_run.proofs.LongLines.{first_so_far, counted_so_far, all_so_far, handed_so_far, unwritten_so_far, piece_last, piece_stopped, piece_taken}
use Rattle.script_run.proofs.runner.Run.take_turns.Goals as goal

pub loop-left-init : goal.loop-left-init
loop-left-init g c = record {
  limit = refl;
  within = omega arith;
  so_far = first_so_far _ (omega arith);
}

pub loop-left-preserved : goal.loop-left-preserved
loop-left-preserved g c =
    let invariant = c.loop-left.invariant in
    let some : c.min-some.result ≤ c.loop-left.left = grind (arith, c.min-some.ensures) in
    let few : c.args.count - c.loop-left.left + c.min-some.result ≤ c.args.count = omega (arith, invariant.within, some) in
    let is : c.take_turns.result ≡ Ok true = grind (arith, c.in_ok-take_turns.was, c.if-not-branch.false) in
    let taken = piece_taken c.args.count _ invariant.so_far few c.take_turns.result invariant.limit c.take_turns.ensures.ends is in
    record {
      limit = c.take_turns.ensures.limit ∙ invariant.limit;
      within = omega (arith, invariant.within);
      so_far = counted_so_far _ (omega (arith, invariant.within, some)) (handed_so_far taken c.in_ok-hand_over.ensures.ok);
    }

pub returns-then-not-branch-clause-ends : goal.returns-then-not-branch-clause-ends
returns-then-not-branch-clause-ends g c =
    let invariant = c.loop-left.invariant in
    let some : c.min-some.result ≤ c.loop-left.left = grind (arith, c.min-some.ensures) in
    let few : c.args.count - c.loop-left.left + c.min-some.result ≤ c.args.count = omega (arith, invariant.within, some) in
    let is : c.take_turns.result ≡ Ok false = grind (arith, c.in_ok-take_turns.was, c.if-not-branch.true) in
    piece_last c.args.count _ invariant.so_far few c.take_turns.result invariant.limit c.take_turns.ensures.ends is

pub returns-in_err-take_turns-clause-ends : goal.returns-in_err-take_turns-clause-ends
returns-in_err-take_turns-clause-ends g c =
    let invariant = c.loop-left.invariant in
    let some : c.min-some.result ≤ c.loop-left.left = grind (arith, c.min-some.ensures) in
    let few : c.args.count - c.loop-left.left + c.min-some.result ≤ c.args.count = omega (arith, invariant.within, some) in
    piece_stopped c.args.count _ invariant.so_far few c.take_turns.result invariant.limit c.take_turns.ensures.ends _ c.from_residual.result c.in_err-take_turns.was (returned _ _ c.from_residual.ensures.1)

pub returns-in_err-hand_over-clause-ends : goal.returns-in_err-hand_over-clause-ends
returns-in_err-hand_over-clause-ends g c =
    let invariant = c.loop-left.invariant in
    let after = c.take_turns.new.self in
    let some : c.min-some.result ≤ c.loop-left.left = grind (arith, c.min-some.ensures) in
    let few : c.args.count - c.loop-left.left + c.min-some.result ≤ c.args.count = omega (arith, invariant.within, some) in
    let is : c.take_turns.result ≡ Ok true = grind (arith, c.in_ok-take_turns.was, c.if-not-branch.false) in
    let taken = piece_taken c.args.count _ invariant.so_far few c.take_turns.result invariant.limit c.take_turns.ensures.ends is in
    unwritten_so_far c.args.count (progress after.rules after.recorder c.hand_over.new.text.items) (g.Out.Write.contents c.hand_over.new.writer.writer) c.from_residual-in_err-hand_over.result taken few c.in_err-hand_over.ensures.fault
    (returned _ _ c.from_residual-in_err-hand_over.ensures.1)

pub returns-clause-ends : goal.returns-clause-ends
returns-clause-ends g c = all_so_far c.args.count c.loop-left.invariant.so_far (omega (arith, c.loop-left-test.false, c.loop-left.invariant.within))
