use Rattle.judged_rounds.proofs.Prelude.{◌≡◌, Bool, false, List, IsTrue, sym, refl, Moved, Reply, Moves, true≢false, is_step}
use Rattle.judged_rounds.proofs.count.begin.Goals as goal

no_step : (reply : Reply) → ((moves : List Moved) → reply ≡ Moves moves → ⊥) → (b : Bool) → IsTrue (is_step reply) → b ≡ false
no_step (Moves moves) other b step = absurd (other moves refl)
no_step reply other b step = absurd (true≢false (sym step))

pub returns-in_default-clause-ready : goal.returns-in_default-clause-ready
returns-in_default-clause-ready c = no_step c.args.reply.now c.in_default.not-Moves c.args.counter.now.is_new
