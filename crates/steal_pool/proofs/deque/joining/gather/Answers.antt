use Rattle.steal_pool.proofs.Prelude.{◌++◌, [], ◌∷◌, length, ap, ◌∙◌, arith, DequeEnd}
use Rattle.steal_pool.proofs.Joinings.{starts, same_deque, joins}
use Rattle.steal_pool.proofs.deque.joining.gather.Goals as goal

pub loop-end-init : goal.loop-end-init
loop-end-init c = starts _ _ _ c.owner_at.result c.in-Owner.owner (omega (arith, ap length c.deref.ensures.value)) c.in-Owner.ensures.value c.in-Owner.ensures.items c.requires

pub absorb-requires : goal.absorb-requires
absorb-requires c = same_deque _ _ _ _ c.pop.new.self.items c.in-Thief.thief (c.in-Some.ensures.items ∙ ap (λ (e : DequeEnd). c.pop.new.self.items ++ e ∷ []) c.in-Thief.is) c.loop-end.invariant

pub loop-end-preserved : goal.loop-end-preserved
loop-end-preserved c = joins _ _ c.loop-end.owner _ _ c.pop.new.self.items c.in-Thief.thief (c.in-Some.ensures.items ∙ ap (λ (e : DequeEnd). c.pop.new.self.items ++ e ∷ []) c.in-Thief.is) c.absorb.ensures.same c.absorb.ensures.both c.loop-end.invariant
