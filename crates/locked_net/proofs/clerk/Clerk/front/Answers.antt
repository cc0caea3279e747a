use Rattle.locked_net.proofs.Prelude.{◌≡◌, sym, ap, ◌∙◌, subst, ClerkView, front_of, ℕ, ◌-◌, List, [], ◌∷◌, length, Some, arith, slice_get, Receipt, front_from}
use Rattle.locked_net.proofs.clerk.Clerk.front.Goals as goal

-- the front is the number of the last receipt
front_last : (front : ℕ) (receipts : List Receipt) (last : Receipt) → slice_get receipts (length receipts - 1) ≡ Some last → front_from front receipts ≡ last.seq
front_last front [] last at = grind arith
front_last front (receipt ∷ []) last at = grind arith
front_last front (receipt ∷ other ∷ receipts) last at = grind (arith, front_last receipt.seq (other ∷ receipts) last)

pub returns-in-Some : goal.returns-in-Some
returns-in-Some c =
    sym (subst (λ receipts. front_of receipts ≡ c.in-Some.receipt.now.seq) (c.deref.ensures.value ∙ ap (λ (v : ClerkView). v.receipts) c.self.view_is) (front_last 0 c.deref.result.now c.in-Some.receipt.now (sym c.in-Some.ensures.value)))
