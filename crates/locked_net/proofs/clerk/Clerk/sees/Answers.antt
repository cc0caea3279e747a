use Rattle.locked_net.proofs.Prelude.{◌≡◌, refl, sym, subst, IfSome, ClerkView, noted}
use mathlib.Core.List.{IsPrefix}
use Rattle.locked_net.proofs.BoardReads.{sees_more}
use Rattle.locked_net.proofs.clerk.Clerk.sees.Goals as goal

pub invariant_of-self : goal.invariant_of-self
invariant_of-self c =
    let inside = c.self.inside in
    let begins : IsPrefix (noted inside.note) c.args.other.log =
    subst (λ (clerk : ClerkView). IsPrefix (noted clerk.note) c.args.other.log) (sym c.self.view_is) (c.if-begins.ensures.yes refl) in
    let same : IfSome inside.note (λ note. note.base ≡ c.args.other.base) =
    subst (λ (clerk : ClerkView). IfSome clerk.note (λ note. note.base ≡ c.args.other.base)) (sym c.self.view_is) c.if-begins.ensures.base in
    sees_more (record { receipts = inside.receipts.items; note = inside.note; base = inside.base }) c.args.other c.self.invariant begins same
