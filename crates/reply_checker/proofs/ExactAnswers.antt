-- The value of a call that answers exactly if a fact holds.
use Rattle.std.proofs.Common.{◌≡◌, Option, Some, SomeIff, subst}

pub some_iff_at : {X : Type 0} (o : Option X) (P : Type 0) (v x : X) → SomeIff o P v → o ≡ Some x → x ≡ v
some_iff_at o P v x h e = (let k : P × (x ≡ v) = subst (λ q. SomeIff q P v) e h in k).1
