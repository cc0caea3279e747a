use Rattle.std.proofs.Common.{◌≡◌, ℕ, ◌&&◌, nat_eq, not, take}
use Rattle.std.specs.List.{list_any}
use Rattle.enabled_set.specs.Members.{is_in}
use Rattle.enabled_set.proofs.name_bits.NameBits.retain_among.Given as goal

abbrev pub invariant-loop-name : goal.invariant-loop-name
invariant-loop-name l = (v : ℕ) → is_in l.self v ≡ (is_in l.fn.self v && not (list_any (nat_eq v) (take l.name-index l.names) && not (is_in l.other v)))
