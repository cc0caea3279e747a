-- What a caller of a network keeps: a receipt for each reply, oldest first, with the number of the log's entry;
-- and the greatest number that a checkpoint returned.
use Rattle.std.specs.Prelude.{ℕ, ◌<◌, max, List, [], ◌∷◌, Option, None, Some}
use Rattle.std.specs.Option.{option_map}
use Rattle.rule_machine.specs.declared.base.Base.{Base}
use Rattle.step_log.specs.declared.receipt.Receipt.{Receipt}

-- the numbers rise strictly, and each is above `low`
abbrev pub RiseAbove : ℕ → List Receipt → Type 0
RiseAbove low [] = Unit {0}
RiseAbove low (receipt ∷ receipts) = (low < receipt.seq) × RiseAbove receipt.seq receipts

-- a caller's receipts and base as contracts see them
pub record ReceiptsView : Type 0 where
  pub receipts : List Receipt
  pub base : Option ℕ

-- the number of the last entry before a base; none if there is no base
abbrev pub base_number : Option Base → Option ℕ
base_number base = option_map (λ b. b.number) base

-- the number of a base; 0 if there is none
abbrev pub base_from : Option ℕ → ℕ
base_from None = 0
base_from (Some number) = number

-- the greater of two numbers; if only one is there, that number
abbrev pub greater_base : Option ℕ → Option ℕ → Option ℕ
greater_base None other = other
greater_base (Some one) None = Some one
greater_base (Some one) (Some other) = Some (max one other)
