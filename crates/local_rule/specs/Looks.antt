-- What a node looks up in its own record and those of its neighbours.
use Rattle.std.specs.Prelude.{ℕ, Bool, false, ◌&&◌, List, Option, None, Some, find, reverse, nat_lt}
use Rattle.std.specs.Option.{option_map}
use Rattle.rule_machine.specs.declared.base.NodeRecord.{NodeRecord}
use Rattle.rule_machine.specs.State.{is_at, holds_at}
use Rattle.local_rule.specs.Views.{record_of}
use Rattle.local_rule.specs.Star.{target_found}

-- whether the node that own points at points back
abbrev pub answered_among : NodeRecord → List NodeRecord → Bool
answered_among own around = holds_at (λ w. is_at (target_found (record_of around w)) own.node) own.target

-- the first record that points at v
abbrev pub suitor_in : List NodeRecord → ℕ → Option NodeRecord
suitor_in around v = find (λ r. is_at r.target v) around

abbrev pub opens_in : (Option ℕ → Bool → Bool) → Option NodeRecord → Bool
opens_in opens None = false
opens_in opens (Some r) = opens r.target r.flagged

-- the first open record, and the last with a name above v
abbrev pub first_open_in : (Option ℕ → Bool → Bool) → List NodeRecord → Option NodeRecord
first_open_in opens around = find (λ r. opens r.target r.flagged) around

abbrev pub open_above_in : (Option ℕ → Bool → Bool) → List NodeRecord → ℕ → Option NodeRecord
open_above_in opens around v = find (λ r. opens r.target r.flagged && nat_lt v r.node) (reverse around)

-- the name of a record
abbrev pub name_found : Option NodeRecord → Option ℕ
name_found o = option_map (λ r. r.node) o
