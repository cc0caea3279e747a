-- What a recorded daemon plays, given the members of a set (ascending) and the daemon's lists: a
-- choice, and the lists still to be played.
use Rattle.std.specs.Prelude.{◌≡◌, ℕ, ◌<◌, Bool, false, cond, length, slice_index_or, List, [], ◌∷◌, take, nat_eq, Option, None, Some}
use Rattle.std.specs.List.{filter, list_any}
use Rattle.rule_machine.specs.declared.choice.Item.{Item}
use Rattle.daemon.specs.DaemonLaws.{plain}

-- whether a list has a name
abbrev pub is_in_list : List ℕ → ℕ → Bool
is_in_list list v = list_any (λ w. nat_eq w v) list

-- a table with an entry for each name: true if the list has the name
pub record AreMarksOf (marks : List Bool) (list : List ℕ) : Type 0 where
  pub covers : length marks ≡ 65536
  pub told : (v : ℕ) → v < 65536 → slice_index_or marks v false ≡ is_in_list list v

-- what a list chooses: those of `names` that the list has, in the order of `names`
abbrev pub named_of : List ℕ → List ℕ → List ℕ
named_of names list = filter (is_in_list list) names

-- the first name if the daemon is central, else all names
abbrev pub first_or_all : Bool → List ℕ → List ℕ
first_or_all central names = cond central (take 1 names) names

-- the choice of these names; None if there are no names
abbrev pub some_choice : List ℕ → Option (List Item)
some_choice [] = None
some_choice (v ∷ names) = Some (plain (v ∷ names))

-- the choice that a list gives
abbrev pub list_choice : Bool → List ℕ → List ℕ → Option (List Item)
list_choice central names list = some_choice (first_or_all central (named_of names list))

-- if one list gives a choice, that choice and the lists after the list; else what the later lists give
abbrev pub play_or : Option (List Item) → List (List ℕ) → Option (List Item) × List (List ℕ) → Option (List Item) × List (List ℕ)
play_or (Some choice) lists later = (Some choice, lists)
play_or None lists later = later

-- the choice of the first list that gives a choice, and the lists after that list; earlier lists are
-- skipped
abbrev pub played : Bool → List ℕ → List (List ℕ) → Option (List Item) × List (List ℕ)
played central names [] = (None, [])
played central names (list ∷ lists) = play_or (list_choice central names list) lists (played central names lists)
