-- Tests of whether moves are the moves of a step.
use Rattle.std.specs.Prelude.{ℕ, Bool, true, false, not, ◌&&◌, List, length, Option, None, Some, if◌then◌else◌, nat_eq}
use Rattle.std.specs.List.{list_any, list_all}
use Rattle.rule_machine.specs.declared.act.Act.{Act}
use Rattle.rule_machine.specs.declared.act.Act.TheVariants.{Update, Marry, Seduce, Abandon}
use Rattle.rule_machine.specs.declared.choice.Item.{Item}
use Rattle.rule_machine.specs.declared.act.Moved.{Moved}
use Rattle.rule_machine.specs.State.{State}
use Rattle.rule_machine.specs.RuleTable.{RuleTable, rule_at}
use Rattle.rule_machine.specs.Step.{takes_target}

-- whether two rules are equal
abbrev pub same_act : Act → Act → Bool
same_act Update Update = true
same_act Marry Marry = true
same_act Seduce Seduce = true
same_act Abandon Abandon = true
same_act act other = false

-- whether a node has a rule and it is this one
abbrev pub is_rule : Option Act → Act → Bool
is_rule None act = false
is_rule (Some own) act = same_act own act

-- whether a wish, if there is one, is for w
abbrev pub suits_wish : Option ℕ → ℕ → Bool
suits_wish None w = true
suits_wish (Some x) w = nat_eq x w

-- whether a move of v by the rule may have this target: none, or an allowed one that suits the wish
abbrev pub is_target : RuleTable → State → ℕ → Act → Option ℕ → Option ℕ → Bool
is_target t s v act wish None = not (takes_target act)
is_target t s v act wish (Some w) = takes_target act && (t.allowed s v act w && suits_wish wish w)

-- whether the item asks for the move
abbrev pub is_move_of : RuleTable → State → Item → Moved → Bool
is_move_of t s item m =
    nat_eq m.node item.node && (is_rule (rule_at t s item.node) m.act && is_target t s item.node m.act item.wish m.target)

-- whether one of the items asks for the move
abbrev pub is_asked : RuleTable → State → List Item → Moved → Bool
is_asked t s items m = list_any (λ item. is_move_of t s item m) items

-- whether the item asks for one of the moves
abbrev pub is_answered : RuleTable → State → List Moved → Item → Bool
is_answered t s moves item = list_any (λ m. is_move_of t s item m) moves

-- whether the daemon allows this many moves: at least one, and exactly one under a central daemon
abbrev pub fits_daemon : RuleTable → List Moved → Bool
fits_daemon t moves = if t.central then nat_eq (length moves) 1 else not (nat_eq (length moves) 0)

-- whether the moves are moves of the items, in any order: the daemon allows their number, an item asks for
-- each, and each item has one
abbrev pub are_of_items : RuleTable → State → List Item → List Moved → Bool
are_of_items t s items moves =
    fits_daemon t moves && (list_all (λ m. is_asked t s items m) moves && list_all (λ item. is_answered t s moves item) items)
