-- Hands and shares in contracts.
use Rattle.std.specs.Prelude.{◌≡◌, ℕ, List, [], ◌∷◌, ◌++◌, map, Some, slice_get, All}
use Rattle.steal_pool.specs.Ends.{EndView, end_hold, end_taken}
use Rattle.rule_machine.specs.declared.choice.Item.{Item}
use Rattle.rule_machine.specs.declared.verdict.Verdict.{Verdict}
use Rattle.rule_machine.specs.State.{State}
use Rattle.rule_machine.specs.RuleTable.{RuleTable}
use Rattle.rule_engine.specs.ChoiceMoves.{verdicts_of}
use Rattle.steal_pool.specs.declared.hand.Hand.{Hand}
use Rattle.steal_pool.specs.declared.hand.Share.{Share}

-- the deque of a hand, how many places were put on it, and its part of the whole
abbrev pub hand_hold : Hand → EndView
hand_hold hand = end_hold hand.end

-- a worker's number
abbrev pub hand_number : Hand → ℕ
hand_number hand = hand.worker

abbrev pub judged_hold : Share → EndView
judged_hold share = end_hold share.end

-- the places that the worker took, in the order taken
abbrev pub judged_places : Share → List ℕ
judged_places share = end_taken share.end

-- the places that the workers of these shares took, one worker after another
abbrev pub all_taken : List Share → List ℕ
all_taken [] = []
all_taken (share ∷ shares) = judged_places share ++ all_taken shares

abbrev pub judged_verdicts : Share → List Verdict
judged_verdicts share = share.verdicts.items

-- the verdicts are those of `all` at these places
abbrev pub AreOf : List Verdict → List ℕ → List Verdict → Type 0
AreOf all places verdicts = map Some verdicts ≡ map (slice_get all) places

-- if `old` are the verdicts of any taken places, `new` are `old` with the verdicts of these places added
abbrev pub GoOnWith : List Verdict → List ℕ → List Verdict → List Verdict → Type 0
GoOnWith all places old new = (taken : List ℕ) → AreOf all taken old → AreOf all (taken ++ places) new

-- the share has the verdict of each place that was taken, and no other verdict
abbrev pub AreJudged : RuleTable → State → List Item → Share → Type 0
AreJudged t s items share = AreOf (verdicts_of t s items) (judged_places share) (judged_verdicts share)

-- these are the shares of the hands, in their order, each with its verdicts
abbrev pub AreShares : RuleTable → State → List Item → List Hand → List Share → Type 0
AreShares t s items hands shares = (map judged_hold shares ≡ map hand_hold hands) × All (AreJudged t s items) shares
