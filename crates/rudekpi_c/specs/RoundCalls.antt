-- The rounds of a session, for C.
use Rattle.std.specs.Prelude.{◌≡◌, ◌⊎◌, ℕ, List, Option, None, Some}
use Rattle.rule_machine.specs.RuleTable.{RuleTable}
use Rattle.rule_machine.specs.Run.{Entry, Moment}
use Rattle.rule_machine.specs.State.{State}
use Rattle.rule_machine.specs.Tables.{table_of}
use Rattle.machine_laws.specs.ChargeWords.{IsUndisturbed}
use Rattle.round_laws.specs.RoundCounts.{RoundCount, count_of_log, first_count}
use Rattle.script_text.specs.Script.{Progress}
use Rattle.rule_engine.specs.Rounds.{HasRounds}
use Rattle.rule_engine.specs.RoundsLeft.{LeavesRounds}
use Rattle.rudekpi_c.specs.Session.{stands, rules_of, GoesOn}
use Rattle.rudekpi_c.specs.declared.session.Session.{Session}

-- the progress whose rounds are counted from here on
abbrev pub counted_from : RuleTable → Progress → Progress
counted_from t at = record at { counting = Some (first_count t at.moment.state) }

-- rounds are counted from here on, and nothing else has changed
pub record BeginsToCount (s : Session) (new : Option Session) : Type 0 where
  pub t : Session
  pub is : new ≡ Some t
  pub goes_on : GoesOn s t
  pub lines : t.lines ≡ s.lines
  pub answer : t.answer ≡ s.answer
  pub stands_is : stands t ≡ counted_from (table_of (rules_of s)) (stands s)

-- 4: there is no session; 3: memory ran out, and nothing has changed; 0: rounds are counted from here on
abbrev pub AnswersCounting : ℕ → Option Session → Option Session → Type 0
AnswersCounting status None new = (status ≡ 4) × (new ≡ None)
AnswersCounting status (Some s) new = ((status ≡ 0) × BeginsToCount s new) ⊎ ((status ≡ 3) × (new ≡ Some s))

-- 10: rounds are not counted; 0: this many are complete
abbrev pub TellsRounds : ℕ → ℕ → RuleTable → Moment → Option RoundCount → Type 0
TellsRounds status rounds t m None = (status ≡ 10) × (rounds ≡ 0)
TellsRounds status rounds t m (Some count) = (status ≡ 0) × (rounds ≡ count.rounds) × HasRounds t m count

-- 4: there is no session
abbrev pub AnswersRounds : ℕ → ℕ → Option Session → Type 0
AnswersRounds status rounds None = (status ≡ 4) × (rounds ≡ 0)
AnswersRounds status rounds (Some s) = TellsRounds status rounds (table_of (rules_of s)) (stands s).moment (stands s).counting

-- The session counts the rounds of this log: its entries since counting began, in this state, or since the last
-- accepted disturbance after that, which led to this state.
pub record CountsLog (s : Session) (start : State) (log : List Entry) : Type 0 where
  pub calm : IsUndisturbed log
  pub counting_is : (stands s).counting ≡ Some (count_of_log (table_of (rules_of s)) start log)

-- 10: rounds are not counted; 0: at most this many can still come
abbrev pub TellsRoundsLeft : ℕ → ℕ → RuleTable → Moment → Option RoundCount → Type 0
TellsRoundsLeft status left t m None = (status ≡ 10) × (left ≡ 0)
TellsRoundsLeft status left t m (Some count) = (status ≡ 0) × LeavesRounds t m count left

-- 4: there is no session
abbrev pub AnswersRoundsLeft : ℕ → ℕ → Option Session → Type 0
AnswersRoundsLeft status left None = (status ≡ 4) × (left ≡ 0)
AnswersRoundsLeft status left (Some s) = TellsRoundsLeft status left (table_of (rules_of s)) (stands s).moment (stands s).counting
