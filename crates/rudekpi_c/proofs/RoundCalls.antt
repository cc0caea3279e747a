-- The answers of the calls that count rounds.
use Rattle.std.proofs.Common.{◌≡◌, ◌∙◌, ℕ, List, Option, None, Some, IfSome, inl, inr, refl, sym, ap, subst}
use Rattle.std.proofs.lemmas.Option.{none-some, same_Some}
use Rattle.rule_machine.specs.RuleTable.{RuleTable}
use Rattle.rule_machine.specs.Run.{Entry, Moment}
use Rattle.rule_machine.specs.State.{State}
use Rattle.rule_machine.specs.Tables.{table_of}
use Rattle.round_laws.proofs.RoundCounts.{counted_whole}
use Rattle.round_laws.specs.RoundCounts.{RoundCount, rounds_of}
use Rattle.round_laws.specs.Rounds.{rounds_in}
use Rattle.rule_engine.specs.Rounds.{HasRounds}
use Rattle.rule_engine.specs.RoundsLeft.{LeavesIfCounted}
use Rattle.rudekpi_c.specs.RoundCalls.{AnswersCounting, AnswersRounds, AnswersRoundsLeft, CountsLog, TellsRounds, TellsRoundsLeft, counted_from}
use Rattle.rudekpi_c.specs.Session.{stands, stands_at, rules_of, HasSameRules}
use Rattle.rudekpi_c.specs.declared.session.Machine.{Machine}
use Rattle.rudekpi_c.specs.declared.session.Session.{Session}

-- the rounds of a session are counted from then on
pub began : {old new : Option Session} (s : Session) (counting : Machine) → old ≡ Some s → new ≡ Some (record s { machine = counting }) → HasSameRules s.machine counting → stands_at counting ≡ counted_from (table_of (rules_of s)) (stands s) → AnswersCounting 0 old new
began {new = new} s counting was is same counts =
    subst (λ (o : Option Session). AnswersCounting 0 o new) (sym was)
    (inl (refl, record { t = record s { machine = counting }; is = is; goes_on = record { rules = same.0; limit = same.1; keeps = refl }; lines = refl; answer = refl; stands_is = counts }))

-- memory ran out
pub not_begun : {old new : Option Session} (s : Session) (left : Machine) → old ≡ Some s → new ≡ Some (record s { machine = left }) → left ≡ s.machine → AnswersCounting 3 old new
not_begun {new = new} s left was is same =
    subst (λ (o : Option Session). AnswersCounting 3 o new) (sym was) (inr (refl, is ∙ ap (λ (m : Machine). Some (record s { machine = m })) same))

told_if : (t : RuleTable) (m : Moment) (counting : Option RoundCount) (told : Option ℕ) (rounds : ℕ) → told ≡ rounds_of counting → told ≡ Some rounds → IfSome counting (λ count. HasRounds t m count) → TellsRounds 0 rounds t m counting
told_if t m None told rounds is some has = absurd (none-some rounds (sym is ∙ some))
told_if t m (Some count) told rounds is some has = (refl, sym (same_Some count.rounds rounds (sym is ∙ some)), has)

untold_if : (t : RuleTable) (m : Moment) (counting : Option RoundCount) (told : Option ℕ) → told ≡ rounds_of counting → told ≡ None → TellsRounds 10 0 t m counting
untold_if t m None told is none = (refl, refl)
untold_if t m (Some count) told is none = absurd (none-some count.rounds (sym none ∙ is))

-- these rounds are told, or none
pub rounds_told : (old : Option Session) (s : Session) (told : Option ℕ) (rounds : ℕ) → old ≡ Some s → told ≡ rounds_of (stands s).counting → told ≡ Some rounds → IfSome (stands s).counting (λ count. HasRounds (table_of (rules_of s)) (stands s).moment count) → AnswersRounds 0 rounds old
rounds_told old s told rounds was is some has =
    subst (λ (o : Option Session). AnswersRounds 0 rounds o) (sym was) (told_if (table_of (rules_of s)) (stands s).moment (stands s).counting told rounds is some has)

pub rounds_untold : (old : Option Session) (s : Session) (told : Option ℕ) → old ≡ Some s → told ≡ rounds_of (stands s).counting → told ≡ None → AnswersRounds 10 0 old
rounds_untold old s told was is none =
    subst (λ (o : Option Session). AnswersRounds 10 0 o) (sym was) (untold_if (table_of (rules_of s)) (stands s).moment (stands s).counting told is none)

-- what is told of a session that counts a log
pub log_told : (old : Option Session) (s : Session) (told : Option ℕ) → old ≡ Some s → told ≡ rounds_of (stands s).counting → (session : Session) (start : State) (log : List Entry) → old ≡ Some session → CountsLog session start log → told ≡ Some (rounds_in (table_of (rules_of session)) start log)
log_told old s told was is session start log given counts =
    is ∙ ap (λ (s : Session). rounds_of (stands s).counting) (same_Some s session (sym was ∙ given)) ∙ ap rounds_of counts.counting_is
    ∙ ap (λ (n : ℕ). Some n) (counted_whole (table_of (rules_of session)) start log counts.calm)

left_if : (t : RuleTable) (m : Moment) (counting : Option RoundCount) (told : Option ℕ) (left : ℕ) → LeavesIfCounted t m counting told → told ≡ Some left → TellsRoundsLeft 0 left t m counting
left_if t m None told left is some = absurd (none-some left (sym is ∙ some))
left_if t m (Some count) told left is some = (refl, subst (λ (o : Option ℕ). LeavesIfCounted t m (Some count) o) some is)

none_if : (t : RuleTable) (m : Moment) (counting : Option RoundCount) (told : Option ℕ) → LeavesIfCounted t m counting told → told ≡ None → TellsRoundsLeft 10 0 t m counting
none_if t m None told is none = (refl, refl)
none_if t m (Some count) told is none = absurd (subst (λ (o : Option ℕ). LeavesIfCounted t m (Some count) o) none is)

pub left_told : (old : Option Session) (s : Session) (told : Option ℕ) (left : ℕ) → old ≡ Some s → LeavesIfCounted (table_of (rules_of s)) (stands s).moment (stands s).counting told → told ≡ Some left → AnswersRoundsLeft 0 left old
left_told old s told left was is some =
    subst (λ (o : Option Session). AnswersRoundsLeft 0 left o) (sym was) (left_if (table_of (rules_of s)) (stands s).moment (stands s).counting told left is some)

pub left_untold : (old : Option Session) (s : Session) (told : Option ℕ) → old ≡ Some s → LeavesIfCounted (table_of (rules_of s)) (stands s).moment (stands s).counting told → told ≡ None → AnswersRoundsLeft 10 0 old
left_untold old s told was is none =
    subst (λ (o : Option Session). AnswersRoundsLeft 10 0 o) (sym was) (none_if (table_of (rules_of s)) (stands s).moment (stands s).counting told is none)
