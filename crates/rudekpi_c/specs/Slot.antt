-- What C's calls do to a session, status by status.
use Rattle.std.specs.Prelude.{◌≡◌, ◌≤◌, ◌<◌, ◌⊎◌, ◌+◌, ◌-◌, ◌^◌, ℕ, false, min, zero, suc, List, ◌++◌, length, drop, Option, None, Some, Result, Ok, Err}
use Rattle.rule_machine.specs.declared.rule_set.RuleSet.{RuleSet}
use Rattle.rule_machine.specs.declared.rule_set.RuleSet.TheVariants.{Hh, Manne}
use Rattle.rule_machine.specs.Tables.{table_of}
use Rattle.script_text.specs.Script.{Progress, LineDoes, IsBadLine, MeetsFullLog}
use Rattle.run_session.specs.RunStart.{first_progress}
use Rattle.run_session.specs.Line.{LineBegins}
use Rattle.step_log.specs.declared.fault.RecordFault.TheVariants.{LogFull, Memory}
use Rattle.run_session.specs.declared.line_error.LineError.{LineError}
use Rattle.run_session.specs.declared.line_error.LineError.TheVariants.{BadLine, Record}
use Rattle.rudekpi_c.specs.Session.{stands, stands_at, rules_of, limit_of, with_text_if, GoesOn, HasSameRules, IsNewSession}
use Rattle.rudekpi_c.specs.SilentDrives.{LineSilences}
use Rattle.rudekpi_c.specs.declared.session.Machine.{Machine}
use Rattle.rudekpi_c.specs.declared.session.Session.{Session}

-- 0 means the rules of Hsu and Huang, any other number those of Manne and others
abbrev pub named : ℕ → RuleSet
named zero = Hh
named (suc n) = Manne

-- the number of the rules is 0 or 1; there are at most 65,535 names, and at most as many nodes as names
abbrev pub IsWanted : ℕ → ℕ → ℕ → Type 0
IsWanted rules nodes present = (rules ≤ 1) × (nodes ≤ 65535) × (present ≤ nodes)

-- C keeps this session from now on; its text is dropped if the session keeps no transcript
pub record IsPutBack (s : Session) (new : Option Session) : Type 0 where
  pub machine : Machine
  pub is : new ≡ Some (record s { machine = machine })
  pub same : HasSameRules s.machine machine
  pub stands_is : stands_at machine ≡ with_text_if s.keeps (stands s)

-- a session at the beginning of a run
pub record IsFreshSession (rules nodes present : ℕ) (new : Option Session) : Type 0 where
  pub session : Session
  pub is : new ≡ Some session
  pub starts : IsNewSession (first_progress (named rules) nodes present) session

-- 0: the session began; 3: memory ran out; 5: an argument is out of range; after 3 and 5 there is no session
abbrev pub OpensSession : ℕ → ℕ → ℕ → ℕ → Option Session → Type 0
OpensSession rules nodes present status new =
    (IsWanted rules nodes present × (status ≡ 0) × IsFreshSession rules nodes present new)
    ⊎ (IsWanted rules nodes present × (status ≡ 3) × (new ≡ None))
    ⊎ ((IsWanted rules nodes present → ⊥) × (status ≡ 5) × (new ≡ None))

-- a line that was fed has the session's next line number, whatever the line is
pub record IsNext (number : ℕ) (s t : Session) : Type 0 where
  pub number_is : number ≡ t.lines
  pub lines_is : t.lines ≡ min (s.lines + 1) (2 ^ 64 - 1)
  pub goes_on : GoesOn s t
  pub answer_is : t.answer ≡ s.answer

-- the status of a line
abbrev pub line_status : Result Unit LineError → ℕ
line_status (Ok done) = 0
line_status (Err (BadLine n)) = 1
line_status (Err (Record LogFull)) = 2
line_status (Err (Record Memory)) = 3

-- 0: the line was carried out; 1: it is neither empty nor a command, and nothing was done; 2: it met a full
-- log; 3: memory ran out, and at most some first turns were taken
abbrev pub AnswersLine : List ℕ → ℕ → Session → Progress → Type 0
AnswersLine line status s after =
    ((status ≡ 0) × LineDoes (table_of (rules_of s)) (limit_of s) line (stands s) after)
    ⊎ ((status ≡ 1) × IsBadLine line × (after ≡ stands s))
    ⊎ ((status ≡ 2) × MeetsFullLog (table_of (rules_of s)) (limit_of s) line (stands s) after)
    ⊎ ((status ≡ 3) × LineBegins (table_of (rules_of s)) (limit_of s) line (stands s) after)

pub record TakesLine (line : List ℕ) (status number : ℕ) (old new : Option Session) : Type 0 where
  pub s : Session
  pub t : Session
  pub was : old ≡ Some s
  pub is : new ≡ Some t
  pub next : IsNext number s t
  pub after : Progress
  pub does : AnswersLine line status s after
  pub silent : status ≡ 0 → LineSilences (table_of (rules_of s)) line (stands s).moment.state after.moment.state
  pub stands_is : stands t ≡ with_text_if t.keeps after

-- there was no session
abbrev pub IsNobody : ℕ → Option Session → Option Session → Type 0
IsNobody status old new = (status ≡ 4) × (old ≡ None) × (new ≡ None)

-- a line was given to the session, and the line's number returned; or there was no session and no new number
abbrev pub AnswersFeed : List ℕ → ℕ → ℕ → ℕ → Option Session → Option Session → Type 0
AnswersFeed line was status number old new = TakesLine line status number old new ⊎ (IsNobody status old new × (number ≡ was))

-- how many bytes of text the session has
abbrev pub text_length : Option Session → ℕ
text_length None = 0
text_length (Some s) = length (stands s).text

-- if the text fits, it is written to the start, the bytes after it are unchanged, and the session drops the
-- text; else nothing has changed
pub record IsHanded (was out : List ℕ) (n : ℕ) (s : Session) (new : Option Session) : Type 0 where
  pub t : Session
  pub is : new ≡ Some t
  pub goes_on : GoesOn s t
  pub lines_is : t.lines ≡ s.lines
  pub answer_is : t.answer ≡ s.answer
  pub all : n ≤ length was → (out ≡ (stands s).text ++ drop n was) × (stands t ≡ with_text_if false (stands s))
  pub none : length was < n → (out ≡ was) × (t ≡ s)

abbrev pub Handed : List ℕ → List ℕ → ℕ → Option Session → Option Session → Type 0
Handed was out n None new = (n ≡ 0) × (out ≡ was) × (new ≡ None)
Handed was out n (Some s) new = (n ≡ length (stands s).text) × IsHanded was out n s new
