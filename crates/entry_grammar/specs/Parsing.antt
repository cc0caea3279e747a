-- What the readers of an entry's parts say of their bytes.
use Rattle.std.specs.Prelude.{◌≡◌, ◌≢◌, ℕ, Bool, true, false, List, ◌∷◌, ◌++◌, Option, IfSome, IsTrue, codes, slice_index_or}
use Rattle.std.specs.List.{AllByRecursion}
use Rattle.rule_machine.specs.declared.act.Act.{Act}
use Rattle.rule_machine.specs.declared.event.Event.{Event}
use Rattle.rule_machine.specs.declared.event.Event.TheVariants.{Link, Unlink, Point, Flag, Step, Show, Enabled, Matching, Status, Join, Leave}
use Rattle.rule_machine.specs.declared.reply.Reply.{Reply}
use Rattle.rule_machine.specs.declared.reply.Reply.TheVariants.{Accepted, Refused, Moves, Shown, EnabledAre, Pairs, Counts}
use Rattle.rule_machine.specs.declared.rule_set.RuleSet.{RuleSet}
use Rattle.rule_machine.specs.Tables.{rules_word}
use Rattle.line_text.specs.Words.{IsName, marked_text, number_text}
use Rattle.line_text.specs.EventText.{bool_text, target_text}
use Rattle.line_text.specs.ReplyText.{IsCountValue, act_word, field_text, reply_text}
use Rattle.line_text.specs.Parsing.{ParsesAs, NoDigit}
use Rattle.entry_grammar.specs.Spelling.{IsReply, IsOrderedPair}

-- no byte of the text is the mark
abbrev pub IsFree : ℕ → List ℕ → Type 0
IsFree mark bytes = AllByRecursion (λ b. b ≢ mark) bytes

-- the bytes are a front without the mark, the mark, and the rest
pub record CutAt (mark : ℕ) (bytes front back : List ℕ) : Type 0 where
  pub free : IsFree mark front
  pub is : bytes ≡ front ++ mark ∷ back

-- the text is empty or begins with a space
abbrev pub EndsWord : List ℕ → Type 0
EndsWord bytes = slice_index_or bytes 0 32 ≡ 32

-- the bytes are the text of this value; the rest is empty or begins with a space
pub record TokenThen {X : Type 0} (Fits : X → Type 0) (text : X → List ℕ) (bytes : List ℕ) (value : X) (rest : List ℕ) : Type 0 where
  pub fits : Fits value
  pub ends : EndsWord rest
  pub is : bytes ≡ text value ++ rest

-- the bytes are two names with a mark between them, the lower one first, and after the last digit the rest
pub record PairThen (mark : ℕ) (bytes : List ℕ) (pair : ℕ × ℕ) (rest : List ℕ) : Type 0 where
  pub fits : IsOrderedPair pair
  pub ends : NoDigit rest
  pub is : bytes ≡ number_text pair.0 ++ mark ∷ (number_text pair.1 ++ rest)

-- the first byte of a rule's word
abbrev pub first_byte : Act → ℕ
first_byte act = slice_index_or (act_word act) 0 0

-- a rule, and a target after a `>`
abbrev pub deed_text : Act → Option ℕ → List ℕ
deed_text act target = act_word act ++ marked_text (codes ">") target

-- the bytes are a rule, perhaps with a target after a `>`; the rest is empty or begins with a space
pub record DeedThen (bytes : List ℕ) (act : Act) (target : Option ℕ) (rest : List ℕ) : Type 0 where
  pub fits : IfSome target IsName
  pub ends : EndsWord rest
  pub is : bytes ≡ deed_text act target ++ rest

-- The line is an entry's number, event and reply, with the separators between them. The number has no
-- space, and the event has no `=`.
pub record PartsOf (line number event reply : List ℕ) : Type 0 where
  pub numbered : IsFree 32 number
  pub asked : IsFree 61 event
  pub is : line ≡ number ++ codes " " ++ event ++ codes " = " ++ reply

-- the bytes are a field, a space, and the rest
pub record FieldThen (bytes name : List ℕ) (number : ℕ) (rest : List ℕ) : Type 0 where
  pub fits : IsCountValue number
  pub is : bytes ≡ field_text (name, number) ++ 32 ∷ rest

-- replies to a change of the network
abbrev pub is_done : Reply → Bool
is_done Accepted = true
is_done (Refused refusal) = true
is_done reply = false

-- replies to a step
abbrev pub answers_step : Reply → Bool
answers_step (Moves moves) = true
answers_step (Refused refusal) = true
answers_step reply = false

-- replies to `show`
abbrev pub is_shown : Reply → Bool
is_shown (Shown target) = true
is_shown (Refused refusal) = true
is_shown reply = false

-- replies to `enabled`
abbrev pub are_enabled : Reply → Bool
are_enabled (EnabledAre nodes) = true
are_enabled reply = false

-- replies to `matching`
abbrev pub are_pairs : Reply → Bool
are_pairs (Pairs pairs) = true
are_pairs reply = false

-- replies to `status`
abbrev pub are_counts : Reply → Bool
are_counts (Counts counts) = true
are_counts reply = false

-- whether a reply of this kind may answer the event
abbrev pub reply_suits : Event → Reply → Bool
reply_suits (Link a b) reply = is_done reply
reply_suits (Unlink a b) reply = is_done reply
reply_suits (Point v target) reply = is_done reply
reply_suits (Flag v value) reply = is_done reply
reply_suits (Join v) reply = is_done reply
reply_suits (Leave v) reply = is_done reply
reply_suits (Step items) reply = answers_step reply
reply_suits (Show v) reply = is_shown reply
reply_suits Enabled reply = are_enabled reply
reply_suits Matching reply = are_pairs reply
reply_suits Status reply = are_counts reply

-- the bytes spell the reply found, which is of the kind tested; if no reply was found, they spell no
-- such reply
abbrev pub ReadsReply : (Reply → Bool) → List ℕ → Option Reply → Type 0
ReadsReply kind bytes found = ParsesAs (λ reply. IsTrue (kind reply) × IsReply reply) reply_text bytes found

-- the words of the first line of a base
abbrev pub rules_text : RuleSet → ℕ → List ℕ
rules_text rules size = rules_word rules ++ 32 ∷ number_text size

-- a pointer, and a flag
abbrev pub registers_text : Option ℕ → Bool → List ℕ
registers_text target flag = target_text target ++ 32 ∷ bool_text flag

-- the bytes are the node found, with its registers; if no node was found, the bytes are no node
abbrev pub ReadsPlace : List ℕ → Option (ℕ × Option ℕ × Bool) → Type 0
ReadsPlace bytes found = ParsesAs (λ p. IsName p.0 × IfSome p.1 IsName) (λ p. number_text p.0 ++ 32 ∷ registers_text p.1 p.2) bytes found

-- the bytes begin with the text of this value and an LF, then comes the rest
pub record Starts {X : Type 0} (Fits : X → Type 0) (text : X → List ℕ) (bytes : List ℕ) (value : X) (rest : List ℕ) : Type 0 where
  pub fits : Fits value
  pub is : bytes ≡ text value ++ 10 ∷ rest
