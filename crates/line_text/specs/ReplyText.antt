-- How a transcript spells a reply.
use Rattle.std.specs.Prelude.{ℕ, ◌<◌, List, [], ◌∷◌, ◌++◌, IfSome, codes}
use Rattle.std.specs.List.{AllByRecursion}
use Rattle.rule_machine.specs.declared.act.Act.{Act}
use Rattle.rule_machine.specs.declared.act.Act.TheVariants.{Update, Marry, Seduce, Abandon}
use Rattle.rule_machine.specs.declared.counts.Counts.{Counts}
use Rattle.rule_machine.specs.declared.act.Moved.{Moved}
use Rattle.rule_machine.specs.declared.refusal.Refusal.{Refusal}
use Rattle.rule_machine.specs.declared.reply.Reply.{Reply}
use Rattle.rule_machine.specs.declared.reply.Reply.TheVariants.{Accepted, Refused, Moves, Shown, EnabledAre, Pairs}
use Rattle.rule_machine.specs.declared.reply.Reply.TheVariants as reply_is
use Rattle.rule_machine.specs.Refuse.{refusal_number, refusal_text}
use Rattle.line_text.specs.Words.{number_text, IsName, marked_text, joined_texts, joined_or}
use Rattle.line_text.specs.EventText.{target_text}

abbrev pub act_word : Act → List ℕ
act_word Update = codes "update"
act_word Marry = codes "marry"
act_word Seduce = codes "seduce"
act_word Abandon = codes "abandon"

-- an enabled node and its rule
abbrev pub enabled_text : ℕ × Act → List ℕ
enabled_text e = number_text e.0 ++ codes ":" ++ act_word e.1

-- a node, its rule, and its new target after a `>`
abbrev pub move_text : Moved → List ℕ
move_text m = number_text m.node ++ codes ":" ++ act_word m.act ++ marked_text (codes ">") m.target

-- a mutual pair, the lower end first
abbrev pub mutual_text : ℕ × ℕ → List ℕ
mutual_text p = number_text p.0 ++ codes "-" ++ number_text p.1

-- the number and the text of a refusal
abbrev pub refusal_words : Refusal → List ℕ
refusal_words refusal = number_text (refusal_number refusal) ++ codes " " ++ refusal_text refusal

-- a field: its name, then its number
abbrev pub field_text : List ℕ × ℕ → List ℕ
field_text field = field.0 ++ number_text field.1

-- the six numbers, each with its name
abbrev pub fields_of : Counts → List (List ℕ × ℕ)
fields_of c =
    (codes "nodes=", c.nodes) ∷ (codes "edges=", c.edges) ∷ (codes "pairs=", c.pairs) ∷ (codes "enabled=", c.enabled)
    ∷ (codes "charge=", c.charge) ∷ (codes "spent=", c.spent) ∷ []

abbrev pub counts_text : Counts → List ℕ
counts_text c = joined_texts field_text (fields_of c)

abbrev pub reply_text : Reply → List ℕ
reply_text Accepted = codes "ok"
reply_text (Refused refusal) = codes "refused " ++ refusal_words refusal
reply_text (Moves moves) = joined_texts move_text moves
reply_text (Shown target) = target_text target
reply_text (EnabledAre nodes) = joined_or (codes "none") enabled_text nodes
reply_text (Pairs pairs) = joined_or (codes "none") mutual_text pairs
reply_text (reply_is.Counts counts) = counts_text counts

abbrev pub IsMoved : Moved → Type 0
IsMoved m = IsName m.node × IfSome m.target IsName

abbrev pub IsEnabled : ℕ × Act → Type 0
IsEnabled e = IsName e.0

-- two names, the lower first
abbrev pub IsOrderedPair : ℕ × ℕ → Type 0
IsOrderedPair p = IsName p.0 × IsName p.1 × (p.0 < p.1)

-- what each of the six numbers satisfies
abbrev pub IsCountValue : ℕ → Type 0
IsCountValue n = n < 4294967296

abbrev pub IsCounts : Counts → Type 0
IsCounts c = IsCountValue c.nodes × IsCountValue c.edges × IsCountValue c.pairs × IsCountValue c.enabled × IsCountValue c.charge × IsCountValue c.spent

-- what each value of the program's type of replies satisfies
abbrev pub IsReply : Reply → Type 0
IsReply Accepted = Unit {0}
IsReply (Refused refusal) = Unit {0}
IsReply (Moves moves) = AllByRecursion IsMoved moves
IsReply (Shown target) = IfSome target IsName
IsReply (EnabledAre nodes) = AllByRecursion IsEnabled nodes
IsReply (Pairs pairs) = AllByRecursion IsOrderedPair pairs
IsReply (reply_is.Counts counts) = IsCounts counts
