-- No line's text has a line feed.
use Rattle.auditor.proofs.Prelude.{ℕ, ◌≤◌, Bool, true, false, cond, drop, List, [], ◌∷◌, ◌++◌, refl, arith, codes, nat_lt, AllByRecursion, Act, Update, Moved, Event, Refusal, UnknownNode, Reply, Accepted, Refused, Moves, Shown, EnabledAre, Pairs, RuleSet, rules_word, refusal_number, refusal_text, number_text, marked_text, joined_or, event_text, act_word, enabled_text, move_text, mutual_text, refusal_words, field_text, fields_of, counts_text, reply_text, IsCounts, sizes_text, header_text, entry_text, IsMoved, IsEnabled, IsOrderedPair, IsReply, SpellsEntry, IsFree, IsField, field_free, rules_free, free_by, feed, apart_lack, both_lack, event_lacks, joined_lack, marked_lacks, name_lacks, number_lacks, target_lacks, refusal_small}
use Rattle.rule_machine.specs.declared.counts.Counts.{Counts as Counted}
use Rattle.rule_machine.specs.declared.reply.Reply.TheVariants.{Counts}

joined_or_free : {X : Type 0} (word : List ℕ) (fits : X → Type 0) (text : X → List ℕ) → IsFree 10 word → ((x : X) → fits x → IsFree 10 (text x)) → (xs : List X) → AllByRecursion fits xs → IsFree 10 (joined_or word text xs)
joined_or_free word fits text w free [] f = w
joined_or_free word fits text w free (x ∷ xs) f = joined_lack feed fits text free (x ∷ xs) f

-- ---- replies

act_free : (act : Act) → IsFree 10 (act_word act)
act_free Update = free_by 10 (act_word Update) refl
act_free act = free_by 10 (act_word act) refl

enabled_free : (e : ℕ × Act) → IsEnabled e → IsFree 10 (enabled_text e)
enabled_free e f =
    both_lack feed (number_text e.0 ++ codes ":") (act_word e.1) (both_lack feed (number_text e.0) (codes ":") (name_lacks feed e.0 f) (free_by 10 (codes ":") refl)) (act_free e.1)

move_free : (m : Moved) → IsMoved m → IsFree 10 (move_text m)
move_free m f =
    both_lack feed (number_text m.node ++ codes ":" ++ act_word m.act) (marked_text (codes ">") m.target) (enabled_free (m.node, m.act) f.0) (marked_lacks feed m.target f.1)

mutual_free : (p : ℕ × ℕ) → IsOrderedPair p → IsFree 10 (mutual_text p)
mutual_free p f =
    both_lack feed (number_text p.0 ++ codes "-") (number_text p.1) (both_lack feed (number_text p.0) (codes "-") (name_lacks feed p.0 f.0) (free_by 10 (codes "-") refl)) (name_lacks feed p.1 f.1)

refusal_text_free : (r : Refusal) → IsFree 10 (refusal_text r)
refusal_text_free UnknownNode = free_by 10 (refusal_text UnknownNode) refl
refusal_text_free r = free_by 10 (refusal_text r) refl

refusal_free : (r : Refusal) → IsFree 10 (refusal_words r)
refusal_free r = apart_lack feed (number_text (refusal_number r)) (refusal_text r) (number_lacks feed (refusal_number r) (let few = refusal_small r in omega (arith, few))) (refusal_text_free r)

counts_free : (c : Counted) → IsCounts c → IsFree 10 (counts_text c)
counts_free c f =
    let last : AllByRecursion IsField (drop 3 (fields_of c)) = ((free_by 10 (codes "enabled=") refl, f.3), ((free_by 10 (codes "charge=") refl, f.4), ((free_by 10 (codes "spent=") refl, f.5), tt))) in
    joined_lack feed IsField field_text field_free (fields_of c)
    ((free_by 10 (codes "nodes=") refl, f.0), ((free_by 10 (codes "edges=") refl, f.1), ((free_by 10 (codes "pairs=") refl, f.2), last)))

reply_free : (reply : Reply) → IsReply reply → IsFree 10 (reply_text reply)
reply_free Accepted f = free_by 10 (codes "ok") refl
reply_free (Refused refusal) f = both_lack feed (codes "refused ") (refusal_words refusal) (free_by 10 (codes "refused ") refl) (refusal_free refusal)
reply_free (Moves moves) f = joined_lack feed IsMoved move_text move_free moves f
reply_free (Shown target) f = target_lacks feed target f
reply_free (EnabledAre nodes) f = joined_or_free (codes "none") IsEnabled enabled_text (free_by 10 (codes "none") refl) enabled_free nodes f
reply_free (Pairs pairs) f = joined_or_free (codes "none") IsOrderedPair mutual_text (free_by 10 (codes "none") refl) mutual_free pairs f
reply_free (Counts counts) f = counts_free counts f

-- ---- lines

pub entry_free : (line : List ℕ) (number : ℕ) (entry : Event × Reply) → SpellsEntry line number entry → IsFree 10 (entry_text number entry.0 entry.1)
entry_free line number entry spells =
    let n = number_text number in
    let asked = event_text entry.0 in
    both_lack feed (n ++ codes " " ++ asked ++ codes " = ") (reply_text entry.1)
    (both_lack feed (n ++ codes " " ++ asked) (codes " = ")
    (apart_lack feed n asked (number_lacks feed number (omega (arith, spells.numbered.1))) (event_lacks feed entry.0 spells.event))
    (free_by 10 (codes " = ") refl))
    (reply_free entry.1 spells.reply)

sizes_free : (size count : ℕ) → size ≤ 65535 → count ≤ size → IsFree 10 (sizes_text size count)
sizes_free size count few within = by (nat_lt count size)
  where
    by : (b : Bool) → IsFree 10 (cond b (number_text size ++ codes " " ++ number_text count) (number_text size))
    by true = apart_lack feed (number_text size) (number_text count) (number_lacks feed size (omega arith)) (number_lacks feed count (omega arith))
    by false = number_lacks feed size (omega arith)

pub header_free : (rules : RuleSet) (size count : ℕ) → size ≤ 65535 → count ≤ size → IsFree 10 (header_text rules size count)
header_free rules size count few within =
    both_lack feed (codes "matching " ++ rules_word rules ++ codes " ") (sizes_text size count)
    (both_lack feed (codes "matching " ++ rules_word rules) (codes " ") (both_lack feed (codes "matching ") (rules_word rules) (free_by 10 (codes "matching ") refl) (rules_free rules)) (free_by 10 (codes " ") refl))
    (sizes_free size count few within)
