-- How long the text of an entry is: that of its event, and that of a reply of its kind.
use Rattle.entry_grammar.proofs.Prelude.{◌≡◌, ℕ, ◌*◌, ◌≤◌, nat_le, ◌&&◌, List, [], ◌∷◌, ◌++◌, Option, None, Some, length, sym, ap, length-append, leb-true, arith, AllByRecursion, list_all, and_parts, true≢false, length-decimal-le, Act, Update, Marry, Seduce, Abandon, Counts, Moved, Event, Step, Enabled, Matching, Refusal, UnknownNode, Reply, Accepted, Refused, Moves, Shown, EnabledAre, Pairs, refusal_number, refusal_text, number_text, IsName, marked_text, spaced, joined_texts, joined_or, act_word, enabled_text, move_text, mutual_text, refusal_words, field_text, counts_text, reply_text, IsMoved, IsEnabled, IsCountValue, IsCounts, entry_text, name_short, target_short, event_short, is_move, are_moves, fits, SpellsEntry}
use Rattle.std.proofs.Common.{IfSome, IsTrue, codes}
use Rattle.rule_machine.specs.declared.reply.Reply.TheVariants as reply_is
use Rattle.line_text.specs.ReplyText.{IsOrderedPair, IsReply}

-- ---- one item of a reply

act_short : (act : Act) → length (act_word act) ≤ 7
act_short Update = omega arith
act_short act = omega arith

-- a rule with its target, if it takes one
deed_short : (node : ℕ) (act : Act) (target : Option ℕ) → IfSome target IsName → IsTrue (is_move (record { node = node; act = act; target = target })) → length (act_word act ++ marked_text (codes ">") target) ≤ 12
deed_short node act None h is = omega (arith, act_short act, length-append (act_word act) [])
deed_short node Marry (Some w) h is = omega (arith, name_short w h, length-append (codes "marry") (codes ">" ++ number_text w), length-append (codes ">") (number_text w))
deed_short node Seduce (Some w) h is = omega (arith, name_short w h, length-append (codes "seduce") (codes ">" ++ number_text w), length-append (codes ">") (number_text w))
deed_short node Update (Some w) h is = absurd (true≢false (sym is))
deed_short node Abandon (Some w) h is = absurd (true≢false (sym is))

-- a move as a reply may have it
abbrev IsTold : Moved → Type 0
IsTold m = IsMoved m × IsTrue (is_move m)

move_short : (m : Moved) → IsTold m → length (move_text m) ≤ 18
move_short m h =
    let deed = deed_short m.node m.act m.target h.0.1 h.1 in
    omega (arith, name_short m.node h.0.0, deed, length-append {A = ℕ})

enabled_short : (e : ℕ × Act) → IsEnabled e → length (enabled_text e) ≤ 18
enabled_short e h =
    omega (arith, name_short e.0 h, act_short e.1, length-append {A = ℕ})

mutual_short : (p : ℕ × ℕ) → IsOrderedPair p → length (mutual_text p) ≤ 18
mutual_short p h =
    omega (arith, name_short p.0 h.0, name_short p.1 h.1, length-append {A = ℕ})

-- ---- lists

spaced_short : {X : Type 0} (text : X → List ℕ) (P : X → Type 0) → ((x : X) → P x → length (text x) ≤ 18) → (xs : List X) → AllByRecursion P xs → length (spaced text xs) ≤ 19 * length xs
spaced_short text P short [] all = omega arith
spaced_short text P short (x ∷ xs) all =
    omega (arith, short x all.0, spaced_short text P short xs all.1, length-append (codes " ") (text x), length-append (codes " " ++ text x) (spaced text xs))

joined_short : {X : Type 0} (text : X → List ℕ) (P : X → Type 0) → ((x : X) → P x → length (text x) ≤ 18) → (xs : List X) → AllByRecursion P xs → length xs ≤ 65535 → length (joined_texts text xs) ≤ 1245164
joined_short text P short [] all few = omega arith
joined_short text P short (x ∷ xs) all few =
    omega (arith, few, short x all.0, spaced_short text P short xs all.1, length-append (text x) (spaced text xs))

listed_short : {X : Type 0} (text : X → List ℕ) (P : X → Type 0) → ((x : X) → P x → length (text x) ≤ 18) → (xs : List X) → AllByRecursion P xs → length xs ≤ 65535 → length (joined_or (codes "none") text xs) ≤ 1245164
listed_short text P short [] all few = omega arith
listed_short text P short (x ∷ xs) all few = joined_short text P short (x ∷ xs) all few

-- ---- moves that a reply may have

all_told : (moves : List Moved) → AllByRecursion IsMoved moves → IsTrue (list_all is_move moves) → AllByRecursion IsTold moves
all_told [] named are = tt
all_told (m ∷ moves) named are =
    let parts = and_parts (is_move m) (list_all is_move moves) are in ((named.0, parts.0), all_told moves named.1 parts.1)

moves_short : (moves : List Moved) → AllByRecursion IsMoved moves → IsTrue (are_moves moves) → length (joined_texts move_text moves) ≤ 1245164
moves_short moves named are =
    let parts = and_parts (nat_le 1 (length moves) && nat_le (length moves) 65535) (list_all is_move moves) are in
    let few = and_parts (nat_le 1 (length moves)) (nat_le (length moves) 65535) parts.0 in
    joined_short move_text IsTold move_short moves (all_told moves named parts.1) (leb-true (length moves) 65535 few.1)

-- ---- the other replies

words_small : (refusal : Refusal) → (refusal_number refusal ≤ 13) × (length (refusal_text refusal) ≤ 15)
words_small UnknownNode = (omega arith, omega arith)
words_small refusal = (omega arith, omega arith)

refusal_short : (refusal : Refusal) → length (codes "refused " ++ refusal_words refusal) ≤ 26
refusal_short refusal =
    let small = words_small refusal in
    let number : length (number_text (refusal_number refusal)) ≤ 2 = length-decimal-le 2 (refusal_number refusal) (omega arith) (omega (arith, small.0)) (omega (arith, small.0)) in
    omega (arith, number, small.1, length-append {A = ℕ})

-- a field, and the space before it
field_short : (name : List ℕ) (n : ℕ) → length name ≤ 8 → IsCountValue n → length (field_text (name, n)) ≤ 18
field_short name n short h =
    let digits : length (number_text n) ≤ 10 = length-decimal-le 10 n (omega arith) (omega (arith, h)) (omega (arith, h)) in
    omega (arith, short, digits, length-append name (number_text n))

abbrev IsField : List ℕ × ℕ → Type 0
IsField f = (length f.0 ≤ 8) × IsCountValue f.1

counts_short : (c : Counts) → IsCounts c → length (counts_text c) ≤ 1245164
counts_short c h =
    joined_short field_text IsField (λ f is. field_short f.0 f.1 is.0 is.1)
    ((codes "nodes=", c.nodes) ∷ (codes "edges=", c.edges) ∷ (codes "pairs=", c.pairs) ∷ (codes "enabled=", c.enabled) ∷ (codes "charge=", c.charge) ∷ (codes "spent=", c.spent) ∷ [])
    ((omega arith, h.0), ((omega arith, h.1), ((omega arith, h.2), ((omega arith, h.3), ((omega arith, h.4), ((omega arith, h.5), tt))))))
    (omega arith)

reply_short : (e : Event) (reply : Reply) → IsReply reply → IsTrue (fits e reply) → length (reply_text reply) ≤ 1245164
reply_short e Accepted is h = omega arith
reply_short e (Refused refusal) is h = omega (arith, refusal_short refusal)
reply_short (Step items) (Moves moves) is h = moves_short moves is h
reply_short e (Shown target) is h = omega (arith, target_short target is)
reply_short Enabled (EnabledAre nodes) is h = listed_short enabled_text IsEnabled enabled_short nodes is (leb-true (length nodes) 65535 h)
reply_short Matching (Pairs pairs) is h = listed_short mutual_text IsOrderedPair mutual_short pairs is (leb-true (length pairs) 65535 h)
reply_short e (reply_is.Counts counts) is h = counts_short counts is
reply_short e reply is h = absurd (true≢false (sym h))

-- ---- the whole line

pub entry_short : (line : List ℕ) (number : ℕ) (entry : Event × Reply) → SpellsEntry line number entry → length line ≤ 2031600
entry_short line number entry spells =
    let digits : length (number_text number) ≤ 8 = let most = spells.numbered.1 in length-decimal-le 8 number (omega arith) (omega (arith, most)) (omega (arith, most)) in
    let told = event_short entry.0 spells.event in
    let given = reply_short entry.0 entry.1 spells.reply spells.fits in
    let is : length line ≡ length (entry_text number entry.0 entry.1) = ap length spells.is in
    omega (arith, digits, told, given, is, length-append {A = ℕ})
