-- The parts that follow are determined by the text.
use Rattle.auditor.proofs.Prelude.{◌≡◌, ◌≢◌, ℕ, ◌+◌, ◌<◌, ◌≤◌, ◌⊎◌, inl, inr, ⊎_elim, List, [], ◌∷◌, ◌++◌, Some, length, drop, refl, sym, ap, subst, ◌∙◌, append_assoc, append-nil, arith, codes, AllByRecursion, append_cancel_left, length-append, same_Some, Base, RuleSet, LogPart, EntryPart, BasePart, NumberedMoment, Passes, Entry, Answers, spent_after, table_of, answers_once, number_text, event_text, reply_text, entry_text, entry_line, base_text, first_line, first_line-ended, first_line-splits, SpellsEntry, max_entries, IsFree, free_number, spells_entry_once, count_after, part_text, parts_text, NextPart, IsLogPart, EntryComes, BeginsBase}
use Rattle.auditor.proofs.Feedless.{entry_free}
use Rattle.auditor.proofs.Steps.{passes_first, passes_rise, step_count, count_rises}

-- ---- an entry begins with a digit, and a base with another byte

-- there is a first byte, and it is not that of a base
abbrev pub BeginsOther : List ℕ → Type 0
BeginsOther [] = ⊥
BeginsOther (b ∷ x) = b ≢ 109

other_append : (x y : List ℕ) → BeginsOther x → BeginsOther (x ++ y)
other_append [] y h = absurd h
other_append (b ∷ x) y h = h

other_digits : (digits : List ℕ) → IsFree 109 digits → BeginsOther (digits ++ codes " ")
other_digits [] f = λ e. omega (arith, e)
other_digits (d ∷ digits) f = f.0

pub entry_other : (number : ℕ) (entry : Entry) (more : List ℕ) → number ≤ max_entries → BeginsOther (entry_text number entry.0 entry.1 ++ more)
entry_other number entry more few =
    let n = number_text number in
    let first = other_digits n (free_number 109 number (λ h. omega (arith, h.1)) (omega (arith, few))) in
    other_append (entry_text number entry.0 entry.1) more
    (other_append (n ++ codes " " ++ event_text entry.0 ++ codes " = ") (reply_text entry.1)
    (other_append (n ++ codes " " ++ event_text entry.0) (codes " = ")
    (other_append (n ++ codes " ") (event_text entry.0) first)))

-- no text begins with both
pub other_no_base : (rest more : List ℕ) → BeginsOther rest → rest ≡ 109 ∷ more → ⊥
other_no_base rest more other e = (subst BeginsOther e other) refl

-- the line and its LF
pub entry_line_is : (number : ℕ) (entry : Entry) (behind : List ℕ) → entry_line number entry.0 entry.1 ++ behind ≡ entry_text number entry.0 entry.1 ++ 10 ∷ behind
entry_line_is number entry behind = append_assoc (entry_text number entry.0 entry.1) (10 ∷ []) behind

-- ---- one part comes

-- one first line, and one entry that it spells
pub entry_once : (rest : List ℕ) (m n : ℕ) (e f : Entry) → EntryComes rest m e → EntryComes rest n f → (m ≡ n) × (e ≡ f)
entry_once rest m n e f a b =
    let same : (a.line, a.more) ≡ (b.line, b.more) = same_Some (a.line, a.more) (b.line, b.more) (sym a.is ∙ b.is) in
    spells_entry_once a.line m n e f a.spells (subst (λ (l : List ℕ). SpellsEntry l n f) (sym (ap (λ (p : List ℕ × List ℕ). p.0) same)) b.spells)

-- an entry that comes is spelled
told_spells : (rules : RuleSet) (size : ℕ) (at : NumberedMoment) (rest : List ℕ) (entry : Entry) (next : NumberedMoment) (behind : List ℕ) → NextPart rules size at rest (EntryPart entry) next behind → SpellsEntry (entry_text (at.count + 1) entry.0 entry.1) (at.count + 1) entry
told_spells rules size at rest entry next behind x =
    let count = step_count (table_of rules) at next (EntryPart entry) x.steps in
    let within = x.within in
    record { numbered = (omega arith, omega (arith, count, within)); event = x.fits.event; reply = x.fits.reply; fits = x.fits.fits; is = refl }

-- in the first line
told_first : (rules : RuleSet) (size : ℕ) (at : NumberedMoment) (rest : List ℕ) (entry : Entry) (next : NumberedMoment) (behind : List ℕ) → NextPart rules size at rest (EntryPart entry) next behind → first_line rest ≡ Some (entry_text (at.count + 1) entry.0 entry.1, behind)
told_first rules size at rest entry next behind x =
    let line = entry_text (at.count + 1) entry.0 entry.1 in
    ap first_line (x.is ∙ entry_line_is (at.count + 1) entry behind) ∙ first_line-ended line behind (entry_free line _ entry (told_spells _ _ _ _ _ _ _ x))

pub told_comes : (rules : RuleSet) (size : ℕ) (at : NumberedMoment) (rest : List ℕ) (entry : Entry) (next : NumberedMoment) (behind : List ℕ) → NextPart rules size at rest (EntryPart entry) next behind → EntryComes rest (at.count + 1) entry
told_comes rules size at rest entry next behind x =
    record { line = entry_text (at.count + 1) entry.0 entry.1; more = behind; is = told_first _ _ _ _ _ _ _ x; spells = told_spells _ _ _ _ _ _ _ x }

pub kept_begins : (rules : RuleSet) (size : ℕ) (at : NumberedMoment) (rest : List ℕ) (base : Base) (next : NumberedMoment) (behind : List ℕ) → NextPart rules size at rest (BasePart base) next behind → BeginsBase rest
kept_begins rules size at rest base next behind x = (drop 9 (base_text rules size base ++ behind), x.is)

-- if a base begins, no entry comes
pub comes_no_base : (rest : List ℕ) (number : ℕ) (entry : Entry) → EntryComes rest number entry → BeginsBase rest → ⊥
comes_no_base rest number entry x begins =
    let is : rest ≡ entry_text number entry.0 entry.1 ++ 10 ∷ x.more = first_line-splits rest x.line x.more x.is ∙ ap (λ (l : List ℕ). l ++ 10 ∷ x.more) x.spells.is in
    other_no_base rest _ (subst BeginsOther (sym is) (entry_other number entry (10 ∷ x.more) x.spells.numbered.1)) begins.1

pub record SameStep (p q : LogPart) (next following : NumberedMoment) (behind after : List ℕ) : Type 0 where
  pub parts : p ≡ q
  pub stands : next ≡ following
  pub rests : behind ≡ after

-- one part comes, it leads to one state, and one rest follows
pub comes_once : (rules : RuleSet) (size : ℕ) (at : NumberedMoment) (rest : List ℕ) (p q : LogPart) (next following : NumberedMoment) (behind after : List ℕ) → NextPart rules size at rest p next behind → NextPart rules size at rest q following after → SameStep p q next following behind after
comes_once rules size at rest (EntryPart e) (EntryPart f) next following behind after x y =
    let spent = at.moment.spent in
    let same = (entry_once rest _ _ e f (told_comes _ _ _ _ _ _ _ x) (told_comes _ _ _ _ _ _ _ y)).1 in
    let answers = subst (λ (z : Entry). Answers (table_of rules) at.moment.state spent z.0 z.1 x.steps.0) same x.steps.1 in
    let there : x.steps.0 ≡ y.steps.0 = answers_once (table_of rules) at.moment.state spent f.0 f.1 x.steps.0 y.steps.0 answers y.steps.1 in
    record {
      parts = ap (λ (z : Entry). EntryPart z) same;
      stands = x.steps.2 ∙ (λ i. record { moment = record { state = there i; spent = spent_after spent (same i).1 }; count = at.count + 1 }) ∙ sym y.steps.2;
      rests = ap (λ (p : List ℕ × List ℕ). p.1) (same_Some _ _ (sym (told_first _ _ _ _ _ _ _ x) ∙ told_first _ _ _ _ _ _ _ y));
    }
comes_once rules size at rest (EntryPart e) (BasePart b) next following behind after x y = absurd (comes_no_base rest _ e (told_comes _ _ _ _ _ _ _ x) (kept_begins _ _ _ _ _ _ _ y))
comes_once rules size at rest (BasePart a) (EntryPart f) next following behind after x y = absurd (comes_no_base rest _ f (told_comes _ _ _ _ _ _ _ y) (kept_begins _ _ _ _ _ _ _ x))
comes_once rules size at rest (BasePart a) (BasePart b) next following behind after x y =
    let same : a ≡ b = x.steps.0 ∙ sym y.steps.0 in
    record {
      parts = ap (λ (z : Base). BasePart z) same;
      stands = x.steps.1 ∙ sym y.steps.1;
      rests = append_cancel_left (base_text rules size b) behind after (ap (λ (z : Base). base_text rules size z ++ behind) (sym same) ∙ sym x.is ∙ y.is);
    }

-- less is left after a part, which has bytes
pub comes_shorter : (rules : RuleSet) (size : ℕ) (at : NumberedMoment) (rest : List ℕ) (part : LogPart) (next : NumberedMoment) (behind : List ℕ) → NextPart rules size at rest part next behind → length behind < length rest
comes_shorter rules size at rest (EntryPart entry) next behind comes = omega (arith, ap length comes.is, length-append {A = ℕ})
comes_shorter rules size at rest (BasePart base) next behind comes = omega (arith, ap length comes.is, length-append (base_text rules size base) behind)

-- ---- chains of parts

-- one part after another comes, from one stand to another
abbrev pub Chain : RuleSet → ℕ → NumberedMoment → List LogPart → NumberedMoment → List ℕ → List ℕ → Type 0
Chain rules size at [] end rest left = (end ≡ at) × (rest ≡ left)
Chain rules size at (part ∷ log) end rest left =
    (next : NumberedMoment) × (behind : List ℕ) × NextPart rules size at rest part next behind × Chain rules size next log end behind left

pub chain_of : (rules : RuleSet) (size : ℕ) (at : NumberedMoment) (log : List LogPart) (end : NumberedMoment) (left : List ℕ) → AllByRecursion IsLogPart log → end.count ≤ max_entries → Passes (table_of rules) at log end → Chain rules size at log end (parts_text rules size at.count log ++ left) left
chain_of rules size at [] end left all few passes = (passes, refl)
chain_of rules size at (part ∷ log) end left all few passes =
    let split = passes_first (table_of rules) at end part log passes in
    let next = split.0 in
    let rises = passes_rise (table_of rules) next end log split.2 in
    let comes : NextPart rules size at (parts_text rules size at.count (part ∷ log) ++ left) part next (parts_text rules size next.count log ++ left) = record {
      fits = all.0;
      within = omega (arith, rises, few);
      steps = split.1;
      is = rw (step_count (table_of rules) at next part split.1) (append_assoc (part_text rules size at.count part) (parts_text rules size (count_after at.count part) log) left);
    } in
    (next, parts_text rules size next.count log ++ left, comes, chain_of rules size next log end left all.1 few split.2)

chain_rise : (rules : RuleSet) (size : ℕ) (at : NumberedMoment) (log : List LogPart) (end : NumberedMoment) (rest left : List ℕ) → Chain rules size at log end rest left → at.count ≤ end.count
chain_rise rules size at [] end rest left (is, same) = let count = ap (λ (x : NumberedMoment). x.count) is in omega (arith, count)
chain_rise rules size at (part ∷ log) end rest left (next, behind, comes, chain) =
    omega (arith, step_count (table_of rules) at next part comes.steps, count_rises at.count part, chain_rise rules size next log end behind left chain)

-- no part comes
abbrev pub Stops : RuleSet → ℕ → NumberedMoment → List ℕ → Type 0
Stops rules size end rest = (part : LogPart) (next : NumberedMoment) (behind : List ℕ) → NextPart rules size end rest part next behind → ⊥

pub nothing_stops : (rules : RuleSet) (size : ℕ) (end : NumberedMoment) → Stops rules size end []
nothing_stops rules size end part next behind comes = omega (arith, comes_shorter rules size end [] part next behind comes)

-- of two chains over one text, one goes on where the other ends
chain_longer : (rules : RuleSet) (size : ℕ) (at : NumberedMoment) (log also : List LogPart) (end last : NumberedMoment) (text rest left : List ℕ) → Chain rules size at log end text rest → Chain rules size at also last text left
    → ((more : List LogPart) × (also ≡ log ++ more) × Chain rules size end more last rest left) ⊎ ((more : List LogPart) × (log ≡ also ++ more) × Chain rules size last more end left rest)
chain_longer rules size at [] also end last text rest left x y =
    inl (also, refl, subst (λ (z : List ℕ). Chain rules size end also last z left) x.1 (subst (λ (z : NumberedMoment). Chain rules size z also last text left) (sym x.0) y))
chain_longer rules size at (p ∷ log) [] end last text rest left x y =
    inr (p ∷ log, refl, subst (λ (z : List ℕ). Chain rules size last (p ∷ log) end z rest) y.1 (subst (λ (z : NumberedMoment). Chain rules size z (p ∷ log) end text rest) (sym y.0) x))
chain_longer rules size at (p ∷ log) (q ∷ also) end last text rest left (next, behind, comes, chain) (following, after, came, other) =
    let one = comes_once rules size at text p q next following behind after comes came in
    let same = subst (λ (z : List ℕ). Chain rules size following log end z rest) one.rests (subst (λ (z : NumberedMoment). Chain rules size z log end behind rest) one.stands chain) in
    ⊎_elim (λ m. inl (m.0, (λ i. sym one.parts i ∷ m.1 i), m.2)) (λ m. inr (m.0, (λ i. one.parts i ∷ m.1 i), m.2)) (chain_longer rules size following log also end last after rest left same other)

-- both end at one place
pub record SameEnd (log also : List LogPart) (end last : NumberedMoment) (rest left : List ℕ) : Type 0 where
  pub logs : log ≡ also
  pub ends : end ≡ last
  pub rests : rest ≡ left

-- where no part comes, no chain goes on
chain_none : (rules : RuleSet) (size : ℕ) (log also more : List LogPart) (end last : NumberedMoment) (rest left : List ℕ) → Stops rules size end rest → also ≡ log ++ more → Chain rules size end more last rest left → SameEnd log also end last rest left
chain_none rules size log also [] end last rest left stops e x = record { logs = sym (e ∙ append-nil log); ends = sym x.0; rests = x.1 }
chain_none rules size log also (p ∷ more) end last rest left stops e x = absurd (stops p x.0 x.1 x.2)

-- two chains over one text that stop are one
pub chain_meet : (rules : RuleSet) (size : ℕ) (at : NumberedMoment) (log also : List LogPart) (end last : NumberedMoment) (text rest left : List ℕ) → Chain rules size at log end text rest → Chain rules size at also last text left → Stops rules size end rest → Stops rules size last left → SameEnd log also end last rest left
chain_meet rules size at log also end last text rest left x y stops halts = by (chain_longer rules size at log also end last text rest left x y)
  where
    by : ((more : List LogPart) × (also ≡ log ++ more) × Chain rules size end more last rest left) ⊎ ((more : List LogPart) × (log ≡ also ++ more) × Chain rules size last more end left rest) → SameEnd log also end last rest left
    by (inl m) = chain_none rules size log also m.0 end last rest left stops m.1 m.2
    by (inr m) = let back = chain_none rules size also log m.0 last end left rest halts m.1 m.2 in record { logs = sym back.logs; ends = sym back.ends; rests = sym back.rests }

-- none goes beyond one that stops
pub chain_beyond : (rules : RuleSet) (size : ℕ) (at : NumberedMoment) (log also : List LogPart) (end last : NumberedMoment) (text rest left : List ℕ) → Chain rules size at log end text rest → Chain rules size at also last text left → Stops rules size last left → last.count < end.count → ⊥
chain_beyond rules size at log also end last text rest left x y halts less =
    ⊎_elim (λ m. omega (arith, less, chain_rise rules size end m.0 last rest left m.2))
    (λ m. let ends = ap (λ (z : NumberedMoment). z.count) (chain_none rules size also log m.0 last end left rest halts m.1 m.2).ends in omega (arith, less, ends))
    (chain_longer rules size at log also end last text rest left x y)

-- without another entry a chain stays at its beginning
chain_flat : (rules : RuleSet) (size : ℕ) (at : NumberedMoment) (log : List LogPart) (end : NumberedMoment) (rest left : List ℕ) → Chain rules size at log end rest left → end.count ≡ at.count → end ≡ at
chain_flat rules size at [] end rest left x same = x.0
chain_flat rules size at (EntryPart entry ∷ log) end rest left (next, behind, comes, chain) same =
    absurd (omega (arith, step_count (table_of rules) at next (EntryPart entry) comes.steps, chain_rise rules size next log end behind left chain, same))
chain_flat rules size at (BasePart base ∷ log) end rest left (next, behind, comes, chain) same =
    let count = ap (λ (z : NumberedMoment). z.count) comes.steps.1 in
    chain_flat rules size next log end behind left chain (omega (arith, same, count)) ∙ comes.steps.1

-- two chains of as many entries over one text have one end
pub chain_level : (rules : RuleSet) (size : ℕ) (at : NumberedMoment) (log also : List LogPart) (end last : NumberedMoment) (text rest left : List ℕ) → Chain rules size at log end text rest → Chain rules size at also last text left → end.count ≡ last.count → end ≡ last
chain_level rules size at log also end last text rest left x y same =
    ⊎_elim (λ m. sym (chain_flat rules size end m.0 last rest left m.2 (sym same))) (λ m. chain_flat rules size last m.0 end left rest m.2 same)
    (chain_longer rules size at log also end last text rest left x y)
