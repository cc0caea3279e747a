-- How far the run of a script has come.
use Rattle.script_run.proofs.Prelude.{take_at, ◌≡◌, ◌∙◌, ℕ, ◌+◌, ◌<◌, List, [], ◌∷◌, ◌++◌, length, take, drop, Option, None, Some, Result, Ok, Err, inl, inr, refl, sym, ap, subst, append_assoc, append-nil, length-append, arith, IfSome, Appends-nil, Consumes-nil, Consumes-trans, Consumes-whole, Consumes-kept, All-nil, All-push, Consumes, IsAtEnd, Keeps, RuleTable, Progress, LinesDo, IsBadLine, lines_of, GoesOn, goes_on, line_joined, lines_of-ended, lines_of-last, long_says_nothing, AppendsBeginning, AppendsLess, IsLine, RunFault, StopsAtLine, LinesLeadTo, SplitsOutput, TurnsLeadTo, EndsReading, LineWrites, IsReadUpTo, PieceEnds, ended_text, DoesWholeLines}
use Rattle.script_run.specs.declared.fault.RunFault.TheVariants as fault
use Rattle.script_run.proofs.RestOfLine.{LinesDo-more, LeadsTo-before}
use Rattle.script_run.proofs.RunEnds.{Hands-begun, Hands-grown, Hands-none, Hands-on}
use Rattle.script_run.proofs.TextShift.{at_line, first_turns_add, line_adds, meeting_adds}

-- what holds whatever follows the bytes that were read holds of all that the reader had
pub known_read : (a b : Option (List ℕ)) (read : List ℕ) (P : List ℕ → Type 0) → Consumes a b read → ((more : List ℕ) → P (read ++ more)) → IfSome a P
known_read None b read P used p = tt
known_read (Some x) None read P used p = absurd used
known_read (Some x) (Some y) read P used p = subst P (sym used) (p y)

-- if an LF comes next, the begun line ends there
first_line : (begun line behind rest more : List ℕ) → IsLine begun → IsLine line → rest ≡ line ++ 10 ∷ behind
    → lines_of (begun ++ (rest ++ more)) ≡ (begun ++ line) ∷ lines_of (behind ++ more)
first_line begun line behind rest more front back e =
    ap (λ l. lines_of (begun ++ (l ++ more))) e
    ∙ ap (λ l. lines_of (begun ++ l)) (append_assoc line (10 ∷ behind) more)
    ∙ ap lines_of (sym (append_assoc begun line (10 ∷ (behind ++ more))))
    ∙ lines_of-ended (begun ++ line) (behind ++ more) (line_joined begun line front back)

some_bad : (line more : List ℕ) → 1048576 < length line → IsBadLine (line ++ more)
some_bad line more long =
    let all : 1048576 < length (line ++ more) = omega (arith, long, length-append line more) in
    ((λ none. absurd (omega (arith, all, ap length none))), long_says_nothing (line ++ more) all)

long_goes_on : (line behind : List ℕ) → IsLine line → 1048576 < length line → GoesOn line behind
long_goes_on [] behind line long = absurd (omega (arith, long))
long_goes_on (b ∷ front) behind line long = goes_on b front behind line

-- the end of the script ends what was begun
last_line : (begun : List ℕ) → IsLine begun → (begun ≡ [] → ⊥) → lines_of (begun ++ ([] ++ [])) ≡ begun ∷ []
last_line [] line some = absurd (some refl)
last_line (b ∷ begun) line some = ap lines_of (append-nil (b ∷ begun)) ∙ lines_of-last b begun line

-- a line more, with its LF
ended_more : (lines : List (List ℕ)) (line : List ℕ) → ended_text (lines ++ line ∷ []) ≡ ended_text lines ++ (line ++ 10 ∷ [])
ended_more [] line = refl
ended_more (first ∷ lines) line =
    ap (λ l. first ++ 10 ∷ l) (ended_more lines line) ∙ sym (append_assoc first (10 ∷ ended_text lines) (line ++ 10 ∷ []))

joined_line : (lines : List (List ℕ)) (begun line behind rest : List ℕ) → rest ≡ line ++ 10 ∷ behind → ended_text lines ++ (begun ++ rest) ≡ ended_text (lines ++ (begun ++ line) ∷ []) ++ ([] ++ behind)
joined_line lines begun line behind rest e =
    ap (λ l. ended_text lines ++ (begun ++ l)) e
    ∙ ap (λ l. ended_text lines ++ l) (sym (append_assoc begun line (10 ∷ behind)))
    ∙ ap (λ l. ended_text lines ++ l) (sym (append_assoc (begun ++ line) (10 ∷ []) behind))
    ∙ sym (append_assoc (ended_text lines) ((begun ++ line) ++ 10 ∷ []) behind)
    ∙ ap (λ l. l ++ behind) (sym (ended_more lines (begun ++ line)))

module _ {t : RuleTable} {limit : ℕ} {start : Progress} {old : Option (List ℕ)} where
  -- nothing was read
  pub Stands-none : IsReadUpTo t limit start old [] [] [] 0 start old
  Stands-none = record {
    before = [];
    text = start.text;
    splits = λ more. refl;
    joined = refl;
    each = All-nil IsLine;
    unended = tt;
    number = refl;
    does = refl;
    handed = record { sent = []; wrote = Appends-nil old; splits = refl };
  }

  -- so much more was read
  Stands-read : {read begun : List ℕ} {n : ℕ} {now : Progress} {known : Option (List ℕ)} (bytes : List ℕ)
      → IsReadUpTo t limit start old read begun [] n now known → IsReadUpTo t limit start old (read ++ bytes) begun bytes n now known
  Stands-read {read} {begun} bytes h = record {
    before = h.before;
    text = h.text;
    splits = λ more. ap lines_of (append_assoc read bytes more) ∙ h.splits (bytes ++ more);
    joined = ap (λ l. l ++ bytes) (h.joined ∙ ap (λ l. ended_text h.before ++ l) (append-nil begun)) ∙ append_assoc (ended_text h.before) begun bytes;
    each = h.each;
    unended = h.unended;
    number = h.number;
    does = h.does;
    handed = h.handed;
  }

  pub Stands-line : {k : ℕ} {read begun rest : List ℕ} {n : ℕ} {now : Progress} {known known' : Option (List ℕ)} {done : Unit} (line behind : List ℕ) (after : Progress) (result : Result Unit RunFault)
      → IsReadUpTo t limit start old read begun rest n now known → IsLine line → rest ≡ line ++ 10 ∷ behind
      → k ≡ limit → LineWrites t k (n + 1) (begun ++ line) now after known known' result → result ≡ Ok done
      → IsReadUpTo t limit start old read [] behind (n + 1) after known'
  Stands-line {begun = begun} {rest = rest} {n = n} {now = now} {known = known} {known' = known'} line behind after result h ended e same ends is =
      let does = rw (same, is) at ends in
      let adds = line_adds t limit (begun ++ line) now.rules after.rules now.moment after.moment now.count after.count now.counting after.counting now.text does.0 does.1 in record {
        before = h.before ++ (begun ++ line) ∷ [];
        text = h.text ++ adds.more;
        splits = λ more. h.splits more ∙ ap (λ l. h.before ++ l) (first_line begun line behind rest more h.unended ended e) ∙ sym (append_assoc h.before ((begun ++ line) ∷ []) (lines_of (behind ++ more)));
        joined = h.joined ∙ joined_line h.before begun line behind rest e;
        each = All-push IsLine h.before (begun ++ line) h.each (line_joined begun line h.unended ended);
        unended = tt;
        number = ap (λ m. m + 1) h.number ∙ sym (length-append h.before ((begun ++ line) ∷ []));
        does = LinesDo-more t limit h.before (begun ++ line) start (at_line now.rules now.moment now.count now.counting h.text) _ h.does (adds.leads h.text);
        handed = Hands-on old known known' (h.text ++ adds.more) does.0 after.text (Hands-grown adds.more h.handed adds.grown) does.2;
      }

  -- the line that was begun was emptied, and the lines were counted
  pub moved_on : {read begun rest : List ℕ} {n n' : ℕ} {now : Progress} {known : Option (List ℕ)} → begun ≡ [] → n' ≡ n
      → IsReadUpTo t limit start old read [] rest n now known → IsReadUpTo t limit start old read begun rest n' now known
  moved_on none same h = rw (none, same) h

  -- some of what was held is written
  pub Stands-handed : {read begun rest text : List ℕ} {n : ℕ} {now : Progress} {known known' : Option (List ℕ)}
      → IsReadUpTo t limit start old read begun rest n now known → SplitsOutput known known' now.text text → IsReadUpTo t limit start old read begun rest n (at_line now.rules now.moment now.count now.counting text) known'
  Stands-handed {text = text} {now = now} {known = known} {known' = known'} h more = record {
    before = h.before;
    text = h.text;
    splits = h.splits;
    joined = h.joined;
    each = h.each;
    unended = h.unended;
    number = h.number;
    does = h.does;
    handed = Hands-on old known known' h.text now.text text h.handed more;
  }

  -- the lines so far are the first of all
  Stands-leads : {read begun rest : List ℕ} {n : ℕ} {now : Progress} {known : Option (List ℕ)} (h : IsReadUpTo t limit start old read begun rest n now known)
      → (more : List ℕ) → LinesLeadTo t limit (lines_of (read ++ more)) start (at_line now.rules now.moment now.count now.counting h.text)
  Stands-leads {read} {begun} {rest} {n} {now} h more =
      LeadsTo-before t limit h.before (lines_of (begun ++ (rest ++ more))) (lines_of (read ++ more)) start (at_line now.rules now.moment now.count now.counting h.text) (h.splits more) h.does

  -- what was held could not be written
  pub Stands-began : {read begun rest : List ℕ} {n : ℕ} {now : Progress} {known : Option (List ℕ)} (known' : Option (List ℕ))
      → IsReadUpTo t limit start old read begun rest n now known → AppendsBeginning known known' now.text
      → (more : List ℕ) → (end : Progress) × TurnsLeadTo t limit (lines_of (read ++ more)) start end × AppendsBeginning old known' end.text
  Stands-began {now = now} {known = known} known' h part more =
      (at_line now.rules now.moment now.count now.counting h.text, inl (Stands-leads h more), Hands-begun old known known' h.text now.text h.handed part)

  -- the reader failed
  pub Stands-unread : {read begun rest : List ℕ} {n : ℕ} {now : Progress} {known : Option (List ℕ)} → IsReadUpTo t limit start old read begun rest n now known
      → (more : List ℕ) → EndsReading t limit (lines_of (read ++ more)) start old known now.text (Err fault.Read)
  Stands-unread {now = now} h more = (at_line now.rules now.moment now.count now.counting h.text, Stands-leads h more, h.handed)

  -- memory was refused, and no text was added
  pub Stands-memory : {read begun rest : List ℕ} {n : ℕ} {now : Progress} {known : Option (List ℕ)} {held : List ℕ} → IsReadUpTo t limit start old read begun rest n now known → held ≡ now.text
      → (more : List ℕ) → EndsReading t limit (lines_of (read ++ more)) start old known held (Err fault.Memory)
  Stands-memory {now = now} {known = known} h kept more =
      (at_line now.rules now.moment now.count now.counting h.text, inl (Stands-leads h more), subst (SplitsOutput old known h.text) (sym kept) h.handed)

  -- the next line stops the run
  stops : {read begun rest : List ℕ} {n : ℕ} {now : Progress} {known : Option (List ℕ)} {line : List ℕ} {others : List (List ℕ)} (more : List ℕ)
      → (h : IsReadUpTo t limit start old read begun rest n now known) → lines_of (begun ++ (rest ++ more)) ≡ line ∷ others
      → StopsAtLine t limit (lines_of (read ++ more)) start (n + 1) line (at_line now.rules now.moment now.count now.counting h.text)
  stops {others = others} more h first = record {
    before = h.before;
    behind = others;
    splits = h.splits more ∙ ap (λ l. h.before ++ l) first;
    number = ap (λ m. m + 1) h.number;
    does = h.does;
  }

  stops_bad : {read begun rest : List ℕ} {n : ℕ} {now : Progress} {known known' : Option (List ℕ)} {line held : List ℕ} {others : List (List ℕ)} {m : ℕ} (more : List ℕ)
      → IsReadUpTo t limit start old read begun rest n now known → lines_of (begun ++ (rest ++ more)) ≡ line ∷ others
      → m ≡ n + 1 → IsBadLine line → SplitsOutput known known' now.text held
      → EndsReading t limit (lines_of (read ++ more)) start old known' held (Err (fault.BadLine m))
  stops_bad {read} {n = n} {now = now} {known = known} {known' = known'} {line = line} {held = held} more h first same bad handed = (
    at_line now.rules now.moment now.count now.counting h.text,
    (line, subst (λ k. StopsAtLine t limit (lines_of (read ++ more)) start k line (at_line now.rules now.moment now.count now.counting h.text)) (sym same) (stops more h first), bad),
    Hands-on old known known' h.text now.text held h.handed handed,
  )

  Stands-stops : {read begun rest : List ℕ} {n : ℕ} {now : Progress} {known : Option (List ℕ)} {line : List ℕ} {others : List (List ℕ)} (known' : Option (List ℕ)) (after : Progress) (stop : RunFault) (more : List ℕ)
      → IsReadUpTo t limit start old read begun rest n now known → lines_of (begun ++ (rest ++ more)) ≡ line ∷ others
      → LineWrites t limit (n + 1) line now after known known' (Err stop)
      → EndsReading t limit (lines_of (read ++ more)) start old known' after.text (Err stop)
  Stands-stops {known = known} known' after (fault.BadLine m) more h first (same, bad, (text, kept, handed)) =
      stops_bad more h first same bad (subst (λ l. SplitsOutput known known' l after.text) (ap (λ (p : Progress). p.text) kept) handed)
  Stands-stops {n = n} {now = now} {known = known} {line = line} known' after fault.LogFull more h first (text, meets, handed) =
      let adds = meeting_adds t limit line now.rules after.rules now.moment after.moment now.count after.count now.counting after.counting now.text text meets in (
        at_line after.rules after.moment after.count after.counting (h.text ++ adds.more),
        (n + 1, line, at_line now.rules now.moment now.count now.counting h.text, stops more h first, adds.leads h.text),
        Hands-on old known known' (h.text ++ adds.more) text after.text (Hands-grown adds.more h.handed adds.grown) handed,
      )
  Stands-stops {n = n} {now = now} {known = known} {line = line} known' after fault.Memory more h first (end, taken, handed) =
      let adds = first_turns_add t limit line now.rules end.rules now.moment end.moment now.count end.count now.counting end.counting now.text end.text taken in (
        at_line end.rules end.moment end.count end.counting (h.text ++ adds.more),
        inr (n + 1, line, at_line now.rules now.moment now.count now.counting h.text, stops more h first, adds.leads h.text),
        Hands-on old known known' (h.text ++ adds.more) end.text after.text (Hands-grown adds.more h.handed adds.grown) handed,
      )
  Stands-stops {n = n} {now = now} {known = known} {line = line} known' after fault.Write more h first (end, taken, part) =
      let adds = first_turns_add t limit line now.rules end.rules now.moment end.moment now.count end.count now.counting end.counting now.text end.text taken in (
        at_line end.rules end.moment end.count end.counting (h.text ++ adds.more),
        inr (n + 1, line, at_line now.rules now.moment now.count now.counting h.text, stops more h first, adds.leads h.text),
        Hands-begun old known known' (h.text ++ adds.more) end.text (Hands-grown adds.more h.handed adds.grown) part,
      )
  Stands-stops known' after other more h first never = absurd never

  -- the line that ends next stops the run
  pub Stands-stopped : {k : ℕ} {read begun rest : List ℕ} {n : ℕ} {now : Progress} {known : Option (List ℕ)} (known' : Option (List ℕ)) (line behind begun' : List ℕ) (n' : ℕ) (after : Progress) (stop : RunFault) (carried result : Result Unit RunFault)
      → IsReadUpTo t limit start old read begun rest n now known → IsLine line → rest ≡ line ++ 10 ∷ behind
      → k ≡ limit → LineWrites t k (n + 1) (begun ++ line) now after known known' carried → carried ≡ Err stop → result ≡ Err stop
      → PieceEnds t limit start old read begun' n' after known' result
  Stands-stopped {read = read} {begun = begun} {rest = rest} {n = n} {now = now} known' line behind begun' n' after stop carried result h ended e same ends was is =
      subst (PieceEnds t limit start old read begun' n' after known') (sym is)
      (λ more. Stands-stops known' after stop more h (first_line begun line behind rest more h.unended ended e)
      (rw (same, was) at ends))

  -- a line that has grown too long stops the run, whatever its end is
  pub Stands-long : {read begun rest : List ℕ} {n : ℕ} {now : Progress} {known : Option (List ℕ)}
      → IsReadUpTo t limit start old read begun rest n now known → IsLine rest → 1048576 < length begun + length rest
      → (more : List ℕ) → EndsReading t limit (lines_of (read ++ more)) start old known now.text (Err (fault.BadLine (n + 1)))
  Stands-long {begun = begun} {rest = rest} {now = now} {known = known} h line long more =
      let all = line_joined begun rest h.unended line in
      let length_all : 1048576 < length (begun ++ rest) = omega (arith, long, length-append begun rest) in
      let on = long_goes_on (begun ++ rest) more all length_all in
      stops_bad more h (ap lines_of (sym (append_assoc begun rest more)) ∙ on.lines) refl (some_bad (begun ++ rest) on.more length_all) (Hands-none known now.text)

  -- the script ends, and no line was begun
  pub Last-none : {read begun : List ℕ} {n : ℕ} {now : Progress} {known : Option (List ℕ)} {done : Unit} → IsReadUpTo t limit start old read begun [] n now known → begun ≡ []
      → EndsReading t limit (lines_of read) start old known now.text (Ok done)
  Last-none {read} {now = now} h none =
      let lines : lines_of (read ++ []) ≡ h.before = h.splits [] ∙ ap (λ l. h.before ++ lines_of (l ++ [])) none ∙ append-nil h.before in
      (at_line now.rules now.moment now.count now.counting h.text, subst (λ l. LinesDo t limit l start (at_line now.rules now.moment now.count now.counting h.text)) (sym lines ∙ ap lines_of (append-nil read)) h.does, h.handed)

  -- it ends after a line that was carried out
  pub Last-whole : {read begun : List ℕ} {n : ℕ} {now : Progress} {known known' : Option (List ℕ)} {done ended : Unit} (after : Progress) (carried : Result Unit RunFault) → IsReadUpTo t limit start old read begun [] n now known → (begun ≡ [] → ⊥)
      → LineWrites t limit (n + 1) begun now after known known' carried → carried ≡ Ok done
      → EndsReading t limit (lines_of read) start old known' after.text (Ok ended)
  Last-whole {read = read} {begun = begun} {n = n} {now = now} {known = known} {known' = known'} after carried h some ends is =
      let does = subst (LineWrites t limit (n + 1) begun now after known known') is ends in
      let adds = line_adds t limit begun now.rules after.rules now.moment after.moment now.count after.count now.counting after.counting now.text does.0 does.1 in
      let lines : lines_of (read ++ []) ≡ h.before ++ begun ∷ [] = h.splits [] ∙ ap (λ l. h.before ++ l) (last_line begun h.unended some) in
      let all = LinesDo-more t limit h.before begun start (at_line now.rules now.moment now.count now.counting h.text) (at_line after.rules after.moment after.count after.counting (h.text ++ adds.more)) h.does (adds.leads h.text) in (
        at_line after.rules after.moment after.count after.counting (h.text ++ adds.more),
        subst (λ l. LinesDo t limit l start (at_line after.rules after.moment after.count after.counting (h.text ++ adds.more))) (sym lines ∙ ap lines_of (append-nil read)) all,
        Hands-on old known known' (h.text ++ adds.more) does.0 after.text (Hands-grown adds.more h.handed adds.grown) does.2,
      )

  -- or at a line that stops it
  pub Last-stopped : {read begun : List ℕ} {n : ℕ} {now : Progress} {known : Option (List ℕ)} (known' : Option (List ℕ)) (after : Progress) (stop : RunFault) (carried result : Result Unit RunFault)
      → IsReadUpTo t limit start old read begun [] n now known → (begun ≡ [] → ⊥) → LineWrites t limit (n + 1) begun now after known known' carried → carried ≡ Err stop → result ≡ Err stop
      → EndsReading t limit (lines_of read) start old known' after.text result
  Last-stopped {read} {begun} {n} {now} {known} known' after stop carried result h some ends was is =
      subst (EndsReading t limit (lines_of read) start old known' after.text) (sym is)
      (subst (λ r. EndsReading t limit (lines_of r) start old known' after.text (Err stop)) (append-nil read)
      (Stands-stops known' after stop [] h (last_line begun h.unended some) (subst (LineWrites t limit (n + 1) begun now after known known') was ends)))

  -- the writer failed
  pub PieceEnds-failed : {read begun rest : List ℕ} {n : ℕ} {now : Progress} {known : Option (List ℕ)} (begun' : List ℕ) (n' : ℕ) (now' : Progress) (known' : Option (List ℕ)) (result : Result Unit RunFault) → result ≡ Err fault.Write
      → IsReadUpTo t limit start old read begun rest n now known → AppendsLess known known' now.text → PieceEnds t limit start old read begun' n' now' known' result
  PieceEnds-failed {read} begun' n' now' known' result is h less =
      subst (PieceEnds t limit start old read begun' n' now' known') (sym is) (Stands-began known' h (less.0, less.2))

-- the fault of a line is no failed read
pub never_read : (t : RuleTable) (limit number : ℕ) (line : List ℕ) (before after : Progress) (had has : Option (List ℕ)) (stop : RunFault) (carried result : Result Unit RunFault) → LineWrites t limit number line before after had has carried → carried ≡ Err stop → result ≡ Err stop → result ≡ Err fault.Read → ⊥
never_read t limit number line before after had has stop carried result ends was is same =
    subst (LineWrites t limit number line before after had has) (was ∙ sym is ∙ same) ends

-- a failed write is no failed read
pub wrote_not_read : (result : Result Unit RunFault) → result ≡ Err fault.Write → result ≡ Err fault.Read → ⊥
wrote_not_read result is same = cc

-- These bytes of a reader's were read, and the run is after them.
pub record Came (t : RuleTable) (limit : ℕ) (start : Progress) (old a b : Option (List ℕ)) (begun : List ℕ) (n : ℕ) (now : Progress) (known : Option (List ℕ)) : Type 0 where
  pub read : List ℕ
  pub used : Consumes a b read
  pub stands : IsReadUpTo t limit start old read begun [] n now known

-- A piece was carried out after all that was read before it.
pub record Took (t : RuleTable) (limit : ℕ) (start : Progress) (old a c : Option (List ℕ)) (begun : List ℕ) (n : ℕ) (now : Progress) (known : Option (List ℕ)) (result : Result Unit RunFault) : Type 0 where
  pub read : List ℕ
  pub used : Consumes a c read
  pub ends : PieceEnds t limit start old read begun n now known result

-- With all that a reader had, the run ends so, and the writer has all of its text but the rest.
abbrev EndsSo : RuleTable → ℕ → Progress → Option (List ℕ) → Option (List ℕ) → Option (List ℕ) → List ℕ → Result Unit RunFault → Type 0
EndsSo t limit start old a known rest result = IfSome a (λ script. EndsReading t limit (lines_of script) start old known rest result)

-- There was no memory before anything was read.
pub Came-unbegun : (t : RuleTable) (limit : ℕ) (start : Progress) (old a : Option (List ℕ)) → EndsSo t limit start old a old start.text (Err fault.Memory)
Came-unbegun t limit start old a =
    known_read a a [] (λ script. EndsReading t limit (lines_of script) start old old start.text (Err fault.Memory)) (Consumes-nil a)
    (Stands-memory (Stands-none {t = t} {limit = limit} {start = start} {old = old}) refl)

module _ {t : RuleTable} {limit : ℕ} {start : Progress} {old : Option (List ℕ)} where
  pub Came-none : {begun : List ℕ} {n : ℕ} (a : Option (List ℕ)) → begun ≡ [] → n ≡ 0 → Came t limit start old a a begun n start old
  Came-none a none first = record { read = []; used = Consumes-nil a; stands = moved_on none first Stands-none }

  module _ {a b : Option (List ℕ)} {begun : List ℕ} {n : ℕ} {now : Progress} {known : Option (List ℕ)} (h : Came t limit start old a b begun n now known) where
    pub Came-handed : {text : List ℕ} {known' : Option (List ℕ)} → SplitsOutput known known' now.text text → Came t limit start old a b begun n (at_line now.rules now.moment now.count now.counting text) known'
    Came-handed handed = record { read = h.read; used = h.used; stands = Stands-handed h.stands handed }

    -- the writer failed
    pub Came-began : (known' : Option (List ℕ)) (rest : List ℕ) (result : Result Unit RunFault) → result ≡ Err fault.Write → AppendsBeginning known known' now.text → EndsSo t limit start old a known' rest result
    Came-began known' rest result is part =
        subst (EndsSo t limit start old a known' rest) (sym is)
        (known_read a b h.read (λ script. EndsReading t limit (lines_of script) start old known' rest (Err fault.Write)) h.used (Stands-began known' h.stands part))

    -- the reader failed: what was carried out are the lines that it gave whole
    pub Came-whole : (c : Option (List ℕ)) → Keeps b c → DoesWholeLines t limit start a c (λ text. SplitsOutput old known text now.text)
    Came-whole c kept = record {
      bytes = h.read;
      gave = Consumes-kept a b c h.read h.used kept;
      lines = h.stands.before;
      begun = begun;
      whole = record { joined = h.stands.joined ∙ ap (λ l. ended_text h.stands.before ++ l) (append-nil begun); each = h.stands.each; unended = h.stands.unended };
      end = at_line now.rules now.moment now.count now.counting h.stands.text;
      does = h.stands.does;
      holds = h.stands.handed;
    }

    pub Came-unread : EndsSo t limit start old a known now.text (Err fault.Read)
    Came-unread = known_read a b h.read (λ script. EndsReading t limit (lines_of script) start old known now.text (Err fault.Read)) h.used (Stands-unread h.stands)

    -- nothing more could be read, and the last line was carried out
    pub Came-last : {k : ℕ} (known' c : Option (List ℕ)) (len : ℕ) (chunk held : List ℕ) (result : Result Unit RunFault) → Consumes b c (take len chunk) → (len ≡ 0 → IsAtEnd c) → len ≡ 0 → k ≡ limit
        → ((start : Progress) (old : Option (List ℕ)) (read : List ℕ) → IsReadUpTo t k start old read begun [] n now known → EndsReading t k (lines_of read) start old known' held result)
        → EndsSo t limit start old a known' held result
    Came-last known' c len chunk held result bytes ended empty same last =
        let none : Consumes b c [] = subst (λ (m : ℕ). Consumes b c (take m chunk)) empty bytes in
        let used : Consumes a c h.read = subst (Consumes a c) (append-nil h.read) (Consumes-trans a b c h.read [] h.used none) in
        let P : ℕ → Type 0 = λ m. IsReadUpTo t m start old h.read begun [] n now known → EndsReading t m (lines_of h.read) start old known' held result in
        Consumes-whole a c h.read (λ script. EndsReading t limit (lines_of script) start old known' held result) used (ended empty) (subst P same (last start old h.read) h.stands)

    -- a piece that was read into a chunk is carried out
    pub Came-piece : {k room : ℕ} (c : Option (List ℕ)) (chunk before buffer : List ℕ) (len : ℕ) (begun' : List ℕ) (n' : ℕ) (now' : Progress) (known' : Option (List ℕ)) (result : Result Unit RunFault)
        → length chunk ≡ room → buffer ≡ take room (chunk ++ drop (length chunk) before) → Consumes b c (take len chunk) → k ≡ limit
        → ((start : Progress) (old : Option (List ℕ)) (read : List ℕ) → IsReadUpTo t k start old read begun (take len buffer) n now known → PieceEnds t k start old read begun' n' now' known' result)
        → Took t limit start old a c begun' n' now' known' result
    Came-piece {room = room} c chunk before buffer len begun' n' now' known' result full is bytes same piece =
        let filled : chunk ≡ buffer = sym (take_at chunk (drop (length chunk) before) room full) ∙ sym is in
        let all : List ℕ = h.read ++ take len buffer in
        let P : ℕ → Type 0 = λ m. IsReadUpTo t m start old all begun (take len buffer) n now known → PieceEnds t m start old all begun' n' now' known' result in record {
          read = all;
          used = Consumes-trans a b c h.read (take len buffer) h.used (subst (λ l. Consumes b c (take len l)) filled bytes);
          ends = subst P same (piece start old all) (Stands-read (take len buffer) h.stands);
        }

  -- so the run is after it, or ends in it
  module _ {a c : Option (List ℕ)} {begun : List ℕ} {n : ℕ} {now : Progress} {known : Option (List ℕ)} {result : Result Unit RunFault} (h : Took t limit start old a c begun n now known result) where
    pub Took-goes_on : {done : Unit} → result ≡ Ok done → Came t limit start old a c begun n now known
    Took-goes_on is = record { read = h.read; used = h.used; stands = subst (PieceEnds t limit start old h.read begun n now known) is h.ends }

    pub Took-ends : (fault : RunFault) (ended : Result Unit RunFault) → result ≡ Err fault → ended ≡ Err fault → EndsSo t limit start old a known now.text ended
    Took-ends fault ended was is =
        subst (EndsSo t limit start old a known now.text) (sym is)
        (known_read a c h.read (λ script. EndsReading t limit (lines_of script) start old known now.text (Err fault)) h.used (subst (PieceEnds t limit start old h.read begun n now known) was h.ends))
