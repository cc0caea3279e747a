-- How the run of a script ends, by how far it came.
use Rattle.script_run.proofs.Prelude.{IfSome_then, ◌≡◌, ◌∙◌, ℕ, ◌+◌, List, [], ◌∷◌, ◌++◌, length, take, Option, None, Some, true, false, Result, Ok, Err, inl, inr, refl, sym, ap, subst, append_assoc, append-nil, arith, true≢false, IfSome, take-append-add, take-length, Appends, Appends-nil, Appends-trans, RuleTable, Progress, lines_of, AppendsBeginning, RunFault, BadLine, Write, Pool, EndsScript, EndsFrom, LinesReach, DoesWholeLines, SplitsOutput, TurnsLeadTo, EndsReading, ends_unwritten}
use Rattle.script_run.specs.declared.fault.RunFault.TheVariants.{LogFull, Memory}
use Rattle.script_run.proofs.RestOfLine.{LeadsTo-before, begins_longer, lines_go_on}

-- what was held is written at last
Hands-all : (old known new : Option (List ℕ)) (text held : List ℕ) → SplitsOutput old known text held → Appends known new held → Appends old new text
Hands-all old known new text held h wrote = subst (Appends old new) (sym h.splits) (Appends-trans old known new h.sent held h.wrote wrote)

-- no text is written
pub Hands-none : (known : Option (List ℕ)) (held : List ℕ) → SplitsOutput known known held held
Hands-none known held = record { sent = []; wrote = Appends-nil known; splits = refl }

-- a part of what was held is written
pub Hands-on : (old known new : Option (List ℕ)) (text held rest : List ℕ) → SplitsOutput old known text held → SplitsOutput known new held rest → SplitsOutput old new text rest
Hands-on old known new text held rest h more = record {
  sent = h.sent ++ more.sent;
  wrote = Appends-trans old known new h.sent more.sent h.wrote more.wrote;
  splits = h.splits ∙ ap (λ l. h.sent ++ l) more.splits ∙ sym (append_assoc h.sent more.sent rest);
}

-- a text that has grown is held with what it has grown by
pub Hands-grown : {old known : Option (List ℕ)} {text held held' : List ℕ} (more : List ℕ) → SplitsOutput old known text held → held' ≡ held ++ more → SplitsOutput old known (text ++ more) held'
Hands-grown {held = held} more h grown =
    record { sent = h.sent; wrote = h.wrote; splits = ap (λ l. l ++ more) h.splits ∙ append_assoc h.sent held more ∙ ap (λ l. h.sent ++ l) (sym grown) }

-- or a beginning of it
pub Hands-begun : (old known new : Option (List ℕ)) (text held : List ℕ) → SplitsOutput old known text held → AppendsBeginning known new held → AppendsBeginning old new text
Hands-begun old known new text held h (n, wrote) =
    let front : take (length h.sent + n) text ≡ h.sent ++ take n held = ap (take (length h.sent + n)) h.splits ∙ take-append-add h.sent held n in
    (length h.sent + n, subst (Appends old new) (sym front) (Appends-trans old known new h.sent (take n held) h.wrote wrote))

pub unwritten_is : (ended : Result Unit RunFault) → ends_unwritten ended ≡ true → ended ≡ Err Write
unwritten_is ended e = grind arith

pub written_not : (ended : Result Unit RunFault) → ends_unwritten ended ≡ false → ended ≡ Err Write → ⊥
written_not ended e is = absurd (true≢false (sym (ap ends_unwritten is) ∙ e))

-- how far a run came, and that a beginning of its text was written
abbrev pub WritesPart : RuleTable → ℕ → List (List ℕ) → Progress → Option (List ℕ) → Option (List ℕ) → Type 0
WritesPart t limit lines start old new = (end : Progress) × LinesReach t limit lines start end × AppendsBeginning old new end.text

-- nothing was written yet
pub WritesPart-none : (t : RuleTable) (limit : ℕ) (lines : List (List ℕ)) (start : Progress) (old : Option (List ℕ)) → WritesPart t limit lines start old old
WritesPart-none t limit lines start old = (start, inl (0, refl), (0, Appends-nil old))

-- a beginning of a text that whole turns have reached was written
WritesPart-turns : (t : RuleTable) (limit : ℕ) (lines : List (List ℕ)) (start end : Progress) (old new : Option (List ℕ)) → TurnsLeadTo t limit lines start end → AppendsBeginning old new end.text → WritesPart t limit lines start old new
WritesPart-turns t limit lines start end old new leads begun =
    let all = lines_go_on t limit lines start end leads in
    (all.0, all.1, begins_longer old new end.text all.0.text all.2 begun)

-- a beginning of what was held was written
WritesPart-halted : (t : RuleTable) (limit : ℕ) (lines : List (List ℕ)) (start : Progress) (ended : Result Unit RunFault) (old known new : Option (List ℕ)) (held : List ℕ) → (ended ≡ Err Write → ⊥)
    → EndsReading t limit lines start old known held ended → AppendsBeginning known new held → WritesPart t limit lines start old new
WritesPart-halted t limit lines start (Ok done) old known new held other (end, does, handed) begun =
    (end, inl (LeadsTo-before t limit lines [] lines start end (sym (append-nil lines)) does), Hands-begun old known new end.text held handed begun)
WritesPart-halted t limit lines start (Err (BadLine number)) old known new held other (end, (line, stops, bad), handed) begun =
    (end, inl (LeadsTo-before t limit stops.before (line ∷ stops.behind) lines start end stops.splits stops.does), Hands-begun old known new end.text held handed begun)
WritesPart-halted t limit lines start (Err LogFull) old known new held other (end, full, handed) begun = (end, inr full, Hands-begun old known new end.text held handed begun)
WritesPart-halted t limit lines start (Err Write) old known new held other wrote begun = absurd (other refl)
WritesPart-halted t limit lines start (Err (Pool why)) old known new held other never begun = absurd never
WritesPart-halted t limit lines start (Err Memory) old known new held other (end, leads, handed) begun =
    WritesPart-turns t limit lines start end old new leads (Hands-begun old known new end.text held handed begun)
WritesPart-halted t limit lines start (Err fault) old known new held other halted begun = (halted.0, inl halted.1, Hands-begun old known new halted.0.text held halted.2 begun)

-- all that was held was written
Ends-written : (t : RuleTable) (limit : ℕ) (lines : List (List ℕ)) (start : Progress) (ended : Result Unit RunFault) (old known new : Option (List ℕ)) (held : List ℕ) → (ended ≡ Err Write → ⊥)
    → EndsReading t limit lines start old known held ended → Appends known new held → EndsScript t limit lines start ended (Appends old new) (AppendsBeginning old new)
Ends-written t limit lines start (Err Memory) old known new held other (end, leads, handed) wrote =
    WritesPart-turns t limit lines start end old new leads (length end.text, subst (Appends old new) (sym (take-length end.text)) (Hands-all old known new end.text held handed wrote))
Ends-written t limit lines start (Err Write) old known new held other part wrote = absurd (other refl)
Ends-written t limit lines start (Err (Pool why)) old known new held other never wrote = absurd never
Ends-written t limit lines start ended old known new held other reached wrote = (reached.0, reached.1, Hands-all old known new reached.0.text held reached.2 wrote)

-- what holds of every script, and what follows for one that is known
pub for_any : (a : Option (List ℕ)) (P : List ℕ → Type 0) → ((script : List ℕ) → P script) → IfSome a P
for_any None P all = tt
for_any (Some script) P all = all script

-- ---- of a run that has begun

module _ (t : RuleTable) (limit : ℕ) (start : Progress) (a old : Option (List ℕ)) where
  -- the writer failed before the end
  pub Ends-failed : (ended : Result Unit RunFault) (new : Option (List ℕ)) (held : List ℕ) → ended ≡ Err Write → IfSome a (λ script. EndsReading t limit (lines_of script) start old new held ended)
      → IfSome a (λ script. EndsFrom t limit start script old new ended)
  Ends-failed ended new held is halts =
      IfSome_then a halts (λ script halted.
      let part = subst (EndsReading t limit (lines_of script) start old new held) is halted in
      subst (EndsFrom t limit start script old new) (sym is) (WritesPart-turns t limit (lines_of script) start part.0 old new part.1 part.2))

  module _ (ended : Result Unit RunFault) (other : ended ≡ Err Write → ⊥) (known new : Option (List ℕ)) (held held' : List ℕ) (same : held' ≡ held) (halts : IfSome a (λ script. EndsReading t limit (lines_of script) start old known held ended)) where
    -- what was held could not all be written
    pub Ends-unwritten : (result : Result Unit RunFault) → result ≡ Err Write → AppendsBeginning known new held' → IfSome a (λ script. EndsFrom t limit start script old new result)
    Ends-unwritten result is part =
        IfSome_then a halts (λ script halted. subst (EndsFrom t limit start script old new) (sym is)
        (WritesPart-halted t limit (lines_of script) start ended old known new held other halted (subst (AppendsBeginning known new) same part)))

    -- it was
    pub Ends-finished : Appends known new held' → IfSome a (λ script. EndsFrom t limit start script old new ended)
    Ends-finished wrote =
        IfSome_then a halts (λ script halted. Ends-written t limit (lines_of script) start ended old known new held other halted (subst (Appends known new) same wrote))

-- the lines that were read whole, of whose text what was held was written
pub Whole-finished : (t : RuleTable) (limit : ℕ) (start : Progress) (had left old known new : Option (List ℕ)) (held held' : List ℕ) → held' ≡ held
    → DoesWholeLines t limit start had left (λ text. SplitsOutput old known text held) → Appends known new held' → DoesWholeLines t limit start had left (Appends old new)
Whole-finished t limit start had left old known new held held' same does wrote = record {
  bytes = does.bytes;
  gave = does.gave;
  lines = does.lines;
  begun = does.begun;
  whole = does.whole;
  end = does.end;
  does = does.does;
  holds = Hands-all old known new does.end.text held does.holds (subst (Appends known new) same wrote);
}

-- ---- of a run that begins as it was asked for

module _ {limit limit' : ℕ} {start start' : Progress} (as_far : limit ≡ limit') (begins : start ≡ start') (t : RuleTable) where
  as_asked : (P : ℕ → Progress → Type 0) → P limit start → P limit' start'
  as_asked P p = subst (λ n. P n start') as_far (subst (P limit) begins p)

  pub Ends-asked : (a old new : Option (List ℕ)) (result : Result Unit RunFault) → IfSome a (λ script. EndsFrom t limit start script old new result) → IfSome a (λ script. EndsFrom t limit' start' script old new result)
  Ends-asked a old new result = as_asked (λ n s. IfSome a (λ script. EndsFrom t n s script old new result))

  pub Whole-asked : (had left : Option (List ℕ)) (P : List ℕ → Type 0) → DoesWholeLines t limit start had left P → DoesWholeLines t limit' start' had left P
  Whole-asked had left P = as_asked (λ n s. DoesWholeLines t n s had left P)
