-- How far the turns of a line have come, if their text is written while they are taken.
use Rattle.script_run.proofs.Prelude.{◌≡◌, ℕ, ◌+◌, ◌<◌, ◌≤◌, List, ◌++◌, Option, Bool, true, false, Result, Ok, Err, refl, sym, subst, arith, AppendsLess, Stream, RuleTable, Draws, Progress, TurnsTake, SomeTurnsEnd, turns_compose, turns_all, turns_begun, turns_rest, turns_full, RecordFault, LogFull, Memory, Record, RunFault, Write, fault_of, SplitsOutput, with_text, TurnsWrite}
use Rattle.script_run.proofs.TextShift.{turns_taken_add}
use Rattle.script_run.proofs.RunEnds.{Hands-begun, Hands-grown, Hands-none, Hands-on}

-- This many turns were taken, and the writer has all of their text but what the run holds.
pub record SoFar (draws : Draws) (t : RuleTable) (limit taken : ℕ) (first stream : Stream) (begun now : Progress) (had known : Option (List ℕ)) : Type 0 where
  pub text : List ℕ
  pub takes : TurnsTake draws t limit taken first stream begun (with_text now text)
  pub handed : SplitsOutput had known text now.text

module _ {draws : Draws} {t : RuleTable} {limit : ℕ} {first : Stream} {begun : Progress} {had : Option (List ℕ)} where
  none_so_far : SoFar draws t limit 0 first first begun begun had had
  none_so_far =
      record { text = begun.text; takes = (refl, refl); handed = Hands-none had begun.text }

  pub first_so_far : (taken : ℕ) → taken ≡ 0 → SoFar draws t limit taken first first begun begun had had
  first_so_far taken none = subst (λ n. SoFar draws t limit n first first begun begun had had) (sym none) none_so_far

  pub counted_so_far : {taken : ℕ} {stream : Stream} {now : Progress} {known : Option (List ℕ)} (turns : ℕ) → taken ≡ turns → SoFar draws t limit taken first stream begun now had known → SoFar draws t limit turns first stream begun now had known
  counted_so_far {taken} {stream} {now} {known} turns same h = subst (λ n. SoFar draws t limit n first stream begun now had known) same h

  more_so_far : {taken : ℕ} {stream : Stream} {now : Progress} {known : Option (List ℕ)} (more : ℕ) (rest : Stream) (after : Progress) → SoFar draws t limit taken first stream begun now had known → TurnsTake draws t limit more stream rest now after
      → SoFar draws t limit (taken + more) first rest begun after had known
  more_so_far {taken} {stream} {now} more rest after h turns =
      let a = turns_taken_add draws t limit more stream rest now.rules after.rules now.moment after.moment now.count after.count now.counting after.counting now.text after.text turns in record {
        text = h.text ++ a.more;
        takes = turns_compose draws t limit taken more first stream rest begun (with_text now h.text) (with_text after (h.text ++ a.more)) h.takes (a.leads h.text);
        handed = Hands-grown a.more h.handed a.grown;
      }

  -- some of the text was written
  pub handed_so_far : {taken : ℕ} {stream : Stream} {now : Progress} {known known' : Option (List ℕ)} {text : List ℕ} → SoFar draws t limit taken first stream begun now had known → SplitsOutput known known' now.text text
      → SoFar draws t limit taken first stream begun (with_text now text) had known'
  handed_so_far {now = now} {known = known} {known' = known'} {text = text} h more =
      record { text = h.text; takes = h.takes; handed = Hands-on had known known' h.text now.text text h.handed more }

  -- all were taken
  pub all_so_far : {taken : ℕ} {stream : Stream} {now : Progress} {known : Option (List ℕ)} {done : Unit} (turns : ℕ) → SoFar draws t limit taken first stream begun now had known → taken ≡ turns → TurnsWrite draws t limit turns first begun now had known (Ok done)
  all_so_far {taken} {stream} {now} turns h all =
      (h.text, turns_all draws t limit turns taken first stream begun (with_text now h.text) h.takes all, h.handed)

  -- the writer failed
  pub unwritten_so_far : {taken : ℕ} {stream : Stream} {now : Progress} {known : Option (List ℕ)} (turns : ℕ) (after : Progress) (known' : Option (List ℕ)) (result : Result Unit RunFault) → SoFar draws t limit taken first stream begun now had known → taken ≤ turns → AppendsLess known known' now.text → result ≡ Err Write
      → TurnsWrite draws t limit turns first begun after had known' result
  unwritten_so_far {taken} {stream} {now} {known} turns after known' result h few less is =
      subst (TurnsWrite draws t limit turns first begun after had known') (sym is)
      (with_text now h.text, turns_begun draws t limit turns taken first stream begun (with_text now h.text) h.takes few, Hands-begun had known known' h.text now.text h.handed (less.0, less.2))

  module _ {taken some : ℕ} {stream left : Stream} {now : Progress} {known : Option (List ℕ)} (turns : ℕ) (after : Progress) (h : SoFar draws t limit taken first stream begun now had known) (few : taken + some ≤ turns) where
    -- a turn drew no event
    drawn_none : {done : Unit} → SomeTurnsEnd draws t limit some stream left now after (Ok false) → TurnsWrite draws t limit turns first begun after had known (Ok done)
    drawn_none ends =
        let all = more_so_far ends.taken ends.rest after h ends.takes in
        let less : taken + ends.taken < turns = omega (arith, ends.stops.0, few) in
        (all.text, turns_rest draws t limit turns (taken + ends.taken) first ends.rest begun (with_text after all.text) all.takes less ends.stops.1 ends.stops.2, all.handed)

    stopped_by : (fault : RecordFault) → SomeTurnsEnd draws t limit some stream left now after (Err fault) → TurnsWrite draws t limit turns first begun after had known (Err (fault_of (Record fault)))
    stopped_by LogFull ends =
        let all = more_so_far ends.taken ends.rest after h ends.takes in
        let less : taken + ends.taken < turns = omega (arith, ends.stops.0, few) in
        (all.text, turns_full draws t limit turns (taken + ends.taken) first ends.rest begun (with_text after all.text) all.takes less ends.stops.1, all.handed)
    stopped_by Memory ends =
        let all = more_so_far ends.taken ends.rest after h ends.takes in
        let most : taken + ends.taken ≤ turns = omega (arith, ends.stops, few) in
        (all.text, turns_begun draws t limit turns (taken + ends.taken) first ends.rest begun (with_text after all.text) all.takes most, all.handed)

    all_of_some : SomeTurnsEnd draws t limit some stream left now after (Ok true) → SoFar draws t limit (taken + some) first left begun after had known
    all_of_some ends =
        subst (λ s. SoFar draws t limit (taken + some) first s begun after had known) (sym ends.stops.1)
        (subst (λ m. SoFar draws t limit (taken + m) first ends.rest begun after had known) ends.stops.0 (more_so_far ends.taken ends.rest after h ends.takes))

    module _ {limit' : ℕ} (result : Result Bool RecordFault) (as_far : limit' ≡ limit) (ends : SomeTurnsEnd draws t limit' some stream left now after result) where
      found : (is : Result Bool RecordFault) → result ≡ is → SomeTurnsEnd draws t limit some stream left now after is
      found is same =
          subst (SomeTurnsEnd draws t limit some stream left now after) same
          (subst (λ l. SomeTurnsEnd draws t l some stream left now after result) as_far ends)

      pub piece_last : {done : Unit} → result ≡ Ok false → TurnsWrite draws t limit turns first begun after had known (Ok done)
      piece_last is = drawn_none (found (Ok false) is)

      pub piece_stopped : (fault : RecordFault) (ended : Result Unit RunFault) → result ≡ Err fault → ended ≡ Err (fault_of (Record fault)) → TurnsWrite draws t limit turns first begun after had known ended
      piece_stopped fault ended is was =
          subst (TurnsWrite draws t limit turns first begun after had known) (sym was) (stopped_by fault (found (Err fault) is))

      pub piece_taken : result ≡ Ok true → SoFar draws t limit (taken + some) first left begun after had known
      piece_taken is = all_of_some (found (Ok true) is)
