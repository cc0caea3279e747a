-- How far the turns of a line have come.
use Rattle.run_session.proofs.Prelude.{◌≡◌, ℕ, zero, suc, ◌+◌, ◌-◌, ◌<◌, ◌≤◌, Option, None, Some, inl, inr, refl, sym, ap, subst, true, false, Bool, Result, Ok, Err, arith, Stream, Event, RuleTable, Draws, Progress, AppendsEntry, TurnDoes, TurnsDo, TurnFills, TurnsFill, RecordFault, LogFull, Memory, EventEnds, TurnsTake, SomeTurnsEnd, TurnsBegin, TurnsEnd}

module _ (draws : Draws) (t : RuleTable) (limit : ℕ) where
  -- some turns, and then others: these together are as many turns
  pub turns_compose : (n m : ℕ) (stream words rest : Stream) (begun now after : Progress) → TurnsTake draws t limit n stream words begun now → TurnsTake draws t limit m words rest now after → TurnsTake draws t limit (n + m) stream rest begun after
  turns_compose n zero stream words rest begun now after taken (left, same) =
      let all : n ≡ n + 0 = omega arith in
      subst (λ k. TurnsTake draws t limit k stream rest begun after) all
      (subst (λ s. TurnsTake draws t limit n stream s begun after) (sym left) (subst (TurnsTake draws t limit n stream words begun) (sym same) taken))
  turns_compose n (suc m) stream words rest begun now after taken (mid, left, others, turn) =
      let all : suc (n + m) ≡ n + suc m = omega arith in
      subst (λ k. TurnsTake draws t limit k stream rest begun after) all
      (mid, left, turns_compose n m stream words left begun now mid taken others, turn)

  -- what some more turns do from here on, all of these do from the beginning on
  pub turns_go_on : (n more : ℕ) (stream rest : Stream) (begun now after : Progress) → TurnsTake draws t limit n stream rest begun now → TurnsDo draws t limit more rest now after → TurnsDo draws t limit (n + more) stream begun after
  turns_go_on zero more stream rest begun now after (left, same) does =
      let all : more ≡ 0 + more = omega arith in
      subst (λ k. TurnsDo draws t limit k stream begun after) all
      (subst (λ s. TurnsDo draws t limit more s begun after) left (subst (λ p. TurnsDo draws t limit more rest p after) same does))
  turns_go_on (suc n) more stream rest begun now after (mid, words, taken, (event, below, drawn, entry)) does =
      let all : n + suc more ≡ suc n + more = omega arith in
      subst (λ k. TurnsDo draws t limit k stream begun after) all
      (turns_go_on n (suc more) stream words begun mid after taken
      (below, subst (λ (p : Option Event × Stream). TurnDoes t p.0 (λ next. TurnsDo draws t limit more p.1 next after) mid after) (sym drawn) (now, entry, does)))

  -- a later turn that meets a full log
  pub turns_fill_on : (n more : ℕ) (stream rest : Stream) (begun now after : Progress) → TurnsTake draws t limit n stream rest begun now → TurnsFill draws t limit more rest now after → TurnsFill draws t limit (n + more) stream begun after
  turns_fill_on zero more stream rest begun now after (left, same) fills =
      let all : more ≡ 0 + more = omega arith in
      subst (λ k. TurnsFill draws t limit k stream begun after) all
      (subst (λ s. TurnsFill draws t limit more s begun after) left (subst (λ p. TurnsFill draws t limit more rest p after) same fills))
  turns_fill_on (suc n) more stream rest begun now after (mid, words, taken, (event, below, drawn, entry)) fills =
      let all : n + suc more ≡ suc n + more = omega arith in
      subst (λ k. TurnsFill draws t limit k stream begun after) all
      (turns_fill_on n (suc more) stream words begun mid after taken
      (inr (below, subst (λ (p : Option Event × Stream). TurnFills t p.0 (λ next. TurnsFill draws t limit more p.1 next after) mid) (sym drawn) (now, entry, fills))))

  module _ (turns n : ℕ) (stream rest : Stream) (begun now : Progress) (taken : TurnsTake draws t limit n stream rest begun now) where
    -- they are all
    pub turns_all : n ≡ turns → TurnsDo draws t limit turns stream begun now
    turns_all all =
        let whole : n + 0 ≡ turns = omega (arith, all) in
        subst (λ k. TurnsDo draws t limit k stream begun now) whole (turns_go_on n 0 stream rest begun now now taken refl)

    -- they are some first ones
    pub turns_begun : n ≤ turns → TurnsBegin draws t limit turns stream begun now
    turns_begun few =
        let whole : n + 0 ≡ n = omega arith in
        (n, few, subst (λ k. TurnsDo draws t limit k stream begun now) whole (turns_go_on n 0 stream rest begun now now taken refl))

    module _ (more : n < turns) where
      left_over : n + suc (turns - (n + 1)) ≡ turns
      left_over = omega (arith, more)

      -- the next draws nothing, and is the last
      pub turns_rest : now.count < limit → (draws t now.moment.state rest).0 ≡ None → TurnsDo draws t limit turns stream begun now
      turns_rest below drawn =
          let others = turns - (n + 1) in
          subst (λ k. TurnsDo draws t limit k stream begun now) left_over
          (turns_go_on n (suc others) stream rest begun now now taken
          (below, subst (λ (e : Option Event). TurnDoes t e (λ next. TurnsDo draws t limit others (draws t now.moment.state rest).1 next now) now now) (sym drawn) refl))

      -- the next meets a full log
      pub turns_full : limit ≤ now.count → TurnsFill draws t limit turns stream begun now
      turns_full full =
          subst (λ k. TurnsFill draws t limit k stream begun now) left_over
          (turns_fill_on n (suc (turns - (n + 1))) stream rest begun now now taken (inl (full, refl)))

  -- ---- all turns of a line in one call

  turns_stopped : (turns : ℕ) (stream left : Stream) (before after : Progress) (done : Bool) → SomeTurnsEnd draws t limit turns stream left before after (Ok done) → TurnsDo draws t limit turns stream before after
  turns_stopped turns stream left before after true ends =
      turns_all turns ends.taken stream ends.rest before after ends.takes ends.stops.0
  turns_stopped turns stream left before after false ends =
      turns_rest turns ends.taken stream ends.rest before after ends.takes ends.stops.0 ends.stops.1 ends.stops.2

  pub turns_done : (turns : ℕ) (stream seeded left : Stream) (before after : Progress) (some : Result Bool RecordFault) (done : Bool) → stream ≡ seeded → some ≡ Ok done → SomeTurnsEnd draws t limit turns stream left before after some → TurnsDo draws t limit turns seeded before after
  turns_done turns stream seeded left before after some done same was ends =
      subst (λ s. TurnsDo draws t limit turns s before after) same
      (turns_stopped turns stream left before after done (subst (SomeTurnsEnd draws t limit turns stream left before after) was ends))

  turns_faulted : (turns : ℕ) (stream left : Stream) (before after : Progress) (fault : RecordFault) → SomeTurnsEnd draws t limit turns stream left before after (Err fault) → TurnsEnd draws t limit turns stream before after (Err fault)
  turns_faulted turns stream left before after LogFull ends =
      turns_full turns ends.taken stream ends.rest before after ends.takes ends.stops.0 ends.stops.1
  turns_faulted turns stream left before after Memory ends =
      turns_begun turns ends.taken stream ends.rest before after ends.takes ends.stops

  pub turns_failed : (turns : ℕ) (stream seeded left : Stream) (before after : Progress) (some : Result Bool RecordFault) (fault : RecordFault) (result : Result Unit RecordFault) → stream ≡ seeded → some ≡ Err fault → result ≡ Err fault
      → SomeTurnsEnd draws t limit turns stream left before after some → TurnsEnd draws t limit turns seeded before after result
  turns_failed turns stream seeded left before after some fault result same was is ends =
      subst (λ s. TurnsEnd draws t limit turns s before after result) same
      (subst (TurnsEnd draws t limit turns stream before after) (sym is)
      (turns_faulted turns stream left before after fault (subst (SomeTurnsEnd draws t limit turns stream left before after) was ends)))

-- ---- while turns are taken

-- This many of these turns were taken.
pub record Turned (draws : Draws) (t : RuleTable) (limit turns n : ℕ) (first stream : Stream) (begun now : Progress) : Type 0 where
  pub within : n ≤ turns
  pub takes : TurnsTake draws t limit n first stream begun now

-- a count that is not at its limit is below it
pub below_limit : (n limit : ℕ) → n ≤ limit → (n ≡ limit → false ≡ true) → n < limit
below_limit n limit most other = grind arith

module _ {draws : Draws} {t : RuleTable} {limit turns n : ℕ} {first stream : Stream} {begun now : Progress} (so_far : Turned draws t limit turns n first stream begun now) where
  -- all were taken
  pub turned_all : turns ≤ n → SomeTurnsEnd draws t limit turns first stream begun now (Ok true)
  turned_all done =
      record { taken = n; rest = stream; takes = so_far.takes; stops = (omega (arith, done, so_far.within), refl) }

  -- there was no memory for the next one
  pub turned_begun : (left : Stream) (result : Result Bool RecordFault) → result ≡ Err Memory → SomeTurnsEnd draws t limit turns first left begun now result
  turned_begun left result is =
      subst (SomeTurnsEnd draws t limit turns first left begun now) (sym is)
      (record { taken = n; rest = stream; takes = so_far.takes; stops = so_far.within })

  module _ (more : n < turns) where
    -- one more was taken
    pub turned_more : (event : Event) (rest : Stream) (next : Progress) → now.count < limit → draws t now.moment.state stream ≡ (Some event, rest) → AppendsEntry t event now next → Turned draws t limit turns (n + 1) first rest begun next
    turned_more event rest next below drawn entry =
        let more_by_one : suc n ≡ n + 1 = omega arith in record {
          within = omega (arith, more);
          takes = subst (λ m. TurnsTake draws t limit m first rest begun next) more_by_one (now, stream, so_far.takes, (event, below, drawn, entry));
        }

    -- the next one draws nothing
    pub turned_last : (left rest : Stream) → now.count < limit → draws t now.moment.state stream ≡ (None, rest) → SomeTurnsEnd draws t limit turns first left begun now (Ok false)
    turned_last left rest below drawn =
        record { taken = n; rest = stream; takes = so_far.takes; stops = (more, below, ap (λ (p : Option Event × Stream). p.0) drawn) }

    -- the next one meets a full log
    pub turned_full : (left : Stream) → limit ≤ now.count → SomeTurnsEnd draws t limit turns first left begun now (Err LogFull)
    turned_full left full = record { taken = n; rest = stream; takes = so_far.takes; stops = (more, full) }

  -- the next one's event found no memory; the log was not full
  pub turned_failed : (limit' : ℕ) (left : Stream) (after : Progress) (event : Event) (fault : RecordFault) (result : Result Bool RecordFault) → now.count < limit' → EventEnds t limit' event now after (Err fault) → result ≡ Err fault → SomeTurnsEnd draws t limit turns first left begun after result
  turned_failed limit' left after event LogFull result below ends is = absurd (omega (arith, below, ends.0))
  turned_failed limit' left after event Memory result below ends is =
      subst (λ p. SomeTurnsEnd draws t limit turns first left begun p result) (sym ends) (turned_begun left result is)
