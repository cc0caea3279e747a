-- Turns that are taken one by one, and where they end.
use Rattle.storm_runner.proofs.Prelude.{◌≡◌, ◌∙◌, ℕ, ◌+◌, ◌<◌, ◌≤◌, Bool, true, List, [], ◌∷◌, ◌++◌, length, Option, None, Some, Result, Ok, Err, IsErr, refl, sym, ap, subst, append_assoc, length-append, arith, All, is_some, false≢true, All-nil, All-cons, All-push, IsPrefix, Stream, Event, Reply, RuleTable, State, Draws, drawn_step, drawn_fault, seeded_stream, Receipt, next_receipt, prefix_trans, PublishedJournalView, ClerkView, base_from, front_from, front_of, noted, seen_by, Setting, IsLogIn, CallFault, call_fault, ChoosesOn, IsChosenReply, some_of, seen_few, Drive, Scramble, Turns, IsOfStep, IsOfFault, AreAbove, Scene, AreDrawn, DrawnFrom, AreTurns, IsTurn, IsIdleBehind, IsQuiet, IsEmpty, DrawsNone, AddsReceipts, AddsTurn, FindsNothing, EndsTurn, Plays, TakesTurnsUpTo, scene_of}
use Rattle.std.proofs.lemmas.Option.{none-some}
use Rattle.storm_runner.proofs.DrawnReceipts.{AllFind, faults_found, found_is, idle_is, steps_found}
use Rattle.storm_runner.proofs.LogExtension.{turns_last}

-- the front of some receipts is that of the later ones, from that of the earlier ones
pub front_behind : (low : ℕ) (old own : List Receipt) → front_from low (old ++ own) ≡ front_from (front_from low old) own
front_behind low [] own = refl
front_behind low (receipt ∷ old) own = front_behind receipt.seq old own

-- ---- one turn

-- what an event, or none, drawn under the lock makes of a clerk whose note then shows what was published
pub turn_ends : (setting : Setting) (draws : Draws) (words left : Stream) (before after : PublishedJournalView) (old mid new : ClerkView) (answer : Option Reply) → IsLogIn setting before.log → call_fault (seen_by old) before.log ≡ None
    → ChoosesOn setting.table before.log (λ s event. (event, left) ≡ draws setting.table s words) old.receipts mid.receipts answer → some_of answer (after ≡ before) (IsPrefix before.log.entries (noted mid.note)) → new.receipts ≡ mid.receipts → IsPrefix after.log.entries (noted new.note)
    → IsPrefix (noted mid.note) (noted new.note) → EndsTurn setting draws words left old new (is_some answer)
turn_ends setting draws words left before after old mid new answer own free drew begins same seen grows =
    by_event answer drew.event drew.chosen drew.is_told begins
  where
    by_event : (answer : Option Reply) (event : Option Event) → (event, left) ≡ draws setting.table before.log.state words → IsChosenReply setting.table before.log event old.receipts mid.receipts answer → some_of answer (after ≡ before) (IsPrefix before.log.entries (noted mid.note))
        → EndsTurn setting draws words left old new (is_some answer)
    by_event None None drawn (none, kept) idle =
        let few = seen_few (seen_by old) before.log free in
        record {
          same = same ∙ kept;
          idle = record {
            at = record {
              log = before.log;
              is_own = own;
              begins = subst (λ (held : PublishedJournalView). IsPrefix held.log.entries (noted new.note)) idle seen;
              behind = omega (arith, few);
            };
            idle = (words, sym (ap (λ (d : Option Event × Stream). d.0) drawn));
          };
        }
    by_event (Some reply) (Some event) drawn (answered, added) begins =
        let few = seen_few (seen_by old) before.log free in
        record {
          receipt = next_receipt setting.table before.log event;
          added = same ∙ added;
          above = omega (arith, few);
          turn = record { log = before.log; own = own; begins = prefix_trans before.log.entries (noted mid.note) (noted new.note) begins grows; drawn = drawn; told = refl };
        }
    by_event None (Some event) drawn (some, added) begins = absurd (none-some (next_receipt setting.table before.log event).reply some)
    by_event (Some reply) None drawn (none, kept) begins = absurd (none-some reply (sym none))

-- ---- some turns

-- this many turns were taken
pub record Took (setting : Setting) (draws : Draws) (words left : Stream) (count : ℕ) (old new : ClerkView) : Type 0 where
  pub own : List Receipt
  pub added : new.receipts ≡ old.receipts ++ own
  pub as_many : length own ≡ count
  pub above : AreAbove old.base own
  pub turns : AreTurns (scene_of setting new) draws words own left

are_more : (scene : Scene) (draws : Draws) (words next left : Stream) (own : List Receipt) (receipt : Receipt) → AreTurns scene draws words own next → IsTurn scene draws next receipt left
    → AreTurns scene draws words (own ++ receipt ∷ []) left
are_more scene draws words next left [] receipt same turn = (left, subst (λ w. IsTurn scene draws w receipt left) same turn, refl)
are_more scene draws words next left (first ∷ own) receipt (second, taken, turns) turn =
    (second, taken, are_more scene draws second next left own receipt turns turn)

pub one_more : (setting : Setting) (draws : Draws) (words next left : Stream) (count : ℕ) (old mid new : ClerkView) → mid.base ≡ old.base → IsPrefix (noted mid.note) (noted new.note)
    → Took setting draws words next count old mid → AddsTurn setting draws next left mid new → Took setting draws words left (count + 1) old new
one_more setting draws words next left count old mid new base grows so_far adds =
    let own = so_far.own in
    let last = adds.receipt in
    let as_many = so_far.as_many in record {
      own = own ++ last ∷ [];
      added = adds.added ∙ ap (λ rs. rs ++ last ∷ []) so_far.added ∙ append_assoc old.receipts own (last ∷ []);
      as_many = omega (arith, as_many, length-append own (last ∷ []));
      above = All-push (λ r. base_from old.base < r.seq) own last so_far.above (subst (λ b. base_from b < last.seq) base adds.above);
      turns = are_more (scene_of setting new) draws words next left own last (turns_last setting (noted mid.note) (noted new.note) grows draws words own next so_far.turns) adds.turn;
    }

-- ---- where they end

-- all turns were taken
pub all_taken : (setting : Setting) (draws : Draws) (words left : Stream) (asked count : ℕ) (old new : ClerkView) → count ≡ asked → Took setting draws words left count old new → TakesTurnsUpTo {A = Unit {0}} {E = CallFault} setting draws words asked old new (Ok tt)
all_taken setting draws words left asked count old new all took =
    let as_many = took.as_many in
    record { own = took.own; added = took.added; fits = ((omega (arith, all, as_many), (left, took.turns), λ less. absurd (omega (arith, all, as_many, less))), took.above) }

-- the turns before one that found nothing are all that there are
pub turns_rested : (setting : Setting) (draws : Draws) (words left : Stream) (asked count : ℕ) (old mid new : ClerkView) → count < asked → IsPrefix (noted mid.note) (noted new.note) → Took setting draws words left count old mid → FindsNothing setting draws mid.receipts new
    → TakesTurnsUpTo {A = Unit {0}} {E = CallFault} setting draws words asked old new (Ok tt)
turns_rested setting draws words left asked count old mid new less grows took found =
    let as_many = took.as_many in
    let at = found.idle.at in
    let behind = at.behind in
    let front : front_of mid.receipts ≡ front_from (front_of old.receipts) took.own = ap front_of took.added ∙ front_behind 0 old.receipts took.own in
    record {
      own = took.own;
      added = found.same ∙ took.added;
      fits = (
        (
          omega (arith, less, as_many),
          (left, turns_last setting (noted mid.note) (noted new.note) grows draws words took.own left took.turns),
          λ _. record { at = record { log = at.log; is_own = at.is_own; begins = at.begins; behind = omega (arith, behind, front) }; idle = found.idle.idle },
        ),
        took.above,
      );
    }

-- a fault broke them off
pub breaks_off : (setting : Setting) (draws : Draws) (words left : Stream) (asked count : ℕ) (old new : ClerkView) (result : Result (Unit {0}) CallFault) → IsErr result → count < asked → Took setting draws words left count old new
    → TakesTurnsUpTo setting draws words asked old new result
breaks_off setting draws words left asked count old new (Ok done) err less took = absurd (false≢true err)
breaks_off setting draws words left asked count old new (Err fault) err less took =
    let as_many = took.as_many in
    record { own = took.own; added = took.added; fits = ((omega (arith, less, as_many), (left, took.turns)), took.above) }

-- ---- a line

module _ (draws : Draws) (P : Receipt → Type 0) (Idle : RuleTable → State → Type 0) (finds : AllFind draws P Idle) where
  all_of : (scene : Scene) (words : Stream) (own : List Receipt) (left : Stream) → AreTurns scene draws words own left → All P own
  all_of scene words [] left is = All-nil P
  all_of scene words (receipt ∷ own) left (next, turn, turns) =
      let t = scene.setting.table in
      let holds = found_is P (Idle t turn.log.state) t turn.log (draws t turn.log.state words).0 receipt.event (finds t turn.log words) (sym (ap (λ (d : Option Event × Stream). d.0) turn.drawn)) in
      All-cons P receipt own (subst P (sym turn.told) holds) (all_of scene next own left turns)

  drawn_from : (scene : Scene) (words : Stream) (own : List Receipt) → AreDrawn scene draws words own → DrawnFrom scene draws words P own
  drawn_from scene words own drawn = (all_of scene words own drawn.0 drawn.1, drawn)

  idle_behind : (scene : Scene) (front : ℕ) (own : List Receipt) → IsIdleBehind (DrawsNone draws) scene front own → IsIdleBehind Idle scene front own
  idle_behind scene front own is =
      let t = scene.setting.table in
      let log = is.at.log in
      let words = is.idle.0 in
      record { at = is.at; idle = idle_is P (Idle t log.state) t log (draws t log.state words).0 (finds t log words) is.idle.1 }

  pub whole_line : (setting : Setting) (words : Stream) (count : ℕ) (old new : ClerkView) → TakesTurnsUpTo {A = Unit {0}} {E = CallFault} setting draws words count old new (Ok tt)
      → AddsReceipts (λ own. ((length own ≤ count) × DrawnFrom (scene_of setting new) draws words P own × (length own < count → IsIdleBehind Idle (scene_of setting new) (front_of old.receipts) own)) × AreAbove old.base own) old.receipts new.receipts
  whole_line setting words count old new took =
      let turns = took.fits.0 in
      record {
        own = took.own;
        added = took.added;
        fits = (
          (turns.0, drawn_from (scene_of setting new) words took.own turns.1, λ less. idle_behind (scene_of setting new) (front_of old.receipts) took.own (turns.2 less)),
          took.fits.1,
        );
      }

  pub part_line : (setting : Setting) (words : Stream) (count : ℕ) (old new : ClerkView) (fault : CallFault) → TakesTurnsUpTo {A = Unit {0}} setting draws words count old new (Err fault)
      → AddsReceipts (λ own. ((length own < count) × DrawnFrom (scene_of setting new) draws words P own) × AreAbove old.base own) old.receipts new.receipts
  part_line setting words count old new fault took =
      record { own = took.own; added = took.added; fits = ((took.fits.0.0, drawn_from (scene_of setting new) words took.own took.fits.0.1), took.fits.1) }

pub drives : (setting : Setting) (turns : Turns) (words : Stream) (old new : ClerkView) (result : Result (Unit {0}) CallFault) → words ≡ seeded_stream turns.seed → TakesTurnsUpTo setting drawn_step words turns.count old new result → Plays setting (Drive turns) old new result
drives setting turns words old new (Ok done) same took = whole_line drawn_step IsOfStep IsQuiet steps_found setting (seeded_stream turns.seed) turns.count old new (rw same at took)
drives setting turns words old new (Err fault) same took = part_line drawn_step IsOfStep IsQuiet steps_found setting (seeded_stream turns.seed) turns.count old new fault (rw same at took)

pub scrambles : (setting : Setting) (turns : Turns) (words : Stream) (old new : ClerkView) (result : Result (Unit {0}) CallFault) → words ≡ seeded_stream turns.seed → TakesTurnsUpTo setting drawn_fault words turns.count old new result → Plays setting (Scramble turns) old new result
scrambles setting turns words old new (Ok done) same took = whole_line drawn_fault IsOfFault IsEmpty faults_found setting (seeded_stream turns.seed) turns.count old new (rw same at took)
scrambles setting turns words old new (Err fault) same took = part_line drawn_fault IsOfFault IsEmpty faults_found setting (seeded_stream turns.seed) turns.count old new fault (rw same at took)
