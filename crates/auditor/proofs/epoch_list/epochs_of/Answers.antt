use Rattle.auditor.proofs.Prelude.{◌≡◌, ◌∙◌, ◌≤◌, ◌+◌, ℕ, open_at, Epoch, List, [], None, length, refl, sym, ap, subst, eqb-true, nil_from_length, CostedEpoch, Summary, counted_part}
use Rattle.auditor.proofs.WholeTranscripts.{begun_at, behind_judged, compared_none, first_judged, passed_at, passed_compared, passed_shorter}
use Rattle.auditor.proofs.EpochBounds.{rows_few, rows_paid}
use Rattle.auditor.proofs.EpochSteps.{IsListed, listed_start, listed_on, listed_all, listed_bounded}
use Rattle.auditor.proofs.epoch_list.epochs_of.Goals as goal

pub returns-in-Err-clause-fault : goal.returns-in-Err-clause-fault
returns-in-Err-clause-fault c = first_judged c.args.bytes.now c.in-Err.fault c.in-Err.ensures.fault

pub loop-rest-init : goal.loop-rest-init
loop-rest-init c =
    let replay = c.in-Ok.begun.0 in
    let rest = c.in-Ok.begun.1.now in
    let begins = c.in-Ok.ensures.begins in
    let row : CostedEpoch = record { epoch = c.present_epoch-epoch.result; cost = None; rounds = 0 } in
    let it = c.in_ok-rounds.rounds in
    let start = listed_start c.args.bytes.now replay.rules replay.size replay.begun replay.audit rest row it begins.opened (c.present_epoch-epoch.ensures ∙ ap (λ (n : ℕ). open_at replay.begun (record { state = replay.audit.state; spent = n })) c.spent.ensures.spent) refl refl c.in_ok-rounds.ensures.rounds c.in_ok-rounds.ensures.rules c.in_ok-rounds.ensures.counts in
    record {
      at = begun_at c.args.bytes.now replay rest begins;
      compared = compared_none replay rest begins.unwanted begins.none_same;
      listed = subst (λ (past : List CostedEpoch). IsListed c.args.bytes.now replay.rules replay.size replay.audit rest past row it) (sym c.new-list.ensures.items) start;
      few = subst (λ (e : Epoch). e.moves ≤ replay.audit.counted.moves + 4294967295) (sym c.present_epoch-epoch.ensures) c.spent.ensures.few;
    }

pub returns-in-Err-advance_counted-clause-fault : goal.returns-in-Err-advance_counted-clause-fault
returns-in-Err-advance_counted-clause-fault c =
    behind_judged c.args.bytes.now c.loop-rest.replay.audit.number c.in-Err-advance_counted.fault (c.in-Err-advance_counted.ensures.fault c.args.bytes.now c.loop-rest.invariant.at)

pub loop-rest-smaller : goal.loop-rest-smaller
loop-rest-smaller c =
    passed_shorter c.loop-rest.replay c.advance_counted.new.self c.loop-rest.rest.now c.in-Ok-advance_counted.found.0.now c.in-Ok-advance_counted.ensures.passed

pub loop-rest-preserved : goal.loop-rest-preserved
loop-rest-preserved c =
    let old = c.loop-rest.replay in
    let new = c.advance_counted.new.self in
    let rest = c.loop-rest.rest.now in
    let behind = c.in-Ok-advance_counted.found.0.now in
    let cost = c.in-Ok-advance_counted.found.1 in
    let passed = c.in-Ok-advance_counted.ensures.passed in
    let i = c.loop-rest.invariant in
    record {
      at = passed_at c.args.bytes.now old new rest behind i.at passed;
      compared = passed_compared old new rest behind passed;
      listed =
          listed_on c.args.bytes.now old new rest behind c.loop-rest.list.items c.turn.new.past.items c.loop-rest.row c.in_ok-row.row cost c.rounds.result c.loop-rest.rounds c.advance_counted.new.rounds i.listed passed c.in-Ok-advance_counted.ensures.cost
          (λ part e. c.in_ok-row.ensures.turn part (e ∙ ap (λ (s : Summary). counted_part s part) (sym c.counted-before.ensures.counted)))
          c.rounds.ensures c.advance_counted.ensures.rules (subst (λ (s : Summary). s.entries ≤ 16777216) c.counted-before.ensures.counted c.counted-before.ensures.entries)
          (c.in-Ok-advance_counted.ensures.counts i.listed.by_rules);
      few = c.in_ok-row.ensures.counted;
    }

pub returns-clause-epochs : goal.returns-clause-epochs
returns-clause-epochs c =
    let replay = c.loop-rest.replay in
    let rest = c.loop-rest.rest.now in
    let none : rest ≡ [] = nil_from_length rest (eqb-true (length rest) 0 (sym c.is_empty.ensures ∙ c.loop-rest-test.false)) in
    listed_all c.args.bytes.now replay.rules replay.size replay.audit rest c.loop-rest.list.items c.push.new.list.items c.loop-rest.row c.loop-rest.rounds c.loop-rest.invariant.listed none c.in_ok-push.ensures

pub returns-clause-bounded : goal.returns-clause-bounded
returns-clause-bounded c = listed_bounded c.args.bytes.now c.loop-rest.replay.rules c.push.new.list.items (returns-clause-epochs c)

pub returns-clause-few : goal.returns-clause-few
returns-clause-few c = rows_few c.args.bytes.now c.loop-rest.replay.rules c.push.new.list.items (returns-clause-epochs c)

pub returns-clause-paid : goal.returns-clause-paid
returns-clause-paid c = rows_paid c.args.bytes.now c.loop-rest.replay.rules c.push.new.list.items
