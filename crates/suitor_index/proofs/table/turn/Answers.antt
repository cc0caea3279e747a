use Rattle.suitor_index.proofs.Prelude.{not_before, ◌≡◌, ◌∙◌, ◌&&◌, ℕ, Bool, true, nat_eq, take, sym, ap₂, arith, list_any, or_parts, asks_for}
use Rattle.suitor_index.proofs.Loops.{turned_both, turned_alike, can_turn_still, near_more, near_apart, near_there, all_ask_more, asked_so_far, asked_all, none_more, none_asked}
use Rattle.suitor_index.proofs.table.turn.Goals as goal

pub turn_at-alone-requires-clause-turns : goal.turn_at-alone-requires-clause-turns
turn_at-alone-requires-clause-turns g c =
    let w = c.w-item.result in
    let nodes = c.args.nodes.now in
    let i = c.loop-w.w-index in
    let asks : asks_for g.R.Rules.COURTS_HIGHER_ONLY w c.args.v ≡ true = sym c.asks_for.ensures ∙ c.if-not-asks_for.false in
    can_turn_still c.args.was c.args.is (λ (k : ℕ). list_any (nat_eq k) (take i nodes)) c.args.tallies.now c.loop-w.tallies w c.loop-w.invariant.told (not_before nodes i w c.requires.rising c.loop-w-test.true c.w-item.is)
    (c.requires.turns w (ap₂ (λ (a b : Bool). a && b) (near_there nodes i w c.loop-w-test.true c.w-item.is) asks))

pub loop-w-preserved : goal.loop-w-preserved
loop-w-preserved g c =
    let w = c.w-item.result in
    let nodes = c.args.nodes.now in
    let i = c.loop-w.w-index in
    record {
      ask = all_ask_more g.R.Rules.COURTS_HIGHER_ONLY c.args.v nodes i w c.loop-w-test.true c.w-item.is (sym c.asks_for.ensures ∙ c.if-not-asks_for.false) c.loop-w.invariant.ask;
      told = turned_both c.args.was c.args.is (λ k. list_any (nat_eq k) (take i nodes)) (λ k. nat_eq k w) _ _ _ _
          (λ k. near_apart nodes i w k c.requires.rising c.loop-w-test.true c.w-item.is)
          (λ k. near_more nodes i w k c.loop-w-test.true c.w-item.is)
          c.loop-w.invariant.told c.turn_at-alone.ensures.turned;
      none = λ off.
          let both = or_parts c.loop-w.alone c.turn_at-alone.result off in
          none_more c.args.was c.args.is nodes i w _ _ c.loop-w-test.true c.w-item.is c.turn_at-alone.ensures.turned (c.loop-w.invariant.none both.0) (sym c.turn_at-alone.ensures.alone ∙ both.1);
    }

pub returns-then-not-asks_for : goal.returns-then-not-asks_for
returns-then-not-asks_for g c =
    let w = c.w-item.result in
    let nodes = c.args.nodes.now in
    let i = c.loop-w.w-index in
    record {
      turned = turned_alike c.args.was c.args.is (λ k. list_any (nat_eq k) (take i nodes)) (λ k. list_any (nat_eq k) nodes && asks_for g.R.Rules.COURTS_HIGHER_ONLY k c.args.v) c.args.tallies.now c.loop-w.tallies
          (λ k. asked_so_far g.R.Rules.COURTS_HIGHER_ONLY c.args.v nodes i w k c.requires.rising c.loop-w-test.true c.w-item.is (sym c.asks_for.ensures ∙ c.if-not-asks_for.true) c.loop-w.invariant.ask)
          c.loop-w.invariant.told;
      none = λ off moved. none_asked (λ k. list_any (nat_eq k) (take i nodes)) (λ k. list_any (nat_eq k) nodes && asks_for g.R.Rules.COURTS_HIGHER_ONLY k c.args.v) c.args.is c.loop-w.tallies
          (λ k. asked_so_far g.R.Rules.COURTS_HIGHER_ONLY c.args.v nodes i w k c.requires.rising c.loop-w-test.true c.w-item.is (sym c.asks_for.ensures ∙ c.if-not-asks_for.true) c.loop-w.invariant.ask)
          (c.loop-w.invariant.none off);
    }

pub returns : goal.returns
returns g c =
    record {
      turned = turned_alike c.args.was c.args.is (λ k. list_any (nat_eq k) (take c.loop-w.w-index c.args.nodes.now)) (λ k. list_any (nat_eq k) c.args.nodes.now && asks_for g.R.Rules.COURTS_HIGHER_ONLY k c.args.v) c.args.tallies.now c.loop-w.tallies
          (asked_all g.R.Rules.COURTS_HIGHER_ONLY c.args.v c.args.nodes.now c.loop-w.w-index (omega arith) c.loop-w.invariant.ask)
          c.loop-w.invariant.told;
      none = λ off moved. none_asked (λ k. list_any (nat_eq k) (take c.loop-w.w-index c.args.nodes.now)) (λ k. list_any (nat_eq k) c.args.nodes.now && asks_for g.R.Rules.COURTS_HIGHER_ONLY k c.args.v) c.args.is c.loop-w.tallies
          (asked_all g.R.Rules.COURTS_HIGHER_ONLY c.args.v c.args.nodes.now c.loop-w.w-index (omega arith) c.loop-w.invariant.ask)
          (c.loop-w.invariant.none off);
    }
