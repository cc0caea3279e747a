use Rattle.std.proofs.Common.{rules, ◌≡◌, ◌≤◌, ◌-◌, ◌<◌, length, get_or, arith, ap, ◌∙◌}
use Rattle.daemon.proofs.Climb.{few_members}
use Rattle.daemon.proofs.choose.list_of.Goals as goal
use Rattle.daemon.proofs.choose.list_of.Goals.{then-not-is_empty+else-prove+else-prove-2, else-not-is_empty}

pub returns-clause-few : goal.returns-clause-few
returns-clause-few c =
    let same = ap length c.in_ok-list.ensures in
    elim c.if-not-is_empty.branch [
      | then-not-is_empty+else-prove+else-prove-2 w ↦
          let some : 0 < length c.in_ok-list.list.items = search rules in
          few_members c.args.set.now c.in_ok-list.list.items w.index.result.now w.index-then-not-is_empty.result.now c.in_ok-list.ensures some w.index.ensures (w.index-then-not-is_empty.ensures ∙ ap (λ n. get_or c.in_ok-list.list.items (n - 1) w.index-then-not-is_empty.result.now) (let e : w.len.result ≡ length c.in_ok-list.list.items = omega arith in e)) (omega arith) (omega arith)
      | else-not-is_empty w ↦ (let none : length c.in_ok-list.list.items ≤ 0 = search rules in omega arith)
    ]
