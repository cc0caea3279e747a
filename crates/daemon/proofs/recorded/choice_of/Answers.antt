use Rattle.daemon.proofs.Prelude.{rules, ◌≡◌, ◌≤◌, length, take, true, ap, sym, ◌∙◌, arith, plain, named_of, first_or_all}
use Rattle.daemon.proofs.RecordedPlay.{plain_first, chosen_few, made}
use Rattle.daemon.proofs.recorded.choice_of.Goals as goal
use Rattle.daemon.proofs.recorded.choice_of.Goals.{then-central, else-central}

pub returns : goal.returns
returns c =
    let names = named_of c.args.names.now c.args.list.now in
    let chosen = first_or_all c.args.central names in
    let is : c.if-central.items.items ≡ plain chosen =
    elim c.if-central.branch [
      | then-central w ↦ ap (λ v. v.items) w.items-is ∙ w.truncate.ensures.items ∙ ap (take 1) c.in_ok-items.ensures ∙ plain_first true names ∙ ap (λ b. plain (first_or_all b names)) (sym w.if-central.true)
      | else-central w ↦ ap (λ v. v.items) w.items-is ∙ c.in_ok-items.ensures ∙ ap (λ b. plain (first_or_all b names)) (sym w.if-central.false)
    ]
    in
    let some : 1 ≤ length c.if-central.items.items = search rules in
    let few = chosen_few c.args.central c.args.names.now c.args.list.now in
    let all = c.requires in
    made c.new.result c.if-central.items.items chosen c.new.ensures is some (omega arith)
