use Rattle.suitor_index.proofs.Prelude.{◌≡◌, ◌∙◌, ℕ, Bool, ◌&&◌, nat_le, sym, ap, ap₂, State, asks_for, is_reached, one_if}
use Rattle.std.proofs.Common.{is_none}
use Rattle.suitor_index.proofs.Counts.{others_counted}
use Rattle.suitor_index.proofs.OpenTargets.{reached_is}
use Rattle.suitor_index.proofs.indexed_net.IndexedNet.is_turned_by.Goals as goal
use Rattle.suitor_index.proofs.indexed_net.IndexedNet.is_turned_by.Goals.{then-asks_for, else-asks_for}

pub returns : goal.returns
returns g c =
    let s : State = c.args.self.now.state in
    let above = g.R.Rules.COURTS_HIGHER_ONLY in
    let opens = g.R.Rules.table.opens in
    let w = c.args.w in
    let v = c.args.v in
    let told : c.if-asks_for.is_null_with_none_but ≡ (asks_for above w v && c.args.is_open) = elim c.if-asks_for.branch [
      | then-asks_for b ↦ b.is_null_with_none_but-is ∙ sym (ap (λ a. a && c.args.is_open) (sym c.asks_for.ensures ∙ b.if-asks_for.true))
      | else-asks_for b ↦ b.is_null_with_none_but-is ∙ b.if-asks_for.false ∙ sym (ap (λ a. a && c.args.is_open) (sym c.asks_for.ensures ∙ b.if-asks_for.false))
    ] in
    c.is_null_with_none_but.ensures
    ∙ ap₂ (λ (a b : Bool). a && b) (ap (λ t. is_none t.pointer) c.tally.ensures.value)
    (ap₂ (λ (n : ℕ) (b : Bool). nat_le n (one_if b)) (ap (λ t. t.reached) c.tally.ensures.value)
    (told ∙ ap (λ b. asks_for above w v && b) c.requires.open ∙ sym (reached_is above opens s w v))
    ∙ others_counted s.network (is_reached above opens s w) w v c.tally.ensures.sound.is_network c.requires.linked)
