use Rattle.rule_engine.proofs.Prelude.{◌≡◌, List, [], ◌∷◌, Ok, subst, sym, ◌∙◌, AllocError, Item, Step, State, items_refusal, Prepares, moves_by, IsToldOf}
use Rattle.rule_engine.proofs.NodeScans.{one_alone}
use Rattle.rule_engine.proofs.PreparedReplies.{one_prepares}
use Rattle.rule_engine.proofs.net.Net.prepare_choice.Goals as goal

pub returns-then-items-eq1 : goal.returns-then-items-eq1
returns-then-items-eq1 g c =
    let t = g.R.Rules.table in
    let net = c.args.self.now in
    let reply = c.put_reply_to_one.new.reply in
    let item = c.index-items-0.result in
    let alone : item ∷ [] ≡ c.args.choice.now = sym (one_alone c.items-items.result.now item c.if-items-eq1.true c.index-items-0.is) ∙ c.items-items.ensures.items in
    subst (λ (items : List Item). Prepares {E = AllocError} t net (Step items) (Ok reply) net) alone
    (one_prepares t net item reply (subst (λ (s : State). IsToldOf (items_refusal t s [] (item ∷ [])) (moves_by t s (item ∷ [])) reply) c.index.ensures.state c.put_reply_to_one.ensures))
