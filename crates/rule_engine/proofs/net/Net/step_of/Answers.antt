use Rattle.rule_engine.proofs.Prelude.{◌≡◌, [], subst, ap, sym, ◌∙◌, length, AllocError, NetView, Step, State, items_refusal, Prepares, moves_by, size_refusal, HaveOutcomes}
use Rattle.rule_engine.proofs.PreparedReplies.{IsTaken, sized_prepares, taken_prepares}
use Rattle.rule_engine.proofs.net.Net.step_of.Goals as goal

pub take_items-refused-requires-clause-judged : goal.take_items-refused-requires-clause-judged
take_items-refused-requires-clause-judged g c =
    let index : c.new-index.result.state ≡ c.args.self.now.state = ap (λ n. n.state) c.new-index.ensures ∙ ap (λ (n : NetView). n.state) c.self.view_is in
    subst (λ (s : State). HaveOutcomes g.R.Rules.table s c.args.items.now c.args.judged.now) (sym index) c.requires

pub returns-in-Some : goal.returns-in-Some
returns-in-Some g c =
    let t = g.R.Rules.table in
    let items = c.args.items.now in
    let size : c.refused_size.result ≡ size_refusal t.central (length items) = c.refused_size.ensures ∙ ap (λ b. size_refusal b (length items)) (c.CENTRAL.ensures ∙ sym g.R.Rules.laws.is_central) in
    sized_prepares t c.args.self.now items c.in-Some.refusal (sym size ∙ c.in-Some.is)

pub returns : goal.returns
returns g c =
    let t = g.R.Rules.table in
    let net = c.args.self.now in
    let items = c.args.items.now in
    let taken = c.take_items-refused in
    let index : c.new-index.result.state ≡ net.state = ap (λ n. n.state) c.new-index.ensures ∙ ap (λ (n : NetView). n.state) c.self.view_is in
    let size : c.refused_size.result ≡ size_refusal t.central (length items) = c.refused_size.ensures ∙ ap (λ b. size_refusal b (length items)) (c.CENTRAL.ensures ∙ sym g.R.Rules.laws.is_central) in
    let is_taken : IsTaken t net.state items taken.result taken.new.gathered.whole taken.new.gathered.moves.items =
    record {
      size = sym size ∙ c.in_default.is;
      refusal = sym (taken.ensures.refusal ∙ ap (λ (s : State). items_refusal t s [] items) index);
      moves = λ none whole. taken.ensures.moves none whole ∙ ap (λ (s : State). moves_by t s items) index;
    }
    in
    subst (λ (n : NetView). Prepares {E = AllocError} t net (Step items) c.step_reply.result n) (sym c.self.view_is)
    (taken_prepares t net items taken.result taken.new.gathered.whole taken.new.gathered.moves.items c.step_reply.result is_taken c.step_reply.ensures.told c.step_reply.ensures.whole c.step_reply.ensures.want)
