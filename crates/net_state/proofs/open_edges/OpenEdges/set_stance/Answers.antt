use Rattle.net_state.proofs.Prelude.{◌≡◌, ℕ, List, IsTrue, Network, present, EdgeStance, ◌≤◌, ◌<◌, ◌+◌, ◌∙◌, length, set, arith, true≢false, ap, sym, subst, with_items_is, length-set, present_range, end_at, open_edges, open_to}
use Rattle.net_state.proofs.EdgeCounts.{few_neighbours, few_open, open_at_few, open_turned}
use Rattle.net_state.proofs.open_edges.OpenEdges.set_stance.Goals as goal

pub turn_end-self-requires-clause-few : goal.turn_end-self-requires-clause-few
turn_end-self-requires-clause-few c =
    let near = few_neighbours c.args.net.now.state.network c.args.v in
    omega (arith, ap length c.neighbours.ensures.all, near, c.capacity.ensures.size, c.capacity.ensures.few)

-- a node has a stance
has_place : (net : Network) (ends : List EdgeStance) (v : ℕ) → IsTrue (present net v) → length ends ≡ net.size + 1 → v < length ends
has_place net ends v here places = let within = present_range net v here in omega (arith, within.1, places)

pub turn_end-self-requires-clause-counted : goal.turn_end-self-requires-clause-counted
turn_end-self-requires-clause-counted c =
    let it = c.args.self.now in
    let net = c.args.net.now.state.network in
    let ends = it.stances.items in
    let v = c.args.v in
    let few = open_at_few net c.capacity.ensures.sound.is_network ends v (has_place net ends v (sym c.has.ensures ∙ c.if-not-has.false) c.requires.places) in
    subst (λ l. open_to l (end_at l v) c.neighbours.result.now ≤ it.count) (sym c.deref_mut.ensures.value)
    (subst (λ row. open_to ends (end_at ends v) row ≤ it.count) (sym c.neighbours.ensures.all) (omega (arith, few, c.requires.counted)))

pub returns-clause-counts : goal.returns-clause-counts
returns-clause-counts c =
    let it = c.args.self.now in
    let net = c.args.net.now.state.network in
    let ends = it.stances.items in
    let v = c.args.v in
    let kept : length c.turn_end-self.new.ends ≡ it.stances.len = omega (arith, c.turn_end-self.auto.ends, c.deref_mut.ensures.len) in
    let is = with_items_is it.stances c.turn_end-self.new.ends kept ∙ c.turn_end-self.ensures.ends ∙ ap (λ l. set l v c.args.stance) c.deref_mut.ensures.value in
    let row = c.neighbours.ensures.all in
    let number =
    ap (λ l. c.turn_end-self.result + open_to ends (end_at ends v) l) (sym row)
    ∙ subst (λ l. c.turn_end-self.result + open_to l (end_at l v) c.neighbours.result.now ≡ it.count + open_to l c.args.stance c.neighbours.result.now) c.deref_mut.ensures.value c.turn_end-self.ensures.count
    ∙ ap (λ l. it.count + open_to ends c.args.stance l) row in
    let turns = open_turned net c.capacity.ensures.sound.is_network ends v c.args.stance (has_place net ends v (sym c.has.ensures ∙ c.if-not-has.false) c.requires.places) in
    let counted : open_edges net (set ends v c.args.stance) ≡ c.turn_end-self.result = omega (arith, number, turns, c.requires.counted) in
    let most = few_open net (set ends v c.args.stance) in
    record {
      places = ap length is ∙ length-set ends v c.args.stance ∙ c.requires.places;
      counted = ap (open_edges net) is ∙ counted;
      few = omega (arith, counted, most, c.edges.ensures.count, c.edges.ensures.few);
      shut = λ shut. absurd (true≢false (sym shut));
    }
