use Rattle.net_state.proofs.Prelude.{◌≡◌, ◌∙◌, ◌+◌, ◌++◌, ℕ, Option, ap, filter_map, length, option_to_list, arith, length-map, range_with_len, common_steps, NodeRecord, names, node_count, node_record_at, place_in}
use Rattle.net_state.proofs.NodeRecords.{places_found, found_more, some_iff_at}
use Rattle.net_state.proofs.net.NetState.list_places.Goals as goal
use Rattle.net_state.proofs.net.NetState.list_places.Goals.{in-Some+in_ok-push, in_default}

pub loop-below-preserved : goal.loop-below-preserved
loop-below-preserved c =
    let f : ℕ → Option NodeRecord = place_in c.args.self.now.state in
    let named : c.unwrap-v.result ≡ c.loop-below.below + 1 = some_iff_at _ _ _ _ c.new.ensures c.unwrap-v.ensures in
    let more : filter_map f (range_with_len 1 (c.loop-below.below + 1)) ≡ filter_map f (range_with_len 1 c.loop-below.below) ++ option_to_list (f c.unwrap-v.result) = found_more f c.loop-below.below c.unwrap-v.result named in
    let so_far : c.loop-below.places.items ≡ filter_map f (range_with_len 1 c.loop-below.below) = c.loop-below.invariant in
    let place : c.place_of.result ≡ f c.unwrap-v.result = c.place_of.ensures in
    elim c.match-place_of.branch [
      | in-Some+in_ok-push w ↦ grind (arith, common_steps, w.places-is, w.in_ok-push.ensures.items, w.in-Some.is, more, place, so_far)
      | in_default w ↦ grind (arith, common_steps, w.places-is, w.in_default.is, more, place, so_far)
    ]

pub returns : goal.returns
returns c =
    let s = c.args.self.now.state in
    let end : c.loop-below.below ≡ s.network.size = omega (arith, c.capacity-below-end.ensures.size) in
    let listed = c.loop-below.invariant ∙ ap (λ n. filter_map (place_in s) (range_with_len 1 n)) end ∙ places_found s in
    record {
      places = listed;
      few = let count : length c.loop-below.places.items ≡ node_count s.network = ap length listed ∙ length-map (names s.network) (node_record_at s) in
          omega (arith, count, c.nodes.ensures.count, c.nodes.ensures.few);
    }
