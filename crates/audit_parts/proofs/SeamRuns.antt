-- A run may begin again at the base of its state; and a base in a text is a seam.
use Rattle.audit_parts.proofs.Prelude.{◌≡◌, ℕ, ◌+◌, ◌≤◌, List, [], ◌∷◌, ◌++◌, length, refl, sym, ap, subst, ◌∙◌, append_assoc, append-nil, arith, AllByRecursion, append_cancel_left, Base, RuleSet, edge_count, node_count, pair_cmp, LogPart, NumberedMoment, Passes, base_of, entries_in, Moment, table_of, passes_run, edges_len, lines_with_ends, base_head, base_text, link_text, numbers_line, node_record_text, Head, Place, Link, AreCounts, base_numbers, IsFree, IsPlace, IsShaped, IsOrderedPair, max_entries, cons_parts, mark_once, line_free, line_feeds, Opening, Named, Based, IsOpening, Opens, size_of, feed, feeds_first, feeds_append, free_feeds, EndsLine, IsSeam, begins_again, light, base_lines}
use Rattle.std.specs.FinMap as finmap
use Rattle.entry_grammar.specs.declared.base_line.BaseLine.TheVariants.{Base as Numbers}
use Rattle.audit_parts.proofs.Lines.{base_behind, ends_both, ends_line, ends_tail}
use Rattle.audit_parts.proofs.Shape.{base_shaped, runs_few}

opening_small : (o : Opening) → IsOpening o → size_of o ≤ 65535
opening_small (Named size count) is = is.few
opening_small (Based size base) is = is.few

opening_few : (rules : RuleSet) (o : Opening) (start : NumberedMoment) → Opens rules o start → edge_count start.moment.state.network ≤ 1048576
opening_few rules (Named size count) start opens =
    omega (arith, ap (λ (m : Moment). edge_count m.state.network) opens.begins, finmap.len-empty pair_cmp (Unit {0}))
opening_few rules (Based size base) start opens =
    omega (arith, ap (λ (b : Base). length b.edges) opens.begins.lines, edges_len start.moment.state.network, opens.fits.edges)

-- a run may begin at any state that a run has reached
pub reopens : (rules : RuleSet) (o : Opening) (start end : NumberedMoment) (log : List LogPart) → Opens rules o start → Passes (table_of rules) start log end → end.count ≤ max_entries → Opens rules (Based (size_of o) (base_of end.count end.moment)) end
reopens rules o start end log opens passes few =
    let t = table_of rules in
    let run = (passes_run t start end log passes).0 in
    let begun = begins_again rules o start end log opens passes in
    let small = opening_small o opens.fits in
    let edges = runs_few t start.moment (entries_in log) end.moment (opening_few rules o start opens) run in
    let net = end.moment.state.network in
    let bounded = light rules end.moment.spent (t.charge end.moment.state) (edge_count net) (node_count net) begun.within in
    record {
      fits = record {
        few = small;
        shaped = base_shaped end.count (size_of o) end.moment begun.is_state begun.size_is small few edges bounded;
        number = few;
        edges = omega (arith, edges_len net, edges);
      };
      begins = begun;
      count = refl;
    }

-- ---- a base is as long as it tells

pub ended_lines : {X : Type 0} (text : X → List ℕ) (fits : X → Type 0) → ((x : X) → fits x → IsFree 10 (text x)) → (xs : List X) → AllByRecursion fits xs → (line_feeds (lines_with_ends text xs) ≡ length xs) × EndsLine (lines_with_ends text xs)
ended_lines text fits free [] all = (refl, tt)
ended_lines text fits free (x ∷ xs) all =
    let rest = ended_lines text fits free xs all.1 in
    let both = feeds_append (text x ++ 10 ∷ []) (lines_with_ends text xs) in
    (omega (arith, rest.0, both, feeds_append (text x) (10 ∷ []), free_feeds (text x) (free x all.0)), ends_both (text x ++ 10 ∷ []) (lines_with_ends text xs) (ends_line (text x) [] tt) rest.1)

-- whole lines that are some have a line feed
some_feeds : (b : ℕ) (x : List ℕ) → EndsLine (b ∷ x) → 1 ≤ line_feeds (b ∷ x)
some_feeds b [] h = omega (arith, ap (λ (z : ℕ). line_feeds (z ∷ [])) h)
some_feeds b (c ∷ x) h = omega (arith, feeds_first b (c ∷ x), some_feeds c x h)

pub no_feeds : (x : List ℕ) → EndsLine x → line_feeds x ≡ 0 → x ≡ []
no_feeds [] h none = refl
no_feeds (b ∷ x) h none = let some = some_feeds b x h in absurd (omega (arith, some, none))

-- two beginnings of one text that have as many whole lines are one
lines_once : (a b m k : List ℕ) → EndsLine a → EndsLine b → a ++ m ≡ b ++ k → line_feeds a ≡ line_feeds b → a ≡ b
lines_once [] [] m k f g e same = refl
lines_once [] (c ∷ b) m k f g e same = absurd (omega (arith, same, some_feeds c b g))
lines_once (c ∷ a) [] m k f g e same = absurd (omega (arith, same, some_feeds c a f))
lines_once (c ∷ a) (d ∷ b) m k f g e same =
    let p = cons_parts c d (a ++ m) (b ++ k) e in
    ap (λ (z : ℕ). z ∷ a) p.0 ∙ ap (λ (l : List ℕ). d ∷ l) (lines_once a b m k (ends_tail c a f) (ends_tail d b g) p.1 (omega (arith, same, feeds_first c a, feeds_first d b, ap feed p.0)))

pub others_told : (base : Base) → IsShaped base → (line_feeds (lines_with_ends node_record_text base.nodes ++ lines_with_ends link_text base.edges) ≡ length base.nodes + length base.edges) × EndsLine (lines_with_ends node_record_text base.nodes ++ lines_with_ends link_text base.edges)
others_told base shaped =
    let nodes = ended_lines node_record_text IsPlace (λ p fits. line_free (Place p.node p.target p.flagged) fits) base.nodes shaped.places in
    let edges = ended_lines link_text IsOrderedPair (λ e fits. line_free (Link e) fits) base.edges shaped.links in
    let both = feeds_append (lines_with_ends node_record_text base.nodes) (lines_with_ends link_text base.edges) in
    (omega (arith, nodes.0, edges.0, both), ends_both (lines_with_ends node_record_text base.nodes) (lines_with_ends link_text base.edges) nodes.1 edges.1)

-- the first two lines of a base, and the others
pub base_lines_are : (rules : RuleSet) (size : ℕ) (base : Base) → base_text rules size base ≡ base_head rules size ++ 10 ∷ (numbers_line base ++ 10 ∷ (lines_with_ends node_record_text base.nodes ++ lines_with_ends link_text base.edges))
base_lines_are rules size base = sym (append-nil (base_text rules size base)) ∙ base_behind rules size base [] ∙ ap (λ (l : List ℕ). base_head rules size ++ 10 ∷ l) (append-nil (base_lines base) ∙ append_assoc (numbers_line base) (10 ∷ []) (lines_with_ends node_record_text base.nodes ++ lines_with_ends link_text base.edges))

both_more : (first second rest more : List ℕ) → (first ++ 10 ∷ (second ++ 10 ∷ rest)) ++ more ≡ first ++ 10 ∷ (second ++ 10 ∷ (rest ++ more))
both_more first second rest more = simp append_assoc

-- a base and a seam at the beginning of one text are one
pub seam_is : (rules : RuleSet) (size : ℕ) (base : Base) → size ≤ 65535 → IsShaped base → (seam : List ℕ) → IsSeam seam → (m k : List ℕ) → base_text rules size base ++ m ≡ seam ++ k → base_text rules size base ≡ seam
seam_is rules size base few shaped seam is m k e =
    let head = base_head rules size in
    let numbers = numbers_line base in
    let others = lines_with_ends node_record_text base.nodes ++ lines_with_ends link_text base.edges in
    let wants : base_text rules size base ++ m ≡ head ++ 10 ∷ (numbers ++ 10 ∷ (others ++ m)) = ap (λ (l : List ℕ). l ++ m) (base_lines_are rules size base) ∙ both_more head numbers others m in
    let had : seam ++ k ≡ is.head ++ 10 ∷ (is.numbers ++ 10 ∷ (is.rest ++ k)) = ap (λ (l : List ℕ). l ++ k) is.is ∙ both_more is.head is.numbers is.rest k in
    let first = mark_once 10 head is.head (numbers ++ 10 ∷ (others ++ m)) (is.numbers ++ 10 ∷ (is.rest ++ k)) (line_free (Head rules size) few) is.first (sym wants ∙ e ∙ had) in
    let counts : AreCounts (base_numbers base) = (shaped.number, shaped.spent, shaped.nodes, shaped.edges) in
    let second = mark_once 10 numbers is.numbers (others ++ m) (is.rest ++ k) (line_free (Numbers (base_numbers base)) counts) is.second first.1 in
    let wanted = others_told base shaped in
    let told = is.told (base_numbers base) counts (sym second.0) in
    let rest = lines_once others is.rest m k wanted.1 is.whole second.1 (wanted.0 ∙ sym told) in
    base_lines_are rules size base
    ∙ ap (λ (l : List ℕ). l ++ 10 ∷ (numbers ++ 10 ∷ others)) first.0
    ∙ ap (λ (l : List ℕ). is.head ++ 10 ∷ (l ++ 10 ∷ others)) second.0
    ∙ ap (λ (l : List ℕ). is.head ++ 10 ∷ (is.numbers ++ 10 ∷ l)) rest
    ∙ sym is.is

-- and the same follows both
pub seam_behind : (rules : RuleSet) (size : ℕ) (base : Base) → size ≤ 65535 → IsShaped base → (seam : List ℕ) → IsSeam seam → (m k : List ℕ) → base_text rules size base ++ m ≡ seam ++ k → m ≡ k
seam_behind rules size base few shaped seam is m k e =
    append_cancel_left seam m k (ap (λ (l : List ℕ). l ++ m) (sym (seam_is rules size base few shaped seam is m k e)) ∙ e)

-- ---- a seam

pub seam_first : (seam : List ℕ) → IsSeam seam → (z : List ℕ) × (seam ≡ 109 ∷ z)
seam_first seam is = (_, is.is ∙ ap (λ (l : List ℕ). l ++ 10 ∷ (is.numbers ++ 10 ∷ is.rest)) is.begins.1)

pub seam_ends : (seam : List ℕ) → IsSeam seam → EndsLine seam
seam_ends seam is = subst EndsLine (sym is.is) (ends_line is.head (is.numbers ++ 10 ∷ is.rest) (ends_line is.numbers is.rest is.whole))
