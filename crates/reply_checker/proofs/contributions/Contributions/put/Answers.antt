use Rattle.reply_checker.proofs.Prelude.{◌≡◌, ◌-◌, ◌+◌, ◌∙◌, ℕ, cond, get_or, set, is_some, sym, ap, subst, arith, All-set, Contribution, FitsTwoBits, AreStatusSums, one_byte, sum_fits, sum_put}
use Rattle.std.proofs.Common.{length-set}
use Rattle.reply_checker.proofs.ContributionSums.{few_tests}
use Rattle.reply_checker.proofs.contributions.Contributions.put.Goals as goal

pub overflow_add-self : goal.overflow_add-self
overflow_add-self c =
    let it = c.args.self.now in
    let was = c.index.result.now in
    let at : was ≡ get_or it.each.items c.args.v was = c.index.ensures ∙ ap (λ p. get_or it.each.items p was) c.place.ensures.same in
    let f : Contribution → ℕ = λ x. cond x.is_lower_end 1 0 in
    let fits = sum_fits f 3 it.each.items c.args.v was c.args.share it.pairs c.from.result c.from-2.result it.few (λ k d within. few_tests (get_or it.each.items k d).is_lower_end) (few_tests c.args.share.is_lower_end) c.requires.share it.summed.paired at (c.from.ensures ∙ one_byte was.is_lower_end) (c.from-2.ensures ∙ one_byte c.args.share.is_lower_end) in
    omega (arith, fits)

pub overflow_add-self-2 : goal.overflow_add-self-2
overflow_add-self-2 c =
    let it = c.args.self.now in
    let was = c.index.result.now in
    let at : was ≡ get_or it.each.items c.args.v was = c.index.ensures ∙ ap (λ p. get_or it.each.items p was) c.place.ensures.same in
    let f : Contribution → ℕ = λ x. cond (is_some x.rule) 1 0 in
    let fits = sum_fits f 3 it.each.items c.args.v was c.args.share it.enabled c.from-3.result c.from-4.result it.few (λ k d within. few_tests (is_some (get_or it.each.items k d).rule)) (few_tests (is_some c.args.share.rule)) c.requires.share it.summed.ruled at (c.from-3.ensures ∙ one_byte c.is_some.result ∙ ap (λ b. cond {A = ℕ} b 1 0) c.is_some.ensures) (c.from-4.ensures ∙ one_byte c.is_some-2.result ∙ ap (λ b. cond {A = ℕ} b 1 0) c.is_some-2.ensures) in
    omega (arith, fits)

pub overflow_add-self-3 : goal.overflow_add-self-3
overflow_add-self-3 c =
    let it = c.args.self.now in
    let was = c.index.result.now in
    let at : was ≡ get_or it.each.items c.args.v was = c.index.ensures ∙ ap (λ p. get_or it.each.items p was) c.place.ensures.same in
    let fits = sum_fits (λ (x : Contribution). x.added) 3 it.each.items c.args.v was c.args.share it.added c.from-5.result c.from-6.result it.few it.light c.requires.light c.requires.share it.summed.in_all at c.from-5.ensures c.from-6.ensures in
    omega (arith, fits)

pub overflow_add-self-4 : goal.overflow_add-self-4
overflow_add-self-4 c =
    let it = c.args.self.now in
    let was = c.index.result.now in
    let at : was ≡ get_or it.each.items c.args.v was = c.index.ensures ∙ ap (λ p. get_or it.each.items p was) c.place.ensures.same in
    let f : Contribution → ℕ = λ x. cond x.closes 1 0 in
    let fits = sum_fits f 3 it.each.items c.args.v was c.args.share it.closing c.from-7.result c.from-8.result it.few (λ k d within. few_tests (get_or it.each.items k d).closes) (few_tests c.args.share.closes) c.requires.share it.summed.closed at (c.from-7.ensures ∙ one_byte was.closes) (c.from-8.ensures ∙ one_byte c.args.share.closes) in
    omega (arith, fits)

pub invariant_of-self : goal.invariant_of-self
invariant_of-self c =
    let it = c.args.self.now in
    let was = c.index.result.now in
    let share = c.args.share in
    let v = c.args.v in
    let at : was ≡ get_or it.each.items v was = c.index.ensures ∙ ap (λ p. get_or it.each.items p was) c.place.ensures.same in
    let place = sym c.place-2.ensures.same in
    let pairs = it.pairs - c.from.result + c.from-2.result in
    let enabled = it.enabled - c.from-3.result + c.from-4.result in
    let added = it.added - c.from-5.result + c.from-6.result in
    let closing = it.closing - c.from-7.result + c.from-8.result in
    let summed : AreStatusSums (set it.each.items v share) pairs enabled added closing = record {
      paired = sum_put (λ (x : Contribution). cond x.is_lower_end 1 0) it.each.items v was share it.pairs c.from.result c.from-2.result c.requires.share it.summed.paired at (c.from.ensures ∙ one_byte was.is_lower_end) (c.from-2.ensures ∙ one_byte share.is_lower_end);
      ruled = sum_put (λ (x : Contribution). cond (is_some x.rule) 1 0) it.each.items v was share it.enabled c.from-3.result c.from-4.result c.requires.share it.summed.ruled at (c.from-3.ensures ∙ one_byte c.is_some.result ∙ ap (λ b. cond {A = ℕ} b 1 0) c.is_some.ensures) (c.from-4.ensures ∙ one_byte c.is_some-2.result ∙ ap (λ b. cond {A = ℕ} b 1 0) c.is_some-2.ensures);
      in_all = sum_put (λ (x : Contribution). x.added) it.each.items v was share it.added c.from-5.result c.from-6.result c.requires.share it.summed.in_all at c.from-5.ensures c.from-6.ensures;
      closed = sum_put (λ (x : Contribution). cond x.closes 1 0) it.each.items v was share it.closing c.from-7.result c.from-8.result c.requires.share it.summed.closed at (c.from-7.ensures ∙ one_byte was.closes) (c.from-8.ensures ∙ one_byte share.closes);
    } in
    let places = length-set it.each.items c.place-2.result share in
    record {
      few = omega (arith, places, it.few);
      light = All-set FitsTwoBits it.each.items c.place-2.result share c.requires.light it.light;
      summed = subst (λ (p : ℕ). AreStatusSums (set it.each.items p share) pairs enabled added closing) place summed;
    }
