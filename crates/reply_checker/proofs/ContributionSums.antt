-- Contributions and their sums, if all are empty.
use Rattle.reply_checker.proofs.Prelude.{◌≡◌, ℕ, replicate, subst, ◌*◌, ◌≤◌, Bool, true, false, cond, List, sum_by, is_some, sym, refl, ap, ◌∙◌, arith, get_or-replicate, length-replicate, sum_by-replicate, Contribution, absent_contribution, AreStatusSums, FitsTwoBits}
use Rattle.std.specs.List.{All}

pub few_tests : (b : Bool) → cond {A = ℕ} b 1 0 ≤ 3
few_tests true = omega arith
few_tests false = omega arith

pub none_light : (each : List Contribution) (n : ℕ) → each ≡ replicate n absent_contribution → All FitsTwoBits each
none_light each n is =
    subst (All FitsTwoBits) (sym is) (λ k d within. subst FitsTwoBits (sym (get_or-replicate n k absent_contribution d (let same = length-replicate n absent_contribution in omega (arith, same, within)))) (omega arith))

sum_none : (f : Contribution → ℕ) (each : List Contribution) (n : ℕ) → each ≡ replicate n absent_contribution → f absent_contribution ≡ 0 → 0 ≡ sum_by f each
sum_none f each n is none =
    let nothing : n * 0 ≡ 0 = omega arith in
    sym (ap (sum_by f) is ∙ sum_by-replicate f n absent_contribution ∙ ap (λ k. n * k) none ∙ nothing)

pub none_summed : (each : List Contribution) (n : ℕ) → each ≡ replicate n absent_contribution → AreStatusSums each 0 0 0 0
none_summed each n is = record {
  paired = sum_none (λ (it : Contribution). cond {A = ℕ} it.is_lower_end 1 0) each n is refl;
  ruled = sum_none (λ (it : Contribution). cond {A = ℕ} (is_some it.rule) 1 0) each n is refl;
  in_all = sum_none (λ (it : Contribution). it.added) each n is refl;
  closed = sum_none (λ (it : Contribution). cond {A = ℕ} it.closes 1 0) each n is refl;
}
