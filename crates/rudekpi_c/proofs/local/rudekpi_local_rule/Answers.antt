use Rattle.std.proofs.Common.{◌≡◌, ◌≢◌, ℕ, map, refl, sym, ap, ◌∙◌, arith}
use Rattle.std.specs.List.{AllByRecursion}
use Rattle.local_rule.specs.Faults.{first_fault}
use Rattle.rudekpi_c.specs.LocalCalls.{AreNames, record_named, fault_status}
use Rattle.rudekpi_c.proofs.LocalCalls.{nearest_of_record, told_from, shown_from, never_from, fault_from, if_fault, told_fault, told_no_fault, status_known, status_not_five}
use Rattle.rudekpi_c.proofs.local.rudekpi_local_rule.Goals as goal

pub returns-in-Ok : goal.returns-in-Ok
returns-in-Ok c =
    let own = c.args.own.now in
    let around = c.args.around.now in
    let node = c.as_record.result in
    let same : node ≡ record_named own = c.as_record.ensures ∙ nearest_of_record own (c.is_named.ensures.0 c.if-not-is_named.false) in
    let names : AllByRecursion AreNames around = c.are_named.ensures.0 c.if-not-are_named.false in
    let none : c.move_told.result.fault ≡ 0 = ap (λ r. r.fault) c.move_told.ensures ∙ told_no_fault own c.in-Ok.made in
    record {
      done = λ _ _. (
        c.in-Some.value,
        sym c.in-Some.ensures,
        λ s shows. c.move_told.ensures ∙ told_from c.in-Some.value own around node c.in-Ok.made same names c.in-Ok.ensures.machine s shows,
      );
      shown = λ _ _. shown_from own around node same names c.in-Ok.ensures.shown;
      never = λ e. absurd (e none);
      fault = λ e. absurd (e none);
      named = λ e. absurd (omega (arith, e));
      bad = λ e. absurd (omega (arith, e));
      nothing = λ e. absurd (omega (arith, e));
      only = λ e. absurd (e refl);
    }

pub returns-in-Err : goal.returns-in-Err
returns-in-Err c =
    let own = c.args.own.now in
    let around = c.args.around.now in
    let node = c.as_record.result in
    let why = c.in-Err.fault in
    let same : node ≡ record_named own = c.as_record.ensures ∙ nearest_of_record own (c.is_named.ensures.0 c.if-not-is_named.false) in
    let names : AllByRecursion AreNames around = c.are_named.ensures.0 c.if-not-are_named.false in
    let some : c.fault_told.result.fault ≢ 0 = λ e. told_fault own why (sym (ap (λ r. r.fault) c.fault_told.ensures) ∙ e) in
    let known : (n : ℕ) → fault_status why ≡ n → c.fault_status.result ≡ n = λ n e. c.fault_status.ensures ∙ e in
    record {
      done = λ _ e. absurd (some e);
      shown = λ _ e. absurd (some e);
      never = λ _. never_from own around node same names c.in-Err.ensures.never;
      fault = λ _. if_fault (first_fault (record_named own) (map record_named around)) _ why (fault_from own around node why same names c.in-Err.ensures.fault) (c.fault_told.ensures, c.fault_status.ensures);
      named = λ _. some;
      bad = λ e. absurd (status_not_five why (sym c.fault_status.ensures ∙ e));
      nothing = λ e. absurd (status_not_five why (sym c.fault_status.ensures ∙ e));
      only = λ none nine. absurd (status_known why (λ e. none (known 0 e)) (λ e. nine (known 9 e)));
    }
