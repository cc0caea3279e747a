use Rattle.std.proofs.Common.{◌≡◌, refl, sym, ◌∙◌, arith}
use Rattle.std.specs.List.{AllByRecursion}
use Rattle.rudekpi_c.specs.LocalCalls.{AreNames, record_named, pointer_named}
use Rattle.rudekpi_c.proofs.LocalCalls.{nearest_of_record, may_from, shown_from, never_from}
use Rattle.rudekpi_c.proofs.local.rudekpi_may_move.Goals as goal

pub returns-in-Ok : goal.returns-in-Ok
returns-in-Ok c =
    let own = c.args.own.now in
    let around = c.args.around.now in
    let node = c.as_record.result in
    let same : node ≡ record_named own = c.as_record.ensures ∙ nearest_of_record own (c.is_named.ensures.0 c.if-not-is_named.false) in
    let names : AllByRecursion AreNames around = c.are_named.ensures.0 c.if-not-are_named.false in
    record {
      done = λ _. (
        c.in-Some.value,
        sym c.in-Some.ensures,
        c.in-Some-rule_given.value,
        sym c.in-Some-rule_given.ensures,
        may_from c.in-Some.value own around node c.in-Some-rule_given.value c.in-Some-target_given.value (pointer_named c.args.target) c.in-Ok.allowed same names c.in-Some-target_given.ensures.1 c.in-Ok.ensures.machine,
      );
      shown = λ _. shown_from own around node same names c.in-Ok.ensures.shown;
      never = λ e. absurd (omega (arith, e));
      bad = λ e. absurd (omega (arith, e));
      nothing = λ e. absurd (e refl);
      only = λ e. absurd (e refl);
    }

pub returns-in-Err : goal.returns-in-Err
returns-in-Err c =
    let own = c.args.own.now in
    let around = c.args.around.now in
    let node = c.as_record.result in
    let same : node ≡ record_named own = c.as_record.ensures ∙ nearest_of_record own (c.is_named.ensures.0 c.if-not-is_named.false) in
    let names : AllByRecursion AreNames around = c.are_named.ensures.0 c.if-not-are_named.false in
    record {
      done = λ e. absurd (omega (arith, e));
      shown = λ e. absurd (omega (arith, e));
      never = λ _. never_from own around node same names c.in-Err.ensures.never;
      bad = λ e. absurd (omega (arith, e));
      nothing = λ _. refl;
      only = λ _ nine. absurd (nine refl);
    }
