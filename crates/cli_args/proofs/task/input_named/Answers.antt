use Rattle.cli_args.proofs.Prelude.{◌≡◌, ◌∙◌, Option, None, Some, refl, sym, subst, codes, Text, IsInput, found_of, first_of, first_value-rows, rows_of}
use Rattle.cli_args.proofs.task.input_named.Goals as goal

pub returns-in-Some : goal.returns-in-Some
returns-in-Some c =
    let named : first_of (codes "FILE") (rows_of (found_of c.args.found.now)) ≡ Some c.in-Some.name.now = sym (first_value-rows (found_of c.args.found.now) (codes "FILE")) ∙ sym c.in-Some.ensures in
    subst (λ (o : Option Text). IsInput o c.unless_dash.result) (sym named) c.unless_dash.ensures

pub returns-in-None : goal.returns-in-None
returns-in-None c =
    let none : first_of (codes "FILE") (rows_of (found_of c.args.found.now)) ≡ None = sym (first_value-rows (found_of c.args.found.now) (codes "FILE")) ∙ sym c.in-None.ensures in
    subst (λ (o : Option Text). IsInput o None) (sym none) refl
