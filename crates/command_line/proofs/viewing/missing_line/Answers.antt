use Rattle.std.proofs.Common.{◌≡◌, ◌++◌, ◌∙◌, ℕ, List, rules, ap₂, codes, append_assoc}
use Rattle.line_text.specs.Words.{number_text}
use Rattle.command_line.proofs.viewing.missing_line.Goals as goal

pub returns : goal.returns
returns c =
    let front : c.extend_from_slice.new.self.items ≡ codes "! no entry " = search rules in
    let entry : c.from.result ≡ c.args.entry = search rules in
    let number : c.from-2.result ≡ c.args.number = search rules in
    let reason = c.args.reason.now in
    let end = c.args.end.now in
    c.in_ok-put_number-2.ensures
    ∙ ap₂ (λ (l : List ℕ) (n : ℕ). l ++ (number_text n ++ end)) (c.in_ok-put_number.ensures ∙ ap₂ (λ (l : List ℕ) (n : ℕ). l ++ (number_text n ++ reason)) front entry) number
    ∙ append_assoc (codes "! no entry ") (number_text c.args.entry ++ reason) (number_text c.args.number ++ end)
