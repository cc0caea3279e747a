use Rattle.reply_checker.proofs.Prelude.{◌≡◌, ◌∙◌, false, sym, ap, not-true, not_from_false, list_any, node_records, table_of}
use Rattle.reply_checker.proofs.BaseStarts.{none_flagged, no_flag_listed}
use Rattle.reply_checker.proofs.bases.has_fit_flags.Goals as goal

pub returns-else-uses_flags : goal.returns-else-uses_flags
returns-else-uses_flags c =
    let s = c.args.net.now.state in
    let flags : c.has_flag.result ≡ list_any (λ p. p.flagged) (node_records s) = c.has_flag.ensures ∙ ap (list_any (λ p. p.flagged)) (sym c.requires.listed) in
    let unused : (table_of c.args.rules).flags ≡ false = sym c.uses_flags.ensures ∙ c.if-uses_flags.false in
    ((λ fit no_flags. none_flagged s c.requires.sound (sym flags ∙ not-true c.has_flag.result fit)), (λ down. not_from_false c.has_flag.result (flags ∙ no_flag_listed s (down unused))))
