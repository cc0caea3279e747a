use Rattle.reply_checker.proofs.Prelude.{◌∙◌, ◌&&◌, true, sym, ap, list_all, table_of, is_asked, is_answered}
use Rattle.reply_checker.proofs.Table.{asked_by, left_answered, within_left, within_from_all}
use Rattle.reply_checker.proofs.steps.are_of_items.Goals as goal
use Rattle.reply_checker.proofs.steps.are_of_items.Goals.{then-not-fits_daemon-via-then-not-fits_daemon, then-not-fits_daemon-via-else-not-fits_daemon+then-not-are_asked}

pub returns-then-not-fits_daemon-clause-value : goal.returns-then-not-fits_daemon-clause-value
returns-then-not-fits_daemon-clause-value c =
    let t = table_of c.args.rules in
    let s = c.args.net.now.state in
    let items = c.args.items.now in
    let moves = c.args.moves.now in
    let asked = asked_by t s items moves c.args.chosen.now c.requires.accepted c.requires.held in
    let answered = list_all (λ item. is_answered t s moves item) items in
    elim c.then-not-fits_daemon.branch [
      | then-not-fits_daemon-via-then-not-fits_daemon w ↦ ap (λ b. b && (list_all (λ m. is_asked t s items m) moves && answered)) (sym w.if-not-fits_daemon.true ∙ c.fits_daemon.ensures)
      | then-not-fits_daemon-via-else-not-fits_daemon+then-not-are_asked w ↦
          ap (λ b. true && (b && answered)) (sym w.if-not-are_asked.true ∙ w.are_asked.ensures ∙ asked)
          ∙ ap (λ b. b && (list_all (λ m. is_asked t s items m) moves && answered)) (sym w.if-not-fits_daemon.false ∙ c.fits_daemon.ensures)
    ]

pub returns-then-not-fits_daemon-clause-within : goal.returns-then-not-fits_daemon-clause-within
returns-then-not-fits_daemon-clause-within c = within_from_all (table_of c.args.rules) c.args.net.now.state c.args.chosen.now c.args.items.now c.requires.held

pub returns-clause-value : goal.returns-clause-value
returns-clause-value c =
    let t = table_of c.args.rules in
    let s = c.args.net.now.state in
    let items = c.args.items.now in
    let moves = c.args.moves.now in
    let table = c.args.chosen.now in
    let asked = asked_by t s items moves table c.requires.accepted c.requires.held in
    let by_table = sym c.are_asked.ensures ∙ c.if-not-are_asked.false in
    c.has_none.ensures ∙ left_answered t s items moves table c.take_movers.new.self c.requires.accepted c.requires.held by_table c.take_movers.ensures.out
    ∙ ap (λ b. b && list_all (λ item. is_answered t s moves item) items) (sym by_table ∙ asked)
    ∙ ap (λ b. b && (list_all (λ m. is_asked t s items m) moves && list_all (λ item. is_answered t s moves item) items)) (sym c.if-not-fits_daemon.false ∙ c.fits_daemon.ensures)

pub returns-clause-within : goal.returns-clause-within
returns-clause-within c = within_left (table_of c.args.rules) c.args.net.now.state c.args.items.now c.args.moves.now c.args.chosen.now c.take_movers.new.self c.requires.held c.take_movers.ensures.out
