use Rattle.line_text.proofs.Prelude.{append_assoc, append-nil}
use Rattle.line_text.proofs.entry.put_one_move.Goals as goal

pub returns-clause-text : goal.returns-clause-text
returns-clause-text c =
    rw (c.put.ensures.text, c.put_window-at-2.ensures.text, c.put-at.ensures.text, c.put_window-at.ensures.text, c.put_digits-at.ensures.text)
    (simp (append_assoc, append-nil))
