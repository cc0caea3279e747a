use Rattle.entry_grammar.proofs.Prelude.{◌≡◌, refl, sym, subst, ◌∙◌, arith, IsTrue, Event, Step, codes, ◌++◌, List, ℕ, number_text, event_text, reply_text, reply_suits, spells_once}
use Rattle.entry_grammar.proofs.BaseBreaks.{by_error}
use Rattle.entry_grammar.proofs.Entries.{pair_is, spelled_parts, spelled_same}
use Rattle.entry_grammar.proofs.Replies.{fits_suits}
use Rattle.entry_grammar.proofs.entry.read_entry.Goals as goal
use Rattle.entry_grammar.proofs.entry.read_entry.Goals.{then-number-eq0-via-then-number-eq0, then-number-eq0-via-else-number-eq0+then-number-gt-MAX_ENTRIES}

pub returns-in_default-clause-not_a_line : goal.returns-in_default-clause-not_a_line
returns-in_default-clause-not_a_line c is n entry h =
    let k = h.numbered in
    c.in_default.ensures n (event_text entry.0) (reply_text entry.1) (omega (arith, k.1)) (spelled_parts c.args.line.now n entry h)

pub returns-then-number-eq0-clause-not_a_line : goal.returns-then-number-eq0-clause-not_a_line
returns-then-number-eq0-clause-not_a_line c is n entry h =
    let k = h.numbered in
    let same = (spelled_same c.in-Some.number c.in-Some.ensures h).0 in
    elim c.then-number-eq0.branch [
      | then-number-eq0-via-then-number-eq0 w ↦ omega (arith, same, k.0, w.if-number-eq0.true)
      | then-number-eq0-via-else-number-eq0+then-number-gt-MAX_ENTRIES w ↦ omega (arith, same, k.1, w.if-number-gt-MAX_ENTRIES.true)
    ]

pub returns-in_default-2-clause-not_a_line : goal.returns-in_default-2-clause-not_a_line
returns-in_default-2-clause-not_a_line c is n entry h =
    (rw c.in_default-2.is at c.in_ok-event.ensures.command) entry.0 (h.event, (spelled_same c.in-Some.number c.in-Some.ensures h).1)

pub returns-in_default-3-clause-not_a_line : goal.returns-in_default-3-clause-not_a_line
returns-in_default-3-clause-not_a_line c is n entry h =
    let q = spelled_same c.in-Some.number c.in-Some.ensures h in
    let same = spells_once c.in-Some.event.now entry.0 c.in-Some-2.event (h.event, q.1) (rw c.in-Some-2.is at c.in_ok-event.ensures.command) in
    (rw c.in_default-3.is at c.in_ok-reply.ensures.reply) entry.1 (subst (λ (z : Event). IsTrue (reply_suits z entry.1)) same (fits_suits entry.0 entry.1 h.fits), h.reply) q.2

pub returns-in_default-new-clause-not_a_line : goal.returns-in_default-new-clause-not_a_line
returns-in_default-new-clause-not_a_line c is n entry h =
    let q = spelled_same c.in-Some.number c.in-Some.ensures h in
    let s = rw c.in-Some-2.is at c.in_ok-event.ensures.command in
    let r = rw c.in-Some-3.is at c.in_ok-reply.ensures.reply in
    let t = pair_is c.in-Some-2.event c.in-Some-3.reply entry s.0 r.0.1 r.0.0 h.event h.reply (fits_suits entry.0 entry.1 h.fits) (sym s.1 ∙ q.1) (sym r.1 ∙ q.2) in
    c.in_default-new.ensures (rw (t.0, t.1) h.fits)

pub returns-in_err-event-clause-memory : goal.returns-in_err-event-clause-memory
returns-in_err-event-clause-memory c =
    let step = c.in_err-event.ensures.memory in
    by_error c.from_residual.result _ _ c.from_residual.ensures.1 (λ fault q is. record {
      number = number_text c.in-Some.number;
      asked = Step step.0;
      reply = c.in-Some.reply.now;
      fits = step.1.0;
      listed = refl;
      is = subst (λ (z : List ℕ). c.args.line.now ≡ number_text c.in-Some.number ++ codes " " ++ z ++ codes " = " ++ c.in-Some.reply.now) step.1.1 c.in-Some.ensures.1.is;
    })
