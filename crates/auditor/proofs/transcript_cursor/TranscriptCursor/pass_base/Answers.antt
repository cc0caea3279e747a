use Rattle.auditor.proofs.Prelude.{◌≡◌, ◌≤◌, ◌+◌, ◌-◌, ◌∙◌, ℕ, length, take, drop, refl, sym, ap, subst, arith, length-drop, take_all, ∥∥₁_elim, props, line_feeds, IsPassed}
use Rattle.auditor.proofs.LineCounts.{feeds_few}
use Rattle.auditor.proofs.WholeTranscripts.{somewhere_few}
use Rattle.auditor.proofs.NextParts.{base_damaged, base_passed, base_waits, wanted_still, wants_made}
use Rattle.auditor.proofs.Windows.{feeds_take}
use Rattle.auditor.proofs.transcript_cursor.TranscriptCursor.pass_base.Goals as goal

pub common_len-same-requires : goal.common_len-same-requires
common_len-same-requires c = record { known = rw c.deref.ensures.value (wants_made _ _ _ c.requires.begins c.in_ok-want_base.ensures c.requires.compared) }

pub overflow_add-self : goal.overflow_add-self
overflow_add-self c =
    let few = feeds_few c.deref-then-same-len.result.now in
    let room = somewhere_few _ _ c.requires.at in
    let one = ap length c.deref-then-same-len.ensures.value in
    grind (arith, few, room, c.line_feeds.ensures, c.len.ensures, c.common_len-same.ensures.same.inside, c.if-same-len.true, c.in_ok-want_base.ensures.lines, one)

pub returns-then-same-len-clause-ahead : goal.returns-then-same-len-clause-ahead
returns-then-same-len-clause-ahead c =
    let wants = c.in_ok-want_base.ensures in
    let rest = c.args.rest.now in
    let same = c.common_len-same.result in
    let few : c.args.self.now.audit.number ≤ 16777216 = ∥∥₁_elim c.requires.at (search props) (λ at. at.at.reached.follows.transcript.not_too_many) in
    let lines : c.want_base.new.self.lines + c.line_feeds.result ≡ c.args.self.now.lines + line_feeds c.want_base.new.self.wanted.items = rw (wants.lines, c.line_feeds.ensures, c.deref-then-same-len.ensures.value) refl in
    let behind : drop same rest ≡ take (length rest - same) (drop same rest) = sym (take_all (length rest - same) (drop same rest) (omega (arith, length-drop same rest))) in
    subst (IsPassed c.args.self.now _ rest) behind
    (base_passed c.args.self.now _ _ rest same few wants.rules wants.size wants.audit lines c.clear.ensures.items refl wants.text (rw c.deref.ensures.value at c.common_len-same.ensures.same)
    (omega (arith, c.if-same-len.true, c.len.ensures, c.deref.ensures.len, ap length c.deref.ensures.value)))

pub returns-then-same-rest-clause-ahead : goal.returns-then-same-rest-clause-ahead
returns-then-same-rest-clause-ahead c =
    let wants = c.in_ok-want_base.ensures in
    base_waits c.args.self.now _ _ _ wants.rules wants.size wants.audit wants.lines c.requires.begins (wanted_still _ _ wants) refl (rw c.deref.ensures.value at c.common_len-same.ensures.same)
    (λ e. c.if-same-len.false (omega (arith, e, c.len.ensures, c.deref.ensures.len, ap length c.deref.ensures.value))) c.if-same-rest.true

pub overflow_add-line : goal.overflow_add-line
overflow_add-line c =
    let few = feeds_take c.args.rest.now c.common_len-same.result in
    let room = somewhere_few _ _ c.requires.at in
    grind (arith, few, room, c.in_ok-want_base.ensures.lines, c.line_feeds-2.ensures)

pub overflow_add-line-2 : goal.overflow_add-line-2
overflow_add-line-2 c =
    let few = feeds_take c.args.rest.now c.common_len-same.result in
    let room = somewhere_few _ _ c.requires.at in
    grind (arith, few, room, c.in_ok-want_base.ensures.lines, c.line_feeds-2.ensures)

pub returns-clause-fault : goal.returns-clause-fault
returns-clause-fault c =
    let wants = c.in_ok-want_base.ensures in
    base_damaged c.args.self.now _ _ _ _ c.requires.begins wants.text (rw c.deref.ensures.value at c.common_len-same.ensures.same) (rw c.deref.ensures.value at c.common_len-same.ensures.apart)
    (λ e. c.if-same-len.false (omega (arith, e, c.len.ensures, c.deref.ensures.len, ap length c.deref.ensures.value))) c.if-same-rest.false
    (ap (λ (n : ℕ). n + c.line_feeds-2.result + 1) wants.lines ∙ ap (λ (n : ℕ). c.args.self.now.lines + n + 1) c.line_feeds-2.ensures)
