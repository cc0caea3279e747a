use Rattle.containment.proofs.Prelude.{◌≡◌, ◌∙◌, ℕ, false, List, IfOk, filter, nat_eq, sym, ap, subst, Event, names, is_in_reach, parts_a_pair, is_hit_or_parted, is_kept}
use Rattle.containment.proofs.CoveredReach.{link_listed, write_listed, flag_listed, none_listed, unhit, no_names}
use Rattle.containment.proofs.list.list_reach.Goals as goal

pub returns-in-Link : goal.returns-in-Link
returns-in-Link c =
    let s = c.args.net.now.state in
    let a = c.in-Link.a in
    let b = c.in-Link.b in
    let same = subst (λ (e : Event). filter (is_kept (λ x. nat_eq x a) (λ x. nat_eq x b) (is_hit_or_parted s e)) (names s.network) ≡ filter (is_in_reach s e) (names s.network)) (sym c.in-Link.is)
    (link_listed s a b c.registers.ensures.sound) in
    subst (λ (ys : List ℕ). IfOk c.touched.result (λ list. list.items ≡ ys)) same
    (c.touched.ensures (λ x. nat_eq x a) (λ x. nat_eq x b) c.only.ensures c.only-in-Link.ensures)

pub returns-in-Point : goal.returns-in-Point
returns-in-Point c =
    let s = c.args.net.now.state in
    let v = c.in-Point.v in
    let same = subst (λ (e : Event). filter (is_kept (λ x. nat_eq x v) (λ x. false) (is_hit_or_parted s e)) (names s.network) ≡ filter (is_in_reach s e) (names s.network)) (sym c.in-Point.is)
    (write_listed s v c.in-Point.field-1 c.registers.ensures.sound (sym (ap (parts_a_pair s) c.in-Point.is) ∙ sym c.parts_a_pair.ensures ∙ c.if-parts_a_pair.false)) in
    subst (λ (ys : List ℕ). IfOk c.touched-in-Point.result (λ list. list.items ≡ ys)) same
    (c.touched-in-Point.ensures (λ x. nat_eq x v) (λ x. false) c.only-in-Point.ensures (no_names (names s.network)))

pub returns-in-Flag : goal.returns-in-Flag
returns-in-Flag c =
    let s = c.args.net.now.state in
    let v = c.in-Flag.v in
    let same = subst (λ (e : Event). filter (is_kept (λ x. nat_eq x v) (λ x. false) (is_hit_or_parted s e)) (names s.network) ≡ filter (is_in_reach s e) (names s.network)) (sym c.in-Flag.is)
    (flag_listed s v c.in-Flag.field-1 c.registers.ensures.sound) in
    subst (λ (ys : List ℕ). IfOk c.touched-in-Flag.result (λ list. list.items ≡ ys)) same
    (c.touched-in-Flag.ensures (λ x. nat_eq x v) (λ x. false) c.only-in-Flag.ensures (no_names (names s.network)))

pub returns-in_default : goal.returns-in_default
returns-in_default c =
    let s = c.args.net.now.state in
    c.new.ensures.items ∙ none_listed s c.args.event.now c.registers.ensures.sound (sym c.parts_a_pair.ensures ∙ c.if-parts_a_pair.false) (unhit s c.args.event.now c.in_default.not-Link c.in_default.not-Point c.in_default.not-Flag)
