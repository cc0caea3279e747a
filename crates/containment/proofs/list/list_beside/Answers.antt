use Rattle.containment.proofs.Prelude.{◌≡◌, ◌∙◌, ℕ, List, IfOk, filter, nat_eq, sym, ap, subst, Event, linked, names, is_in_reach, parts_a_pair, is_hit_or_parted, is_kept}
use Rattle.containment.proofs.CoveredReach.{unlink_listed, point_listed, leave_listed}
use Rattle.containment.proofs.list.list_beside.Goals as goal

pub returns-in-Unlink : goal.returns-in-Unlink
returns-in-Unlink c =
    let s = c.args.net.now.state in
    let a = c.in-Unlink.a in
    let b = c.in-Unlink.b in
    let same = subst (λ (e : Event). filter (is_kept (linked s.network a) (linked s.network b) (is_hit_or_parted s e)) (names s.network) ≡ filter (is_in_reach s e) (names s.network)) (sym c.in-Unlink.is)
    (unlink_listed s a b c.registers.ensures.sound (sym (ap (parts_a_pair s) c.in-Unlink.is) ∙ c.requires)) in
    subst (λ (ys : List ℕ). IfOk c.touched.result (λ list. list.items ≡ ys)) same
    (c.touched.ensures (linked s.network a) (linked s.network b) c.near.ensures c.near-in-Unlink.ensures)

pub returns-in-Some : goal.returns-in-Some
returns-in-Some c =
    let s = c.args.net.now.state in
    let v = c.in-Point.v in
    let u = c.in-Some.u in
    let same = subst (λ (e : Event). filter (is_kept (linked s.network v) (linked s.network u) (is_hit_or_parted s e)) (names s.network) ≡ filter (is_in_reach s e) (names s.network)) (sym c.in-Point.is)
    (point_listed s v u c.in-Point.field-1 c.registers.ensures.sound (sym (ap (parts_a_pair s) c.in-Point.is) ∙ c.requires) (sym c.partner.ensures ∙ c.in-Some.is)) in
    subst (λ (ys : List ℕ). IfOk c.touched-in-Some.result (λ list. list.items ≡ ys)) same
    (c.touched-in-Some.ensures (linked s.network v) (linked s.network u) c.near-in-Some.ensures c.near-in-Some-2.ensures)

pub returns-in-Some-partner : goal.returns-in-Some-partner
returns-in-Some-partner c =
    let s = c.args.net.now.state in
    let u = c.in-Some-partner.u in
    let same = subst (λ (e : Event). filter (is_kept (linked s.network u) (λ x. nat_eq x u) (is_hit_or_parted s e)) (names s.network) ≡ filter (is_in_reach s e) (names s.network)) (sym c.in-Leave.is)
    (leave_listed s c.in-Leave.v u c.registers.ensures.sound (sym c.partner-in-Leave.ensures ∙ c.in-Some-partner.is)) in
    subst (λ (ys : List ℕ). IfOk c.touched-in-Some-partner.result (λ list. list.items ≡ ys)) same
    (c.touched-in-Some-partner.ensures (linked s.network u) (λ x. nat_eq x u) c.near-in-Some-partner.ensures c.only.ensures)
