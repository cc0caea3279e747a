use Rattle.snapshots.proofs.Prelude.{[], ◌+◌, List, refl, ap, ◌∙◌, subst, Posted, posted, IsBoard, shown_in, known_in, pending_in}
use Rattle.snapshots.proofs.Boards.{none_pending, post_standing, posts}
use Rattle.snapshots.proofs.board.Board.post.Goals as goal

pub append-requires-clause-last : goal.append-requires-clause-last
append-requires-clause-last g c =
    let marks = c.self.inside.history.front.seen.log in
    ap (λ s. posted s.log) c.again-past.ensures ∙ ap posted c.if-not-add.ensures.marks ∙ ap (λ s. s.1) (post_standing marks c.args.entry.now)

pub invariant_of-self-2 : goal.invariant_of-self-2
invariant_of-self-2 g c =
    let law = g.L.Law.holds in
    let b = c.self.invariant in
    let copies = c.self.inside.copies in
    let marks = c.self.inside.history.front.seen.log in
    let book = c.self.inside.history.front.seen.book in
    let announced = c.self.inside.announced.seen.log in
    let none = none_pending (pending_in copies) (ap (λ s. s.posted) c.self.view_is ∙ c.requires.one) in
    let b0 : IsBoard law (shown_in copies) (known_in copies) [] marks book announced = subst (λ (l : List Posted). IsBoard law (shown_in copies) (known_in copies) l marks book announced) none b in
    let e = c.if-not-append.ensures in
    let room = c.if-not-has_room.ensures refl in
    rw (e.shown, e.known, e.pending, none)
    (posts law (shown_in copies) (known_in copies) marks book announced c.add.new.self.front.seen.log c.add.new.self.front.seen.book _ b0 c.if-not-add.ensures.marks c.if-not-add.ensures.book
    (ap (λ s. s.log) c.again-past.ensures) (ap (λ s. s.book) c.again-past.ensures) (ap (λ n. n + 1) (c.front-front.ensures ∙ (ap (λ i. i.front) c.shown.ensures ∙ b.sound.front))) room)
