use Rattle.step_log.proofs.Prelude.{◌≡◌, ℕ, [], ◌∷◌, ◌++◌, map, ap, ap₂, ◌∙◌, refl, subst, sym, arith, Event, Reply, Entry, Moment, moment_after, open_at, Receipt, begun_by, next_counting, ended_by, epoch_now, over_after, of_run, JournalView, IsNextReceipt}
use Rattle.step_log.proofs.KeptRounds.{counted_next}
use Rattle.step_log.proofs.RecordedEvents.{reply_answers}
use Rattle.step_log.proofs.LogGrowth.{ends_in_state, next_is_journal}
use Rattle.step_log.proofs.journal.Journal.commit.Goals as goal

pub turn-requires : goal.turn-requires
turn-requires g c = λ accepted.
    let t = g.R.Rules.table in
    let ready = subst (λ (held : JournalView). IsNextReceipt t held c.args.prepared) (sym c.self.view_is) c.requires in
    let told = c.reply.ensures.value ∙ ap (λ (x : Entry). x.1) c.parts-entry.ensures.entry in
    omega (arith, ready.epochs (sym told ∙ accepted))

pub invariant_of-self : goal.invariant_of-self
invariant_of-self g c =
    let laws = g.R.Rules.laws in
    let t = g.R.Rules.table in
    let inside = c.self.inside in
    let over = inside.epochs.over.items in
    let begun = inside.epochs.begun in
    let now : Moment = record { state = inside.net.state; spent = inside.net.spent } in
    let after : Moment = record { state = c.commit.new.self.state; spent = c.commit.new.self.spent } in
    let ready = subst (λ (held : JournalView). IsNextReceipt t held c.args.prepared) (sym c.self.view_is) c.requires in
    let event = c.args.prepared.event in
    let reply = c.args.prepared.reply in
    let entry : Entry = (event, reply) in
    let moved : after ≡ moment_after t now event = c.commit.ensures.state ∙ ap (λ (e : Event). moment_after t now e) (c.event.ensures.value ∙ ap (λ (x : Entry). x.0) c.parts-entry.ensures.entry) in
    let added : c.push.new.self.items ≡ inside.entries.items ++ entry ∷ [] = grind arith in
    let told = c.reply.ensures.value ∙ ap (λ (x : Entry). x.1) c.parts-entry.ensures.entry in
    let number = ap (λ (r : Receipt). r.seq) (c.parts-entry.ensures.receipt ∙ ready.next) in
    let ended = c.turn.ensures.over ∙ ap (λ (r : Reply). map of_run over ++ ended_by r (open_at begun now)) told in
    let list = c.turn.ensures.list ∙ ap (λ (r : Reply). over_after r (epoch_now begun inside.net) over) told in
    let starts = c.turn.ensures.begun ∙ ap₂ (λ (r : Reply) (n : ℕ). begun_by r n begun) told number in
    let good = ends_in_state t g.R.Rules.NODE_WEIGHT laws.table _ c.self.invariant.journal.is_kept in
    let counts = c.commit.ensures.counting ∙ ap (λ (r : Reply). next_counting t r after.state inside.net.counting) (c.reply-2.ensures.value ∙ ap (λ (x : Entry). x.1) c.parts-entry.ensures.entry) in
    counted_next t g.R.Rules.NODE_WEIGHT _ _ _ _ _ _ _ _ after c.push.new.self.items event reply c.self.invariant (reply_answers t laws.table now after good event reply ready.net.reply_is moved) added counts (epoch_now begun inside.net) refl refl list starts
    (next_is_journal t g.R.Rules.NODE_WEIGHT laws.table _ over begun c.self.invariant.journal ready.below event reply after c.push.new.self.items c.turn.new.self.over.items c.turn.new.self.begun ready.net.reply_is moved added ended starts)
