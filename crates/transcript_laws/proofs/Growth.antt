-- A transcript with one entry or one base more.
use Rattle.std.proofs.Common.{◌≡◌, ℕ, ◌+◌, ◌*◌, ◌<◌, ◌≤◌, List, [], ◌∷◌, ◌++◌, length, refl, sym, ap, ◌∙◌, append_assoc, arith}
use Rattle.std.proofs.lemmas.List.{length-map}
use Rattle.std.specs.FinMap as finmap
use Rattle.rule_machine.specs.declared.event.Event.{Event}
use Rattle.rule_machine.specs.declared.reply.Reply.{Reply}
use Rattle.rule_machine.specs.declared.rule_set.RuleSet.{RuleSet}
use Rattle.rule_machine.specs.declared.rule_set.RuleSet.TheVariants.{Hh, Manne}
use Rattle.rule_machine.specs.Base.{BasePart, EntryPart, LogPart, NumberedMoment, base_of}
use Rattle.rule_machine.specs.Least.{reply_of, state_after}
use Rattle.rule_machine.specs.Network.{edge_count, node_count}
use Rattle.rule_machine.specs.Run.{moment_after}
use Rattle.rule_machine.specs.Tables.{table_of, weight_of}
use Rattle.machine_laws.proofs.LeastAnswers.{least_answers}
use Rattle.step_log.proofs.ReplyKinds.{nodes_few, reply_fits}
use Rattle.line_text.specs.BaseText.{base_text}
use Rattle.line_text.specs.EntryText.{entry_line}
use Rattle.line_text.specs.EventText.{IsEvent}
use Rattle.entry_grammar.specs.Spelling.{max_entries}
use Rattle.auditor.specs.Parts.{Opening, opening_text, part_text, parts_text, size_of}
use Rattle.auditor.specs.Transcript.{IsLogPart, IsTranscript}
use Rattle.auditor.proofs.Spent.{is_table}
use Rattle.auditor.proofs.Steps.{parts_add, parts_text_add, passes_add}
use Rattle.audit_parts.proofs.CutTranscripts.{Reopens, reopens_end}
use Rattle.transcript_laws.proofs.Values.{IsWithin, reply_in}

-- the machine's reply at a moment
abbrev pub reply_at : RuleSet → NumberedMoment → Event → Reply
reply_at rules at event = reply_of (table_of rules) at.moment.state at.moment.spent event

-- the moment after the entry of an event
abbrev pub next_at : RuleSet → NumberedMoment → Event → NumberedMoment
next_at rules at event = record { moment = moment_after (table_of rules) at.moment event; count = at.count + 1 }

weighs : (rules : RuleSet) (spent charge edges nodes : ℕ) → spent + charge ≤ 2 * edges + weight_of rules * nodes → spent + charge ≤ 2 * edges + 3 * nodes
weighs Hh spent charge edges nodes within = omega (arith, within)
weighs Manne spent charge edges nodes within = omega (arith, within)

-- where a run may begin again, its network is within the limits
within : (rules : RuleSet) (size : ℕ) (at : NumberedMoment) → Reopens rules size at → IsWithin (table_of rules) at.moment.state at.moment.spent
within rules size at begun =
    let s = at.moment.state in
    let edges : length (base_of at.count at.moment).edges ≡ edge_count s.network = length-map (finmap.entries s.network.edges) (λ e. e.0) ∙ sym (finmap.len-entries s.network.edges) in
    record {
      few = omega (arith, begun.begins.size_is, begun.fits.few);
      edges = omega (arith, begun.fits.edges, edges);
      bounded = weighs rules at.moment.spent ((table_of rules).charge s) (edge_count s.network) (node_count s.network) begun.begins.within;
    }

module _ (bytes : List ℕ) (rules : RuleSet) (o : Opening) (log : List LogPart) (end : NumberedMoment) (is : IsTranscript bytes rules o log end) where
  abbrev begun : Reopens rules (size_of o) end
  begun = reopens_end bytes rules o log end is

  pub size_few : end.moment.state.network.size ≤ 65535
  size_few = (within rules (size_of o) end begun).few

  pub size_same : end.moment.state.network.size ≡ size_of o
  size_same = begun.begins.size_is

  text_more : (part : LogPart) → bytes ++ part_text rules (size_of o) end.count part ≡ opening_text rules o ++ parts_text rules (size_of o) is.start.count (log ++ part ∷ [])
  text_more part =
      let front = opening_text rules o in
      let lines = parts_text rules (size_of o) is.start.count log in
      let own = part_text rules (size_of o) end.count part in
      ap (λ (l : List ℕ). l ++ own) is.text
      ∙ append_assoc front lines own
      ∙ ap (λ (l : List ℕ). front ++ l) (sym (parts_text_add rules (size_of o) (table_of rules) is.start end log part is.passes))

  pub entry_added : (event : Event) → IsEvent event → end.count < max_entries → IsTranscript (bytes ++ entry_line (end.count + 1) event (reply_at rules end event)) rules o (log ++ EntryPart (event, reply_at rules end event) ∷ []) (next_at rules end event)
  entry_added event fits few =
      let t = table_of rules in
      let s = end.moment.state in
      let spent = end.moment.spent in
      let good = begun.begins.is_state in
      let limits = within rules (size_of o) end begun in
      let part = EntryPart (event, reply_at rules end event) in
      let own : IsLogPart part = record {
        event = fits;
        reply = reply_in t (is_table rules) s good spent limits event;
        fits = reply_fits t (is_table rules) s good spent event (omega (arith, nodes_few s.network, limits.few));
      } in
      record {
        start = is.start;
        opens = is.opens;
        text = text_more part;
        parts = parts_add log part is.parts own;
        not_too_many = omega (arith, few);
        passes = passes_add t is.start end (next_at rules end event) log part is.passes (state_after t s event, least_answers t (is_table rules) s good spent event, refl);
      }

  pub base_added : IsTranscript (bytes ++ base_text rules end.moment.state.network.size (base_of end.count end.moment)) rules o (log ++ BasePart (base_of end.count end.moment) ∷ []) end
  base_added =
      let part = BasePart (base_of end.count end.moment) in
      record {
        start = is.start;
        opens = is.opens;
        text = ap (λ (n : ℕ). bytes ++ base_text rules n (base_of end.count end.moment)) size_same ∙ text_more part;
        parts = parts_add log part is.parts tt;
        not_too_many = is.not_too_many;
        passes = passes_add (table_of rules) is.start end end log part is.passes (refl, refl);
      }
