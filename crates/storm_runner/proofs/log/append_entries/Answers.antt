use Rattle.storm_runner.proofs.Prelude.{◌≡◌, ◌+◌, ◌-◌, ◌++◌, ℕ, Some, drop, slice_get, subst, arith, dropped, entry_line, entry_lines, Event, Reply, IsEvent, IsReply, IsWritableEntry, AreWritable, ◌∙◌, suc, List, ◌∷◌, sym, ap, append_assoc, add-one, drop-cons, slice_get_within, get_or_from_slice_get, Entry, Extends}
use Rattle.storm_runner.proofs.log.append_entries.Goals as goal

-- the entry at a place is the first of those from there on
from_place : (log : List Entry) (k : ℕ) (e : Entry) → slice_get log k ≡ Some e → drop k log ≡ e ∷ drop (k + 1) log
from_place log k e at =
    drop-cons log k e (slice_get_within log k e at)
    ∙ ap (λ (f : Entry). f ∷ drop (suc k) log) (get_or_from_slice_get log k e e at)
    ∙ ap (λ (n : ℕ). e ∷ drop n log) (sym (add-one k))

-- once the entry at a place is written, the others from there on make up the same text
one_more : (log : List Entry) (number k : ℕ) (e : Entry) (event : Event) (reply : Reply) (all before after : List ℕ) → slice_get log k ≡ Some e → event ≡ e.0 → reply ≡ e.1
    → after ≡ before ++ entry_line number event reply
    → before ++ entry_lines number (drop k log) ≡ all
    → after ++ entry_lines (number + 1) (drop (k + 1) log) ≡ all
one_more log number k e event reply all before after at is_event is_reply wrote so_far =
    let rest = entry_lines (number + 1) (drop (k + 1) log) in
    ap (λ (l : List ℕ). l ++ rest) wrote
    ∙ ap (λ (v : Event). (before ++ entry_line number v reply) ++ rest) is_event
    ∙ ap (λ (r : Reply). (before ++ entry_line number e.0 r) ++ rest) is_reply
    ∙ append_assoc before (entry_line number e.0 e.1) rest
    ∙ ap (λ (l : List Entry). before ++ entry_lines number l) (sym (from_place log k e at))
    ∙ so_far

-- a text that has grown, and grows by another line
grown_more : (old before after line : List ℕ) → Extends old before → after ≡ before ++ line → Extends old after
grown_more old before after line x wrote =
    record { more = x.more ++ line; is = wrote ∙ ap (λ (l : List ℕ). l ++ line) x.is ∙ append_assoc old x.more line }

-- once the entry at a place can be written, so can all, if the others from there on can
one_more_value : (log : List Entry) (k : ℕ) (e : Entry) → slice_get log k ≡ Some e → IsWritableEntry e → (AreWritable (drop k log) → AreWritable log) → AreWritable (drop (k + 1) log) → AreWritable log
one_more_value log k e at is so_far rest = so_far (subst AreWritable (sym (from_place log k e at)) (is, rest))

pub loop-before-preserved : goal.loop-before-preserved
loop-before-preserved g c =
    let log = c.args.journal.now.entries in
    let d = dropped c.args.journal.now.base in
    let e = c.unwrap-entry.result.now in
    let event = c.event.result.now in
    let reply = c.reply.result.now in
    let k = c.loop-before.before in
    let behind = c.loop-before.invariant.behind in
    let all = c.args.out.now.items ++ entry_lines (d + 1) log in
    let found = rw c.unwrap-entry.ensures at c.entry.ensures.found in
    let at = subst (λ n. slice_get log n ≡ Some e) (omega (arith, behind)) found.1 in
    let more = one_more log (k + 1) (k - d) e event reply all c.loop-before.out.items c.put_entry.new.out.items at c.event.ensures.value c.reply.ensures.value c.in_ok-put_entry.ensures.ok c.loop-before.invariant.text in
    let named = c.in_ok-put_entry.ensures.named in
    let is : IsWritableEntry e = record {
      event = subst (λ (v : Event). IsEvent v) c.event.ensures.value named.0;
      reply = subst (λ (r : Reply). IsReply r) c.reply.ensures.value named.1;
      fits = c.event.ensures.fits;
    } in
    record {
      behind = omega (arith, behind);
      text = subst (λ (n : ℕ). c.put_entry.new.out.items ++ entry_lines (k + 1 + 1) (drop n log) ≡ all) (omega (arith, behind)) more;
      grown = grown_more c.args.out.now.items c.loop-before.out.items c.put_entry.new.out.items (entry_line (k + 1) event reply) c.loop-before.invariant.grown c.in_ok-put_entry.ensures.ok;
      values = λ rest. one_more_value log (k - d) e at is c.loop-before.invariant.values (subst (λ (n : ℕ). AreWritable (drop n log)) (omega (arith, behind)) rest);
    }
