use Rattle.std.proofs.lemmas.Option.{IfSome_then}
use Rattle.auditor.proofs.TranscriptEnds.{accepted_in, damage_in, done_in, fault_in}
use Rattle.auditor.proofs.transcript.audit.Goals as goal

pub returns : goal.returns
returns g c = rw c.summary_of.ensures (record {
  accepted = IfSome_then (g.In.Read.remaining c.args.reader.now.reader) c.end_of.ensures.ended (λ bytes is. accepted_in bytes c.end_of.result is);
  damage = IfSome_then (g.In.Read.remaining c.args.reader.now.reader) c.end_of.ensures.damage (λ bytes is. damage_in bytes c.end_of.result is);
  accepts_runs = c.end_of.ensures.accepts_runs;
  names_damage = c.end_of.ensures.names_damage;
  end = done_in c.end_of.result _ c.end_of.ensures.end;
  unread = λ e. c.end_of.ensures.unread (fault_in c.end_of.result _ e);
  readable = λ e. c.end_of.ensures.readable (fault_in c.end_of.result _ e);
})
