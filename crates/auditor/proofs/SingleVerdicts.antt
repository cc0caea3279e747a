-- Of the lines up to an entry there is one verdict: they are good, or damaged, or too few, or forgotten.
use Rattle.auditor.proofs.Prelude.{◌≡◌, ◌≢◌, ℕ, ◌<◌, ◌⊎◌, inl, inr, ⊎_elim, List, [], Option, None, Some, sym, ap, subst, ◌∙◌, arith, same_Some, RuleSet, State, LogPart, NumberedMoment, table_of, AuditFault, BadHeader, NotALine, OutOfOrder, NotTheMachines, BadBase, Read, Memory, size_of, BeginsWithTranscript, IsDamage, EndsAt, HasDroppedEntry, HasTooFew, IsAskedBeyond, IsDamageWithin, IsMetDamage, IsStateAfter}
use Rattle.auditor.proofs.Steps.{passes_rise}
use Rattle.auditor.proofs.Chains.{chain_beyond}
use Rattle.auditor.proofs.TextEnds.{Split, Ended, FailsFirst, FailsBehind, begun, chain_behind, chain_same, ended_once, fails_some, failure_ends, first_good, followed, no_damage, run_once, split_at, split_of, transcript_ends, whole}
use Rattle.auditor.proofs.EqualPrefixes.{over}

-- no transcript goes beyond the end of the text
not_beyond : (bytes : List ℕ) (r : RuleSet) (log : List LogPart) (end : NumberedMoment) (rest : List ℕ) (b : Split) → BeginsWithTranscript bytes r log end rest → Ended bytes b → b.end.count < end.count → ⊥
not_beyond bytes r log end rest b f e less =
    let g = followed bytes b e in
    let same = begun bytes r b.rules log b.log end b.end rest b.rest f g in
    let other = chain_same r b.rules f.opening b.opening _ _ _ _ b.log b.end b.rest same (chain_behind bytes b.rules b.log b.end b.rest g) in
    chain_beyond r (size_of f.opening) _ log b.log end b.end _ rest b.rest (chain_behind bytes r log end rest f) other (rw (same.rules, same.openings) e.stops) less

apart : (bytes : List ℕ) (stop : Option ℕ) (r : RuleSet) (log : List LogPart) (end : NumberedMoment) (rest : List ℕ) (b : Split) → BeginsWithTranscript bytes r log end rest → EndsAt stop end.count rest → Ended bytes b → b.rest ≢ [] → IsAskedBeyond stop b.end.count → ⊥
apart bytes None r log end rest b f ends e some before =
    let once = ended_once bytes (split_at bytes r log end rest f) b (over bytes r log end rest f ends) e in
    some (sym (ap (λ (z : Split). z.rest) once) ∙ ends)
apart bytes (Some k) r log end rest b f ends e some before = not_beyond bytes r log end rest b f e (omega (arith, ends, before))

-- ---- a damage that is met

-- it is at the start, or after fewer entries than were asked for
pub record MetBehind (bytes : List ℕ) (stop : Option ℕ) (d : AuditFault) : Type 0 where
  pub behind : FailsBehind bytes d
  pub before : IsAskedBeyond stop behind.at.end.count

pub met_fails : (bytes : List ℕ) (stop : Option ℕ) (d : AuditFault) (damage : IsDamage bytes d) → IsDamageWithin bytes stop d damage → FailsFirst bytes d ⊎ MetBehind bytes stop d
met_fails bytes stop BadHeader x looked = inl x
met_fails bytes stop (NotALine line) x looked = inr (record { behind = record { at = x.at; fails = (x.line_is, x.other, x.damage) }; before = looked })
met_fails bytes stop (OutOfOrder line) x looked = inr (record { behind = record { at = x.at; fails = (x.line_is, (x.number, x.entry, x.comes, x.damage)) }; before = looked })
met_fails bytes stop (NotTheMachines line) x looked = inr (record { behind = record { at = x.at; fails = (x.line_is, (x.entry, x.comes, x.damage)) }; before = looked })
met_fails bytes stop (BadBase line) (inl x) looked = inl x
met_fails bytes stop (BadBase line) (inr x) looked = inr (record { behind = record { at = x.at; fails = (x.begins, (x.parting, x.line_is)) }; before = looked })
met_fails bytes stop Read x looked = absurd x
met_fails bytes stop Memory x looked = absurd x

-- good lines have no damage
pub good_no_damage : (bytes : List ℕ) (stop : Option ℕ) (rules : RuleSet) (s : State) (d : AuditFault) → IsStateAfter bytes stop rules s → IsMetDamage bytes stop d → ⊥
good_no_damage bytes stop rules s d x met =
    ⊎_elim (λ first. first_good bytes d rules x.log x.end x.rest first x.follows)
    (λ m. apart bytes stop rules x.log x.end x.rest (split_of bytes m.behind.at) x.follows x.ends (failure_ends bytes d m.behind) (fails_some (split_of bytes m.behind.at) d m.behind.fails) m.before)
    (met_fails bytes stop d met.is met.looked_at)

-- ---- too few

-- an entry that is there is not asked for in vain
pub good_not_few : (bytes : List ℕ) (stop : Option ℕ) (rules : RuleSet) (s : State) (asked entries : ℕ) → IsStateAfter bytes stop rules s → HasTooFew bytes stop asked entries → ⊥
good_not_few bytes stop rules s asked entries x few =
    let ends : x.end.count ≡ asked = subst (λ (o : Option ℕ). EndsAt o x.end.count x.rest) few.last_is x.ends in
    not_beyond bytes rules x.log x.end x.rest (whole bytes few.rules few.opening few.log few.end) x.follows (transcript_ends bytes few.rules few.opening few.log few.end few.transcript) (omega (arith, ends, few.entries_are, few.fewer))

pub few_once : (bytes : List ℕ) (stop : Option ℕ) (asked wanted entries count : ℕ) → HasTooFew bytes stop asked entries → HasTooFew bytes stop wanted count → (asked ≡ wanted) × (entries ≡ count)
few_once bytes stop asked wanted entries count x y =
    let once = run_once bytes x.rules y.rules x.opening y.opening x.log y.log x.end y.end x.transcript y.transcript in
    (same_Some asked wanted (sym x.last_is ∙ y.last_is), x.entries_are ∙ ap (λ (z : NumberedMoment). z.count) once.ends ∙ sym y.entries_are)

pub few_no_damage : (bytes : List ℕ) (stop : Option ℕ) (asked entries : ℕ) (d : AuditFault) → HasTooFew bytes stop asked entries → IsDamage bytes d → ⊥
few_no_damage bytes stop asked entries d x damage = no_damage bytes x.rules x.opening x.log x.end d x.transcript damage

-- ---- forgotten

-- the run of a text goes on after the base that it begins with
forgotten_below : (bytes : List ℕ) (stop : Option ℕ) (asked base : ℕ) (rules : RuleSet) (log : List LogPart) (end : NumberedMoment) (rest : List ℕ) → HasDroppedEntry bytes stop asked base → BeginsWithTranscript bytes rules log end rest → asked < end.count
forgotten_below bytes stop asked base rules log end rest x f =
    let starts = ap (λ (z : NumberedMoment). z.count) (x.follows.transcript.passes ∙ (begun bytes x.rules rules [] log x.end end x.rest rest x.follows f).starts) in
    omega (arith, x.fewer, x.base_is, starts, passes_rise (table_of rules) f.transcript.start end log f.transcript.passes)

pub forgotten_once : (bytes : List ℕ) (stop : Option ℕ) (asked wanted base other : ℕ) → HasDroppedEntry bytes stop asked base → HasDroppedEntry bytes stop wanted other → (asked ≡ wanted) × (base ≡ other)
forgotten_once bytes stop asked wanted base other x y =
    let same = begun bytes x.rules y.rules [] [] x.end y.end x.rest y.rest x.follows y.follows in
    let ends = x.follows.transcript.passes ∙ same.starts ∙ sym y.follows.transcript.passes in
    (same_Some asked wanted (sym x.last_is ∙ y.last_is), x.base_is ∙ ap (λ (z : NumberedMoment). z.count) ends ∙ sym y.base_is)

pub good_not_forgotten : (bytes : List ℕ) (stop : Option ℕ) (rules : RuleSet) (s : State) (asked base : ℕ) → IsStateAfter bytes stop rules s → HasDroppedEntry bytes stop asked base → ⊥
good_not_forgotten bytes stop rules s asked base x forgotten =
    let ends : x.end.count ≡ asked = subst (λ (o : Option ℕ). EndsAt o x.end.count x.rest) forgotten.last_is x.ends in
    let below = forgotten_below bytes stop asked base rules x.log x.end x.rest forgotten x.follows in
    omega (arith, ends, below)

pub few_not_forgotten : (bytes : List ℕ) (stop : Option ℕ) (asked entries wanted base : ℕ) → HasTooFew bytes stop asked entries → HasDroppedEntry bytes stop wanted base → ⊥
few_not_forgotten bytes stop asked entries wanted base x forgotten =
    let same = same_Some asked wanted (sym x.last_is ∙ forgotten.last_is) in
    let below : wanted < x.end.count = forgotten_below bytes stop wanted base x.rules x.log x.end [] forgotten (followed bytes _ (transcript_ends bytes x.rules x.opening x.log x.end x.transcript)) in
    omega (arith, same, below, x.entries_are, x.fewer)

pub forgotten_no_damage : (bytes : List ℕ) (stop : Option ℕ) (asked base : ℕ) (d : AuditFault) → HasDroppedEntry bytes stop asked base → IsMetDamage bytes stop d → ⊥
forgotten_no_damage bytes stop asked base d x met =
    ⊎_elim (λ first. first_good bytes d x.rules [] x.end x.rest first x.follows)
    (λ m.
    let before : m.behind.at.end.count < asked = subst (λ (o : Option ℕ). IsAskedBeyond o m.behind.at.end.count) x.last_is m.before in
    omega (arith, before, forgotten_below bytes stop asked base m.behind.at.rules m.behind.at.log m.behind.at.end m.behind.at.rest x m.behind.at.follows))
    (met_fails bytes stop d met.is met.looked_at)
