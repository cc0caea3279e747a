-- Of as many entries of one text there is one run, through one state after another.
use Rattle.auditor.proofs.Prelude.{◌≡◌, ℕ, ◌+◌, List, [], ◌∷◌, Option, None, Some, map, refl, sym, ap, subst, ◌∙◌, RuleSet, State, RuleTable, LogPart, NumberedMoment, entries_in, Entry, Moment, epochs_from, Answers, spent_after, table_of, IsPath, answers_once, cost_by, CostedEpoch, size_of, BeginsWithTranscript, EndsAt, IsStateAfter, AreCostedEpochs, costs_along, costs_in, epochs_in, first_epoch, rounds_in_rows, rounds_along}
use Rattle.auditor.proofs.Chains.{chain_level, nothing_stops}
use Rattle.auditor.proofs.TextEnds.{Split, Ended, begun, chain_behind, chain_same, ended_once, ends_here, followed, run_once, split_at, transcript_ends}

-- ---- the state after so many entries

-- with nothing after it, a transcript has ended
pub over : (bytes : List ℕ) (rules : RuleSet) (log : List LogPart) (end : NumberedMoment) (rest : List ℕ) (f : BeginsWithTranscript bytes rules log end rest) → rest ≡ [] → Ended bytes (split_at bytes rules log end rest f)
over bytes rules log end rest f none = ends_here bytes rules log end rest f (rw none (nothing_stops rules (size_of f.opening) end))

-- two transcripts at the beginning of one text that end there, or after as many entries, have one end
place_once : (bytes : List ℕ) (stop : Option ℕ) (r q : RuleSet) (log also : List LogPart) (end last : NumberedMoment) (rest left : List ℕ) → BeginsWithTranscript bytes r log end rest → BeginsWithTranscript bytes q also last left → EndsAt stop end.count rest → EndsAt stop last.count left → (r ≡ q) × (end ≡ last)
place_once bytes None r q log also end last rest left f g x y =
    let once = ended_once bytes (split_at bytes r log end rest f) (split_at bytes q also last left g) (over bytes r log end rest f x) (over bytes q also last left g y) in
    (ap (λ (z : Split). z.rules) once, ap (λ (z : Split). z.end) once)
place_once bytes (Some k) r q log also end last rest left f g x y =
    let same = begun bytes r q log also end last rest left f g in
    let other = chain_same r q f.opening g.opening _ _ _ _ also last left same (chain_behind bytes q also last left g) in
    (same.rules, chain_level r (size_of f.opening) _ log also end last _ rest left (chain_behind bytes r log end rest f) other (x ∙ sym y))

pub state_once : (bytes : List ℕ) (stop : Option ℕ) (r q : RuleSet) (s u : State) → IsStateAfter bytes stop r s → IsStateAfter bytes stop q u → (r ≡ q) × (s ≡ u)
state_once bytes stop r q s u x y =
    let once = place_once bytes stop r q x.log y.log x.end y.end x.rest y.rest x.follows y.follows x.ends y.ends in
    (once.0, x.state ∙ ap (λ (z : NumberedMoment). z.moment.state) once.1 ∙ sym y.state)

-- ---- the epochs

path_once : (t : RuleTable) (start : Moment) (path also : List (Entry × State)) → IsPath t start path → IsPath t start also → map (λ step. step.0) path ≡ map (λ step. step.0) also → path ≡ also
path_once t start [] [] is was e = refl
path_once t start ((entry, next) ∷ path) ((other, following) ∷ also) (answers, is) (answered, was) e =
    let same : entry ≡ other = cc in
    let there = answers_once t start.state start.spent other.0 other.1 next following (subst (λ (x : Entry). Answers t start.state start.spent x.0 x.1 next) same answers) answered in
    let moved = subst (λ (z : Entry × State). IsPath t (record { state = z.1; spent = spent_after start.spent z.0.1 }) path) (λ i. (same i, there i)) is in
    let rest = path_once t (record { state = following; spent = spent_after start.spent other.1 }) path also moved was (cc) in
    λ i. (same i, there i) ∷ rest i
path_once t start path also is was e = absurd cc

-- rows of the same epochs with the same costs and rounds
rows_same : (rows others : List CostedEpoch) → epochs_in rows ≡ epochs_in others → costs_in rows ≡ costs_in others → rounds_in_rows rows ≡ rounds_in_rows others → rows ≡ others
rows_same [] [] e c r = refl
rows_same (row ∷ rows) (other ∷ others) e c r =
    let epoch : row.epoch ≡ other.epoch = cc in
    let cost : row.cost ≡ other.cost = cc in
    let rounds : row.rounds ≡ other.rounds = cc in
    let rest = rows_same rows others (cc) (cc) (cc) in
    λ i. record { epoch = epoch i; cost = cost i; rounds = rounds i } ∷ rest i
rows_same rows others e c r = absurd cc

pub epochs_once : (bytes : List ℕ) (r q : RuleSet) (rows others : List CostedEpoch) → AreCostedEpochs bytes r rows → AreCostedEpochs bytes q others → (r ≡ q) × (rows ≡ others)
epochs_once bytes r q rows others x y =
    let a = x.run in
    let b = y.run in
    let start = a.transcript.start in
    let begin = b.transcript.start in
    let once = run_once bytes r q x.opening y.opening a.log b.log a.end b.end a.transcript b.transcript in
    let starts : start ≡ begin = (begun bytes _ _ _ _ _ _ _ _ (followed bytes _ (transcript_ends bytes _ _ _ _ a.transcript)) (followed bytes _ (transcript_ends bytes _ _ _ _ b.transcript))).starts in
    let entries = sym a.entries ∙ ap (λ (l : List LogPart). entries_in l) once.parts ∙ b.entries in
    let same = path_once (table_of r) start.moment x.path y.path a.is_path (rw (once.rules, starts) b.is_path) entries in
    let epochs = x.epochs ∙ (λ i. epochs_from ((starts i).count + 1) (first_epoch (once.openings i) (starts i)) (same i)) ∙ sym y.epochs in
    let costs = x.costs ∙ (λ i. None ∷ costs_along (cost_by (once.rules i)) (starts i).moment.state (same i)) ∙ sym y.costs in
    let rounds = x.rounds ∙ (λ i. rounds_along (table_of (once.rules i)) (starts i).moment.state [] (same i)) ∙ sym y.rounds in
    (once.rules, rows_same rows others epochs costs rounds)
