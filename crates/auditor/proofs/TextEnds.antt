-- A text ends, as a transcript or in a damage, in one way.
use Rattle.auditor.proofs.Prelude.{◌≡◌, ◌≢◌, ℕ, ◌+◌, ◌⊎◌, inl, inr, List, [], ◌∷◌, ◌++◌, length, refl, sym, ap, subst, ◌∙◌, append_assoc, append-nil, none-some, append_cancel_left, append_cancel_right, Base, RuleSet, State, LogPart, EntryPart, BasePart, NumberedMoment, base_of, entries_in, Entry, Answers, table_of, base_text, first_line, cons_parts, AuditFault, BadHeader, NotALine, OutOfOrder, NotTheMachines, BadBase, Read, Memory, Summary, Opening, size_of, IsTranscript, SameRun, epoch_count, move_count, BeginsWithTranscript, TranscriptPrefix, EntryComes, BeginsBase, CommonPrefix, IsLineBehind, HasNoEntry, HasBadHeader, HasBadStart, IsDamage, Counts, IsAccepted, codes}
pub use Rattle.auditor.proofs.Chains.{comes_no_base, entry_once, kept_begins, told_comes}
use Rattle.auditor.proofs.Chains.{Chain, Stops, chain_of, chain_meet, nothing_stops}
use Rattle.auditor.proofs.Openings.{SameOpening, follows_text, opening_once, parts_behind, header_good, start_good, header_no_start, start_once_bad}

-- ---- two transcripts at the beginning of one text

pub begun : (bytes : List ℕ) (r q : RuleSet) (log also : List LogPart) (end last : NumberedMoment) (rest left : List ℕ) (f : BeginsWithTranscript bytes r log end rest) (g : BeginsWithTranscript bytes q also last left) → SameOpening r q f.opening g.opening f.transcript.start g.transcript.start (parts_behind bytes r log end rest f) (parts_behind bytes q also last left g)
begun bytes r q log also end last rest left f g =
    opening_once r q f.opening g.opening f.transcript.start g.transcript.start (parts_behind bytes r log end rest f) (parts_behind bytes q also last left g) f.transcript.opens g.transcript.opens
    (sym (follows_text bytes r log end rest f) ∙ follows_text bytes q also last left g)

pub chain_behind : (bytes : List ℕ) (rules : RuleSet) (log : List LogPart) (end : NumberedMoment) (rest : List ℕ) (f : BeginsWithTranscript bytes rules log end rest) → Chain rules (size_of f.opening) f.transcript.start log end (parts_behind bytes rules log end rest f) rest
chain_behind bytes rules log end rest f =
    let is = f.transcript in
    chain_of rules (size_of f.opening) is.start log end rest is.parts is.not_too_many is.passes

-- a chain of the one is a chain of the other
pub chain_same : (r q : RuleSet) (o u : Opening) (start begin : NumberedMoment) (x y : List ℕ) (also : List LogPart) (last : NumberedMoment) (left : List ℕ) → SameOpening r q o u start begin x y → Chain q (size_of u) begin also last y left → Chain r (size_of o) start also last x left
chain_same r q o u start begin x y also last left same chain =
    subst (λ (z : RuleSet × Opening × NumberedMoment × List ℕ). Chain z.0 (size_of z.1) z.2 also last z.3 left)
    (sym (λ i. (same.rules i, same.openings i, same.starts i, same.rests i))) chain

-- ---- where a text ends

-- the beginning of a text that is a transcript, and the rest
pub record Split : Type 0 where
  pub rules : RuleSet
  pub opening : Opening
  pub good : List ℕ
  pub log : List LogPart
  pub end : NumberedMoment
  pub rest : List ℕ

-- no part follows it
pub record Ended (bytes : List ℕ) (at : Split) : Type 0 where
  pub transcript : IsTranscript at.good at.rules at.opening at.log at.end
  pub splits : bytes ≡ at.good ++ at.rest
  pub stops : Stops at.rules (size_of at.opening) at.end at.rest

abbrev pub followed : (bytes : List ℕ) (at : Split) → Ended bytes at → BeginsWithTranscript bytes at.rules at.log at.end at.rest
followed bytes at x = record { opening = at.opening; good = at.good; transcript = x.transcript; splits = x.splits }

abbrev pub split_at : (bytes : List ℕ) (rules : RuleSet) (log : List LogPart) (end : NumberedMoment) (rest : List ℕ) → BeginsWithTranscript bytes rules log end rest → Split
split_at bytes rules log end rest f = record { rules = rules; opening = f.opening; good = f.good; log = log; end = end; rest = rest }

abbrev pub split_of : (bytes : List ℕ) → TranscriptPrefix bytes → Split
split_of bytes at = split_at bytes at.rules at.log at.end at.rest at.follows

pub ends_here : (bytes : List ℕ) (rules : RuleSet) (log : List LogPart) (end : NumberedMoment) (rest : List ℕ) (f : BeginsWithTranscript bytes rules log end rest) → Stops rules (size_of f.opening) end rest → Ended bytes (split_at bytes rules log end rest f)
ends_here bytes rules log end rest f stops = record { transcript = f.transcript; splits = f.splits; stops = stops }

-- a text ends in one place
pub ended_once : (bytes : List ℕ) (a b : Split) → Ended bytes a → Ended bytes b → a ≡ b
ended_once bytes a b x y =
    let f = followed bytes a x in
    let g = followed bytes b y in
    let same = begun bytes a.rules b.rules a.log b.log a.end b.end a.rest b.rest f g in
    let also = chain_same a.rules b.rules a.opening b.opening _ _ _ _ b.log b.end b.rest same (chain_behind bytes b.rules b.log b.end b.rest g) in
    let met = chain_meet a.rules (size_of a.opening) _ a.log b.log a.end b.end _ a.rest b.rest (chain_behind bytes a.rules a.log a.end a.rest f) also x.stops (rw (same.rules, same.openings) y.stops) in
    let goods = append_cancel_right a.good b.good b.rest (ap (λ (z : List ℕ). a.good ++ z) (sym met.rests) ∙ sym x.splits ∙ y.splits) in
    λ i. record { rules = same.rules i; opening = same.openings i; good = goods i; log = met.logs i; end = met.ends i; rest = met.rests i }

-- ---- how it ends there

abbrev pub whole : List ℕ → RuleSet → Opening → List LogPart → NumberedMoment → Split
whole bytes rules opening log end = record { rules = rules; opening = opening; good = bytes; log = log; end = end; rest = [] }

abbrev pub transcript_ends : (bytes : List ℕ) (rules : RuleSet) (opening : Opening) (log : List LogPart) (end : NumberedMoment) → IsTranscript bytes rules opening log end → Ended bytes (whole bytes rules opening log end)
transcript_ends bytes rules opening log end is = record {
  transcript = is;
  splits = sym (append-nil bytes);
  stops = nothing_stops rules (size_of opening) end;
}

-- what fails after a transcript
abbrev pub Fails : Split → AuditFault → Type 0
Fails at BadHeader = ⊥
Fails at (NotALine line) = IsLineBehind line at.good × (BeginsBase at.rest → ⊥) × HasNoEntry at.rest (first_line at.rest)
Fails at (OutOfOrder line) = IsLineBehind line at.good × ((number : ℕ) × (entry : Entry) × EntryComes at.rest number entry × (number ≢ at.end.count + 1))
Fails at (NotTheMachines line) =
    IsLineBehind line at.good × ((entry : Entry) × EntryComes at.rest (at.end.count + 1) entry × ((s : State) → Answers (table_of at.rules) at.end.moment.state at.end.moment.spent entry.0 entry.1 s → ⊥))
Fails at (BadBase line) =
    BeginsBase at.rest × ((parting : CommonPrefix (base_text at.rules (size_of at.opening) (base_of at.end.count at.end.moment)) at.rest) × IsLineBehind line (at.good ++ parting.common))
Fails at Read = ⊥
Fails at Memory = ⊥

-- what fails at the start
abbrev pub FailsFirst : List ℕ → AuditFault → Type 0
FailsFirst bytes BadHeader = HasBadHeader (first_line bytes)
FailsFirst bytes (NotALine line) = ⊥
FailsFirst bytes (OutOfOrder line) = ⊥
FailsFirst bytes (NotTheMachines line) = ⊥
FailsFirst bytes (BadBase line) = HasBadStart bytes line
FailsFirst bytes Read = ⊥
FailsFirst bytes Memory = ⊥

-- after a transcript something fails
pub record FailsBehind (bytes : List ℕ) (d : AuditFault) : Type 0 where
  pub at : TranscriptPrefix bytes
  pub fails : Fails (split_of bytes at) d

pub damage_fails : (bytes : List ℕ) (d : AuditFault) → IsDamage bytes d → FailsFirst bytes d ⊎ FailsBehind bytes d
damage_fails bytes BadHeader x = inl x
damage_fails bytes (NotALine line) x =
    inr (record { at = x.at; fails = (x.line_is, x.other, x.damage) })
damage_fails bytes (OutOfOrder line) x =
    inr (record { at = x.at; fails = (x.line_is, (x.number, x.entry, x.comes, x.damage)) })
damage_fails bytes (NotTheMachines line) x =
    inr (record { at = x.at; fails = (x.line_is, (x.entry, x.comes, x.damage)) })
damage_fails bytes (BadBase line) (inl x) = inl x
damage_fails bytes (BadBase line) (inr x) = inr (record { at = x.at; fails = (x.begins, (x.parting, x.line_is)) })
damage_fails bytes Read x = absurd x
damage_fails bytes Memory x = absurd x

-- ---- what comes

none_comes : (rest : List ℕ) (number : ℕ) (entry : Entry) → HasNoEntry rest (first_line rest) → EntryComes rest number entry → ⊥
none_comes rest number entry none comes = (rw comes.is at none) number entry comes.spells

-- the text that the bytes part from does not begin them
parted : (common missing more behind : List ℕ) → missing ≢ [] → ((b : ℕ) (x y : List ℕ) → missing ≡ b ∷ x → more ≡ b ∷ y → ⊥) → common ++ more ≡ (common ++ missing) ++ behind → ⊥
parted common [] more behind some apart e = some refl
parted common (b ∷ missing) more behind some apart e =
    apart b missing (missing ++ behind) refl (append_cancel_left common more ((b ∷ missing) ++ behind) (e ∙ append_assoc common (b ∷ missing) behind))

pub parting_begins : (text bytes behind : List ℕ) → CommonPrefix text bytes → bytes ≡ text ++ behind → ⊥
parting_begins text bytes behind p e =
    parted p.common p.missing p.more behind p.some p.apart (sym p.had ∙ e ∙ ap (λ (t : List ℕ). t ++ behind) p.wanted)

stops_by : (at : Split) → ((entry : Entry) (s : State) → EntryComes at.rest (at.end.count + 1) entry → Answers (table_of at.rules) at.end.moment.state at.end.moment.spent entry.0 entry.1 s → ⊥)
    → ((behind : List ℕ) → BeginsBase at.rest → at.rest ≡ base_text at.rules (size_of at.opening) (base_of at.end.count at.end.moment) ++ behind → ⊥) → Stops at.rules (size_of at.opening) at.end at.rest
stops_by at told kept (EntryPart entry) next behind x = told entry x.steps.0 (told_comes _ _ _ _ _ _ _ x) x.steps.1
stops_by at told kept (BasePart base) next behind x =
    kept behind (kept_begins _ _ _ _ _ _ _ x) (x.is ∙ ap (λ (b : Base). base_text at.rules (size_of at.opening) b ++ behind) x.steps.0)

pub fails_stops : (at : Split) (d : AuditFault) → Fails at d → Stops at.rules (size_of at.opening) at.end at.rest
fails_stops at (NotALine line) x = stops_by at (λ entry s comes answers. none_comes at.rest _ entry x.2 comes) (λ behind begins is. x.1 begins)
fails_stops at (OutOfOrder line) (line_is, (number, other, comes, damage)) =
    stops_by at (λ entry s came answers. damage (entry_once at.rest number _ other entry comes came).0) (λ behind begins is. comes_no_base at.rest number other comes begins)
fails_stops at (NotTheMachines line) (line_is, (other, comes, damage)) =
    stops_by at (λ entry s came answers. damage s (subst (λ (z : Entry). Answers (table_of at.rules) at.end.moment.state at.end.moment.spent z.0 z.1 s) (sym (entry_once at.rest _ _ other entry comes came).1) answers))
    (λ behind begins is. comes_no_base at.rest _ other comes begins)
fails_stops at (BadBase line) (begins, (parting, line_is)) =
    stops_by at (λ entry s comes answers. comes_no_base at.rest _ entry comes begins) (λ behind also is. parting_begins _ at.rest behind parting is)
fails_stops at d x = absurd x

-- if something fails, something is left
pub some_rest : (rest : List ℕ) → HasNoEntry rest (first_line rest) → rest ≢ []
some_rest rest none e = (subst (λ (l : List ℕ). HasNoEntry l (first_line l)) e none) refl

pub comes_rest : (rest : List ℕ) (number : ℕ) (entry : Entry) → EntryComes rest number entry → rest ≢ []
comes_rest rest number entry comes e = none-some (comes.line, comes.more) (sym (ap first_line e) ∙ comes.is)

begins_rest : (rest : List ℕ) → BeginsBase rest → rest ≢ []
begins_rest rest begins e = let nothing : codes "matching2" ++ begins.0 ≡ [] = sym begins.1 ∙ e in absurd cc

pub fails_some : (at : Split) (d : AuditFault) → Fails at d → at.rest ≢ []
fails_some at (NotALine line) x = some_rest at.rest x.2
fails_some at (OutOfOrder line) (line_is, (number, entry, comes, damage)) = comes_rest at.rest number entry comes
fails_some at (NotTheMachines line) (line_is, (entry, comes, damage)) = comes_rest at.rest (at.end.count + 1) entry comes
fails_some at (BadBase line) x = begins_rest at.rest x.0
fails_some at d x = absurd x

pub failure_ends : (bytes : List ℕ) (d : AuditFault) (x : FailsBehind bytes d) → Ended bytes (split_of bytes x.at)
failure_ends bytes d x = ends_here bytes _ _ _ _ x.at.follows (fails_stops (split_of bytes x.at) d x.fails)

-- ---- one way

-- two texts are the same up to one place
common_once : (c d m n x y : List ℕ) → c ++ m ≡ d ++ n → c ++ x ≡ d ++ y → ((b : ℕ) (k l : List ℕ) → m ≡ b ∷ k → x ≡ b ∷ l → ⊥) → ((b : ℕ) (k l : List ℕ) → n ≡ b ∷ k → y ≡ b ∷ l → ⊥) → c ≡ d
common_once [] [] m n x y e f apart parts = refl
common_once [] (b ∷ d) m n x y e f apart parts = absurd (apart b (d ++ n) (d ++ y) e f)
common_once (b ∷ c) [] m n x y e f apart parts = absurd (parts b (c ++ m) (c ++ x) (sym e) (sym f))
common_once (a ∷ c) (b ∷ d) m n x y e f apart parts =
    let text = cons_parts a b (c ++ m) (d ++ n) e in
    let had = cons_parts a b (c ++ x) (d ++ y) f in
    ap (λ (z : ℕ). z ∷ c) text.0 ∙ ap (λ (l : List ℕ). b ∷ l) (common_once c d m n x y text.1 had.1 apart parts)

pub parting_once : (text bytes : List ℕ) (p q : CommonPrefix text bytes) → p.common ≡ q.common
parting_once text bytes p q =
    common_once p.common q.common p.missing q.missing p.more q.more (sym p.wanted ∙ q.wanted) (sym p.had ∙ q.had) p.apart q.apart

-- at one place one check fails
pub fails_once : (at : Split) (d e : AuditFault) → Fails at d → Fails at e → d ≡ e
fails_once at (NotALine k) (NotALine l) x y = ap (λ (n : ℕ). NotALine n) (x.0 ∙ sym y.0)
fails_once at (NotALine k) (OutOfOrder l) x (line_is, (number, entry, comes, damage)) = absurd (none_comes at.rest number entry x.2 comes)
fails_once at (NotALine k) (NotTheMachines l) x (line_is, (entry, comes, damage)) = absurd (none_comes at.rest (at.end.count + 1) entry x.2 comes)
fails_once at (NotALine k) (BadBase l) x y = absurd (x.1 y.0)
fails_once at (OutOfOrder k) (NotALine l) (line_is, (number, entry, comes, damage)) y = absurd (none_comes at.rest number entry y.2 comes)
fails_once at (OutOfOrder k) (OutOfOrder l) x y = ap (λ (n : ℕ). OutOfOrder n) (x.0 ∙ sym y.0)
fails_once at (OutOfOrder k) (NotTheMachines l) (line_is, (number, entry, comes, damage)) (also_is, (other, came, broken)) = absurd (damage (entry_once at.rest number _ entry other comes came).0)
fails_once at (OutOfOrder k) (BadBase l) (line_is, (number, entry, comes, damage)) y = absurd (comes_no_base at.rest number entry comes y.0)
fails_once at (NotTheMachines k) (NotALine l) (line_is, (entry, comes, damage)) y = absurd (none_comes at.rest (at.end.count + 1) entry y.2 comes)
fails_once at (NotTheMachines k) (OutOfOrder l) (also_is, (other, came, broken)) (line_is, (number, entry, comes, damage)) = absurd (damage (entry_once at.rest number _ entry other comes came).0)
fails_once at (NotTheMachines k) (NotTheMachines l) x y = ap (λ (n : ℕ). NotTheMachines n) (x.0 ∙ sym y.0)
fails_once at (NotTheMachines k) (BadBase l) (line_is, (entry, comes, damage)) y = absurd (comes_no_base at.rest (at.end.count + 1) entry comes y.0)
fails_once at (BadBase k) (NotALine l) x y = absurd (y.1 x.0)
fails_once at (BadBase k) (OutOfOrder l) x (line_is, (number, entry, comes, damage)) = absurd (comes_no_base at.rest number entry comes x.0)
fails_once at (BadBase k) (NotTheMachines l) x (line_is, (entry, comes, damage)) = absurd (comes_no_base at.rest (at.end.count + 1) entry comes x.0)
fails_once at (BadBase k) (BadBase l) (begins, (p, line_is)) (began, (q, also_is)) =
    ap (λ (n : ℕ). BadBase n) (subst (λ (c : List ℕ). IsLineBehind k (at.good ++ c)) (parting_once _ at.rest p q) line_is ∙ sym also_is)
fails_once at d BadHeader x y = absurd y
fails_once at d Read x y = absurd y
fails_once at d Memory x y = absurd y
fails_once at d e x y = absurd x

pub first_once : (bytes : List ℕ) (d e : AuditFault) → FailsFirst bytes d → FailsFirst bytes e → d ≡ e
first_once bytes BadHeader BadHeader x y = refl
first_once bytes BadHeader (BadBase l) x y = absurd (header_no_start bytes l x y)
first_once bytes (BadBase k) BadHeader x y = absurd (header_no_start bytes k y x)
first_once bytes (BadBase k) (BadBase l) x y = ap (λ (n : ℕ). BadBase n) (start_once_bad bytes k l x y)
first_once bytes BadHeader e x y = absurd y
first_once bytes (BadBase k) e x y = absurd y
first_once bytes d e x y = absurd x

-- a transcript begins no text that fails at the start
pub first_good : (bytes : List ℕ) (d : AuditFault) (rules : RuleSet) (log : List LogPart) (end : NumberedMoment) (rest : List ℕ) → FailsFirst bytes d → BeginsWithTranscript bytes rules log end rest → ⊥
first_good bytes BadHeader rules log end rest x f = header_good bytes rules log end rest x f
first_good bytes (BadBase line) rules log end rest x f = start_good bytes line rules log end rest x f
first_good bytes d rules log end rest x f = x

pub damage_once : (bytes : List ℕ) (d e : AuditFault) → IsDamage bytes d → IsDamage bytes e → d ≡ e
damage_once bytes d e x y = by (damage_fails bytes d x) (damage_fails bytes e y)
  where
    by : FailsFirst bytes d ⊎ FailsBehind bytes d → FailsFirst bytes e ⊎ FailsBehind bytes e → d ≡ e
    by (inl a) (inl b) = first_once bytes d e a b
    by (inl a) (inr b) = absurd (first_good bytes d b.at.rules b.at.log b.at.end b.at.rest a b.at.follows)
    by (inr a) (inl b) = absurd (first_good bytes e a.at.rules a.at.log a.at.end a.at.rest b a.at.follows)
    by (inr a) (inr b) = fails_once (split_of bytes b.at) d e (subst (λ (z : Split). Fails z d) (ended_once bytes _ _ (failure_ends bytes d a) (failure_ends bytes e b)) a.fails) b.fails

-- ---- transcripts

pub run_once : (bytes : List ℕ) (r q : RuleSet) (o p : Opening) (log also : List LogPart) (end last : NumberedMoment) → IsTranscript bytes r o log end → IsTranscript bytes q p also last → SameRun r q o p log also end last
run_once bytes r q o p log also end last x y =
    let once = ended_once bytes (whole bytes r o log end) (whole bytes q p also last) (transcript_ends bytes r o log end x) (transcript_ends bytes q p also last y) in
    record {
      rules = ap (λ (z : Split). z.rules) once;
      openings = ap (λ (z : Split). z.opening) once;
      parts = ap (λ (z : Split). z.log) once;
      ends = ap (λ (z : Split). z.end) once;
    }

-- the counts of a log
abbrev pub summary_of : List Entry → Summary
summary_of log = record { entries = length log; epochs = epoch_count log; moves = move_count log }

pub counted_transcript : (bytes : List ℕ) (rules : RuleSet) (opening : Opening) (log : List LogPart) (end : NumberedMoment) → IsTranscript bytes rules opening log end → IsAccepted bytes (summary_of (entries_in log))
counted_transcript bytes rules opening log end is =
    record { rules = rules; opening = opening; log = log; end = end; transcript = is; counts = record { entries = refl; epochs = refl; moves = refl } }

counted_is : (c : Summary) (log : List Entry) → Counts c log → c ≡ summary_of log
counted_is c log is = λ i. record { entries = is.entries i; epochs = is.epochs i; moves = is.moves i }

pub no_damage : (bytes : List ℕ) (rules : RuleSet) (opening : Opening) (log : List LogPart) (end : NumberedMoment) (d : AuditFault) → IsTranscript bytes rules opening log end → IsDamage bytes d → ⊥
no_damage bytes rules opening log end d is x = by (damage_fails bytes d x)
  where
    by : FailsFirst bytes d ⊎ FailsBehind bytes d → ⊥
    by (inl a) = first_good bytes d rules log end [] a (followed bytes (whole bytes rules opening log end) (transcript_ends bytes rules opening log end is))
    by (inr a) =
        let once = ended_once bytes _ (whole bytes rules opening log end) (failure_ends bytes d a) (transcript_ends bytes rules opening log end is) in
        fails_some (split_of bytes a.at) d a.fails (ap (λ (z : Split). z.rest) once)

pub accepted_no_damage : (bytes : List ℕ) (counted : Summary) (d : AuditFault) → IsAccepted bytes counted → IsDamage bytes d → ⊥
accepted_no_damage bytes counted d is x = no_damage bytes is.rules is.opening is.log is.end d is.transcript x

pub count_once : (bytes : List ℕ) (c d : Summary) → IsAccepted bytes c → IsAccepted bytes d → c ≡ d
count_once bytes c d x y =
    let logs = (run_once bytes x.rules y.rules x.opening y.opening x.log y.log x.end y.end x.transcript y.transcript).parts in
    counted_is c (entries_in x.log) x.counts ∙ ap (λ (l : List LogPart). summary_of (entries_in l)) logs ∙ sym (counted_is d (entries_in y.log) y.counts)
