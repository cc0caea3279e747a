-- A text without a damage cannot fail to be a transcript.
use Rattle.auditor.proofs.Prelude.{◌≡◌, ℕ, zero, suc, ◌+◌, ◌≤◌, List, [], ◌∷◌, ◌++◌, inr, Option, None, Some, length, refl, ap, subst, ◌∙◌, arith, nil_from_length, RuleSet, State, EntryPart, BasePart, NumberedMoment, base_of, entries_in, Entry, Answers, spent_after, table_of, base_head, base_text, first_line, SpellsEntry, Header, SpellsHeader, AuditFault, BadHeader, NotALine, OutOfOrder, NotTheMachines, BadBase, Summary, Based, size_of, TranscriptPrefix, BeginsBase, HasBadHeader, HasNoEntry, IsDamage, CommonPrefix, line_feeds, IsAccepted, ◌≢◌}
use Rattle.auditor.proofs.Steps.{follows_more}
use Rattle.auditor.proofs.Chains.{Stops, comes_shorter}
use Rattle.auditor.proofs.Bases.{base_or_breaks}
use Rattle.auditor.proofs.AuditPositions.{all_good, opened_follows, base_splits, spelled_comes}
use Rattle.auditor.proofs.ReadOpenings.{broken, header_opened, nowhere}
use Rattle.auditor.proofs.TextEnds.{counted_transcript, summary_of}

-- bytes begin with a text, or they part from it
begins_or_parts : (text bytes : List ℕ) → ((behind : List ℕ) → bytes ≡ text ++ behind → ⊥) → (CommonPrefix text bytes → ⊥) → ⊥
begins_or_parts [] bytes begins parts = begins bytes refl
begins_or_parts (b ∷ text) bytes begins parts =
    parts (record {
      common = [];
      missing = b ∷ text;
      more = bytes;
      wanted = refl;
      had = refl;
      some = λ e. absurd cc;
      apart = λ d x y e f. begins_or_parts text y (λ behind is. begins behind (cc)) (λ p.
          parts (record { common = b ∷ p.common; missing = p.missing; more = p.more; wanted = ap (λ (l : List ℕ). b ∷ l) p.wanted; had = cc; some = p.some; apart = p.apart }));
    })

-- ---- neither a transcript nor damaged

record Neither (bytes : List ℕ) : Type 0 where
  undamaged : (d : AuditFault) → IsDamage bytes d → ⊥
  refused : (c : Summary) → IsAccepted bytes c → ⊥

-- something is left, since what there is would be a transcript
left : (bytes : List ℕ) (at : TranscriptPrefix bytes) → Neither bytes → at.rest ≢ []
left bytes at neither none =
    neither.refused (summary_of (entries_in at.log)) (counted_transcript bytes at.rules at.follows.opening at.log at.end (all_good bytes at.rules at.log at.end at.rest at.follows none))

-- a part comes that the machine may have given
next_part : (bytes : List ℕ) (at : TranscriptPrefix bytes) → Neither bytes → Stops at.rules (size_of at.follows.opening) at.end at.rest → ⊥
next_part bytes at neither stops = neither.undamaged (NotALine (line_feeds at.follows.good + 1)) (record { at = at; line_is = refl; other = no_base; damage = no_entry (first_line at.rest) refl })
  where
    no_base : BeginsBase at.rest → ⊥
    no_base begins =
        begins_or_parts (base_text at.rules (size_of at.follows.opening) (base_of at.end.count at.end.moment)) at.rest
        (λ behind is. stops (BasePart (base_of at.end.count at.end.moment)) at.end behind (record { fits = tt; within = at.follows.transcript.not_too_many; steps = (refl, refl); is = is }))
        (λ p. neither.undamaged (BadBase (line_feeds (at.follows.good ++ p.common) + 1)) (inr (record { at = at; begins = begins; parting = p; line_is = refl })))

    no_reply : (text more : List ℕ) (entry : Entry) → first_line at.rest ≡ Some (text, more) → SpellsEntry text (at.end.count + 1) entry → (s : State) → Answers (table_of at.rules) at.end.moment.state at.end.moment.spent entry.0 entry.1 s → ⊥
    no_reply text more entry cut spells s answers =
        let next : NumberedMoment = record { moment = record { state = s; spent = spent_after at.end.moment.spent entry.1 }; count = at.end.count + 1 } in
        stops (EntryPart entry) next more (spelled_comes at.rules (size_of at.follows.opening) at.end next text at.rest more entry cut spells (s, answers, refl))

    no_number : (text more : List ℕ) (number : ℕ) (entry : Entry) → first_line at.rest ≡ Some (text, more) → SpellsEntry text number entry → number ≢ at.end.count + 1
    no_number text more number entry cut spells same =
        let next = subst (λ (n : ℕ). SpellsEntry text n entry) same spells in
        neither.undamaged (NotTheMachines (line_feeds at.follows.good + 1)) (record { at = at; line_is = refl; entry = entry; comes = record { line = text; more = more; is = cut; spells = next }; damage = no_reply text more entry cut next })

    no_entry : (found : Option (List ℕ × List ℕ)) → first_line at.rest ≡ found → HasNoEntry at.rest found
    no_entry None cut = left bytes at neither
    no_entry (Some (text, more)) cut = λ number entry spells.
        neither.undamaged (OutOfOrder (line_feeds at.follows.good + 1)) (record { at = at; line_is = refl; number = number; entry = entry; comes = record { line = text; more = more; is = cut; spells = spells }; damage = no_number text more number entry cut spells })

-- There is always a further part: the text would have no end.
walk : (fuel : ℕ) (bytes : List ℕ) (at : TranscriptPrefix bytes) → length at.rest ≤ fuel → Neither bytes → ⊥
walk zero bytes at few neither = left bytes at neither (nil_from_length at.rest (omega (arith, few)))
walk (suc fuel) bytes at few neither =
    next_part bytes at neither (λ part next behind comes.
    let less = comes_shorter at.rules (size_of at.follows.opening) at.end at.rest part next behind comes in
    let follows = follows_more bytes at.rest behind at.rules at.log at.end next part at.follows comes in
    walk fuel bytes (record { rules = at.rules; log = at.log ++ part ∷ []; end = next; rest = behind; follows = follows }) (omega (arith, less, few)) neither)

-- ---- how it begins

-- a header does not begin it
no_header : (bytes line rest : List ℕ) (header : Header) → Neither bytes → first_line bytes ≡ Some (line, rest) → SpellsHeader line header → ⊥
no_header bytes line rest header neither cut spells =
    let o = header_opened bytes line rest header _ _ cut spells refl refl in
    walk (length rest) bytes (record { rules = header.rules; log = []; end = o.start; rest = rest; follows = o.follows }) (omega arith) neither

-- nor does a base
no_head : (bytes line rest : List ℕ) (rules : RuleSet) (size : ℕ) → Neither bytes → first_line bytes ≡ Some (line, rest) → size ≤ 65535 → line ≡ base_head rules size → ⊥
no_head bytes line rest rules size neither cut few head =
    let first : first_line bytes ≡ Some (base_head rules size, rest) = cut ∙ ap (λ (l : List ℕ). Some (l, rest)) head in
    base_or_breaks rest
    (λ base more shaped is.
    neither.undamaged (BadBase 2) (nowhere bytes rest more rules size base few first shaped is (λ start opens.
    let follows = opened_follows bytes more rules (Based size base) start opens (omega (arith, opens.count, opens.fits.number)) (base_splits bytes rest more rules size base first is) in
    walk (length more) bytes (record { rules = rules; log = []; end = start; rest = more; follows = follows }) (omega arith) neither) None).is)
    (λ k breaks. neither.undamaged (BadBase (k + 1)) (broken bytes rest rules size k few first breaks None).is)

pub undamaged_accepted : (bytes : List ℕ) → ((d : AuditFault) → IsDamage bytes d → ⊥) → ((c : Summary) → IsAccepted bytes c → ⊥) → ⊥
undamaged_accepted bytes undamaged refused = undamaged BadHeader (bad (first_line bytes) refl)
  where
    neither : Neither bytes
    neither = record { undamaged = undamaged; refused = refused }

    bad : (found : Option (List ℕ × List ℕ)) → first_line bytes ≡ found → HasBadHeader found
    bad None cut = tt
    bad (Some (line, rest)) cut = (λ header spells. no_header bytes line rest header neither cut spells, λ rules size few head. no_head bytes line rest rules size neither cut few head)
