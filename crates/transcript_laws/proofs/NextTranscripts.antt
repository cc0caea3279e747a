-- A transcript that begins with the base at the end of another, under a number of its own.
use Rattle.std.proofs.Common.{ℕ, ◌≤◌, List, [], refl, sym, subst, append-nil, arith}
use Rattle.rule_machine.specs.declared.rule_set.RuleSet.{RuleSet}
use Rattle.rule_machine.specs.Base.{LogPart, NumberedMoment, base_of}
use Rattle.line_text.specs.BaseText.{base_text}
use Rattle.entry_grammar.specs.Spelling.{max_entries}
use Rattle.auditor.specs.Parts.{Based, Opening, Opens}
use Rattle.auditor.specs.Transcript.{IsTranscript}
use Rattle.audit_parts.proofs.CutTranscripts.{reopens_end}
use Rattle.transcript_laws.proofs.Growth.{size_same}

-- a run may begin at a base whatever its number
opens_at : (rules : RuleSet) (size number : ℕ) (at : NumberedMoment) → number ≤ max_entries → Opens rules (Based size (base_of at.count at.moment)) at → Opens rules (Based size (base_of number at.moment)) (record { moment = at.moment; count = number })
opens_at rules size number at few opens =
    let fits = opens.fits in
    let shaped = fits.shaped in
    let begins = opens.begins in
    record {
      fits = record {
        few = fits.few;
        shaped = record {
          number = omega (arith, few);
          spent = shaped.spent;
          nodes = shaped.nodes;
          edges = shaped.edges;
          places = shaped.places;
          links = shaped.links;
          nodes_rise = shaped.nodes_rise;
          edges_rise = shaped.edges_rise;
        };
        number = few;
        edges = fits.edges;
      };
      begins = record {
        is_state = begins.is_state;
        size_is = begins.size_is;
        lines = refl;
        unflagged = begins.unflagged;
        within = begins.within;
      };
      count = refl;
    }

pub begins_next : (bytes : List ℕ) (rules : RuleSet) (o : Opening) (log : List LogPart) (end : NumberedMoment) → IsTranscript bytes rules o log end → (number : ℕ) → number ≤ max_entries
    → IsTranscript (base_text rules end.moment.state.network.size (base_of number end.moment)) rules (Based end.moment.state.network.size (base_of number end.moment)) [] (record { moment = end.moment; count = number })
begins_next bytes rules o log end is number few =
    let size = end.moment.state.network.size in
    let own = subst (λ (n : ℕ). Opens rules (Based n (base_of end.count end.moment)) end) (sym (size_same bytes rules o log end is)) (reopens_end bytes rules o log end is) in
    record {
      start = record { moment = end.moment; count = number };
      opens = opens_at rules size number end few own;
      text = sym (append-nil (base_text rules size (base_of number end.moment)));
      parts = tt;
      not_too_many = few;
      passes = refl;
    }
