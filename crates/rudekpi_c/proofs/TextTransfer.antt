-- What C is handed of a session's text.
use Rattle.std.proofs.Common.{◌≡◌, ◌∙◌, ◌++◌, ◌<◌, ◌≤◌, ℕ, List, Option, Some, false, length, drop, refl, sym, ap, subst, arith}
use Rattle.rudekpi_c.specs.declared.session.Machine.{Machine}
use Rattle.rudekpi_c.specs.declared.session.Session.{Session}
use Rattle.rudekpi_c.specs.Session.{stands, stands_at, with_text_if, HasSameRules}
use Rattle.rudekpi_c.specs.Slot.{Handed}

-- there is too little room
pub handed_none : (out : List ℕ) {old new : Option Session} {s : Session} {text : List ℕ} → old ≡ Some s → new ≡ Some s → text ≡ (stands s).text → length out < length text → Handed out out (length text) old new
handed_none out {new = new} {s = s} {text = text} was is same less =
    subst (λ (o : Option Session). Handed out out (length text) o new) (sym was)
    (ap length same, record { t = s; is = is; goes_on = record { rules = refl; limit = refl; keeps = refl }; lines_is = refl; answer_is = refl; all = λ fits. absurd (omega (arith, fits, less)); none = λ _. (refl, refl) })

-- there is enough, and what follows it is unchanged
pub handed_all : (out : List ℕ) {old new : Option Session} {s : Session} {m : Machine} {text copied : List ℕ} → old ≡ Some s → new ≡ Some (record s { machine = m }) → HasSameRules s.machine m → stands_at m ≡ with_text_if false (stands s)
    → text ≡ (stands s).text → copied ≡ text → length text ≤ length out → Handed out (copied ++ drop (length text) out) (length text) old new
handed_all out {new = new} {s = s} {m = m} {text = text} {copied = copied} was is rules emptied same copy fits =
    let written : copied ++ drop (length text) out ≡ (stands s).text ++ drop (length text) out = ap (λ (xs : List ℕ). xs ++ drop (length text) out) (copy ∙ same) in
    subst (λ (o : Option Session). Handed out (copied ++ drop (length text) out) (length text) o new) (sym was) (
      ap length same,
      record {
        t = record s { machine = m };
        is = is;
        goes_on = record { rules = rules.0; limit = rules.1; keeps = refl };
        lines_is = refl;
        answer_is = refl;
        all = λ _. (written, emptied);
        none = λ less. absurd (omega (arith, less, fits));
      },
    )
