-- `of_parts` moves two fields, and what the parts own goes with them.
use Rattle.rudekpi_c.proofs.Walks.{◌≡◌, refl, emp, id⊢, fact_i, tables, tables_of}
use Rattle.std.specs.Prelude.{Some}
use Rattle.rudekpi_c.specs.contracts.slot.Handle as handle
use Rattle.rudekpi_c.proofs.AsBox.{session_box, parts_of}
use Rattle.rudekpi_c.proofs.OwnershipMoves.{moves}
use Rattle.rudekpi_c.specs.contracts.slot.Handle.of_parts.Key.{name as #self}
use Rattle.rudekpi_c.proofs.slot.Handle.of_parts.Statement as stated
use Rattle.rudekpi_c.proofs.slot.Handle.of_parts.Code as code

pub of_parts_spec : {M : Type 1} → stated.statement M
unfolding tables_of
of_parts_spec 𝓤 𝓛 𝓜 𝓡 wired =
    moves session_box (parts_of session_box) handle.the_row 𝓛 (λ p. emp 𝓤) (λ p h. h.value ≡ Some p.value) (λ p. Unit {0}) (λ p. fact_i 𝓤 (Unit {0}) (emp 𝓤) tt)
    (λ p _. record {
      box = record { ptr = p.at; alloc = p.alloc; value = p.value };
      made = record { at = p.at; alloc = p.alloc; value = Some p.value };
      opens = λ vs. id⊢ 𝓤 _;
      shuts = λ vs. id⊢ 𝓤 _;
      said = refl;
      last = tt;
    })
    (tables_of 𝓤 𝓛.H 𝓜 (tables 𝓤 𝓛.H 𝓜 𝓡 𝓡.env)) _ _ (λ κs x f. refl) #self (code.unfolded 𝓤 𝓛.H 𝓜 𝓡 wired)
