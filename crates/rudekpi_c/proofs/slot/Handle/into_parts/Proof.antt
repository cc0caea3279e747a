-- `into_parts` moves two fields, and what the handle owns, since there is a session, goes with them.
use Rattle.rudekpi_c.proofs.Walks.{◌≡◌, sym, subst, refl, ent, id⊢, fact, sem, tables, tables_of}
use Rattle.std.specs.Prelude.{Option, None, Some}
use Rattle.rudekpi_c.specs.contracts.slot.Handle as handle
use Rattle.rudekpi_c.proofs.AsBox.{session_box, parts_of}
use Rattle.rudekpi_c.proofs.OwnershipMoves.{moves, some_of}
use Rattle.rudekpi_c.specs.contracts.slot.Handle.into_parts.Key.{name as #self}
use Rattle.rudekpi_c.proofs.slot.Handle.into_parts.Statement as stated
use Rattle.rudekpi_c.proofs.slot.Handle.into_parts.Code as code

pub into_parts_spec : {M : Type 1} → stated.statement M
unfolding tables_of
into_parts_spec 𝓤 𝓛 𝓜 𝓡 wired =
    moves session_box handle.the_row (parts_of session_box) 𝓛 (λ h. fact 𝓤 (h.value ≡ None → ⊥)) (λ h p. Some p.value ≡ h.value) (λ h. h.value ≡ None → ⊥) (λ h. id⊢ 𝓤 _)
    (λ h some.
    let found = some_of h.value some in
    let at : Option session_box.row.Denot → handle.the_row.Denot = λ o. record { at = h.at; alloc = h.alloc; value = o } in
    record {
      box = record { ptr = h.at; alloc = h.alloc; value = found.0 };
      made = record { at = h.at; alloc = h.alloc; value = found.0 };
      opens = λ vs. subst (λ o. ent 𝓤 (sem 𝓛 (handle.the_row.own_val h vs)) (sem 𝓛 (handle.the_row.own_val (at o) vs))) found.1 (id⊢ 𝓤 _);
      shuts = λ vs. id⊢ 𝓤 _;
      said = sym found.1;
      last = tt;
    })
    (tables_of 𝓤 𝓛.H 𝓜 (tables 𝓤 𝓛.H 𝓜 𝓡 𝓡.env)) _ _ (λ κs x f. refl) #self (code.unfolded 𝓤 𝓛.H 𝓜 𝓡 wired)
