-- `empty` makes a handle of null, which owns its allocator alone.
use Rattle.rudekpi_c.proofs.Walks.{◌≡◌, refl, id⊢, tables, tables_of, null_ptr}
use Rattle.std.specs.Prelude.{None}
use Rattle.rudekpi_c.specs.contracts.slot.Handle as handle
use Rattle.rudekpi_c.proofs.NullHandles.{nulls}
use Rattle.rudekpi_c.specs.contracts.slot.Handle.empty.Key.{name as #self}
use Rattle.rudekpi_c.proofs.slot.Handle.empty.Statement as stated
use Rattle.rudekpi_c.proofs.slot.Handle.empty.Code as code

pub empty_spec : {M : Type 1} → stated.statement M
unfolding tables_of
empty_spec 𝓤 𝓛 𝓜 𝓡 wired =
    nulls handle.the_row 𝓛 (λ a. record { at = null_ptr; alloc = a; value = None }) (λ h. h.value ≡ None) (λ a vs. id⊢ 𝓤 _) (λ a. refl)
    (tables_of 𝓤 𝓛.H 𝓜 (tables 𝓤 𝓛.H 𝓜 𝓡 𝓡.env)) _ #self (code.unfolded 𝓤 𝓛.H 𝓜 𝓡 wired)
