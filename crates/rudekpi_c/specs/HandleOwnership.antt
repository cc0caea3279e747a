-- What a handle owns.
use base.Fml.{Fml, ftrue}
use base.Stored.{Coded}
use denote.RattleType.{RattleType}
use denote.RawPtr.{Ptr}
use Rattle.std.specs.Prelude.{Option, Some, None}
use Rattle.std.specs.Box.Ownership.{box_owns}
use Rattle.std.specs.Global.{Global}
use Rattle.std.specs.contracts.impls.GlobalAllocator.TheImpl.{ghosts}
use Rattle.std.specs.contracts.option.Option as option
use Rattle.auditor.specs.contracts.piece_audit.PieceAudit as audit
use Rattle.rudekpi_c.specs.contracts.session.Session as session

-- the value at the address and the right to free its block, or nothing
abbrev pub held_at : (row : RattleType) → Global → Ptr → Option row.Denot → Fml
held_at row alloc at None = ftrue
held_at row alloc at (Some value) = box_owns (ghosts.dealloc_token alloc) row at value

-- what the handle of a session owns
abbrev pub held : Global → Ptr → Option session.the_row.Denot → Fml
held = held_at session.the_row

-- how the logic records whether there is a session
abbrev pub held_coded : Coded (Option session.the_row.Denot)
held_coded = (option.the_row session.the_row).coded

-- what the handle of an audit owns
abbrev pub held_audit : Global → Ptr → Option audit.the_row.Denot → Fml
held_audit = held_at audit.the_row

abbrev pub held_audit_coded : Coded (Option audit.the_row.Denot)
held_audit_coded = (option.the_row audit.the_row).coded
