-- The boxes of a session and of an audit, and what a box is taken apart into.
use mir.Syntax.{Sym, Ty, impl, ty_struct, ty_ptr, tcons, tnil, dnil}
use mathlib.Core.List.{[]}
use denote.RattleType.{RattleType}
use Rattle.core.proofs.alloc.Calls.{Al, α}
use Rattle.std_alloc.proofs.BoxSteps.Form.{Bx}
use Rattle.std_heap.specs.contracts.Global as heap
use Rattle.std_heap.specs.contracts.GlobalAllocator.TheImpl.{ghosts, dict}
use Rattle.std_heap.proofs.Global.TheLaws as heap_laws
use Rattle.auditor.specs.contracts.piece_audit.PieceAudit as audit
use Rattle.auditor.proofs.piece_audit.PieceAudit.TheLaws as audit_laws
use Rattle.rudekpi_c.specs.contracts.session.Session as session
use Rattle.rudekpi_c.proofs.session.Session.TheLaws as session_laws
use Rattle.rudekpi_c.specs.contracts.parts.Parts as parts

abbrev global : Al
global = record { row = heap.the_row; laws = heap_laws.the_row_laws; g = ghosts; d = dict; drops = impl [] tnil dnil }

abbrev pub session_box : Bx
session_box = record { row = session.the_row; laws = session_laws.the_row_laws; al = global }

abbrev pub audit_box : Bx
audit_box = record { row = audit.the_row; laws = audit_laws.the_row_laws; al = global }

abbrev pub parts_of : Bx → RattleType
parts_of E = parts.the_row E.row E.al.row E.al.g

-- a struct of an address and the allocator, by its name
abbrev pub pair : Bx → Sym → Ty
pair E name = ty_struct name (tcons ty_ptr (tcons (α E.al) tnil))
