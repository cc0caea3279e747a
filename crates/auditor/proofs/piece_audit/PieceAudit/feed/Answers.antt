use Rattle.auditor.proofs.Prelude.{◌++◌, ∥∥₁_map}
use Rattle.auditor.proofs.IncrementalAudits.{fed_read, none_by, some_read, taken_read, tried_more}
use Rattle.auditor.proofs.piece_audit.PieceAudit.feed.Goals as goal

pub returns-in-Some-clause-fed : goal.returns-in-Some-clause-fed
returns-in-Some-clause-fed c bytes fed = rw c.in-Some.is (tried_more bytes c.args.piece.now c.args.self.now.trial _ _ c.in-Some.is fed)

pub returns-in-Some-clause-fault : goal.returns-in-Some-clause-fault
returns-in-Some-clause-fault c bytes more fed = tried_more bytes c.args.piece.now c.args.self.now.trial _ _ c.in-Some.is fed more

pub take-requires : goal.take-requires
take-requires c = (c.args.self.now.few, some_read c.args.self.now.trial c.args.self.now.fault (none_by c.args.self.now.fault c.in_default.not-Some) c.args.self.now.some)

pub invariant_of-self : goal.invariant_of-self
invariant_of-self c =
    let none = none_by c.args.self.now.fault c.in_default.not-Some in
    record { few = c.take.ensures.few; some = ∥∥₁_map c.args.self.now.some (λ b. (b.0 ++ c.args.piece.now, rw none (c.in-Ok.ensures.on b.0 (rw none at b.1)))) }

pub invariant_of-self-in-Err : goal.invariant_of-self-in-Err
invariant_of-self-in-Err c =
    let none = none_by c.args.self.now.fault c.in_default.not-Some in
    record { few = c.take.ensures.few; some = ∥∥₁_map c.args.self.now.some (λ b. (b.0 ++ c.args.piece.now, λ more. c.in-Err.ensures.fault b.0 more (rw none at b.1))) }

pub returns-in-Some-clause-never_read : goal.returns-in-Some-clause-never_read
returns-in-Some-clause-never_read c = fed_read c.args.self.now.trial c.args.self.now.fault c.in-Some.fault c.args.self.now.some c.in-Some.is

pub returns-in-Err-clause-never_read : goal.returns-in-Err-clause-never_read
returns-in-Err-clause-never_read c = taken_read c.args.self.now.trial c.args.piece.now c.in-Err.fault (some_read c.args.self.now.trial c.args.self.now.fault (none_by c.args.self.now.fault c.in_default.not-Some) c.args.self.now.some) c.in-Err.ensures.fault
