use Rattle.locked_net.proofs.Prelude.{subst, Option, Base, IsRun, []}
use Rattle.locked_net.proofs.published_journal.board_at.Goals as goal

pub from_base-requires-clause-law : goal.from_base-requires-clause-law
from_base-requires-clause-law g c =
    subst (λ (b : Option Base). IsRun g.R.Rules.table (record { places = c.args.places; present = c.args.present; base = b }) []) c.in-Some.is c.requires.law

pub new-requires-clause-law : goal.new-requires-clause-law
new-requires-clause-law g c =
    subst (λ (b : Option Base). IsRun g.R.Rules.table (record { places = c.args.places; present = c.args.present; base = b }) []) c.in-None.is c.requires.law
