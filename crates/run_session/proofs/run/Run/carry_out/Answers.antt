use Rattle.run_session.proofs.Prelude.{◌≡◌, [], Bool, sym, subst, MatchOption, kept_if, enabled_names, CommandEnds, SaysSome, progress, Run}
use Rattle.run_session.proofs.Silence.{empty_is_no_drive, followed_silent}
use Rattle.run_session.proofs.run.Run.carry_out.Goals.{then-branch+in_ok-follow, else-branch}
use Rattle.run_session.proofs.run.Run.carry_out.Goals as goal

pub returns-clause-silent : goal.returns-clause-silent
returns-clause-silent g c turns says done few =
    let laws = g.R.Rules.laws in
    let t = g.R.Rules.table in
    let run = c.args.self.now in
    let line = c.args.line.now in
    let command = c.read_command.new.command in
    let before = progress run.rules run.recorder run.text.items in
    let Reads : Bool → Type 0 = λ b. MatchOption (kept_if b command) (line ≡ []) (λ found. SaysSome line found) in
    elim c.if-branch.branch [
      | then-branch+in_ok-follow w ↦
          let after = w.follow.new.self in
          let some : SaysSome line command = subst Reads w.if-branch.true c.in_ok-read_command.ensures.command in
          let does = subst (CommandEnds t run.recorder.limit command before (progress after.rules after.recorder after.text.items)) w.in_ok-follow.was w.follow.ensures.ends in
          let silent = followed_silent t g.R.Rules.NODE_WEIGHT laws.table laws.charged run.recorder.limit line command before (progress after.rules after.recorder after.text.items) does some.1 c.has_state.ensures turns says few in
          subst (λ (r : Run g.row.R.Denot). enabled_names t r.recorder.state ≡ []) (sym w.self-is) silent
      | else-branch w ↦ absurd (empty_is_no_drive line turns (subst Reads w.if-branch.false c.in_ok-read_command.ensures.command) says)
    ]
