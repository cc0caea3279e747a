-- Scripts that were played in two parts.
use Rattle.storm_runner.proofs.Prelude.{◌≡◌, ℕ, ◌+◌, List, [], ◌∷◌, ◌++◌, length, take, drop, Option, subst, arith, All, take-append-drop, length-append, option_or, All-head, All-tail, IsPrefix, Entry, ClerkView, noted, Setting, CallFault, ScriptLine, AllPlayed, AllStop, PlayedOn}
use Rattle.std.proofs.lemmas.List.{get_or_append_left, get_or-append-add}
use Rattle.locked_net.proofs.Ends.{faults_joined}
use Rattle.storm_runner.specs.Storm.{MayEndScript}
use Rattle.storm_runner.proofs.LogExtension.{stop_lasts}

-- what holds of all in a row holds of all in its parts
pub all_left : {X : Type 0} (P : X → Type 0) (xs ys : List X) → All P (xs ++ ys) → All P xs
all_left P xs ys all k d below = rw (← get_or_append_left xs ys d k below) (all k d (omega (arith, below, length-append xs ys)))

pub all_right : {X : Type 0} (P : X → Type 0) (xs ys : List X) → All P (xs ++ ys) → All P ys
all_right P xs ys all k d below = rw (← get_or-append-add xs ys k d) (all (length xs + k) d (omega (arith, below, length-append xs ys)))

pub halves_played : (setting : Setting) (scripts left right : List (List ScriptLine)) (k : ℕ) (ours theirs : List ClerkView) (fault other first : Option CallFault)
    → left ≡ take k scripts → right ≡ drop k scripts → first ≡ option_or fault other → PlayedOn setting left ours fault → PlayedOn setting right theirs other → PlayedOn setting scripts (ours ++ theirs) first
halves_played setting scripts left right k ours theirs fault other first front back is played rest = record {
  each = λ log begin.
      let Begins = λ (clerk : ClerkView). IsPrefix (noted clerk.note) log in
      let whole : left ++ right ≡ scripts = rw (front, back) (take-append-drop k scripts) in
      subst (λ ss. AllPlayed (record { setting = setting; log = log }) ss (ours ++ theirs) first) whole
      (rw is (faults_joined (MayEndScript (record { setting = setting; log = log })) left right ours theirs fault other (played.each log (all_left Begins ours theirs begin)) (rest.each log (all_right Begins ours theirs begin))));
}

-- scripts that were played, each on the log that its clerk's note shows
pub on_one_log : (setting : Setting) (scripts : List (List ScriptLine)) (clerks : List ClerkView) (fault : Option CallFault) → AllStop setting scripts clerks fault → PlayedOn setting scripts clerks fault
on_one_log setting scripts clerks fault stop = record { each = λ log begin. go scripts clerks fault log stop begin }
  where
    go : (scripts : List (List ScriptLine)) (clerks : List ClerkView) (fault : Option CallFault) (log : List Entry) → AllStop setting scripts clerks fault → All (λ clerk. IsPrefix (noted clerk.note) log) clerks
        → AllPlayed (record { setting = setting; log = log }) scripts clerks fault
    go [] [] fault log none begin = none
    go (script ∷ scripts) (clerk ∷ clerks) fault log (own, others, is, stops, rest) begin =
        let Begins = λ (c : ClerkView). IsPrefix (noted c.note) log in
        (own, others, is, stop_lasts setting (noted clerk.note) log (All-head Begins clerk clerks begin) script clerk own stops, go scripts clerks others log rest (All-tail Begins clerk clerks begin))
    go scripts clerks fault log stop begin = absurd stop
