-- What the getters of matches read, by the rows that were found.
use Rattle.cli_args.proofs.Prelude.{◌≡◌, ℕ, List, Option, None, Some, Result, Ok, Err, get_or, refl, sym, ap, subst, Bor, is_some, ◌∙◌, option_map, arith, ◌^◌, MatchOption, codes, ReadsOne, TriesOne, Row, Text, first_of, first_value, one_text, rows_of, Found, first_value-rows, one_text-rows, RuleSet, rules_word, Task, Run, Resume, Audit, Picture, Epochs, ResumeStorm, Show, GivesNumber, MatchesTask, HoldsNothing, HoldsPicture, HoldsNoTask, HoldsResume, HoldsRun, IsLeftOut, IsNumber, IsResumeStormTask, IsStormTask, MayGive}
use Rattle.cli_args.specs.declared.task.Task.TheVariants as variants

-- there is no run if no rule set was given
pub no_rules : (f : Found) (r : RuleSet) (n : ℕ) (p : Option ℕ) (k : ℕ) → None ≡ first_value f (codes "rules") → HoldsRun (rows_of f) r n p k → ⊥
no_rules f r n p k e h =
    let a = first_value-rows f (codes "rules") in
    let b = h.rules_is in
    cc

-- the word that was given is that of the rule set
pub rules_are : (f : Found) (word : Text) (r : RuleSet) (n : ℕ) (p : Option ℕ) (k : ℕ) → Some word ≡ first_value f (codes "rules") → HoldsRun (rows_of f) r n p k → word ≡ rules_word r
rules_are f word r n p k e h =
    let a = first_value-rows f (codes "rules") in
    let b = h.rules_is in
    cc

-- a number was read if one was given
pub number_read : {E : Type 0} (gives : Text → Result ℕ E → Type 0) (limit : ℕ) (id : Text) (f : Found) (o : Option ℕ) (text : Option Text)
    → one_text f id ≡ text → (text ≡ None → o ≡ None) → ((t : Text) → text ≡ Some t → ReadsOne gives t o)
    → ((t : Text) (v : ℕ) → gives t (Ok v) → IsNumber limit t v) → ((t : Text) (v : ℕ) (e : E) → gives t (Err e) → IsNumber limit t v → ⊥)
    → MatchOption o ((n : ℕ) → GivesNumber limit id (rows_of f) n → ⊥) (λ n. GivesNumber limit id (rows_of f) n)
number_read gives limit id f None text e none value good bad = λ n h.
    let r = value h.text (sym e ∙ one_text-rows f id ∙ h.given) in
    bad h.text n r.0 r.1 h.is
number_read gives limit id f (Some v) None e none value good bad =
    let k = none refl in
    absurd cc
number_read gives limit id f (Some v) (Some t) e none value good bad =
    record { text = t; given = sym (one_text-rows f id) ∙ e; is = good t v (value t refl) }

-- what was read of an argument that may be left out
pub maybe_read : {E : Type 0} (gives : Text → Result ℕ E → Type 0) (limit : ℕ) (id : Text) (f : Found) (text : Option Text) (o : Option ℕ) → one_text f id ≡ text → (text ≡ None → ◌≡◌ {A = Result (Option ℕ) E} (Ok o) (Ok None)) → ((t : Text) → text ≡ Some t → TriesOne gives t (Ok o)) → ((t : Text) (v : ℕ) → gives t (Ok v) → IsNumber limit t v) → MayGive limit id (rows_of f) o
maybe_read gives limit id f None None e none value read = sym (one_text-rows f id) ∙ e
maybe_read gives limit id f None (Some v) e none value read =
    let k = none refl in
    absurd cc
maybe_read gives limit id f (Some t) None e none value read = absurd (value t refl)
maybe_read gives limit id f (Some t) (Some v) e none value read = (t, sym (one_text-rows f id) ∙ e, read t v (value t refl))

-- nothing is given if what was given is no number
pub none_given : {E : Type 0} (gives : Text → Result ℕ E → Type 0) (limit : ℕ) (id : Text) (f : Found) (error : E) (o : Option ℕ) → (one_text f id ≡ None → ◌≡◌ {A = Result (Option ℕ) E} (Err error) (Ok None)) → ((t : Text) → one_text f id ≡ Some t → TriesOne gives t (Err error)) → ((t : Text) (v : ℕ) → gives t (Err error) → IsNumber limit t v → ⊥) → MayGive limit id (rows_of f) o → ⊥
none_given gives limit id f error None none value read h =
    let k = none (one_text-rows f id ∙ h) in
    cc
none_given gives limit id f error (Some v) none value read h = read h.0 v (value h.0 (one_text-rows f id ∙ h.1)) h.2

-- what was read makes a run
pub run_held : (f : Found) (word : Text) (r : RuleSet) (n : ℕ) (p : Option ℕ) (k : ℕ) → Some word ≡ first_value f (codes "rules") → word ≡ rules_word r
    → GivesNumber (2 ^ 16) (codes "nodes") (rows_of f) n → MayGive (2 ^ 16) (codes "present") (rows_of f) p → GivesNumber (2 ^ 16) (codes "workers") (rows_of f) k → HoldsRun (rows_of f) r n p k
run_held f word r n p k e w nodes present workers = record {
  rules_is = sym (first_value-rows f (codes "rules")) ∙ sym e ∙ ap (λ (z : Text). Some z) w;
  nodes_is = nodes;
  present_is = present;
  workers_is = workers;
}

-- what was found for two parts of one thing, put together
pub parts_are : {X A B : Type 0} (f : X → A) (g : X → B) (o : Option X) (a : A) (b : B) → Some a ≡ option_map f o → Some b ≡ option_map (λ (p : A × B). p.1) (option_map {U = A × B} (λ x. (f x, g x)) o) → option_map {U = A × B} (λ x. (f x, g x)) o ≡ Some (a, b)
parts_are f g None a b d e = cc
parts_are f g (Some x) a b d e = cc

some_same : (a b : Text) → Some a ≡ Some b → a ≡ b
some_same a b e = cc

-- one word has one first letter
pub first_same : {a b : Text} → a ≡ b → get_or a 0 0 ≡ get_or b 0 0
first_same e = ap (λ (z : Text). get_or z 0 0) e

-- nothing is asked for without a file if there is no run
pub no_fresh : (rows : List Row) → IsLeftOut (codes "from") rows → ((r : RuleSet) (n : ℕ) (p : Option ℕ) (k : ℕ) → HoldsRun rows r n p k → ⊥) → HoldsNoTask (codes "run") rows
no_fresh rows out none (Run r n p k) h = none r n p k h.2
no_fresh rows out none (Resume from k) h =
    let given = h.1.from_is in
    cc
no_fresh rows out none Audit h = omega (arith, first_same h)
no_fresh rows out none (Picture entry) h = omega (arith, first_same h.0)
no_fresh rows out none Epochs h = omega (arith, first_same h)
no_fresh rows out none (variants.Storm words) h = omega (arith, first_same h.0)
no_fresh rows out none (ResumeStorm words) h = omega (arith, first_same h.0)
no_fresh rows out none (Show text) h = h

-- nor with a file, if its run has no number of workers or another argument beside it
pub no_resumed : (rows : List Row) (file : Text) → first_of (codes "from") rows ≡ Some file → ((k : ℕ) → HoldsResume rows file k → ⊥) → HoldsNoTask (codes "run") rows
no_resumed rows file given none (Run r n p k) h =
    let out = h.1 in
    cc
no_resumed rows file given none (Resume from k) h =
    let same : file ≡ from.now = some_same file from.now (sym given ∙ h.1.from_is) in
    none k (subst (λ (z : Text). HoldsResume rows z k) (sym same) h.1)
no_resumed rows file given none Audit h = omega (arith, first_same h)
no_resumed rows file given none (Picture entry) h = omega (arith, first_same h.0)
no_resumed rows file given none Epochs h = omega (arith, first_same h)
no_resumed rows file given none (variants.Storm words) h = omega (arith, first_same h.0)
no_resumed rows file given none (ResumeStorm words) h = omega (arith, first_same h.0)
no_resumed rows file given none (Show text) h = h

-- whether an argument was given
pub given_is : (f : Found) (id : Text) (o : Option (Bor Text)) → option_map (λ s. s.now) o ≡ first_value f id → is_some o ≡ is_some (first_of id (rows_of f))
given_is f id None e = ap (λ (z : Option Text). is_some z) (e ∙ first_value-rows f id)
given_is f id (Some word) e = ap (λ (z : Option Text). is_some z) (e ∙ first_value-rows f id)

-- nor for a picture, if there is no entry
pub no_picture : (rows : List Row) → ((entry : Option ℕ) → HoldsPicture rows entry → ⊥) → HoldsNoTask (codes "picture") rows
no_picture rows none (Run r n p k) h = omega (arith, first_same h.0)
no_picture rows none (Resume from k) h = omega (arith, first_same h.0)
no_picture rows none Audit h = omega (arith, first_same h)
no_picture rows none (Picture entry) h = none entry h.1
no_picture rows none Epochs h = omega (arith, first_same h)
no_picture rows none (variants.Storm words) h = omega (arith, first_same h.0)
no_picture rows none (ResumeStorm words) h = omega (arith, first_same h.0)
no_picture rows none (Show text) h = h

-- what was found for a subcommand other than `storm` is what was asked
pub asked : (o : Option (Text × List Row)) (name : Text) (rows : List Row) (found : Option Task) → o ≡ Some (name, rows) → (name ≡ codes "storm" → ⊥)
    → MatchOption found (HoldsNoTask name rows) (λ task. MatchesTask (Some (name, rows)) task) → MatchOption found (HoldsNothing o) (λ task. MatchesTask o task)
asked o name rows None e other none = (
  λ task h. none task (subst (λ (z : Option (Text × List Row)). MatchesTask z task) e h),
  λ storm h. other (subst (λ (z : Option (Text × List Row)). IsStormTask z storm) e h).0,
  λ storm h. other (subst (λ (z : Option (Text × List Row)). IsResumeStormTask z storm) e h).0,
)
asked o name rows (Some task) e other held = subst (λ (z : Option (Text × List Row)). MatchesTask z task) (sym e) held
