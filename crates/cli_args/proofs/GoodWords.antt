-- What the command reads in the usual words.
use Rattle.cli_args.proofs.Prelude.{◌≡◌, ℕ, ◌≤◌, ◌<◌, true, false, [], ◌∷◌, ◌++◌, ◌==◌, Option, None, Some, refl, sym, ap, ◌∙◌, arith, rules, ◌^◌, IfSome, codes, pos, unwrap_or, list_any, both_true, decimal, IsNumeral, digits_value, ne_eqb, ints, Bor, decimal_is_IsNumeral, digit_from_value, without_minus, Accepts, same_text, accepts, Text, subcommand_of, takes, Accepts-accepts, list_any-map, RuleSet, Hh, Manne, rules_word, Run, Resume, Audit, Picture, Epochs, Names, AreRules, AreWorkers, IsNumber, MatchesTask, ParsesAsTask, ParsesOnFile, Task, List, ◌≢◌, console_app, run_words, resume_words, audit_file_words, audit_words, picture_words, epochs_file_words, epochs_words}
use Rattle.clap.specs.declared.builder.value_parser.ValueParser.TheVariants as vp
use Rattle.clap.proofs.OnLiterals.{clap_on_literals}

-- digits are a number that the parser takes
accepted : (low high : ℕ) (t : Text) (n : ℕ) → IsNumeral 10 t → digits_value 10 t ≡ n → low ≤ n → n ≤ high → high ≤ 16777216 → Accepts false (vp.Signed (pos low) (pos high)) t
accepted low high [] n h e l k m = absurd (omega (arith, h.0))
accepted low high (d ∷ ds) n h e l k m =
    let minus : (d == 45) ≡ false = ne_eqb _ _ (λ m. omega (arith, digit_from_value d h.1.0)) in
    let plus : (d == 43) ≡ false = ne_eqb _ _ (λ m. omega (arith, digit_from_value d h.1.0)) in
    rw (minus, plus) (h, record { sfits = omega arith }, omega (arith, ints), omega (arith, ints))

-- digits are the number that they represent
numbered : (limit : ℕ) (t : Text) (n : ℕ) → IsNumeral 10 t → digits_value 10 t ≡ n → n < limit → IsNumber limit (without_minus t) n
numbered limit [] n h e k = absurd (omega (arith, h.0))
numbered limit (d ∷ ds) n h e k =
    let minus : (d == 45) ≡ false = ne_eqb _ _ (λ m. omega (arith, digit_from_value d h.1.0)) in
    let plus : (d == 43) ≡ false = ne_eqb _ _ (λ m. omega (arith, digit_from_value d h.1.0)) in
    rw (minus, plus) ((h, omega arith), sym e)

-- a text that an argument with these bounds takes, and that is read as the number
abbrev pub Given : ℕ → ℕ → ℕ → Text → ℕ → Type 0
Given low high limit t n = (accepts false (vp.Signed (pos low) (pos high)) t ≡ true) × IsNumber limit (without_minus t) n

-- a number in decimal is such a text
pub decimal_given : (low high limit n : ℕ) → low ≤ n → n ≤ high → high ≤ 16777216 → high < limit → Given low high limit (decimal n) n
decimal_given low high limit n l k m few =
    let d = decimal_is_IsNumeral n (omega arith) in
    (Accepts-accepts false (vp.Signed (pos low) (pos high)) (decimal n) (accepted low high (decimal n) n d.0 d.1 l k m), numbered limit (decimal n) n d.0 d.1 (omega arith))

count_given : (n : ℕ) → n ≤ 65535 → Given 0 65535 (2 ^ 16) (decimal n) n
count_given n few = decimal_given 0 65535 (2 ^ 16) n (omega arith) few (omega arith) (omega arith)

pub workers_given : (k : ℕ) → (1 ≤ k) × (k ≤ 64) → Given 1 64 (2 ^ 16) (decimal k) k
workers_given k few = decimal_given 1 64 (2 ^ 16) k few.0 few.1 (omega arith) (omega arith)

-- the word for a rule set is one of the names
named : (names : Names) (r : RuleSet) → AreRules names → list_any (λ name. same_text false name.now (rules_word r)) names.now ≡ true
named names Hh a = list_any-map (λ t. same_text false t (codes "hh")) (λ s. s.now) names.now ∙ ap (list_any (λ t. same_text false t (codes "hh"))) a
named names Manne a = list_any-map (λ t. same_text false t (codes "manne")) (λ s. s.now) names.now ∙ ap (list_any (λ t. same_text false t (codes "manne"))) a

-- the words are taken, and are read as the task
abbrev Reads : Names → List Text → Task → Type 0
Reads names words task = (takes (console_app names) words ≡ true) × MatchesTask (subcommand_of (console_app names) words) task

-- the words for a run
run_read : (names : Names) (program t : Text) (r : RuleSet) (n : ℕ) → AreRules names → Given 0 65535 (2 ^ 16) t n
    → Reads names (program ∷ codes "run" ∷ (codes "--rules=" ++ rules_word r) ∷ (codes "--nodes=" ++ t) ∷ []) (Run r n None 1)
unfolding clap_on_literals
run_read names program t r n a g = (
  both_true (both_true (both_true (both_true (both_true (named names r a) refl) refl) (both_true (both_true (both_true g.0 refl) refl) refl)) refl) refl,
  (
    refl,
    refl,
    record {
      rules_is = refl;
      nodes_is = record { text = without_minus t; given = refl; is = g.1 };
      present_is = refl;
      workers_is = record { text = codes "1"; given = refl; is = (search rules, refl) };
    },
  ),
)

-- with a number of workers
workers_read : (names : Names) (program t u : Text) (r : RuleSet) (n k : ℕ) → AreRules names → Given 0 65535 (2 ^ 16) t n → Given 1 64 (2 ^ 16) u k
    → Reads names (program ∷ codes "run" ∷ (codes "--rules=" ++ rules_word r) ∷ (codes "--nodes=" ++ t) ∷ (codes "--workers=" ++ u) ∷ []) (Run r n None k)
unfolding clap_on_literals
workers_read names program t u r n k a g h = (
  both_true (both_true (both_true (both_true (both_true (named names r a) refl) refl) (both_true (both_true (both_true g.0 refl) refl) (both_true (both_true (both_true h.0 refl) refl) refl))) refl) refl,
  (
    refl,
    refl,
    record {
      rules_is = refl;
      nodes_is = record { text = without_minus t; given = refl; is = g.1 };
      present_is = refl;
      workers_is = record { text = without_minus u; given = refl; is = h.1 };
    },
  ),
)

-- with a number of nodes at the start
present_read : (names : Names) (program t u : Text) (r : RuleSet) (n p : ℕ) → AreRules names → Given 0 65535 (2 ^ 16) t n → Given 0 65535 (2 ^ 16) u p
    → Reads names (program ∷ codes "run" ∷ (codes "--rules=" ++ rules_word r) ∷ (codes "--nodes=" ++ t) ∷ (codes "--present=" ++ u) ∷ []) (Run r n (Some p) 1)
unfolding clap_on_literals
present_read names program t u r n p a g h = (
  both_true (both_true (both_true (both_true (both_true (named names r a) refl) refl) (both_true (both_true (both_true g.0 refl) refl) (both_true (both_true (both_true h.0 refl) refl) refl))) refl) refl,
  (
    refl,
    refl,
    record {
      rules_is = refl;
      nodes_is = record { text = without_minus t; given = refl; is = g.1 };
      present_is = (without_minus u, refl, h.1);
      workers_is = record { text = codes "1"; given = refl; is = (search rules, refl) };
    },
  ),
)

-- with both
both_read : (names : Names) (program t u x : Text) (r : RuleSet) (n p k : ℕ) → AreRules names → Given 0 65535 (2 ^ 16) t n → Given 0 65535 (2 ^ 16) u p → Given 1 64 (2 ^ 16) x k
    → Reads names (program ∷ codes "run" ∷ (codes "--rules=" ++ rules_word r) ∷ (codes "--nodes=" ++ t) ∷ (codes "--present=" ++ u) ∷ (codes "--workers=" ++ x) ∷ []) (Run r n (Some p) k)
unfolding clap_on_literals
both_read names program t u x r n p k a g h i = (
  both_true (both_true (both_true (both_true (both_true (named names r a) refl) refl) (both_true (both_true (both_true g.0 refl) refl) (both_true (both_true (both_true h.0 refl) refl) (both_true (both_true (both_true i.0 refl) refl) refl)))) refl) refl,
  (
    refl,
    refl,
    record {
      rules_is = refl;
      nodes_is = record { text = without_minus t; given = refl; is = g.1 };
      present_is = (without_minus u, refl, h.1);
      workers_is = record { text = without_minus x; given = refl; is = i.1 };
    },
  ),
)

pub run_wanted : (program : Text) (r : RuleSet) (n : ℕ) (present workers : Option ℕ) → n ≤ 65535 → IfSome present (λ p. p ≤ 65535) → AreWorkers workers → ParsesAsTask (run_words program r n present workers) (Run r n present (unwrap_or workers 1))
run_wanted program r n None None few here some names a = run_read names program (decimal n) r n a (count_given n few)
run_wanted program r n None (Some k) few here some names a = workers_read names program (decimal n) (decimal k) r n k a (count_given n few) (workers_given k some)
run_wanted program r n (Some p) None few here some names a = present_read names program (decimal n) (decimal p) r n p a (count_given n few) (count_given p here)
run_wanted program r n (Some p) (Some k) few here some names a =
    both_read names program (decimal n) (decimal p) (decimal k) r n p k a (count_given n few) (count_given p here) (workers_given k some)

-- ---- a run that goes on

from_read : (names : Names) (program : Text) (t : Bor Text) → Reads names (program ∷ codes "run" ∷ (codes "--from=" ++ t.now) ∷ []) (Resume t 1)
unfolding clap_on_literals
from_read names program t = (
  refl,
  (
    refl,
    record {
      from_is = refl;
      rules_is = refl;
      nodes_is = refl;
      present_is = refl;
      workers_is = record { text = codes "1"; given = refl; is = (search rules, refl) };
    },
  ),
)

more_read : (names : Names) (program u : Text) (t : Bor Text) (k : ℕ) → Given 1 64 (2 ^ 16) u k
    → Reads names (program ∷ codes "run" ∷ (codes "--from=" ++ t.now) ∷ (codes "--workers=" ++ u) ∷ []) (Resume t k)
unfolding clap_on_literals
more_read names program u t k g = (
  both_true (both_true (both_true refl (both_true (both_true (both_true g.0 refl) refl) refl)) refl) refl,
  (
    refl,
    record {
      from_is = refl;
      rules_is = refl;
      nodes_is = refl;
      present_is = refl;
      workers_is = record { text = without_minus u; given = refl; is = g.1 };
    },
  ),
)

pub resume_wanted : (program : Text) (from : Bor Text) (workers : Option ℕ) → AreWorkers workers → ParsesAsTask (resume_words program from.now workers) (Resume from (unwrap_or workers 1))
resume_wanted program from None some names a = from_read names program from
resume_wanted program from (Some k) some names a = more_read names program (decimal k) from k (workers_given k some)

-- ---- what reads a transcript

pub audit_wanted : (program : Text) → ParsesAsTask (audit_words program) Audit
unfolding clap_on_literals
audit_wanted program names a = (refl, refl)

pub audit_file_wanted : (program : Text) (file : Bor Text) → file.now ≢ codes "-" → ParsesOnFile (audit_file_words program file.now) Audit file
unfolding clap_on_literals
audit_file_wanted program file other = (λ names a. (refl, refl), λ names a. (refl, other))

last_read : (names : Names) (program : Text) → Reads names (picture_words program None) (Picture None)
unfolding clap_on_literals
last_read names program = (refl, (refl, refl))

entry_read : (names : Names) (program t : Text) (n : ℕ) → Given 0 16777216 (2 ^ 32) t n → Reads names (program ∷ codes "picture" ∷ (codes "--entry=" ++ t) ∷ []) (Picture (Some n))
unfolding clap_on_literals
entry_read names program t n g = (both_true (both_true (both_true (both_true (both_true g.0 refl) refl) refl) refl) refl, (refl, (without_minus t, refl, g.1)))

pub picture_wanted : (program : Text) (entry : Option ℕ) → IfSome entry (λ k. k ≤ 16777216) → ParsesAsTask (picture_words program entry) (Picture entry)
picture_wanted program None few names a = last_read names program
picture_wanted program (Some n) few names a = entry_read names program (decimal n) n (decimal_given 0 16777216 (2 ^ 32) n (omega arith) few (omega arith) (omega arith))

pub epochs_wanted : (program : Text) → ParsesAsTask (epochs_words program) Epochs
unfolding clap_on_literals
epochs_wanted program names a = (refl, refl)

pub epochs_file_wanted : (program : Text) (file : Bor Text) → file.now ≢ codes "-" → ParsesOnFile (epochs_file_words program file.now) Epochs file
unfolding clap_on_literals
epochs_file_wanted program file other = (λ names a. (refl, refl), λ names a. (refl, other))
