-- What the command reads in the usual words for a storm that goes on.
use Rattle.cli_args.proofs.Prelude.{◌≡◌, ℕ, ◌≤◌, true, [], ◌∷◌, ◌++◌, List, Option, None, Some, refl, arith, rules, ◌^◌, codes, both_true, decimal, without_minus, Text, subcommand_of, takes, AreRoamers, AreWorkers, IsResumeStormTask, Names, ResumedStorm, WantsResumeStorm, console_app, resume_storm_words, usual_resumed_storm}
use Rattle.cli_args.proofs.GoodWords.{Given, decimal_given, workers_given}
use Rattle.clap.proofs.OnLiterals.{clap_on_literals}

-- the words are taken, and are read as the storm
abbrev Reads : Names → List Text → ResumedStorm → Type 0
Reads names words storm = (takes (console_app names) words ≡ true) × IsResumeStormTask (subcommand_of (console_app names) words) storm

-- with nothing but the file
bare_read : (names : Names) (program t s : Text)
    → Reads names (program ∷ codes "storm" ∷ (codes "--from=" ++ t) ∷ codes "--" ∷ s ∷ []) (record { from = t; workers = 1; roamers = 0; turns = 1000; scripts = s ∷ [] })
unfolding clap_on_literals
bare_read names program t s = (
  refl,
  (
    refl,
    record {
      run_is = record {
        from_is = refl;
        rules_is = refl;
        nodes_is = refl;
        present_is = refl;
        workers_is = record { text = codes "1"; given = refl; is = (search rules, refl) };
      };
      roamers_is = record { text = codes "0"; given = refl; is = (search rules, refl) };
      turns_is = record { text = codes "1000"; given = refl; is = (search rules, refl) };
      scripts_is = refl;
    },
  ),
)

-- with a number of workers
crew_read : (names : Names) (program t s u : Text) (k : ℕ) → Given 1 64 (2 ^ 16) u k
    → Reads names (program ∷ codes "storm" ∷ (codes "--from=" ++ t) ∷ (codes "--workers=" ++ u) ∷ codes "--" ∷ s ∷ []) (record { from = t; workers = k; roamers = 0; turns = 1000; scripts = s ∷ [] })
unfolding clap_on_literals
crew_read names program t s u k g = (
  both_true (both_true (both_true refl (both_true (both_true (both_true g.0 refl) refl) refl)) refl) refl,
  (
    refl,
    record {
      run_is = record {
        from_is = refl;
        rules_is = refl;
        nodes_is = refl;
        present_is = refl;
        workers_is = record { text = without_minus u; given = refl; is = g.1 };
      };
      roamers_is = record { text = codes "0"; given = refl; is = (search rules, refl) };
      turns_is = record { text = codes "1000"; given = refl; is = (search rules, refl) };
      scripts_is = refl;
    },
  ),
)

-- with roaming workers and their turns
roam_read : (names : Names) (program t s w x : Text) (r n : ℕ) → Given 0 64 (2 ^ 16) w r → Given 0 1000000 (2 ^ 32) x n
    → Reads names (program ∷ codes "storm" ∷ (codes "--from=" ++ t) ∷ (codes "--roam=" ++ w) ∷ (codes "--turns=" ++ x) ∷ codes "--" ∷ s ∷ []) (record { from = t; workers = 1; roamers = r; turns = n; scripts = s ∷ [] })
unfolding clap_on_literals
roam_read names program t s w x r n h i = (
  both_true (both_true (both_true refl (both_true (both_true (both_true h.0 refl) refl) (both_true (both_true (both_true i.0 refl) refl) refl))) refl) refl,
  (
    refl,
    record {
      run_is = record {
        from_is = refl;
        rules_is = refl;
        nodes_is = refl;
        present_is = refl;
        workers_is = record { text = codes "1"; given = refl; is = (search rules, refl) };
      };
      roamers_is = record { text = without_minus w; given = refl; is = h.1 };
      turns_is = record { text = without_minus x; given = refl; is = i.1 };
      scripts_is = refl;
    },
  ),
)

-- with both
full_read : (names : Names) (program t s u w x : Text) (k r n : ℕ) → Given 1 64 (2 ^ 16) u k → Given 0 64 (2 ^ 16) w r → Given 0 1000000 (2 ^ 32) x n
    → Reads names (program ∷ codes "storm" ∷ (codes "--from=" ++ t) ∷ (codes "--workers=" ++ u) ∷ (codes "--roam=" ++ w) ∷ (codes "--turns=" ++ x) ∷ codes "--" ∷ s ∷ []) (record { from = t; workers = k; roamers = r; turns = n; scripts = s ∷ [] })
unfolding clap_on_literals
full_read names program t s u w x k r n g h i = (
  both_true (both_true (both_true refl (both_true (both_true (both_true g.0 refl) refl) (both_true (both_true (both_true h.0 refl) refl) (both_true (both_true (both_true i.0 refl) refl) refl)))) refl) refl,
  (
    refl,
    record {
      run_is = record {
        from_is = refl;
        rules_is = refl;
        nodes_is = refl;
        present_is = refl;
        workers_is = record { text = without_minus u; given = refl; is = g.1 };
      };
      roamers_is = record { text = without_minus w; given = refl; is = h.1 };
      turns_is = record { text = without_minus x; given = refl; is = i.1 };
      scripts_is = refl;
    },
  ),
)

roamers_given : (r : ℕ) → r ≤ 64 → Given 0 64 (2 ^ 16) (decimal r) r
roamers_given r few = decimal_given 0 64 (2 ^ 16) r (omega arith) few (omega arith) (omega arith)

turns_given : (n : ℕ) → n ≤ 1000000 → Given 0 1000000 (2 ^ 32) (decimal n) n
turns_given n few = decimal_given 0 1000000 (2 ^ 32) n (omega arith) few (omega arith) (omega arith)

pub resume_storm_wanted : (program from : Text) (workers : Option ℕ) (roam : Option (ℕ × ℕ)) (script : Text) → AreWorkers workers → AreRoamers roam
    → WantsResumeStorm (resume_storm_words program from workers roam script) (usual_resumed_storm from workers roam script)
resume_storm_wanted program from None None script few calm names a = bare_read names program from script
resume_storm_wanted program from (Some k) None script few calm names a = crew_read names program from script (decimal k) k (workers_given k few)
resume_storm_wanted program from None (Some p) script few calm names a =
    roam_read names program from script (decimal p.0) (decimal p.1) p.0 p.1 (roamers_given p.0 calm.0) (turns_given p.1 calm.1)
resume_storm_wanted program from (Some k) (Some p) script few calm names a =
    full_read names program from script (decimal k) (decimal p.0) (decimal p.1) k p.0 p.1 (workers_given k few) (roamers_given p.0 calm.0) (turns_given p.1 calm.1)
