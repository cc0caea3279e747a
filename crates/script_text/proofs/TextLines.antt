-- The lines of a text, one after another, and the scripts of as many readers.
use Rattle.script_text.proofs.Prelude.{◌≤◌, length, map, drop, Option, Result, Ok, Err, IfOk, arith, drop_all, AllHold, ◌≡◌, ◌∙◌, ℕ, ◌+◌, inr, List, [], ◌∷◌, ◌++◌, refl, sym, ap, subst, append_assoc, append-nil, ScriptLine, LineHolds, LinesHold, IsGoodLine, FirstBad}

-- a line that was added is good
good : (number : ℕ) (line : List ℕ) (own : List ScriptLine) → LineHolds number line own → IsGoodLine line
good number [] own holds = tt
good number (b ∷ line) own holds = (holds.0, holds.1)

-- once a line is added, the script needs only what the later lines hold
pub held : (all lines rest : List (List ℕ)) (line : List ℕ) (number : ℕ) (old own new : List ScriptLine) → rest ≡ line ∷ lines → new ≡ old ++ own → LineHolds number line own
    → ((more : List ScriptLine) → LinesHold number rest more → LinesHold 1 all (old ++ more))
    → (more : List ScriptLine) → LinesHold (number + 1) lines more → LinesHold 1 all (new ++ more)
held all lines rest line number old own new cut added holds so_far more behind =
    let here : LinesHold number rest (own ++ more) = subst (λ (l : List (List ℕ)). LinesHold number l (own ++ more)) (sym cut) (own, more, refl, holds, behind) in
    let same : old ++ (own ++ more) ≡ new ++ more = sym (append_assoc old own more) ∙ ap (λ (l : List ScriptLine). l ++ more) (sym added) in
    subst (λ (l : List ScriptLine). LinesHold 1 all l) same (so_far (own ++ more) here)

-- and the first bad line is the first of the later ones
pub passed : (all lines rest : List (List ℕ)) (line : List ℕ) (number : ℕ) (own : List ScriptLine) → rest ≡ line ∷ lines → LineHolds number line own
    → ((bad : ℕ) → FirstBad number rest bad → FirstBad 1 all bad)
    → (bad : ℕ) → FirstBad (number + 1) lines bad → FirstBad 1 all bad
passed all lines rest line number own cut holds so_far bad behind =
    so_far bad (subst (λ (l : List (List ℕ)). FirstBad number l bad) (sym cut) (inr (good number line own holds, behind)))

-- after the last line nothing is held
pub held_all : (all rest : List (List ℕ)) (number : ℕ) (script : List ScriptLine) → rest ≡ []
    → ((more : List ScriptLine) → LinesHold number rest more → LinesHold 1 all (script ++ more))
    → LinesHold 1 all script
held_all all rest number script over so_far =
    let none : LinesHold number rest [] = subst (λ (l : List (List ℕ)). LinesHold number l []) (sym over) refl in
    subst (λ (l : List ScriptLine). LinesHold 1 all l) (append-nil script) (so_far [] none)

-- ---- as many scripts as readers

-- after the last reader there is none
pub none_left : {In : Type 0} (known : In → Option (List ℕ)) (readers : List In) (n k : ℕ) → n ≡ k → k ≡ length readers → map known (drop n readers) ≡ []
none_left known readers n k same over = ap (λ l. map known l) (drop_all n readers (omega (arith, same, over)))

-- and what was read so far is all
pub all_held : (all rest : List (Option (List ℕ))) (scripts : List (List ScriptLine)) → rest ≡ []
    → ((more : List (List ScriptLine)) → AllHold rest more → AllHold all (scripts ++ more))
    → AllHold all scripts
all_held all rest scripts over so_far =
    let none : AllHold rest [] = subst (λ (l : List (Option (List ℕ))). AllHold l []) (sym over) tt in
    subst (λ (l : List (List ScriptLine)). AllHold all l) (append-nil scripts) (so_far [] none)

counted : (texts : List (Option (List ℕ))) (scripts : List (List ScriptLine)) → AllHold texts scripts → length scripts ≡ length texts
counted [] [] h = refl
counted [] (s ∷ scripts) h = absurd h
counted (t ∷ texts) [] h = absurd h
counted (t ∷ texts) (s ∷ scripts) h = omega (arith, counted texts scripts h.1)

-- what was read are no more scripts than readers
pub few : {V E : Type 0} (items : V → List (List ScriptLine)) (texts : List (Option (List ℕ))) (most : ℕ) (result : Result V E) → length texts ≤ most
    → IfOk result (λ v. AllHold texts (items v)) → IfOk result (λ v. length (items v) ≤ most)
few items texts most (Ok v) small holds = omega (arith, small, counted texts (items v) holds)
few items texts most (Err fault) small holds = tt
