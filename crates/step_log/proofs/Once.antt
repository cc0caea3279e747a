-- From one moment, the same entries lead to one moment by one path.
use Rattle.step_log.proofs.Prelude.{◌≡◌, List, [], ◌∷◌, map, refl, sym, ap₂, ◌∙◌, subst, State, RuleTable, spent_after, Entry, Moment, Run, answers_once, IsPath}

pub run_once : (t : RuleTable) (start : Moment) (log : List Entry) (end last : Moment) → Run t start log end → Run t start log last → end ≡ last
run_once t start [] end last x y = x ∙ sym y
run_once t start (entry ∷ log) end last x y =
    let same : x.0 ≡ y.0 = answers_once t start.state start.spent entry.0 entry.1 x.0 y.0 x.1 y.1 in
    run_once t (record { state = x.0; spent = spent_after start.spent entry.1 }) log end last x.2
    (subst (λ (s : State). Run t (record { state = s; spent = spent_after start.spent entry.1 }) log last) (sym same) y.2)

pub path_once : (t : RuleTable) (start : Moment) (path other : List (Entry × State)) → map (λ step. step.0) path ≡ map (λ step. step.0) other → IsPath t start path → IsPath t start other → path ≡ other
path_once t start [] [] same x y = refl
path_once t start [] (q ∷ other) same x y = absurd cc
path_once t start (p ∷ path) [] same x y = absurd cc
path_once t start ((entry, s) ∷ path) ((twin, u) ∷ other) same x y =
    let rest : map (λ (step : Entry × State). step.0) path ≡ map (λ (step : Entry × State). step.0) other = cc in
    let head : entry ≡ twin = cc in
    let z : IsPath t start ((entry, u) ∷ other) = subst (λ (e : Entry). IsPath t start ((e, u) ∷ other)) (sym head) y in
    let state : s ≡ u = answers_once t start.state start.spent entry.0 entry.1 s u x.0 z.0 in
    let tail = path_once t (record { state = s; spent = spent_after start.spent entry.1 }) path other rest x.1 (subst (λ (v : State). IsPath t (record { state = v; spent = spent_after start.spent entry.1 }) other) (sym state) z.1) in
    ap₂ (λ (q : Entry × State) (l : List (Entry × State)). q ∷ l) (ap₂ (λ (e : Entry) (v : State). (e, v)) head state) tail
