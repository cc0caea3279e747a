use Rattle.storm_runner.proofs.Prelude.{◌≡◌, ◌∙◌, ◌+◌, ℕ, List, ◌++◌, length, take, Option, Result, Ok, Err, OnErr, sym, subst, arith, length-append, take-append-add, Appends, Appends-trans, AppendsLess, number_text}
use Rattle.storm_runner.proofs.fault_line.write_numbered.Goals as goal

-- a front of a text, and less than what follows it, are less than all of it
front_less : (old mid new : Option (List ℕ)) (front text : List ℕ) → Appends old mid front → AppendsLess mid new text → AppendsLess old new (front ++ text)
front_less old mid new front text wrote (n, few, began) =
    let P : List ℕ → Type 0 = λ l. Appends old new l in
    (length front + n, omega (arith, length-append front text, few), subst P (sym (take-append-add front text n)) (Appends-trans old mid new front (take n text) wrote began))

-- the second of two parts is written as the result reports
second_less : {E : Type 0} (old mid new : Option (List ℕ)) (front text part : List ℕ) (result : Result Unit E) → part ≡ text → Appends old mid front → OnErr result (AppendsLess mid new part) → OnErr result (AppendsLess old new (front ++ text))
second_less old mid new front text part (Ok done) same wrote second = tt
second_less old mid new front text part (Err failed) same wrote second = front_less old mid new front text wrote (subst (λ (p : List ℕ). AppendsLess mid new p) same second)

pub returns-clause-fault : goal.returns-clause-fault
returns-clause-fault g c =
    second_less _ _ _ _ (number_text c.args.number) _ c.write_whole-2.result (c.as_bytes.ensures.value ∙ c.format.ensures.text) c.in_ok-write_whole.ensures.ok c.write_whole-2.ensures.fault
