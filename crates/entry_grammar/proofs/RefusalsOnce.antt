-- Refusals by their numbers.
use Rattle.entry_grammar.proofs.Prelude.{◌≡◌, ℕ, ◌≤◌, List, ◌∷◌, ◌++◌, if◌then◌else◌, refl, sym, ap, ◌∙◌, append_assoc, arith, nat_eq, decimal_injective, Refusal, UnknownNode, SelfLoop, AlreadyLinked, NotLinked, TooManyEdges, NotNeighbour, NoFlag, EmptyChoice, NotCentral, ChosenTwice, NotEnabled, BadTarget, AlreadyPresent, refusal_number, refusal_text, number_text, refusal_words, CutAt, []}
use Rattle.entry_grammar.proofs.Free.{cut_once, free_number}

-- the refusal with this number
abbrev refusal_at : ℕ → Refusal
refusal_at n =
    if nat_eq n 1 then UnknownNode else (if nat_eq n 2 then SelfLoop else (if nat_eq n 3 then AlreadyLinked else (if nat_eq n 4 then NotLinked else (if nat_eq n 5 then TooManyEdges else (if nat_eq n 6 then NotNeighbour else (if nat_eq n 7 then NoFlag else (if nat_eq n 8 then EmptyChoice else (if nat_eq n 9 then NotCentral else (if nat_eq n 10 then ChosenTwice else (if nat_eq n 11 then NotEnabled else (if nat_eq n 12 then BadTarget else (AlreadyPresent))))))))))))

at_number : (r : Refusal) → refusal_at (refusal_number r) ≡ r
at_number UnknownNode = refl
at_number r = refl

-- a refusal has a number of its own
pub refusal_once : (r q : Refusal) → refusal_number r ≡ refusal_number q → r ≡ q
refusal_once r q e = sym (at_number r) ∙ ap refusal_at e ∙ at_number q

-- a refusal's number fits
pub refusal_small : (r : Refusal) → refusal_number r ≤ 4294967295
refusal_small UnknownNode = omega arith
refusal_small r = omega arith

-- a refusal's words are cut after its number
pub refusal_cut : {bytes : List ℕ} (r : Refusal) → bytes ≡ refusal_words r → CutAt 32 bytes (number_text (refusal_number r)) (refusal_text r)
refusal_cut r e =
    record { free = free_number 32 (refusal_number r) (λ h. omega (arith, h.0)) (omega (arith, refusal_small r)); is = e ∙ append_assoc (number_text (refusal_number r)) (32 ∷ []) (refusal_text r) }

-- a refusal's number is the number that its text says
pub number_same : (bytes : List ℕ) (r : Refusal) (n : ℕ) → n ≤ 4294967295 → bytes ≡ number_text (refusal_number r) → bytes ≡ number_text n → refusal_number r ≡ n
number_same bytes r n h e f =
    let small = refusal_small r in
    decimal_injective (refusal_number r) n (omega (arith, small)) (omega (arith, h)) (sym e ∙ f)

-- a refusal has words of its own
pub refusal_words_once : (r q : Refusal) → refusal_words r ≡ refusal_words q → r ≡ q
refusal_words_once r q e =
    let p = cut_once (refusal_cut r refl) (refusal_cut q e) in
    refusal_once r q (number_same (number_text (refusal_number r)) r (refusal_number q) (refusal_small q) refl p.0)

-- a number and a text that are a refusal's
pub refusal_read : (bytes number text : List ℕ) (n : ℕ) (r : Refusal) → CutAt 32 bytes number text → number ≡ number_text n → refusal_number r ≡ n → text ≡ refusal_text r → bytes ≡ refusal_words r
refusal_read bytes number text n r a e k t =
    a.is ∙ ap (λ (z : List ℕ). z ++ 32 ∷ text) (e ∙ ap number_text (sym k)) ∙ ap (λ (z : List ℕ). number_text (refusal_number r) ++ 32 ∷ z) t
    ∙ sym (append_assoc (number_text (refusal_number r)) (32 ∷ []) (refusal_text r))
