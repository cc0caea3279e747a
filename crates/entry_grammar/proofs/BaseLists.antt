-- Nodes and edges of a base, read one after another.
use Rattle.entry_grammar.proofs.Prelude.{◌≡◌, ℕ, Bool, true, if◌then◌else◌, ◌+◌, ◌<◌, List, ◌∷◌, ◌++◌, length, length-append, refl, sym, ap, subst, ◌∙◌, append_assoc, arith, NodeRecord, lines_with_ends, node_record_text, link_text, IsOrderedPair, Starts, AscendByKey, IsEdgeAbove, IsNodeAbove, IsPlace, node_key, LinesBreak, LinesRead, last_key, []}
use Rattle.std.proofs.lemmas.List.{flat_map_more}
use Rattle.entry_grammar.proofs.Free.{all_both}

-- the text of one item more
ended_push : {X : Type 0} (text : X → List ℕ) (xs : List X) (x : X) (rest more : List ℕ) → rest ≡ text x ++ 10 ∷ more → lines_with_ends text xs ++ rest ≡ lines_with_ends text (xs ++ x ∷ []) ++ more
ended_push text xs x rest more e = rw (← flat_map_more (λ item. text item ++ 10 ∷ []) [] xs x, e) (simp append_assoc)

last_push : {K X : Type 0} (key : X → K) (last : K) (items : List X) (x : X) → last_key key last (items ++ x ∷ []) ≡ key x
last_push key last [] x = refl
last_push key last (y ∷ items) x = last_push key (key y) items x

ascend_push : {K X : Type 0} (above : K → X → Type 0) (key : X → K) (last : K) (items : List X) (x : X) → AscendByKey above key last items → above (last_key key last items) x → AscendByKey above key last (items ++ x ∷ [])
ascend_push above key last [] x r h = (h, tt)
ascend_push above key last (y ∷ items) x r h = (r.0, ascend_push above key (key y) items x r.1 h)

-- this many items were read, the last of them with that key
pub record LinesSoFar {K X : Type 0} (fits : X → Type 0) (text : X → List ℕ) (above : K → X → Type 0) (key : X → K) (least : K) (bytes : List ℕ) (items : List X) (rest : List ℕ) (count : ℕ) (last : K) : Type 0 where
  pub read : LinesRead fits text above key least bytes items rest
  pub count_is : length items ≡ count
  pub last_is : last ≡ last_key key least items

pub no_lines : {K X : Type 0} {fits : X → Type 0} {text : X → List ℕ} {above : K → X → Type 0} {key : X → K} {least : K} (bytes : List ℕ) → LinesSoFar fits text above key least bytes [] bytes 0 least
no_lines bytes = record { read = record { is = refl; fit = tt; rise = tt }; count_is = refl; last_is = refl }

pub one_more : {K X : Type 0} {fits : X → Type 0} {text : X → List ℕ} {above : K → X → Type 0} {key : X → K} {least : K} {bytes : List ℕ} {items : List X} {rest : List ℕ} {count : ℕ} {last : K} → LinesSoFar fits text above key least bytes items rest count last
    → (x : X) (more : List ℕ) → above last x → Starts fits text rest x more → LinesSoFar fits text above key least bytes (items ++ x ∷ []) more (count + 1) (key x)
one_more {K} {X} {fits} {text} {above} {key} {least} {bytes} {items} {rest} h x more after found = record {
  read = record {
    is = h.read.is ∙ ended_push text items x rest more found.is;
    fit = all_both fits items (x ∷ []) h.read.fit (found.fits, tt);
    rise = ascend_push above key least items x h.read.rise (subst (λ k. above k x) h.last_is after);
  };
  count_is = length-append items (x ∷ []) ∙ ap (λ (n : ℕ). n + 1) h.count_is;
  last_is = sym (last_push key least items x);
}

-- none comes that is above the last
pub lines_break : {K X : Type 0} {fits : X → Type 0} {text : X → List ℕ} {above : K → X → Type 0} {key : X → K} {least : K} {bytes : List ℕ} {items : List X} {rest : List ℕ} {count : ℕ} {last : K} → LinesSoFar fits text above key least bytes items rest count last
    → (size first k : ℕ) → count < size → k ≡ first + count → ((x : X) (more : List ℕ) → above last x → Starts fits text rest x more → ⊥) → LinesBreak fits text above key least bytes size first k
lines_break {K} {X} {fits} {text} {above} {key} {least} {bytes} {items} {rest} h size first k few e none = record {
  items = items;
  rest = rest;
  read = h.read;
  few = omega (arith, few, h.count_is);
  number = e ∙ ap (λ (n : ℕ). first + n) (sym h.count_is);
  stops = λ x more after. none x more (subst (λ z. above z x) (sym h.last_is) after);
}

abbrev pub NodesSoFar : List ℕ → List NodeRecord → List ℕ → ℕ → ℕ → Type 0
NodesSoFar bytes places rest count last = LinesSoFar IsPlace node_record_text IsNodeAbove node_key 0 bytes places rest count last

abbrev pub EdgesSoFar : List ℕ → List (ℕ × ℕ) → List ℕ → ℕ → ℕ × ℕ → Type 0
EdgesSoFar bytes edges rest count last = LinesSoFar IsOrderedPair link_text IsEdgeAbove (λ edge. edge) (0, 0) bytes edges rest count last

-- what a push that did not fail made
pub was_pushed : {X : Type 0} (items old : List X) (x : X) (ok : Bool) → items ≡ (if ok then old ++ x ∷ [] else old) → ok ≡ true → items ≡ old ++ x ∷ []
was_pushed items old x ok e h = e ∙ ap (λ (v : Bool). if v then old ++ x ∷ [] else old) h
