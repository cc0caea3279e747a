-- From the counts down to the k-th member, and from the words to all members.
use Rattle.enabled_set.proofs.Prelude.{◌≡◌, ℕ, suc, ◌+◌, ◌-◌, ◌*◌, ◌<◌, ◌≤◌, Bool, true, false, List, [], ◌∷◌, ◌++◌, length, get_or, Option, Some, None, sym, ap, ap₂, subst, ◌∙◌, arith, ⊎_elim, ◌≢◌, slice_get, SomeIff, cases_lt, get_or_past, slice_get_past, is_in, members, has_bit, is_bit_on, HasOnlyNames, tally, before, AreBlockCounts, HasRightCounts}
use Rattle.enabled_set.specs.Counts.{below}
use Rattle.enabled_set.proofs.PassCounts.{before_step, below_flat, below_more, tally_end, tally_put, tally_rise, tally_shift}
use Rattle.enabled_set.proofs.Places.{on_word}
use Rattle.enabled_set.proofs.Members.{length-members, nth_member, inside}

-- a member is a name
is_name : (bits : List Bool) (words s l : List ℕ) (total v : ℕ) → HasRightCounts bits words s l total → is_in bits v ≡ true → (1 ≤ v) × (v ≤ 65535)
is_name bits words s l total v good on = grind (arith, inside)

-- ---- all members of a word

-- the names of a word's first bits are listed after those before it, and the later bits are left
pub record IsListed (words : List ℕ) (place rest : ℕ) (list : List ℕ) (n : ℕ) : Type 0 where
  pub within : n ≤ 64
  pub listed : list ≡ below (is_bit_on words) (64 * place + n)
  pub gone : (i : ℕ) → i < n → has_bit rest i ≡ false
  pub left : (i : ℕ) → n ≤ i → i < 64 → has_bit rest i ≡ is_bit_on words (64 * place + i)

pub listed_none : (words : List ℕ) (place rest : ℕ) (list : List ℕ) → rest ≡ get_or words place 0 → list ≡ below (is_bit_on words) (64 * place) → IsListed words place rest list 0
listed_none words place rest list is so_far = grind (arith, inside, on_word)

-- a bit that is left comes after these, and is a name
bit_behind : (words : List ℕ) (place rest : ℕ) (list : List ℕ) (n at : ℕ) → IsListed words place rest list n → has_bit rest at ≡ true → n ≤ at
bit_behind words place rest list n at so_far on =
    let gone = so_far.gone at in grind arith

pub bit_named : (words : List ℕ) (place rest : ℕ) (list : List ℕ) (n at : ℕ) → HasOnlyNames words → IsListed words place rest list n → at < 64 → has_bit rest at ≡ true → (1 ≤ 64 * place + at) × (64 * place + at ≤ 65535)
bit_named words place rest list n at names so_far inside on =
    names (64 * place + at) (sym (so_far.left at (bit_behind words place rest list n at so_far on) inside) ∙ on)

-- if no bit is left below one, the names below it are listed
pub listed_up : (words : List ℕ) (place rest : ℕ) (list : List ℕ) (n m : ℕ) → IsListed words place rest list n → n ≤ m → m ≤ 64 → ((i : ℕ) → n ≤ i → i < m → has_bit rest i ≡ false) → list ≡ below (is_bit_on words) (64 * place + m)
listed_up words place rest list n m so_far up most none =
    so_far.listed
    ∙ sym (below_flat (is_bit_on words) (64 * place + n) (m - n) (64 * place + m) (omega arith) (λ k low high.
    let i : ℕ = k - 64 * place in
    let at : k ≡ 64 * place + i = omega (arith, low) in
    ap (is_bit_on words) at ∙ sym (so_far.left i (omega (arith, low)) (omega (arith, high, most))) ∙ none i (omega (arith, low)) (omega (arith, high))))

-- the name of the lowest bit that is left is listed, and the bit taken out
pub listed_more : (words : List ℕ) (place rest less at v n : ℕ) (list more : List ℕ) → IsListed words place rest list n → at < 64 → has_bit rest at ≡ true → ((i : ℕ) → i < at → has_bit rest i ≡ false) → has_bit less at ≡ false → ((i : ℕ) → i < 64 → i ≢ at → has_bit less i ≡ has_bit rest i) → v ≡ 64 * place + at → more ≡ list ++ v ∷ [] → IsListed words place less more (at + 1)
listed_more words place rest less at v n list more so_far inside on first off others name new =
    let behind = bit_behind words place rest list n at so_far on in
    record {
      within = omega arith;
      listed = new ∙ ap₂ (λ l x. l ++ x ∷ []) (listed_up words place rest list n at so_far behind (omega arith) (λ i low. first i)) name
          ∙ sym (rw (sym (so_far.left at behind inside) ∙ on) at (below_more (is_bit_on words) (64 * place + at)))
          ∙ ap (below (is_bit_on words)) (let e : suc (64 * place + at) ≡ 64 * place + (at + 1) = omega arith in e);
      gone = λ i below. grind (arith, cases_lt);
      left = λ i up within. others i within (λ (e : i ≡ at). omega (arith, up, e)) ∙ so_far.left i (omega (arith, up, behind)) within;
    }

-- so fewer bits are left
pub bits_fewer : (rest less at : ℕ) → at < 64 → has_bit rest at ≡ true → has_bit less at ≡ false → ((i : ℕ) → i < 64 → i ≢ at → has_bit less i ≡ has_bit rest i) → tally (has_bit less) 64 < tally (has_bit rest) 64
bits_fewer rest less at inside on off others =
    let put = rw on at ((tally_put (has_bit rest) (has_bit less) at 64 false off others).1 inside) in omega (arith, put)

-- all words have all members
pub below_all : (bits : List Bool) (words s l : List ℕ) (total n : ℕ) → HasRightCounts bits words s l total → 64 * length words ≤ n → below (is_bit_on words) n ≡ members bits
unfolding below
below_all bits words s l total n good most =
    let covered = good.covered in
    sym (λ i. below (λ v. good.same v i) n) ∙ below_flat (is_in bits) (length bits) (n - length bits) n (omega arith) (λ k low high. get_or_past bits k false low)

-- ---- the k-th member

-- more members are left in all places than are to pass, and there are sixteen counts of them
pub enough_lots : (bits : List Bool) (words s l ls : List ℕ) (total k : ℕ) → HasRightCounts bits words s l total → ls ≡ l → k < total → (16 ≤ length ls) × (k < before ls 16)
enough_lots bits words s l ls total k good is less = grind (arith, tally_rise)

-- a block of eight parts with more members than remain to be skipped begins at a place, and the sums over its
-- parts ascend beyond that
enough : (bits : List Bool) (width : ℕ) (counts : List ℕ) (f : ℕ → ℕ) (j left : ℕ) → AreBlockCounts bits width counts → left < get_or counts j 0 → f (8 * j) ≡ tally (is_in bits) (width * j) → f (8 * j + 8) ≡ tally (is_in bits) (width * (j + 1)) → (width * j < length bits) × (f (8 * j) + left < f (8 * j + 8))
enough bits width counts f j left good less from to = grind (arith, before_step, tally_end, get_or_past, cases_lt)

-- so there are eight counts of a lot that has more members than are to pass, and more are left in them
pub enough_groups : (bits : List Bool) (words s l ls ss : List ℕ) (total lot left : ℕ) → HasRightCounts bits words s l total → ls ≡ l → ss ≡ s → left < get_or ls lot 0 → (8 * lot + 8 ≤ length ss) × (before ss (8 * lot) + left < before ss (8 * lot + 8))
enough_groups bits words s l ls ss total lot left good is_l is_s less =
    let parts : (n : ℕ) → before ss n ≡ tally (is_in bits) (512 * n) = λ n. ap (λ xs. before xs n) is_s ∙ good.in_512.counted n in
    let more = enough bits 4096 l (before ss) lot left good.in_4096 (subst (λ xs. left < get_or xs lot 0) is_l less)
    (parts (8 * lot) ∙ ap (tally (is_in bits)) (let e : 512 * (8 * lot) ≡ 4096 * lot = omega arith in e))
    (parts (8 * lot + 8) ∙ ap (tally (is_in bits)) (let e : 512 * (8 * lot + 8) ≡ 4096 * (lot + 1) = omega arith in e)) in
    (omega (arith, more.0, good.groups, ap length is_s), more.1)

-- the words have as many below a place as there are members
words_tally : (bits : List Bool) (words s l ws : List ℕ) (total n : ℕ) → HasRightCounts bits words s l total → ws ≡ words → tally (is_bit_on ws) n ≡ tally (is_in bits) n
words_tally bits words s l ws total n good is_w = ap (λ xs. tally (is_bit_on xs) n) is_w ∙ sym (λ i. tally (λ v. good.same v i) n)

-- and eight words of a group
pub enough_words : (bits : List Bool) (words s l ss ws : List ℕ) (total group left : ℕ) → HasRightCounts bits words s l total → ss ≡ s → ws ≡ words → left < get_or ss group 0 → (8 * group + 8 ≤ length ws) × (tally (is_bit_on ws) (64 * (8 * group)) + left < tally (is_bit_on ws) (64 * (8 * group + 8)))
enough_words bits words s l ss ws total group left good is_s is_w less =
    let parts : (n : ℕ) → tally (is_bit_on ws) (64 * n) ≡ tally (is_in bits) (64 * n) = λ n. words_tally bits words s l ws total (64 * n) good is_w in
    let more = enough bits 512 s (λ n. tally (is_bit_on ws) (64 * n)) group left good.in_512 (subst (λ xs. left < get_or xs group 0) is_s less)
    (parts (8 * group) ∙ ap (tally (is_in bits)) (let e : 64 * (8 * group) ≡ 512 * group = omega arith in e))
    (parts (8 * group + 8) ∙ ap (tally (is_in bits)) (let e : 64 * (8 * group + 8) ≡ 512 * (group + 1) = omega arith in e)) in
    (omega (arith, more.0, good.covered, ap length is_w), more.1)

-- what three scans over these lists have skipped; each begins at the end of the one before
pub passed : (bits : List Bool) (words s l ls ss ws : List ℕ) (total k lot lot_left group group_left place left : ℕ) → HasRightCounts bits words s l total → ls ≡ l → ss ≡ s → ws ≡ words → before ls lot + lot_left ≡ k → before ss group + group_left ≡ before ss (8 * lot) + lot_left → tally (is_bit_on ws) (64 * place) + left ≡ tally (is_bit_on ws) (64 * (8 * group)) + group_left → tally (is_in bits) (64 * place) + left ≡ k
passed bits words s l ls ss ws total k lot lot_left group group_left place left good is_l is_s is_w from_l from_s from_w = grind (arith, words_tally)

-- there is no k-th member if k is at least the total
pub nth_none : (bits : List Bool) (words s l : List ℕ) (total k : ℕ) → HasRightCounts bits words s l total → total ≤ k → slice_get (members bits) k ≡ None
nth_none bits words s l total k good most = slice_get_past (members bits) k (let len = length-members bits in let all = good.in_all in omega arith)

-- the node of a name
pub named : (o : Option ℕ) (n : ℕ) → SomeIff o ((1 ≤ n) × (n ≤ 65535)) n → (1 ≤ n) × (n ≤ 65535) → o ≡ Some n
named None n h name = absurd (h name)
named (Some x) n h name = ap (λ (y : ℕ). Some y) h.1

-- the bit with exactly the number to be skipped before it is the k-th member
pub nth_some : (bits : List Bool) (words s l : List ℕ) (total k word group left at : ℕ) (o : Option ℕ) → HasRightCounts bits words s l total → word ≡ get_or words group 0 → tally (is_in bits) (64 * group) + left ≡ k → at < 64 → has_bit word at ≡ true → tally (has_bit word) at ≡ left → SomeIff o ((1 ≤ 64 * group + at) × (64 * group + at ≤ 65535)) (64 * group + at) → o ≡ slice_get (members bits) k
nth_some bits words s l total k word group left at o good is reached within on stands node =
    let in_word : (i : ℕ) → i < 64 → is_in bits (64 * group + i) ≡ has_bit word i = λ i less. good.same (64 * group + i) ∙ on_word words group i less ∙ ap (λ w. has_bit w i) (sym is) in
    let here = in_word at within ∙ on in
    let part = tally_shift (is_in bits) (has_bit word) (64 * group) at (λ i less. in_word i (omega (arith, less, within))) in
    named o (64 * group + at) node (is_name bits words s l total (64 * group + at) good here) ∙ sym (nth_member bits (64 * group + at) k here (omega arith))
