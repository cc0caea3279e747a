-- One receipt after another is settled, and one clerk after another.
--
-- At each place three facts hold: all receipts before it agree, the marks that are set are the numbers of
-- these receipts, and both are equally many. A receipt that is the log's entry with its number and whose mark
-- is clear agrees: an earlier receipt with its number would have set the mark. Once its mark is set, all
-- three hold at the next place. A receipt that is not the entry does not agree; nor does one whose mark is
-- set, since an earlier receipt set it.
--
-- At the end as many marks are set as there are receipts. That is as many as entries, so all marks are set:
-- each entry has a receipt, and so a clerk. It has no second clerk, since of two receipts with one number the
-- later would not agree.
use Rattle.step_log.proofs.Prelude.{◌≡◌, ℕ, zero, suc, ◌+◌, ◌-◌, ◌<◌, ◌≤◌, ◌⊎◌, Bool, true, false, cond, List, [], ◌∷◌, length, Option, take, set, get_or, slice_index_or, Some, refl, sym, ap, subst, ◌∙◌, inl, inr, ⊎_elim, arith, slice_get, sum_by, count_by, cases_lt, cases_eq, cases_order, false≢true, get_or-set_same, get_or-set_other, length-set, take_all, sum_by-cons, sum_by-set, sum_by_more, get_or-le-sum_by, count_by-le-length, slice_get_read, slice_get_within, get_or_from_slice_get, same_Some, dropped, Entry, RetainedLog, Receipt, ReceiptsView, RiseAbove, base_from, receipt_count, entry_count, greatest_base, base_number, IsEntryAbove, StandsAt, Settlement, IsEarlierReceipt, Agrees, IsFirstStranger, mark_of, AreReceiptMarks}

-- ---- places

-- one place has one receipt
pub same_receipt : (clerks : List ReceiptsView) (c p : ℕ) (a b : Receipt) → StandsAt clerks c p a → StandsAt clerks c p b → a ≡ b
same_receipt clerks c p a b one other =
    let same : one.clerk ≡ other.clerk = same_Some one.clerk other.clerk (sym one.of_clerk ∙ other.of_clerk) in
    same_Some a b (sym one.at_place ∙ subst (λ (k : ReceiptsView). slice_get k.receipts p ≡ Some b) (sym same) other.at_place)

-- what comes before the next place comes before this one, or is there
before_more : (d q c p : ℕ) → IsEarlierReceipt d q c (p + 1) → IsEarlierReceipt d q c p ⊎ ((d ≡ c) × (q ≡ p))
before_more d q c p (inl h) = inl (inl h)
before_more d q c p (inr (e, less)) =
    ⊎_elim (λ (below : q < p). inl (inr (e, below))) (λ (above : p ≤ q). let same : q ≡ p = omega (arith, less) in inr (e, same)) (cases_lt q p)

before_less : (d q c p : ℕ) → IsEarlierReceipt d q c p → IsEarlierReceipt d q c (p + 1)
before_less d q c p (inl h) = inl h
before_less d q c p (inr (e, less)) = let below : q < p + 1 = omega (arith, less) in inr (e, below)

-- what comes before the next clerk comes before this one's end
before_next : (clerks : List ReceiptsView) (c : ℕ) (clerk : ReceiptsView) (d q : ℕ) (other : Receipt) → slice_get clerks c ≡ Some clerk → StandsAt clerks d q other → IsEarlierReceipt d q (c + 1) 0 → IsEarlierReceipt d q c (length clerk.receipts)
before_next clerks c clerk d q other of_clerk stands (inl h) =
    ⊎_elim
    (λ (below : d < c). inl below)
    (λ (above : c ≤ d).
    let e : d ≡ c = omega (arith, h) in
    let same : stands.clerk ≡ clerk = same_Some stands.clerk clerk (sym stands.of_clerk ∙ (subst (λ k. slice_get clerks k ≡ Some clerk) (sym e) of_clerk)) in
    inr (e, slice_get_within clerk.receipts q other (subst (λ (k : ReceiptsView). slice_get k.receipts q ≡ Some other) same stands.at_place)))
    (cases_lt d c)
before_next clerks c clerk d q other of_clerk stands (inr (e, none)) = absurd (omega (arith, none))

before_own : (d q c p : ℕ) → IsEarlierReceipt d q c p → IsEarlierReceipt d q (c + 1) 0
before_own d q c p (inl h) = let below : d < c + 1 = omega (arith, h) in inl below
before_own d q c p (inr (e, less)) = let below : d < c + 1 = omega (arith, e) in inl below

-- ---- the table

-- a mark that is set stays set
still_set : (marks : List Bool) (i k : ℕ) → i < length marks → get_or marks k false ≡ true → get_or (set marks i true) k false ≡ true
still_set marks i k inside there =
    ⊎_elim
    (λ (e : k ≡ i). subst (λ j. get_or (set marks i true) j false ≡ true) (sym e) (get_or-set_same marks i true false inside))
    (λ (ne : k ≡ i → ⊥). get_or-set_other marks i k true false ne ∙ there)
    (cases_eq k i)

-- one more mark
count_set : (marks : List Bool) (i : ℕ) → i < length marks → get_or marks i false ≡ false → count_by (λ mark. mark) (set marks i true) ≡ count_by (λ mark. mark) marks + 1
count_set marks i inside clear =
    let one : Bool → ℕ = λ mark. cond mark 1 0 in
    let sums : sum_by one (set marks i true) + one (get_or marks i false) ≡ sum_by one marks + 1 = sum_by-set one marks i true false inside in
    let old : one (get_or marks i false) ≡ 0 = ap one clear in
    omega (arith, sums, old)

-- As many marks are set as there are marks: each one is.
all_set : (marks : List Bool) (k : ℕ) → count_by (λ mark. mark) marks ≡ length marks → k < length marks → get_or marks k false ≡ true
all_set [] k full inside = absurd (omega arith)
all_set (true ∷ marks) zero full inside = refl
all_set (true ∷ marks) (suc k) full inside =
    let more : count_by (λ mark. mark) (true ∷ marks) ≡ 1 + count_by (λ mark. mark) marks = sum_by-cons (λ mark. cond mark 1 0) true marks in
    all_set marks k (omega (arith, more, full)) (omega arith)
all_set (false ∷ marks) k full inside =
    let more : count_by (λ mark. mark) (false ∷ marks) ≡ 0 + count_by (λ mark. mark) marks = sum_by-cons (λ mark. cond mark 1 0) false marks in
    let few = count_by-le-length (λ mark. mark) marks in
    absurd (omega (arith, more, few, full))

-- ---- the steps

-- the receipt is the log's entry, and no receipt before has marked it: it agrees
fresh_agrees : (begun : Option ℕ) (kept : RetainedLog) (clerks : List ReceiptsView) (c p : ℕ) (marks : List Bool) (receipt : Receipt) → AreReceiptMarks begun kept clerks c p marks → IsEntryAbove begun kept receipt → mark_of begun marks receipt.seq ≡ false → Agrees begun kept clerks c p receipt
fresh_agrees begun kept clerks c p marks receipt so_far entry clear = record {
  entry = entry;
  new = λ d q other before stands same. false≢true (sym clear ∙ subst (λ n. mark_of begun marks n ≡ true) same (so_far.marked d q other before stands));
}

-- what is at the place is the receipt there
at_place : (clerks : List ReceiptsView) (d q c p : ℕ) (other receipt : Receipt) → (d ≡ c) × (q ≡ p) → StandsAt clerks d q other → StandsAt clerks c p receipt → other ≡ receipt
at_place clerks d q c p other receipt e stands here =
    same_receipt clerks c p other receipt (subst (λ k. StandsAt clerks k p other) e.0 (subst (λ k. StandsAt clerks d k other) e.1 stands)) here

-- one more receipt agrees, and its entry is marked
place_more : (begun : Option ℕ) (kept : RetainedLog) (clerks : List ReceiptsView) (c p : ℕ) (marks : List Bool) (receipt : Receipt) → AreReceiptMarks begun kept clerks c p marks → StandsAt clerks c p receipt → IsEntryAbove begun kept receipt → mark_of begun marks receipt.seq ≡ false → AreReceiptMarks begun kept clerks c (p + 1) (set marks (receipt.seq - base_from begun - 1) true)
place_more begun kept clerks c p marks receipt so_far here entry clear =
    let inside : receipt.seq - base_from begun - 1 < length marks = omega (arith, entry.numbered, entry.within, so_far.size) in
    let agrees = fresh_agrees begun kept clerks c p marks receipt so_far entry clear in
    record {
      size = length-set marks (receipt.seq - base_from begun - 1) true ∙ so_far.size;
      agree = λ d q other before stands.
          ⊎_elim
          (λ (earlier : IsEarlierReceipt d q c p). so_far.agree d q other earlier stands)
          (λ (e : (d ≡ c) × (q ≡ p)).
          let same = at_place clerks d q c p other receipt e stands here in
          subst (λ k. Agrees begun kept clerks k q other) (sym e.0) (subst (λ k. Agrees begun kept clerks c k other) (sym e.1) (subst (λ r. Agrees begun kept clerks c p r) (sym same) agrees)))
          (before_more d q c p before);
      rise = so_far.rise;
      marked = λ d q other before stands.
          ⊎_elim
          (λ (earlier : IsEarlierReceipt d q c p). still_set marks (receipt.seq - base_from begun - 1) (other.seq - base_from begun - 1) inside (so_far.marked d q other earlier stands))
          (λ (e : (d ≡ c) × (q ≡ p)).
          let same = at_place clerks d q c p other receipt e stands here in
          subst (λ (r : Receipt). mark_of begun (set marks (receipt.seq - base_from begun - 1) true) r.seq ≡ true) (sym same) (get_or-set_same marks (receipt.seq - base_from begun - 1) true false inside))
          (before_more d q c p before);
      numbered = λ k there.
          ⊎_elim
          (λ (e : k ≡ receipt.seq - base_from begun - 1). record {
            clerk = c;
            place = p;
            receipt = receipt;
            before = let next : p < p + 1 = omega arith in inr (refl, next);
            stands = here;
            numbered = omega (arith, e, entry.numbered);
          })
          (λ (ne : k ≡ receipt.seq - base_from begun - 1 → ⊥).
          let old = so_far.numbered k (sym (get_or-set_other marks (receipt.seq - base_from begun - 1) k true false ne) ∙ there) in
          record {
            clerk = old.clerk;
            place = old.place;
            receipt = old.receipt;
            before = before_less old.clerk old.place c p old.before;
            stands = old.stands;
            numbered = old.numbered;
          })
          (cases_eq k (receipt.seq - base_from begun - 1));
      count = let more = count_set marks (receipt.seq - base_from begun - 1) inside clear in omega (arith, more, so_far.count);
    }

-- all receipts of a clerk agree, and its numbers rise
pub clerk_more : (begun : Option ℕ) (kept : RetainedLog) (clerks : List ReceiptsView) (c : ℕ) (clerk : ReceiptsView) (marks : List Bool) → slice_get clerks c ≡ Some clerk → RiseAbove 0 clerk.receipts → AreReceiptMarks begun kept clerks c (length clerk.receipts) marks → AreReceiptMarks begun kept clerks (c + 1) 0 marks
clerk_more begun kept clerks c clerk marks of_clerk rises so_far =
    let within = slice_get_within clerks c clerk of_clerk in
    record {
      size = so_far.size;
      agree = λ d q other before stands. so_far.agree d q other (before_next clerks c clerk d q other of_clerk stands before) stands;
      rise = λ d other below of_d.
          ⊎_elim
          (λ (earlier : d < c). so_far.rise d other earlier of_d)
          (λ (not_earlier : c ≤ d).
          let e : d ≡ c = omega (arith, below, not_earlier) in
          let same : other ≡ clerk = same_Some other clerk (sym of_d ∙ subst (λ k. slice_get clerks k ≡ Some clerk) (sym e) of_clerk) in
          subst (λ (k : ReceiptsView). RiseAbove 0 k.receipts) (sym same) rises)
          (cases_lt d c);
      marked = λ d q other before stands. so_far.marked d q other (before_next clerks c clerk d q other of_clerk stands before) stands;
      numbered = λ k there.
          let old = so_far.numbered k there in
          record {
            clerk = old.clerk;
            place = old.place;
            receipt = old.receipt;
            before = before_own old.clerk old.place c (length clerk.receipts) old.before;
            stands = old.stands;
            numbered = old.numbered;
          };
      count =
          let count_of : ReceiptsView → ℕ = λ k. length k.receipts in
          let more = sum_by_more count_of clerks c clerk within in
          let own : count_of (get_or clerks c clerk) ≡ length clerk.receipts = ap count_of (get_or_from_slice_get clerks c clerk clerk of_clerk) in
          omega (arith, more, own, so_far.count);
    }

-- a receipt whose entry is marked already, or that is not the log's entry, is the first stranger
pub stranger_found : (begun : Option ℕ) (kept : RetainedLog) (clerks : List ReceiptsView) (c p : ℕ) (marks : List Bool) (receipt : Receipt) → AreReceiptMarks begun kept clerks c p marks → StandsAt clerks c p receipt → (IsEntryAbove begun kept receipt → mark_of begun marks receipt.seq ≡ true) → IsFirstStranger begun kept clerks c p
stranger_found begun kept clerks c p marks receipt so_far here taken = record {
  receipt = receipt;
  stands = here;
  strange = λ agrees.
      let earlier = so_far.numbered (receipt.seq - base_from begun - 1) (taken agrees.entry) in
      let same : earlier.receipt.seq ≡ receipt.seq = omega (arith, earlier.numbered, agrees.entry.numbered) in
      agrees.new earlier.clerk earlier.place earlier.receipt earlier.before earlier.stands same;
  first = so_far.agree;
}

-- ---- the same with the beginning's number as it is read

pub place_more_from : (begun : Option ℕ) (kept : RetainedLog) (clerks : List ReceiptsView) (c p : ℕ) (marks : List Bool) (receipt : Receipt) (first : ℕ) → first ≡ base_from begun → AreReceiptMarks begun kept clerks c p marks → StandsAt clerks c p receipt → IsEntryAbove begun kept receipt
    → slice_index_or marks (receipt.seq - first - 1) false ≡ false → AreReceiptMarks begun kept clerks c (p + 1) (set marks (receipt.seq - first - 1) true)
place_more_from begun kept clerks c p marks receipt first is so_far here entry clear =
    subst (λ n. AreReceiptMarks begun kept clerks c (p + 1) (set marks (receipt.seq - n - 1) true)) (sym is)
    (place_more begun kept clerks c p marks receipt so_far here entry (subst (λ n. slice_index_or marks (receipt.seq - n - 1) false ≡ false) is clear))

pub stranger_found_from : (begun : Option ℕ) (kept : RetainedLog) (clerks : List ReceiptsView) (c p : ℕ) (marks : List Bool) (receipt : Receipt) (first : ℕ) → first ≡ base_from begun → AreReceiptMarks begun kept clerks c p marks → StandsAt clerks c p receipt
    → slice_index_or marks (receipt.seq - first - 1) false ≡ true → IsFirstStranger begun kept clerks c p
stranger_found_from begun kept clerks c p marks receipt first is so_far here taken =
    stranger_found begun kept clerks c p marks receipt so_far here (λ entry. subst (λ n. slice_index_or marks (receipt.seq - n - 1) false ≡ true) is taken)

-- ---- the end

-- All receipts agree, they are as many as entries, and the base is the clerks': all is settled. As many marks
-- are set as there are, so each is, and each entry has a receipt. No receipt has the number of an earlier
-- one, so no entry has two clerks.
pub settles : (begun : Option ℕ) (kept : RetainedLog) (clerks : List ReceiptsView) (marks : List Bool) → receipt_count clerks ≡ entry_count begun kept → base_number kept.base ≡ greatest_base begun clerks → AreReceiptMarks begun kept clerks (length clerks) 0 marks → Settlement begun kept clerks
settles begun kept clerks marks counted based all =
    let agree : (c p : ℕ) (receipt : Receipt) → StandsAt clerks c p receipt → Agrees begun kept clerks c p receipt = λ c p receipt stands.
    all.agree c p receipt (inl (slice_get_within clerks c stands.clerk stands.of_clerk)) stands in
    let full : count_by (λ mark. mark) marks ≡ length marks =
    let whole : receipt_count (take (length clerks) clerks) ≡ receipt_count clerks = ap receipt_count (take_all (length clerks) clerks (omega arith)) in
    omega (arith, all.count, whole, counted, all.size) in
    record {
      told = λ c p clerk receipt of_clerk at_place. (agree c p receipt (record { clerk = clerk; of_clerk = of_clerk; at_place = at_place })).entry;
      rise = λ c clerk of_clerk. all.rise c clerk (slice_get_within clerks c clerk of_clerk) of_clerk;
      count = counted;
      held = λ n above within.
          let it = all.numbered (n - base_from begun - 1) (all_set marks (n - base_from begun - 1) full (omega (arith, above, within, all.size))) in
          (it.clerk, record { place = it.place; receipt = it.receipt; stands = it.stands; numbered = omega (arith, it.numbered, above) });
      once = λ n c d one other.
          ⊎_elim
          (λ (e : c ≡ d). e)
          (λ (h : (c < d) ⊎ (d < c)).
          absurd (⊎_elim
          (λ (below : c < d). (agree d other.place other.receipt other.stands).new c one.place one.receipt (inl below) one.stands (one.numbered ∙ sym other.numbered))
          (λ (below : d < c). (agree c one.place one.receipt one.stands).new d other.place other.receipt (inl below) other.stands (other.numbered ∙ sym one.numbered))
          h))
          (cases_order c d);
      based = based;
    }

-- ---- what the code reads

-- an entry that is kept has a number of the log
pub is_kept : (begun : Option ℕ) (kept : RetainedLog) (receipt : Receipt) (entry : Entry) → base_from begun < receipt.seq → dropped kept.base < receipt.seq → slice_get kept.entries (receipt.seq - dropped kept.base - 1) ≡ Some entry → entry ≡ (receipt.event, receipt.reply) → IsEntryAbove begun kept receipt
is_kept begun kept receipt entry numbered above there same =
    let within = slice_get_within kept.entries (receipt.seq - dropped kept.base - 1) entry there in
    record { numbered = numbered; within = omega (arith, within, above); same = λ _. there ∙ ap Some same }

-- the receipt that is read at a place of a clerk's list is there
pub standing : (clerks : List ReceiptsView) (c p : ℕ) (clerk : ReceiptsView) (items : List Receipt) (receipt : Receipt) → c < length clerks → clerk ≡ get_or clerks c clerk → items ≡ clerk.receipts → p < length items → receipt ≡ get_or items p receipt → StandsAt clerks c p receipt
standing clerks c p clerk items receipt there is same inside read = record {
  clerk = clerk;
  of_clerk = slice_get_read clerks (length clerks) c clerk refl there is;
  at_place = subst (λ l. slice_get l p ≡ Some receipt) same (slice_get_read items (length items) p receipt refl inside read);
}

-- a stranger's place is below the number of receipts
pub place_within : (begun : Option ℕ) (kept : RetainedLog) (clerks : List ReceiptsView) (c p : ℕ) → IsFirstStranger begun kept clerks c p → p < receipt_count clerks
place_within begun kept clerks c p found =
    let of_clerk = found.stands.of_clerk in
    let clerk : ReceiptsView = found.stands.clerk in
    let count_of : ReceiptsView → ℕ = λ k. length k.receipts in
    let own : count_of (get_or clerks c clerk) ≡ length clerk.receipts = ap count_of (get_or_from_slice_get clerks c clerk clerk of_clerk) in
    let all = get_or-le-sum_by count_of clerks c clerk (slice_get_within clerks c clerk of_clerk) in
    let within = slice_get_within clerk.receipts p found.receipt found.stands.at_place in
    omega (arith, own, all, within)
