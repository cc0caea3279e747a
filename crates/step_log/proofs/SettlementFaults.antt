-- A settled log has no stranger; a clerk whose numbers rise does not clash with itself.
use Rattle.step_log.proofs.Prelude.{◌≡◌, ℕ, zero, suc, ◌<◌, ◌↔◌, List, [], ◌∷◌, Option, Some, sym, subst, ◌∙◌, refl, inl, ⊎_elim, arith, slice_get, same_Some, RetainedLog, Receipt, SettleFault, CountDiffers, BaseDiffers, Stranger, ReceiptsView, RiseAbove, StandsAt, HasReceiptNumber, IsEntryAbove, Agrees, Settlement, Unsettles}
use Rattle.step_log.specs.declared.settle_fault.SettleFault.TheVariants.{Memory}

-- each number is above the start of the rise
above : (low : ℕ) (receipts : List Receipt) (p : ℕ) (receipt : Receipt) → RiseAbove low receipts → slice_get receipts p ≡ Some receipt → low < receipt.seq
above low [] p receipt rises at = cc
above low (first ∷ receipts) zero receipt rises at = subst (λ (r : Receipt). low < r.seq) (same_Some first receipt at) rises.0
above low (first ∷ receipts) (suc p) receipt rises at = let more = above first.seq receipts p receipt rises.1 at in let less = rises.0 in omega arith

-- a later receipt has a greater number
later_is_greater : (low : ℕ) (receipts : List Receipt) (q p : ℕ) (one other : Receipt) → RiseAbove low receipts → slice_get receipts q ≡ Some one → slice_get receipts p ≡ Some other → q < p → one.seq < other.seq
later_is_greater low [] q p one other rises at_q at_p lt = cc
later_is_greater low (first ∷ receipts) q zero one other rises at_q at_p lt = absurd (omega arith)
later_is_greater low (first ∷ receipts) zero (suc p) one other rises at_q at_p lt =
    subst (λ (r : Receipt). r.seq < other.seq) (same_Some first one at_q) (above first.seq receipts p other rises.1 at_p)
later_is_greater low (first ∷ receipts) (suc q) (suc p) one other rises at_q at_p lt = later_is_greater first.seq receipts q p one other rises.1 at_q at_p (omega arith)

-- two receipts of a clerk whose numbers rise have two numbers
apart : (clerks : List ReceiptsView) (d c q p : ℕ) (one other : Receipt) → ((k : ℕ) (clerk : ReceiptsView) → slice_get clerks k ≡ Some clerk → RiseAbove 0 clerk.receipts) → d ≡ c → q < p → StandsAt clerks d q one → StandsAt clerks c p other → one.seq ≡ other.seq → ⊥
apart clerks d c q p one other rise e lt stands here same =
    let own : stands.clerk ≡ here.clerk = same_Some stands.clerk here.clerk (sym stands.of_clerk ∙ subst (λ k. slice_get clerks k ≡ Some here.clerk) (sym e) here.of_clerk) in
    let at_q : slice_get here.clerk.receipts q ≡ Some one = subst (λ (k : ReceiptsView). slice_get k.receipts q ≡ Some one) own stands.at_place in
    let less = later_is_greater 0 here.clerk.receipts q p one other (rise c here.clerk here.of_clerk) at_q here.at_place lt in
    omega (arith, less, same)

-- an earlier receipt with the number is an earlier clerk's
pub agrees_by_clerks : (begun : Option ℕ) (kept : RetainedLog) (clerks : List ReceiptsView) (c p : ℕ) (receipt : Receipt) → ((d : ℕ) (clerk : ReceiptsView) → slice_get clerks d ≡ Some clerk → RiseAbove 0 clerk.receipts) → StandsAt clerks c p receipt → Agrees begun kept clerks c p receipt ↔ (IsEntryAbove begun kept receipt × ((d : ℕ) → d < c → HasReceiptNumber clerks d receipt.seq → ⊥))
agrees_by_clerks begun kept clerks c p receipt rise here = (
  λ agrees. (agrees.entry, λ d below holds. agrees.new d holds.place holds.receipt (inl below) holds.stands holds.numbered),
  λ own. record {
    entry = own.0;
    new = λ d q other before stands same.
        ⊎_elim
        (λ (below : d < c). own.1 d below (record { place = q; receipt = other; stands = stands; numbered = same }))
        (λ (h : (d ≡ c) × (q < p)). apart clerks d c q p other receipt rise h.0 h.1 stands here same)
        before;
  },
)

pub all_agree : (begun : Option ℕ) (kept : RetainedLog) (clerks : List ReceiptsView) (c p : ℕ) (receipt : Receipt) → Settlement begun kept clerks → StandsAt clerks c p receipt → Agrees begun kept clerks c p receipt
all_agree begun kept clerks c p receipt settled here =
    let own : HasReceiptNumber clerks c receipt.seq = record { place = p; receipt = receipt; stands = here; numbered = refl } in
    (agrees_by_clerks begun kept clerks c p receipt settled.rise here).1 (
      settled.told c p here.clerk receipt here.of_clerk here.at_place,
      λ d below holds. let same = settled.once receipt.seq d c holds own in omega (arith, below, same),
    )

pub settled_not_refused : (begun : Option ℕ) (kept : RetainedLog) (clerks : List ReceiptsView) (why : SettleFault) → Settlement begun kept clerks → Unsettles begun kept clerks why → why ≡ Memory
settled_not_refused begun kept clerks CountDiffers settled differs = absurd (differs settled.count)
settled_not_refused begun kept clerks BaseDiffers settled differs = absurd (differs.1 settled.based)
settled_not_refused begun kept clerks (Stranger c p) settled (same, based, found) = absurd (found.strange (all_agree begun kept clerks c p found.receipt settled found.stands))
settled_not_refused begun kept clerks Memory settled _ = refl
