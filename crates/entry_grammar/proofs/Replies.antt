-- Replies of one kind.
use Rattle.entry_grammar.proofs.Prelude.{◌≡◌, ℕ, List, ◌++◌, Option, get_or, refl, sym, ap, ◌∙◌, arith, IsTrue, ⊤, codes, append_cancel_left, Act, Moved, Refusal, Event, Step, Show, Enabled, Matching, Status, Reply, Accepted, Refused, Moves, Shown, EnabledAre, Pairs, fits, refusal_words, reply_text, IsReply, is_done, answers_step, is_shown, are_enabled, are_pairs, are_counts, reply_suits, alone, nothing_ends, target_back, joined_back, joined_or_back}
use Rattle.rule_machine.specs.declared.counts.Counts as numbers
use Rattle.rule_machine.specs.declared.reply.Reply.TheVariants.{Counts}
use Rattle.entry_grammar.proofs.RefusalsOnce.{refusal_words_once}
use Rattle.entry_grammar.proofs.CountsOnce.{counts_once}
use Rattle.entry_grammar.proofs.TokensOnce.{moves, enabled, pairs, letter, refused_moves, refused_target}

-- what fits an event suits it
pub fits_suits : (event : Event) (reply : Reply) → IsTrue (fits event reply) → IsTrue (reply_suits event reply)
fits_suits (Step items) (Moves list) h = refl
fits_suits Enabled (EnabledAre nodes) h = refl
fits_suits Matching (Pairs list) h = refl
fits_suits event reply h = h

-- a refusal is not said as `ok`
ok_refused : (r : Refusal) → codes "ok" ≡ codes "refused " ++ refusal_words r → ⊥
ok_refused r e = omega (arith, ap (λ (z : List ℕ). get_or z 0 0) e)

-- a refusal is said in one way
refused_once : (r q : Refusal) → codes "refused " ++ refusal_words r ≡ codes "refused " ++ refusal_words q → Refused r ≡ Refused q
refused_once r q e = ap (λ (z : Refusal). Refused z) (refusal_words_once r q (append_cancel_left (codes "refused ") (refusal_words r) (refusal_words q) e))

-- replies of one kind have texts of their own
done_once : (r q : Reply) → IsTrue (is_done r) → IsTrue (is_done q) → reply_text r ≡ reply_text q → r ≡ q
done_once Accepted Accepted s t e = refl
done_once Accepted (Refused q) s t e = absurd (ok_refused q e)
done_once (Refused r) Accepted s t e = absurd (ok_refused r (sym e))
done_once (Refused r) (Refused q) s t e = refused_once r q e
done_once r q s t e = cc

moved_once : (r q : Reply) → IsTrue (answers_step r) → IsTrue (answers_step q) → IsReply r → IsReply q → reply_text r ≡ reply_text q → r ≡ q
moved_once (Moves x) (Moves y) s t f g e = ap (λ (z : List Moved). Moves z) (joined_back moves x y f g e)
moved_once (Moves x) (Refused q) s t f g e = absurd (refused_moves x (refusal_words q) f e)
moved_once (Refused r) (Moves y) s t f g e = absurd (refused_moves y (refusal_words r) g (sym e))
moved_once (Refused r) (Refused q) s t f g e = refused_once r q e
moved_once r q s t f g e = cc

shown_once : (r q : Reply) → IsTrue (is_shown r) → IsTrue (is_shown q) → IsReply r → IsReply q → reply_text r ≡ reply_text q → r ≡ q
shown_once (Shown x) (Shown y) s t f g e = ap (λ (z : Option ℕ). Shown z) (alone target_back (λ w. nothing_ends) x y f g e)
shown_once (Shown x) (Refused q) s t f g e = absurd (refused_target x (refusal_words q) f e)
shown_once (Refused r) (Shown y) s t f g e = absurd (refused_target y (refusal_words r) g (sym e))
shown_once (Refused r) (Refused q) s t f g e = refused_once r q e
shown_once r q s t f g e = cc

are_enabled_once : (r q : Reply) → IsTrue (are_enabled r) → IsTrue (are_enabled q) → IsReply r → IsReply q → reply_text r ≡ reply_text q → r ≡ q
are_enabled_once (EnabledAre x) (EnabledAre y) s t f g e = ap (λ (z : List (ℕ × Act)). EnabledAre z) (joined_or_back enabled (codes "none") letter x y f g e)
are_enabled_once r q s t f g e = cc

are_pairs_once : (r q : Reply) → IsTrue (are_pairs r) → IsTrue (are_pairs q) → IsReply r → IsReply q → reply_text r ≡ reply_text q → r ≡ q
are_pairs_once (Pairs x) (Pairs y) s t f g e = ap (λ (z : List (ℕ × ℕ)). Pairs z) (joined_or_back pairs (codes "none") letter x y f g e)
are_pairs_once r q s t f g e = cc

are_counts_once : (r q : Reply) → IsTrue (are_counts r) → IsTrue (are_counts q) → IsReply r → IsReply q → reply_text r ≡ reply_text q → r ≡ q
are_counts_once (Counts x) (Counts y) s t f g e = ap (λ (z : numbers.Counts). Counts z) (counts_once x y f g e)
are_counts_once r q s t f g e = cc

-- replies of an event's kind have texts of their own
pub reply_once : (event : Event) (r q : Reply) → IsTrue (reply_suits event r) → IsTrue (reply_suits event q) → IsReply r → IsReply q → reply_text r ≡ reply_text q → r ≡ q
reply_once (Step items) r q s t f g e = moved_once r q s t f g e
reply_once (Show v) r q s t f g e = shown_once r q s t f g e
reply_once Enabled r q s t f g e = are_enabled_once r q s t f g e
reply_once Matching r q s t f g e = are_pairs_once r q s t f g e
reply_once Status r q s t f g e = are_counts_once r q s t f g e
reply_once event r q s t f g e = done_once r q s t e

-- if the words after `refused` are no refusal's, no reply to a step or to `show` is spelled
pub no_moved : (bytes words : List ℕ) → bytes ≡ codes "refused " ++ words → ((r : Refusal) → ⊤ → words ≡ refusal_words r → ⊥) → (q : Reply) → IsTrue (answers_step q) × IsReply q → bytes ≡ reply_text q → ⊥
no_moved bytes words a none (Moves x) f e = refused_moves x words f.1 (sym e ∙ a)
no_moved bytes words a none (Refused q) f e = none q tt (append_cancel_left (codes "refused ") words (refusal_words q) (sym a ∙ e))
no_moved bytes words a none q f e = let h = f.0 in cc

pub no_shown : (bytes words : List ℕ) → bytes ≡ codes "refused " ++ words → ((r : Refusal) → ⊤ → words ≡ refusal_words r → ⊥) → (q : Reply) → IsTrue (is_shown q) × IsReply q → bytes ≡ reply_text q → ⊥
no_shown bytes words a none (Shown x) f e = refused_target x words f.1 (sym e ∙ a)
no_shown bytes words a none (Refused q) f e = none q tt (append_cancel_left (codes "refused ") words (refusal_words q) (sym a ∙ e))
no_shown bytes words a none q f e = let h = f.0 in cc
