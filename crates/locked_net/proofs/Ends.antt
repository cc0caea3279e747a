-- Rows of clerks that roamed in two parts.
use Rattle.locked_net.proofs.Prelude.{◌≡◌, ◌∙◌, ℕ, List, [], ◌∷◌, ◌++◌, Option, None, Some, refl, sym, ap, subst, arith, option_or, Book, Setting, CallFault, ClerkView, AllEnd, AllKeepNotes, EndsOnLog}
use Rattle.locked_net.specs.RoamResults.{FirstFault}
use Rattle.locked_net.proofs.Turns.{stays}

or_assoc : {A : Type 0} (a b c : Option A) → option_or (option_or a b) c ≡ option_or a (option_or b c)
or_assoc a b c = grind arith

pub faults_joined : {A : Type 0} (Ends : A → ClerkView → Option CallFault → Type 0) (xs more : List A) (news others : List ClerkView) (fault other : Option CallFault)
    → FirstFault Ends xs news fault → FirstFault Ends more others other → FirstFault Ends (xs ++ more) (news ++ others) (option_or fault other)
faults_joined Ends [] more [] others fault other none rest = subst (λ f. FirstFault Ends more others (option_or f other)) (sym none) rest
faults_joined Ends (x ∷ xs) more (new ∷ news) others fault other (own, behind, is, ended, ends) rest =
    (own, option_or behind other, ap (λ f. option_or f other) is ∙ or_assoc own behind other, ended, faults_joined Ends xs more news others behind other ends rest)
faults_joined Ends xs more news others fault other ends rest = absurd ends

-- the two parts of a row
pub parts_ended : (setting : Setting) (turns : ℕ) (olds left right ours theirs : List ClerkView) (fault other first : Option CallFault)
    → olds ≡ left ++ right → first ≡ option_or fault other → AllEnd setting turns left ours fault → AllEnd setting turns right theirs other → AllEnd setting turns olds (ours ++ theirs) first
parts_ended setting turns olds left right ours theirs fault other first whole is ended rest =
    subst (λ rs. AllEnd setting turns rs (ours ++ theirs) first) (sym whole)
    (subst (AllEnd setting turns (left ++ right) (ours ++ theirs)) (sym is) (faults_joined (EndsOnLog setting turns) left right ours theirs fault other ended rest))

-- ---- their notes

notes_joined : (book : Book) (olds mores news others : List ClerkView) → AllKeepNotes book olds news → AllKeepNotes book mores others → AllKeepNotes book (olds ++ mores) (news ++ others)
notes_joined book [] mores [] others kept rest = rest
notes_joined book (old ∷ olds) mores (new ∷ news) others (own, kept) rest = (own, notes_joined book olds mores news others kept rest)
notes_joined book olds mores news others kept rest = absurd kept

pub parts_kept : (book : Book) (olds left right ours theirs : List ClerkView) → olds ≡ left ++ right → AllKeepNotes book left ours → AllKeepNotes book right theirs → AllKeepNotes book olds (ours ++ theirs)
parts_kept book olds left right ours theirs whole kept rest =
    subst (λ rs. AllKeepNotes book rs (ours ++ theirs)) (sym whole) (notes_joined book left right ours theirs kept rest)

-- no note and no base changes if no clerk roams
pub notes_stay : (book : Book) (clerks : List ClerkView) → AllKeepNotes book clerks clerks
notes_stay book [] = tt
notes_stay book (clerk ∷ clerks) = (stays book clerk clerk refl, notes_stay book clerks)
