-- A text is shown in one way.
use Rattle.transcript_view.proofs.Prelude.{◌≡◌, ◌∙◌, ℕ, List, Option, sym, ap₂, RuleSet, State, CostedEpoch, picture_of, epoch_table, IsPicture, IsPictureOf, IsEpochTable, IsTableOf, SameView, View, Text, Refused, TooFew, Forgotten, AuditFault, IsDamage, damage_once, no_damage, good_no_damage, good_not_few, good_not_forgotten, few_once, few_no_damage, few_not_forgotten, forgotten_once, forgotten_no_damage, state_once, epochs_once}

text_once : (bytes : List ℕ) (last : Option ℕ) (text also : List ℕ) → IsPictureOf bytes last text → IsPictureOf bytes last also → text ≡ also
text_once bytes last text also x y =
    let once = state_once bytes last x.rules y.rules x.state y.state x.reached y.reached in
    x.text_is ∙ ap₂ (λ (r : RuleSet) (s : State). picture_of r s) once.0 once.1 ∙ sym y.text_is

rows_once : (bytes text also : List ℕ) → IsTableOf bytes text → IsTableOf bytes also → text ≡ also
rows_once bytes text also x y =
    let once = epochs_once bytes x.rules y.rules x.rows y.rows x.are y.are in
    x.text_is ∙ ap₂ (λ (r : RuleSet) (e : List CostedEpoch). epoch_table r e) once.0 once.1 ∙ sym y.text_is

no_table : (bytes text : List ℕ) (d : AuditFault) → IsTableOf bytes text → IsDamage bytes d → ⊥
no_table bytes text d x damage =
    let run = x.are.run in
    no_damage bytes x.rules x.are.opening run.log run.end d run.transcript damage

pub picture_once : (bytes : List ℕ) (last : Option ℕ) (view also : View) → IsPicture bytes last view → IsPicture bytes last also → SameView view also
picture_once bytes last (Text a) (Text b) x y = text_once bytes last a.items b.items x y
picture_once bytes last (Text a) (Refused d) x y = good_no_damage bytes last x.rules x.state d x.reached y
picture_once bytes last (Text a) (TooFew n m) x y = good_not_few bytes last x.rules x.state n m x.reached y
picture_once bytes last (Text a) (Forgotten n m) x y = good_not_forgotten bytes last x.rules x.state n m x.reached y
picture_once bytes last (Refused d) (Text b) x y = good_no_damage bytes last y.rules y.state d y.reached x
picture_once bytes last (Refused d) (Refused e) x y = damage_once bytes d e x.is y.is
picture_once bytes last (Refused d) (TooFew n m) x y = few_no_damage bytes last n m d y x.is
picture_once bytes last (Refused d) (Forgotten n m) x y = forgotten_no_damage bytes last n m d y x
picture_once bytes last (TooFew n m) (Text b) x y = good_not_few bytes last y.rules y.state n m y.reached x
picture_once bytes last (TooFew n m) (Refused e) x y = few_no_damage bytes last n m e x y.is
picture_once bytes last (TooFew n m) (TooFew k l) x y = few_once bytes last n k m l x y
picture_once bytes last (TooFew n m) (Forgotten k l) x y = few_not_forgotten bytes last n m k l x y
picture_once bytes last (Forgotten n m) (Text b) x y = good_not_forgotten bytes last y.rules y.state n m y.reached x
picture_once bytes last (Forgotten n m) (Refused e) x y = forgotten_no_damage bytes last n m e x y
picture_once bytes last (Forgotten n m) (TooFew k l) x y = few_not_forgotten bytes last k l n m y x
picture_once bytes last (Forgotten n m) (Forgotten k l) x y = forgotten_once bytes last n k m l x y

pub table_once : (bytes : List ℕ) (view also : View) → IsEpochTable bytes view → IsEpochTable bytes also → SameView view also
table_once bytes (Text a) (Text b) x y = rows_once bytes a.items b.items x y
table_once bytes (Text a) (Refused d) x y = no_table bytes a.items d x y
table_once bytes (Refused d) (Text b) x y = no_table bytes b.items d y x
table_once bytes (Refused d) (Refused e) x y = damage_once bytes d e x y
table_once bytes (Text a) also x y = absurd y
table_once bytes (Refused d) also x y = absurd y
table_once bytes view also x y = absurd x
