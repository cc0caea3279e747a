use Rattle.line_text.proofs.Prelude.{◌∷◌, arith, NameThen, ItemThen}
use Rattle.line_text.proofs.ItemsOnce.{no_wish_no_item}
use Rattle.line_text.proofs.items.read_item.Goals as goal

pub returns-in_default-read_name-2 : goal.returns-in_default-read_name-2
returns-in_default-read_name-2 c item rest h =
    let word = c.in-Some.word.now in
    let marked = c.in-Some-after.marked.now in
    let name : NameThen word c.in-Some-read_name.node (62 ∷ marked) = grind arith in
    let whole : ItemThen (32 ∷ word) item rest = grind arith in
    no_wish_no_item word c.in-Some-read_name.node marked item rest name c.in_default-read_name-2.ensures whole
