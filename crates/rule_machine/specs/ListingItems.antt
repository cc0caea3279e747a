-- The items of a listing.
use Rattle.std.specs.Prelude.{List}
use Rattle.rule_machine.specs.declared.listing.ListingItems.{ListingItems}
use Rattle.rule_machine.specs.declared.listing.ListingItems.TheVariants.{One, Many}

abbrev pub listed : {T : Type 0} → ListingItems T → List T
listed (One items) = items
listed (Many items) = items.items
