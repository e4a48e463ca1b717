use Rattle.std.proofs.Common.{◌≡◌, take}
use Rattle.std.specs.Prelude.{option_map}
use Rattle.cjc_world.specs.Classes.{all_classes, imported}
use Rattle.cjc_bytes.specs.Told.{break_of, spot_of}
use Rattle.cjc_subset.specs.Overriding.{supertype_breaks}
use Rattle.cjc_subset.specs.Places.{at_class}
use Rattle.cjc_bytes.specs.Order.{FilePlace}
use Rattle.cjc_bytes.specs.Breaks.{IsFirstOf, each}
use Rattle.cjc_subset.proofs.overriding.imports_break.Given as goal

abbrev pub invariant-loop-tree : goal.invariant-loop-tree
invariant-loop-tree l = (f : FilePlace) → spot_of l.spot ≡ at_class f l.class
    → IsFirstOf (each (λ _ t. each (λ _ d. supertype_breaks (all_classes l.world) f l.class (imported 0 d)) t.classes)
    (take l.tree-index l.exports)) (option_map break_of l.least)
