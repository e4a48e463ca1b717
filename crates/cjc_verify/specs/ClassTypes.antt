-- The types of objects and arrays by the classes that class_refs name (Java Card Virtual Machine Specification 2.2.2,
-- section 6.13.4).
use Rattle.std.specs.Prelude.{ℕ, List, ◌∷◌}
use Rattle.cjc_capread.specs.declared.tree.ClassRef.{ClassRef}
use Rattle.cjc_classes.specs.LowerComponents.Types.{ref_nibbles}
use Rattle.cjc_card_acts.specs.LowerFrames.Types.{class_nibble, references_nibble}

-- the type of objects of a class
abbrev pub class_type : ClassRef → List ℕ
class_type class = class_nibble ∷ ref_nibbles class

-- the type of arrays of references to a class
abbrev pub array_type : ClassRef → List ℕ
array_type class = references_nibble ∷ ref_nibbles class
