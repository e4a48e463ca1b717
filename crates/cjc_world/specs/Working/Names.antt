-- The index from class names to places in the list, and what it answers; with it a roster is complete.
use Rattle.std.specs.Prelude.{◌≡◌, ℕ, suc, List, [], ◌∷◌, Bool, true, false, if◌then◌else◌, Option, Some, None}
use Rattle.std.specs.Prelude.{option_map}
use Rattle.std.specs.HashMap.{get_by}
use Rattle.std.specs.Str.{bytes_eq}
use Rattle.cjc_bytes.specs.declared.settings.FileLine.{FileLine}
use Rattle.cjc_classfile.specs.declared.tree.ClassTree.{ClassTree}
use Rattle.cjc_export.specs.declared.tree.ExportTree.{ExportTree}
use Rattle.cjc_world.specs.declared.members.MemberIndex.{MemberIndex}
use Rattle.cjc_world.specs.declared.names.Names.{Names}
use Rattle.cjc_world.specs.declared.numbers.Numbers.{Numbers}
use Rattle.cjc_world.specs.declared.spot.ClassPlace.{ClassPlace}
use Rattle.cjc_world.specs.Classes.{Class, classes_from}
use Rattle.cjc_world.specs.Working.Members.{AreIndices}
use Rattle.cjc_world.specs.Working.Numbers.{places_of}
use Rattle.cjc_world.specs.Working.Places.{place_named}
use Rattle.cjc_world.specs.Working.Spots.{at, IsIndexed}

-- the place that is noted for a name
abbrev pub place_in : Names → List ℕ → Option ℕ
place_in n name = get_by (λ k. bytes_eq name k.items) n.places

-- there is a class, and it has the name
abbrev pub is_named : Option Class → List ℕ → Bool
is_named None name = false
is_named (Some c) name = bytes_eq c.name name

-- the place of the first spot of a class of the name
unfoldable pub spot_named : List ClassTree → List ExportTree → List ClassPlace → List ℕ → Option ℕ
spot_named classes exports [] name = None
spot_named classes exports (s ∷ ss) name = if is_named (at classes exports s) name then Some 0
    else option_map suc (spot_named classes exports ss name)

-- The spots are those of all classes, in order, each name is noted at its first class, and each number at the class of
-- its kind; and each class has an index of its members.
pub record IsClassIndex (lines : List FileLine) (classes : List ClassTree) (exports : List ExportTree)
    (spots : List ClassPlace) (names : Names) (numbers : Numbers) (indices : List MemberIndex) : Type 0 where
  pub indexed : IsIndexed lines classes exports spots
  pub named : (name : List ℕ) → place_in names name ≡ place_named (classes_from classes exports 0 0 0 lines) name
  pub declared : numbers.declared ≡ places_of false 0 spots
  pub imported : numbers.imported ≡ places_of true 0 spots
  pub members : AreIndices (classes_from classes exports 0 0 0 lines) indices
