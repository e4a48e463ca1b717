-- The places of a world's classes in its files, and which class each means.
use Rattle.std.specs.Prelude.{ℕ, zero, suc, true, ◌≡◌, ◌<◌, ◌+◌, ◌^◌, List, [], ◌∷◌, ◌++◌, length, slice_get, All}
use Rattle.std.specs.Prelude.{if◌then◌else◌, Option, option_map, option_and_then, option_to_list}
use Rattle.cjc_bytes.specs.declared.settings.FileLine.{FileLine}
use Rattle.cjc_classfile.specs.declared.tree.ClassTree.{ClassTree}
use Rattle.cjc_export.specs.declared.tree.ExportTree.{ExportTree}
use Rattle.cjc_world.specs.declared.spot.ClassPlace.{ClassPlace}
use Rattle.cjc_world.specs.Classes.{Class, declared, imported, classes_from}

-- the class that a spot means
abbrev pub at : List ClassTree → List ExportTree → ClassPlace → Option Class
at classes exports s =
    if s.imported
    then option_map (λ c. imported s.number c) (option_and_then (λ t. slice_get t.classes s.class)
    (slice_get exports s.tree))
    else option_map (λ c. declared s.number c) (slice_get classes s.tree)

-- the classes of these spots
abbrev pub stood : List ClassTree → List ExportTree → List ClassPlace → List Class
stood classes exports [] = []
stood classes exports (s ∷ ss) = option_to_list (at classes exports s) ++ stood classes exports ss

-- so many spots of classes of an export file, from one of its classes on
unfoldable pub spots_from : (export_file number class count : ℕ) → List ClassPlace
spots_from e i p zero = []
spots_from e i p (suc n) = record { imported = true; tree = e; class = p; number = i + p } ∷ spots_from e i (p + 1) n

-- 32 bits count the members of a class.
abbrev pub IsCounted : Class → Type 0
IsCounted c = length c.fields + length c.methods < 2 ^ 32

-- These classes were put at the end.
pub record Grows (classes : List ClassTree) (exports : List ExportTree) (old new : List ClassPlace)
    (more : List Class) : Type 0 where
  pub all : stood classes exports new ≡ stood classes exports old ++ more
  pub count : length new ≡ length old + length more
  pub counted : All IsCounted more

-- The spots are those of all classes, in order.
pub record IsIndexed (lines : List FileLine) (classes : List ClassTree) (exports : List ExportTree)
    (spots : List ClassPlace) : Type 0 where
  pub all : stood classes exports spots ≡ classes_from classes exports 0 0 0 lines
  pub count : length spots ≡ length (classes_from classes exports 0 0 0 lines)
  pub few : length spots < 2 ^ 32
  pub counted : All IsCounted (classes_from classes exports 0 0 0 lines)
