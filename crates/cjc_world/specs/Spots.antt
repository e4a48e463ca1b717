-- Where the world keeps its classes.
use Rattle.std.specs.Prelude.{◌≡◌, ◌<◌, ◌+◌, ◌^◌, List, [], ◌∷◌, ◌++◌, length, slice_get, All, if◌then◌else◌, Option, option_map, option_and_then, option_to_list}
use Rattle.cjc_world.specs.declared.spot.Spot.{Spot}
use Rattle.cjc_world.specs.Files.{Files}
use Rattle.cjc_world.specs.Classes.{Class, declared, imported, all_classes}

-- the class that a spot means
abbrev pub at : Files → Spot → Option Class
at files s =
    if s.imported
    then option_map (λ c. imported s.number c) (option_and_then (λ t. slice_get t.classes s.class) (slice_get files.exports s.tree))
    else option_map (λ c. declared s.number c) (slice_get files.classes s.tree)

-- the classes of these spots
abbrev pub stood : Files → List Spot → List Class
stood files [] = []
stood files (s ∷ ss) = option_to_list (at files s) ++ stood files ss

-- 32 bits count the members of a class.
abbrev pub IsCounted : Class → Type 0
IsCounted c = length c.fields + length c.methods < 2 ^ 32

-- The spots are those of all classes, in order.
pub record IsIndexed (files : Files) (spots : List Spot) : Type 0 where
  pub all : stood files spots ≡ all_classes files
  pub count : length spots ≡ length (all_classes files)
  pub few : length spots < 2 ^ 32
  pub counted : All IsCounted (all_classes files)
