-- The first of several places, which stand in their order.
use Rattle.std.specs.Prelude.{◌≡◌, ℕ, ◌+◌, ◌==◌, List, ◌++◌, length, map, option_map, option_to_list, Option}
use Rattle.cjc_card_link.specs.Bytes.Breaks.{RulePlace as Place}
use Rattle.cjc_card_link.specs.Bytes.declared.breaks.Break.{Break}
use Rattle.cjc_card_link.specs.Bytes.declared.order.FileKey.TheVariants as keys
use Rattle.cjc_card_link.specs.Bytes.Refused.{in_file}
use Rattle.cjc_card_link.specs.Bytes.Told.{break_of}
use Rattle.cjc_card_link.specs.LowerCapRead.declared.tree.ClassDescriptor.{ClassDescriptor}
use Rattle.cjc_classes.specs.LowerComponents.Paired.Pairs.{cell_spots, count_spots, head_of, method_spots}
use Rattle.cjc_classes.specs.CheckRules.Complete.{Complete}
use Rattle.cjc_classes.specs.CheckRules.Consistent.{break_at}
use Rattle.cjc_classes.specs.CheckRules.declared.spot.ComponentPlace.{ComponentPlace}
use Rattle.cjc_classes.specs.CheckRules.Spots.{in_info, unless}
use Rattle.cjc_card_link.specs.World.declared.image.StaticImage.{StaticImage}
use Rattle.cjc_card_link.specs.World.Classes.{all_classes}
use Rattle.cjc_card_link.specs.World.Files.{Files}

-- the break at the head of some places, none where there is no place
abbrev pub IsHead : List ComponentPlace → Option Break → Type 0
IsHead spots b = option_to_list (option_map break_of b) ≡ map (break_at 719) (head_of spots)

-- an offset of the info of a component, by its tag and the name of its file
abbrev pub place_in : (component : ℕ) → (file : List ℕ) → (at : ℕ) → Place
place_in component file at = record {
  file = keys.Component component;
  class = 0;
  member = 0;
  place = in_file file (3 + at);
}

-- the number of methods of a class that begins at an offset of Descriptor, where it has not so many
abbrev pub count_spots_at : (at : ℕ) → ClassDescriptor → (count : ℕ) → List ComponentPlace
count_spots_at at d count = unless (length d.methods == count) (in_info 11 (at + 7))

-- all places where components are not of a package, in their order
abbrev pub all_spots : Files → StaticImage → Complete → List ComponentPlace
all_spots files image c =
    cell_spots image c.statics
    ++ (count_spots (all_classes files) c.class ++ method_spots (all_classes files) c.descriptor)
