-- Components belong to class files: they have as many classes, methods and static cells (Java Card Virtual Machine
-- Specification 2.2.2, sections
-- 6.8, 6.10 and 6.13). It is tested where components are consistent, and is the last of the sentences on components.
use Rattle.std.specs.Prelude.{◌≡◌, ℕ, ◌+◌, List, [], ◌∷◌, ◌++◌, map, length, sum_by, Bool, ◌==◌, ◌&&◌}
use Rattle.cjc_list.specs.Bytes.Breaks.{Break}
use Rattle.cjc_capwrite.specs.CapRead.declared.tree.ClassInfo.{ClassInfo}
use Rattle.cjc_capwrite.specs.CapRead.declared.tree.ClassDescriptor.{ClassDescriptor}
use Rattle.cjc_capwrite.specs.CapRead.declared.tree.Descriptor.{Descriptor}
use Rattle.cjc_capwrite.specs.CapRead.declared.tree.StaticField.{StaticField}
use Rattle.cjc_components.specs.Statics.{size_of_field}
use Rattle.cjc_check_rules.specs.Complete.{Complete, described_size}
use Rattle.cjc_check_rules.specs.Consistent.{break_at}
use Rattle.cjc_check_rules.specs.declared.spot.ComponentPlace.{ComponentPlace}
use Rattle.cjc_check_rules.specs.Spots.{in_info, unless, beside}
use Rattle.cjc_clinit.specs.World.declared.image.StaticImage.{StaticImage}
use Rattle.cjc_clinit.specs.World.Classes.{Class, all_classes}
use Rattle.cjc_clinit.specs.World.Files.{Files}
use Rattle.cjc_clinit.specs.World.Order.{class_order, methods_of_class}

-- how many class and interface infos there are
abbrev pub info_count : ClassInfo → ℕ
info_count c = length c.interfaces + length c.classes

-- As many infos as the package has classes and interfaces. Broken is the number of classes in Descriptor.
abbrev pub count_spots : List Class → ClassInfo → List ComponentPlace
count_spots w c = unless (info_count c == length (class_order w)) (in_info 11 0)

-- a class with the methods that its class file gives it, those that are added to it counted; broken is the number of
-- its methods
abbrev pub methods_spots : List Class → (at : ℕ) → ClassDescriptor → Class → List ComponentPlace
methods_spots w at d c = unless (length d.methods == length (methods_of_class w c)) (in_info 11 (at + 7))

-- Each class has as many methods as the package gives it, in the order of classes. They stand behind their number, of
-- one byte.
abbrev pub method_spots : List Class → Descriptor → List ComponentPlace
method_spots w d = beside described_size (methods_spots w) 1 d.classes (class_order w)

-- the bytes of all cells of numbers
abbrev pub number_bytes : StaticImage → ℕ
number_bytes image = sum_by size_of_field image.zeros + sum_by (λ v. size_of_field v.field) image.others

-- the reference cells are arrays and null, and numbers have as many bytes
abbrev pub has_cells : StaticImage → StaticField → Bool
has_cells image s =
    (s.reference_count == length image.arrays + length image.nulls) && (s.default_value_count + length s.values ==
    number_bytes image)

-- The static cells have the package's sizes. Broken is the size of the image.
abbrev pub cell_spots : StaticImage → StaticField → List ComponentPlace
cell_spots image s = unless (has_cells image s) (in_info 8 0)

-- the first of several
abbrev pub head_of : List ComponentPlace → List ComponentPlace
head_of [] = []
head_of (s ∷ spots) = s ∷ []

-- Where components are not of the package: the first of these by the order of components and then of offsets, so
-- StaticField before Descriptor, and there the number of classes before those of methods.
abbrev pub pair_spots : Files → StaticImage → Complete → List ComponentPlace
pair_spots files image c =
    head_of (
    cell_spots image c.statics
    ++ (count_spots (all_classes files) c.class ++ method_spots (all_classes files) c.descriptor))

-- 719. The numbers of classes, methods and static cells are the package's.
abbrev pub pair_breaks : Files → StaticImage → Complete → List Break
pair_breaks files image c = map (break_at 719) (pair_spots files image c)

-- The components are of this package.
abbrev pub ArePaired : Files → StaticImage → Complete → Type 0
ArePaired files image c = pair_spots files image c ≡ []
