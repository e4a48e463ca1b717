-- The classes of several packages together, and what the packages keep by themselves and with one another so that each
-- of them is found there.
use Rattle.std.specs.Prelude.{◌≡◌, ℕ, zero, suc, ◌+◌, List, [], ◌∷◌, length, flat_map, true, false, Some}
use Rattle.std.specs.Prelude.{slice_get}
use Rattle.cjc_exported.specs.ClassFile.declared.tree.ClassTree.{ClassTree}
use Rattle.cjc_card_semantics.specs.ExportFile.declared.tree.ExportClass.{ExportClass}
use Rattle.cjc_card_semantics.specs.ExportFile.declared.tree.ExportTree.{ExportTree}
use Rattle.cjc_exported.specs.World.Classes.{all_classes, class_at, class_named, declared, imported}
use Rattle.cjc_exported.specs.World.Files.{Files}
use Rattle.cjc_exported.specs.World.Rules.{is_of_package}
use Rattle.cjc_exported.specs.World.declared.found.Found.{Found}
use Rattle.cjc_link_semantics.specs.JvmSemantics.Group.{joint_exports}
use Rattle.cjc_link_semantics.specs.JvmSemantics.OnePackage.{ResolvedMember}

-- how many class files stand before those of the package at a place
abbrev pub before : (group : List Files) → (place : ℕ) → ℕ
before [] i = 0
before (p ∷ group) zero = 0
before (p ∷ group) (suc i) = length p.classes + before group i

-- the classes of the export files from outside
abbrev pub outside_classes : (group : List Files) → List ExportClass
outside_classes group = flat_map (λ (t : ExportTree). t.classes) (joint_exports group)

-- A class file of a package of the group.
pub record IsOwn (group : List Files) (i k : ℕ) (p : Files) (c : ClassTree) : Type 0 where
  pub member : slice_get group i ≡ Some p
  pub file : slice_get p.classes k ≡ Some c

-- Packages differ by their names, a class's name is the package's and one part more, and a class stands in one file.
pub record AreApart (group : List Files) : Type 0 where
  pub names : (i j : ℕ) (p m : Files) → slice_get group i ≡ Some p → slice_get group j ≡ Some m
      → p.package_name ≡ m.package_name → i ≡ j
  pub own : (i k : ℕ) (p : Files) (c : ClassTree) → IsOwn group i k p c → is_of_package p.package_name c.name ≡ true
  pub once : (i k n : ℕ) (p : Files) (c d : ClassTree) → IsOwn group i k p c → IsOwn group i n p d → c.name ≡ d.name
      → k ≡ n

-- Of the classes of export files from outside none has the name of another, or of a class of the group.
pub record AreApartFromOutside (group : List Files) : Type 0 where
  pub once : (k n : ℕ) (c d : ExportClass) → slice_get (outside_classes group) k ≡ Some c
      → slice_get (outside_classes group) n ≡ Some d → c.name ≡ d.name → k ≡ n
  pub no_own : (i k n : ℕ) (p : Files) (c : ClassTree) (d : ExportClass) → IsOwn group i k p c
      → slice_get (outside_classes group) n ≡ Some d → d.name ≡ c.name → ⊥

-- a member of a class file of this number
abbrev pub own_member : (class member : ℕ) → Found
own_member k m = record { imported = false; class = k; member = m }

-- what is found in a class file of a package, in the joint world, where so many class files stand before the package's
abbrev pub found_in : (before : ℕ) → Found → Found
found_in n f = record f { class = n + f.class }

-- the same with its class and its flags
abbrev pub hit_in : (before : ℕ) → ResolvedMember → ResolvedMember
hit_in n hit = let owner = hit.owner in record hit { owner = record owner { number = n + owner.number } }

-- The list of a package names a class file, and the package has no earlier class of its name.
pub record IsListed (p : Files) (k : ℕ) (c : ClassTree) : Type 0 where
  pub number : class_at (all_classes p) false k ≡ Some (declared k c)
  pub name : class_named (all_classes p) c.name ≡ Some (declared k c)

-- what is found in a class, where that has this number
abbrev pub found_at : (number : ℕ) → Found → Found
found_at n f = record f { class = n }

-- the same with its class and its flags
abbrev pub hit_at : (number : ℕ) → ResolvedMember → ResolvedMember
hit_at n hit = let owner = hit.owner in record hit { owner = record owner { number = n } }

-- a class of an export file, by its number among those that the package imports
abbrev pub IsForeign : (p : Files) (number : ℕ) → ExportClass → Type 0
IsForeign p k e = class_at (all_classes p) true k ≡ Some (imported k e)
