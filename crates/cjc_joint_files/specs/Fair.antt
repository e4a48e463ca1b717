-- What is asked of the files of a group that no rule tests: of export files from outside, beside what each package asks
-- of its own, and of interfaces.
use Rattle.std.specs.Prelude.{◌≡◌, ◌++◌, ℕ, List, Some, false, slice_get, true}
use Rattle.cjc_bytes.specs.AccessFlags.{is_interface}
use Rattle.cjc_components.specs.Package.{Package, world}
use Rattle.cjc_joint_proof.specs.JointPackages.{files_together}
use Rattle.cjc_joint_proof.specs.JointTables.{world_together}
use Rattle.cjc_joint_proof.specs.Worlds.{AreApartFromOutside, outside_classes}
use Rattle.cjc_joint_whole.specs.Above.{ImportsKeepKinds}
use Rattle.cjc_joint_whole.specs.Told.{AbstractsKeepKinds, FacesDeclareAgain, OutsideListsAbove}
use Rattle.cjc_jvm_semantics.specs.OnePackage.{is_initialiser}
use Rattle.cjc_tokens.specs.Members.{is_exposed}
use Rattle.cjc_world.specs.Classes.{Class, Member, class_named}
use Rattle.cjc_world.specs.ExportFile.declared.tree.ExportClass.{ExportClass}
use Rattle.cjc_world.specs.ExportFile.declared.tree.ExportMethod.{ExportMethod}
use Rattle.cjc_world.specs.Supertypes.{Lists}

-- Fair files of a group.
pub record AreFairTogether (packages : List Package) : Type 0 where
  -- No class is listed in two export files from outside, or in one and in a package: 201 and 202 are of what one
  -- package imports.
  pub outside : AreApartFromOutside (files_together packages)
  -- A class from outside lists classes as superclasses and interfaces as interfaces, also where no package imports
  -- both: 208 is of what one package imports.
  pub supers : (n : ℕ) (e : ExportClass) (s : List ℕ) (d : Class)
      → slice_get (outside_classes (files_together packages)) n ≡ Some e → Lists s e.supers
      → class_named (world_together packages) s ≡ Some d → is_interface d.flags ≡ false
  pub interfaces : (n : ℕ) (e : ExportClass) (i : List ℕ) (d : Class)
      → slice_get (outside_classes (files_together packages)) n ≡ Some e → Lists i e.interfaces
      → class_named (world_together packages) i ≡ Some d → is_interface d.flags ≡ true
  -- Each method that an export file from outside lists is public or protected (Java Card Virtual Machine Specification
  -- 2.2.2, section 5.9): no rule tests it, and what is converted lists no other.
  pub exposed : (k i : ℕ) (e : ExportClass) (m : ExportMethod)
      → slice_get (outside_classes (files_together packages)) k ≡ Some e → slice_get e.methods i ≡ Some m
      → is_exposed m.flags ≡ true
  -- What an export file from outside lists above a class is known to each package that knows the class, where the group
  -- knows it: 203 is of class files alone.
  pub told : (q k : ℕ) (p : Package) (e : ExportClass) (c d : Class) (y : List ℕ) → slice_get packages q ≡ Some p
      → slice_get (outside_classes (files_together packages)) k ≡ Some e → class_named (world p) e.name ≡ Some c
      → Lists y (e.supers ++ e.interfaces) → class_named (world_together packages) y ≡ Some d → (b : Class)
      × (class_named (world p) y ≡ Some b)
  -- What export files list of a class at which selection may end is found there so: 306, by which no private or static
  -- method hides one, is of class files alone.
  pub kinds : (q : ℕ) (p : Package) → slice_get packages q ≡ Some p → ImportsKeepKinds p
  -- Methods of interfaces are public (Java Virtual Machine Specification, section 4.6), but for initialisers: no rule
  -- tests it, since in one package nothing depends on it.
  pub open_interfaces : (q k : ℕ) (p : Package) (x : List ℕ) (i : Class) (m : Member) → slice_get packages q ≡ Some p
      → class_named (world p) x ≡ Some i → is_interface i.flags ≡ true → slice_get i.methods k ≡ Some m
      → is_initialiser m.name ≡ false → is_exposed m.flags ≡ true
  -- Classes and interfaces from outside list what interfaces above them have, as export files list what is inherited:
  -- no rule compares the export files of several packages from outside.
  pub inherited : OutsideListsAbove (files_together packages)
  -- Where an abstract class of a package gets a method of an interface, the nearest public or protected method of that
  -- name and descriptor on the line of the class, if there is one, is not static: 306 is of what class files declare,
  -- and 307 of classes that are not abstract.
  pub abstracts : AbstractsKeepKinds (files_together packages)
  -- An interface of a package that inherits from an interface a method which java/lang/Object has, too, declares it
  -- again: else a call by that interface would find the one of java/lang/Object, which is of no interface, and no rule
  -- tests it.
  pub objects : FacesDeclareAgain (files_together packages)
