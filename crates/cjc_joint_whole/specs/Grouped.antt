-- What is asked of packages that a group links, for their calls to be selected by token as by name: what is tested of
-- them, what each keeps by itself, and facts of files from outside that no rule asks.
use Rattle.std.specs.Prelude.{◌≡◌, ℕ, List, ◌++◌, Some, false, slice_get, true}
use Rattle.cjc_bytes.specs.AccessFlags.{is_interface}
use Rattle.cjc_components.specs.Package.{Package, world}
use Rattle.cjc_joint_proof.specs.JointPackages.{files_together}
use Rattle.cjc_joint_proof.specs.JointTables.{world_together}
use Rattle.cjc_joint_proof.specs.Worlds.{outside_classes}
use Rattle.cjc_jvm_semantics.specs.OnePackage.{is_initialiser}
use Rattle.cjc_tokens.specs.Members.{is_exposed, is_virtual}
use Rattle.cjc_vtable.specs.Meant.{HaveOneAccess}
use Rattle.cjc_world.specs.Classes.{Class, Member, class_named, method_of_export}
use Rattle.cjc_world.specs.ExportFile.declared.tree.ExportClass.{ExportClass}
use Rattle.cjc_world.specs.ExportFile.declared.tree.ExportMethod.{ExportMethod}
use Rattle.cjc_world.specs.Supertypes.{Lists}
use Rattle.cjc_world.specs.Upwards.{IsOrdered}
use Rattle.cjc_joint_whole.specs.Above.{FindsAbove}
use Rattle.cjc_joint_whole.specs.Faces.{FacesSelect, InterfacesAreKnown}
use Rattle.cjc_joint_whole.specs.Linking.{KeepGroupRules}
use Rattle.cjc_joint_whole.specs.Selected.{SelectsAlone}

-- Files from outside, as packages of a group read them.
pub record OutsideIsFair (packages : List Package) : Type 0 where
  -- A class lists classes as superclasses and interfaces as interfaces. No rule asks it where no package imports both:
  -- 208 is of what one package imports.
  pub supers : (n : ℕ) (e : ExportClass) (s : List ℕ) (d : Class)
      → slice_get (outside_classes (files_together packages)) n ≡ Some e → Lists s e.supers
      → class_named (world_together packages) s ≡ Some d → is_interface d.flags ≡ false
  pub interfaces : (n : ℕ) (e : ExportClass) (i : List ℕ) (d : Class)
      → slice_get (outside_classes (files_together packages)) n ≡ Some e → Lists i e.interfaces
      → class_named (world_together packages) i ≡ Some d → is_interface d.flags ≡ true
  -- Virtual methods of classes are public or protected. No rule asks it of export files: what `convert` writes lists no
  -- other.
  pub exposed : (k i : ℕ) (e : ExportClass) (m : ExportMethod)
      → slice_get (outside_classes (files_together packages)) k ≡ Some e → is_interface e.flags ≡ false
      → slice_get e.methods i ≡ Some m → is_virtual (method_of_export m) ≡ true → is_exposed m.flags ≡ true
  -- What stands above a class is known to each package that knows the class, where the group knows it. No rule asks it,
  -- since 203 is of class files alone.
  pub told : (q k : ℕ) (p : Package) (e : ExportClass) (c d : Class) (y : List ℕ) → slice_get packages q ≡ Some p
      → slice_get (outside_classes (files_together packages)) k ≡ Some e → class_named (world p) e.name ≡ Some c
      → Lists y (e.supers ++ e.interfaces) → class_named (world_together packages) y ≡ Some d → (b : Class)
      × (class_named (world p) y ≡ Some b)

-- Methods of interfaces are public or protected, but for their initialisers. No rule asks it: the Java Virtual Machine
-- Specification (section 4.6) has them public.
abbrev pub InterfacesAreOpen : List Package → Type 0
InterfacesAreOpen packages = (q k : ℕ) (p : Package) (x : List ℕ) (i : Class) (m : Member) → slice_get packages q
    ≡ Some p → class_named (world p) x ≡ Some i → is_interface i.flags ≡ true → slice_get i.methods k ≡ Some m
    → is_initialiser m.name ≡ false → is_exposed m.flags ≡ true

-- Packages that link, each of which runs by itself and has its classes in order, over such files.
pub record AreGrouped (packages : List Package) : Type 0 where
  pub keeps : KeepGroupRules packages
  pub each : (q : ℕ) (p : Package) → slice_get packages q ≡ Some p → SelectsAlone p
  pub above : (q : ℕ) (p : Package) → slice_get packages q ≡ Some p → FindsAbove p
  pub ordered : (q : ℕ) (p : Package) → slice_get packages q ≡ Some p → IsOrdered (world p)
  pub fair : OutsideIsFair packages
  pub open_interfaces : InterfacesAreOpen packages
  -- What the code of each calls by invokeinterface it finds by itself, and no method is private beside public or
  -- protected.
  pub faces : (q : ℕ) (p : Package) → slice_get packages q ≡ Some p → FacesSelect p
  pub access : (q : ℕ) (p : Package) → slice_get packages q ≡ Some p → HaveOneAccess (world p)
  pub known : InterfacesAreKnown packages
