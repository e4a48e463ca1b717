-- What the export files of packages say of public and protected methods that can be selected and stand above a class or
-- interface: where each that they list is declared, and that each is listed.
use Rattle.std.specs.Prelude.{◌≡◌, ◌⊎◌, ◌++◌, ℕ, Bool, List, Some, false, slice_get, true}
use Rattle.cjc_bytes.specs.AccessFlags.{is_abstract, is_interface}
use Rattle.cjc_components.specs.ExportFile.{export_class}
use Rattle.cjc_components.specs.Exports.{exported_classes}
use Rattle.cjc_components.specs.Package.{Package, world}
use Rattle.cjc_jvm_semantics.specs.Group.{is_exposed, is_open, own_where}
use Rattle.cjc_jvm_semantics.specs.OnePackage.{ResolvedMember, is_constructor, is_initialiser, method_hit}
use Rattle.cjc_world.specs.Classes.{Class, Member as WorldMember, all_classes, class_named}
use Rattle.cjc_world.specs.ExportFile.declared.tree.ExportClass.{ExportClass}
use Rattle.cjc_world.specs.ExportFile.declared.tree.ExportMethod.{ExportMethod}
use Rattle.cjc_world.specs.Files.{Files}
use Rattle.cjc_world.specs.Lookup.{first, is_selectable, object}
use Rattle.cjc_world.specs.Supertypes.{Above, Lists, line}
use Rattle.cjc_world.specs.Upwards.{Below, OnLine}
use Rattle.cjc_world.specs.declared.found.Found.{Found}
use Rattle.cjc_joint_proof.specs.Worlds.{outside_classes}
use Rattle.cjc_joint_theorem.specs.Members.{Member, files_of}
use Rattle.cjc_joint_theorem.specs.Together.Homes.{joint_world}

-- An export file lists a public or protected method of this name and descriptor that can be selected.
pub record HasOpenEntry (methods : List ExportMethod) (name desc : List ℕ) : Type 0 where
  pub place : ℕ
  pub entry : ExportMethod
  pub there : slice_get methods place ≡ Some entry
  pub has_name : entry.name ≡ name
  pub has_desc : entry.desc ≡ desc
  pub opened : is_open entry.flags ≡ true

-- A public or protected method of this name and descriptor that can be selected, which the class of a name declares or
-- a class or interface above it.
pub record IsDeclaredAbove (w : List Class) (x name desc : List ℕ) : Type 0 where
  pub class : Class
  pub named : class_named w class.name ≡ Some class
  pub below : Below w x class.name
  pub place : ℕ
  pub method : WorldMember
  pub there : slice_get class.methods place ≡ Some method
  pub has_name : method.name ≡ name
  pub has_desc : method.desc ≡ desc
  pub opened : is_open method.flags ≡ true

-- It is the method with these flags, of a class of this kind, or one of an interface, where these are the flags of an
-- abstract one.
abbrev pub IsOfKind : {w : List Class} {x name desc : List ℕ} → IsDeclaredAbove w x name desc → (flags : ℕ)
    → (interface : Bool) → Type 0
IsOfKind d flags interface = let c = d.class in let m = d.method in
    ((m.flags ≡ flags) × (is_interface c.flags ≡ interface))
    ⊎ ((is_interface c.flags ≡ true) × (is_abstract flags ≡ true))

-- Each such method that the export file lists of a class or interface is declared above it, of an interface by one.
abbrev pub ListedAreAbove : Package → Type 0
ListedAreAbove p = (k i : ℕ) (c : Class) (e : ExportMethod) → slice_get (exported_classes p) k ≡ Some c
    → (let x = export_class p c in slice_get x.methods i ≡ Some e) → is_open e.flags ≡ true
    → is_constructor e.name ≡ false → (d : IsDeclaredAbove (world p) c.name e.name e.desc)
    × IsOfKind d e.flags (is_interface c.flags)

-- Each that is declared above a class or interface is listed, of an interface each of an interface.
abbrev pub AboveAreListed : Package → Type 0
AboveAreListed p = (k : ℕ) (c : Class) (name desc : List ℕ) → slice_get (exported_classes p) k ≡ Some c
    → is_constructor name ≡ false → (d : IsDeclaredAbove (world p) c.name name desc)
    → (is_interface c.flags ≡ true → (let x = d.class in is_interface x.flags) ≡ true)
    → (let x = export_class p c in HasOpenEntry x.methods name desc)

-- Each that an interface or one above it declares is listed of the interface.
abbrev pub FacesListAbove : Package → Type 0
FacesListAbove p = (k : ℕ) (c : Class) (name desc : List ℕ) → slice_get (exported_classes p) k ≡ Some c
    → is_interface c.flags ≡ true → is_constructor name ≡ false → (d : IsDeclaredAbove (world p) c.name name desc)
    → (let x = d.class in is_interface x.flags) ≡ true → (let x = export_class p c in HasOpenEntry x.methods name desc)

-- The class declares a public or protected method of this name and descriptor that can be selected.
pub record HasOpenMethod (c : Class) (name desc : List ℕ) : Type 0 where
  pub place : ℕ
  pub method : WorldMember
  pub there : slice_get c.methods place ≡ Some method
  pub has_name : method.name ≡ name
  pub has_desc : method.desc ≡ desc
  pub opened : is_open method.flags ≡ true

-- ---- what is asked of the files of a group that no rule tests

-- Classes and interfaces from outside list what interfaces above them have, as export files list what is inherited: no
-- rule compares the export files of several packages from outside.
abbrev pub OutsideListsAbove : List Files → Type 0
OutsideListsAbove group = (k n i : ℕ) (e z : ExportClass) (m : ExportMethod)
    → slice_get (outside_classes group) k ≡ Some e → slice_get (outside_classes group) n ≡ Some z
    → is_interface z.flags ≡ true → Above (joint_world group) e.name z.name → slice_get z.methods i ≡ Some m
    → is_open m.flags ≡ true → HasOpenEntry e.methods m.name m.desc

-- What stands above a class from outside is known to each package that knows the class, where the group knows it: 203
-- is of class files alone.
abbrev pub AboveIsKnown : List Files → Type 0
AboveIsKnown group = (q k : ℕ) (p : Files) (e : ExportClass) (c d : Class) (y : List ℕ) → slice_get group q ≡ Some p
    → slice_get (outside_classes group) k ≡ Some e → class_named (all_classes p) e.name ≡ Some c
    → Lists y (e.supers ++ e.interfaces) → class_named (joint_world group) y ≡ Some d → (b : Class)
    × (class_named (all_classes p) y ≡ Some b)

-- Where a class from outside or one above it lists a method that can be selected, the nearest public or protected one
-- of its name and descriptor can be selected, too: 306 is of class files alone.
abbrev pub OutsideKeepsKinds : List Files → Type 0
OutsideKeepsKinds group = (k i : ℕ) (e : ExportClass) (d : Class) (n : WorldMember) (f : Found) (h : ResolvedMember)
    → slice_get (outside_classes group) k ≡ Some e → is_interface e.flags ≡ false
    → OnLine (joint_world group) e.name d → slice_get d.methods i ≡ Some n → is_open n.flags ≡ true
    → is_constructor n.name ≡ false → is_initialiser n.name ≡ false
    → first (own_where is_exposed n.name n.desc) (line (joint_world group) e.name) ≡ Some f
    → method_hit (joint_world group) f ≡ Some h → is_selectable h.flags ≡ true

-- Where an abstract class of a package gets a method of an interface, the nearest public or protected method of that
-- name and descriptor on the line of the class, if there is one, is not static: 306 is of what class files declare, and
-- 307 of classes that are not abstract.
abbrev pub AbstractsKeepKinds : List Files → Type 0
AbstractsKeepKinds group = (c z : Class) (i : ℕ) (n : WorldMember) (f : Found) (h : ResolvedMember)
    → class_named (joint_world group) c.name ≡ Some c → c.is_imported ≡ false → is_interface c.flags ≡ false
    → is_abstract c.flags ≡ true → class_named (joint_world group) z.name ≡ Some z → is_interface z.flags ≡ true
    → Below (joint_world group) c.name z.name → slice_get z.methods i ≡ Some n → is_open n.flags ≡ true
    → first (own_where is_exposed n.name n.desc) (line (joint_world group) c.name) ≡ Some f
    → method_hit (joint_world group) f ≡ Some h → is_selectable h.flags ≡ true

-- An interface of a package that inherits from an interface a method which java/lang/Object has, too, declares it
-- again: else a call by that interface would find the one of java/lang/Object, which is of no interface, and no rule
-- tests it.
abbrev pub FacesDeclareAgain : List Files → Type 0
FacesDeclareAgain group = (c z o : Class) (i j : ℕ) (n m : WorldMember)
    → class_named (joint_world group) c.name ≡ Some c → c.is_imported ≡ false → is_interface c.flags ≡ true
    → class_named (joint_world group) z.name ≡ Some z → is_interface z.flags ≡ true
    → Above (joint_world group) c.name z.name → slice_get z.methods i ≡ Some n → is_open n.flags ≡ true
    → class_named (joint_world group) object ≡ Some o → slice_get o.methods j ≡ Some m → is_exposed m.flags ≡ true
    → m.name ≡ n.name → m.desc ≡ n.desc → HasOpenMethod c n.name n.desc

-- What stands above classes and interfaces of a group is told.
pub record IsToldAbove (members : List Member) : Type 0 where
  pub asked : OutsideListsAbove (files_of members)
  pub known : AboveIsKnown (files_of members)
  pub outside : OutsideKeepsKinds (files_of members)
  pub abstracts : AbstractsKeepKinds (files_of members)
  pub objects : FacesDeclareAgain (files_of members)
