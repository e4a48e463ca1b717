-- What the classes of a package that extend those of a library keep where a new version of the library's export file
-- stands in the place of the old one: the tokens of their virtual methods (Java Card Virtual Machine Specification
-- 2.2.2, sections 4.3.7.6, 4.4 and 4.5).
use Rattle.std.specs.Prelude.{◌≡◌, ℕ, ◌+◌, Bool, true, false, ◌++◌, length, set, slice_get, Option, Some}
use Rattle.cjc_world.specs.Bytes.AccessFlags.{is_final, is_interface}
use Rattle.cjc_world.specs.ClassFile.declared.tree.ClassTree.{ClassTree}
use Rattle.cjc_compat.specs.ExportFile.Supers.{is_virtual}
use Rattle.cjc_compat.specs.ExportFile.declared.tree.ExportClass.{ExportClass}
use Rattle.cjc_compat.specs.ExportFile.declared.tree.ExportMethod.{ExportMethod}
use Rattle.cjc_compat.specs.ExportFile.declared.tree.ExportTree.{ExportTree}
use Rattle.cjc_world.specs.Files.{Files}
use Rattle.cjc_world.specs.Classes.{Class, Member, all_classes, declared, imported, method_of_export}
use Rattle.cjc_world.specs.Supertypes.{Lists, supertypes}
use Rattle.cjc_world.specs.Added.{added, asked_by}
use Rattle.cjc_world.specs.Lookup.{member_at}
use Rattle.cjc_world.specs.Upwards.{Has, OnLine}
use Rattle.cjc_tokens.specs.Members as members
use Rattle.cjc_tokens.specs.Members.{Signature, signature_of, is_initialiser, is_shown}
use Rattle.cjc_tokens.specs.Tokens.{assigned, token_of_member}

-- the files of a package where this export file stands at a place among those of the package
abbrev pub with_export : Files → (place : ℕ) → ExportTree → Files
with_export files place tree = record {
  package_name = files.package_name;
  lines = files.lines;
  classes = files.classes;
  exports = set files.exports place tree;
}

-- ---- what the new version may add

-- a class of the old version, and the one of its name in the new version
abbrev pub AreVersions : (old new : ExportTree) → (c d : ExportClass) → Type 0
AreVersions old new c d = Has c old.classes × Has d new.classes × (d.name ≡ c.name)

-- A class of the package that is no interface declares a method of this name and descriptor, or one of the interfaces
-- that such a class has does.
pub data Declares (files : Files) : Signature → Type 0 where
  by_class : (n : ℕ) (c : ClassTree) → slice_get files.classes n ≡ Some c → is_interface c.flags ≡ false → (m : Member)
      → Has m (declared n c).methods → Declares files (signature_of m)
  by_interface : (n : ℕ) (c : ClassTree) → slice_get files.classes n ≡ Some c → is_interface c.flags ≡ false
      → (m : Member) → Has m (asked_by (supertypes (all_classes files) (declared n c).supers)
      (supertypes (all_classes files) (declared n c).interfaces)) → Declares files (signature_of m)

-- Nothing that a package with these files knows of is new in the new version: above each old class stands what stood
-- there, each old method has its flags, and of what is added nothing is named.
pub record AddsUnknown (files : Files) (old new : ExportTree) : Type 0 where
  -- An old class has just the supers and the interfaces that it had, in their order.
  pub supers : (c d : ExportClass) → AreVersions old new c d → d.supers ≡ c.supers
  pub interfaces : (c d : ExportClass) → AreVersions old new c d → d.interfaces ≡ c.interfaces
  -- An old method has the access flags that it had.
  pub flags : (c d : ExportClass) → AreVersions old new c d → (m n : ExportMethod) → Has m c.methods
      → Has n d.methods → n.name ≡ m.name → n.desc ≡ m.desc → n.flags ≡ m.flags
  -- No old class gets a method that a class of the package declares, or an interface that such a class has.
  pub methods : (c d : ExportClass) → AreVersions old new c d → (n : ExportMethod) → Has n d.methods
      → Declares files (signature_of (method_of_export n)) → (m : ExportMethod) × Has m c.methods
      × (m.name ≡ n.name) × (m.desc ≡ n.desc)
  -- No class is new that the old version or another export file of the package lists above a class.
  pub classes : (d : ExportClass) → Has d new.classes → (t : ExportTree) → Has t files.exports → (c : ExportClass)
      → Has c t.classes → Lists d.name (c.supers ++ c.interfaces) → (b : ExportClass) × Has b old.classes
      × (b.name ≡ d.name)

-- ---- what the package may extend

-- No class of the package that is no interface extends a final class of the old version, over whatever steps.
abbrev pub ExtendsNoFinal : Files → (old : ExportTree) → Type 0
ExtendsNoFinal files old = (n : ℕ) (c : ClassTree) → slice_get files.classes n ≡ Some c → is_interface c.flags ≡ false
    → (number : ℕ) (b : ExportClass) → Has b old.classes → OnLine (all_classes files) c.name (imported number b)
    → is_final b.flags ≡ false

-- No virtual method of the export file is named <clinit>. Such a one would count for the greatest token of its class,
-- and no class has it.
abbrev pub ListsNoInitialiser : ExportTree → Type 0
ListsNoInitialiser tree = (c : ExportClass) → Has c tree.classes → (m : ExportMethod) → Has m c.methods
    → is_virtual m ≡ true → is_initialiser m.name ≡ false

-- A method that the package declares has one token in all classes of export files above a class of the package.
abbrev pub HasOneToken : Files → Type 0
HasOneToken files = (n : ℕ) (c : ClassTree) → slice_get files.classes n ≡ Some c → is_interface c.flags ≡ false
    → (a b : Class) (l m : Member) → OnLine (all_classes files) c.name a → OnLine (all_classes files) c.name b
    → a.is_imported ≡ true → b.is_imported ≡ true → Has l a.methods → Has m b.methods → is_shown l ≡ true
    → is_shown m ≡ true → signature_of l ≡ signature_of m → Declares files (signature_of l) → l.token ≡ m.token

-- ---- what a class of the package keeps

-- the token of the method at a place among those that a class of the package declares and, behind them, those that it
-- gets from its interfaces
abbrev pub method_token : (applets : Bool) → Files → (class : ℕ) → ClassTree → (place : ℕ) → Option ℕ
method_token applets files n c place = token_of_member (assigned applets files) (member_at (declared n c)
    (length c.fields + place))

-- With both files the class gets the same methods from its interfaces, and each virtual method, new or overriding, has
-- the same token.
pub record KeepsTokens (applets : Bool) (before after : Files) (n : ℕ) (c : ClassTree) : Type 0 where
  pub given : added (all_classes after) (declared n c) ≡ added (all_classes before) (declared n c)
  pub own_tokens : (place : ℕ) (m : Member) → slice_get (declared n c).methods place ≡ Some m
      → members.is_virtual m ≡ true → method_token applets after n c place ≡ method_token applets before n c place
  pub given_tokens : (place : ℕ) (m : Member) → slice_get (added (all_classes before) (declared n c)) place ≡ Some m
      → method_token applets after n c (length c.methods + place) ≡ method_token applets before n c
      (length c.methods + place)
