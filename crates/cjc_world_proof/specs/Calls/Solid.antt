-- What the files of a package keep to, so that calls and scripts find methods with code.
use Rattle.std.specs.Prelude.{◌≡◌, ◌⊎◌, ℕ, List, true, false, slice_get, Some}
use Rattle.cjc_bytes.specs.AccessFlags.{is_abstract, is_interface, is_private, is_static}
use Rattle.cjc_world.specs.ClassFile.Code.{CodeTree}
use Rattle.cjc_world.specs.ClassFile.declared.tree.ClassTree.{ClassTree}
use Rattle.cjc_world.specs.ClassFile.declared.tree.FieldTree.{FieldTree}
use Rattle.cjc_world.specs.ClassFile.declared.tree.MethodTree.{MethodTree}
use Rattle.cjc_world.specs.declared.found.Found.{Found}
use Rattle.cjc_world.specs.Classes.{Class, Member, all_classes, class_at, class_named, declared}
use Rattle.cjc_world.specs.Files.{Files}
use Rattle.cjc_world.specs.Lookup.{selected}
use Rattle.cjc_world.specs.Subtype.{starts}
use Rattle.cjc_jvm_semantics.specs.OnePackage.{ResolvedMember, is_constructor, is_initialiser, method_hit}
use Rattle.cjc_world.specs.Upwards.{Below, IsOrdered, OnLine}

-- A method of a class file.
pub record IsOwn (files : Files) (class : ClassTree) (method : MethodTree) : Type 0 where
  pub number : ℕ
  pub place : ℕ
  pub is_class : slice_get files.classes number ≡ Some class
  pub is_method : slice_get class.methods place ≡ Some method

-- What selection on a class gives is no abstract method.
pub record HasCode (w : List Class) (x name desc : List ℕ) : Type 0 where
  pub place : Found
  pub hit : ResolvedMember
  pub found : selected w x name desc ≡ Some place
  pub is_hit : method_hit w place ≡ Some hit
  pub is_concrete : is_abstract hit.flags ≡ false

-- a class of the package of which objects may be
pub record IsConcrete (c : Class) : Type 0 where
  pub own : c.is_imported ≡ false
  pub no_interface : is_interface c.flags ≡ false
  pub no_abstract : is_abstract c.flags ≡ false

-- names find the classes of their numbers, methods that are not abstract have code, fields of interfaces are static,
-- and a class of which objects may be has code for all that its supers ask for
pub record IsSolid (files : Files) : Type 0 where
  pub ordered : IsOrdered (all_classes files)
  -- a class that is found by its name is the one of its number, of the package one of the class files, and no array
  pub numbered : (x : List ℕ) (c : Class) → class_named (all_classes files) x ≡ Some c
      → class_at (all_classes files) c.is_imported c.number ≡ Some c
  pub own : (x : List ℕ) (c : Class) → class_named (all_classes files) x ≡ Some c → c.is_imported ≡ false
      → (t : ClassTree) × (slice_get files.classes c.number ≡ Some t) × (c ≡ declared c.number t)
  pub plain : (x : List ℕ) (c : Class) → class_named (all_classes files) x ≡ Some c → starts 91 x ≡ false
  -- a method that is not abstract has code; an abstract one is neither static nor private, and no constructor (304)
  pub coded : (class : ClassTree) (method : MethodTree) → IsOwn files class method → is_abstract method.flags ≡ false
      → (tree : CodeTree) × (method.code ≡ Some tree)
  pub bound : (class : ClassTree) (method : MethodTree) → IsOwn files class method → is_abstract method.flags ≡ true
      → (is_static method.flags ≡ false) × (is_private method.flags ≡ false) × (is_constructor method.name ≡ false)
  -- a field of an interface is static (304)
  pub fields : (n k : ℕ) (class : ClassTree) (f : FieldTree) → slice_get files.classes n ≡ Some class
      → slice_get class.fields k ≡ Some f → is_interface class.flags ≡ true → is_static f.flags ≡ true
  -- where objects may be of a class, its superclasses and superinterfaces ask for no method that it has no code for
  -- (307)
  pub implemented : (x : List ℕ) (c d : Class) (i : ℕ) (m : Member) → class_named (all_classes files) x ≡ Some c
      → IsConcrete c → class_named (all_classes files) d.name ≡ Some d → OnLine (all_classes files) x d
      ⊎ (Below (all_classes files) x d.name × (is_interface d.flags ≡ true))
      → slice_get d.methods i ≡ Some m → (is_abstract m.flags ≡ true) ⊎ (is_interface d.flags ≡ true)
      → is_initialiser m.name ≡ false → HasCode (all_classes files) x m.name m.desc
