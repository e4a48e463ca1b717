-- What stands above a class by the class files and export files, and by class infos and export trees.
use Rattle.std.specs.Prelude.{◌≡◌, ℕ, List, ◌++◌, map, Some, None, Bool, true, false, is_some, option_to_list}
use Rattle.std.specs.Prelude.{if◌then◌else◌}
use Rattle.cjc_world.specs.ExportFile.declared.tree.ExportClass.{ExportClass}
use Rattle.cjc_script.specs.Sorts.{Shape, OfClass, OfNumbers, OfReferences, shape_name}
use Rattle.cjc_card_semantics.specs.Bytecode.Renaming.{shape_as}
use Rattle.cjc_card_semantics.specs.Machine.Classes.{Own, External, Info, is_in, is_of, info_of, info_supers, external}
use Rattle.cjc_card_semantics.specs.Machine.Classes.{external_named, object_class, object_above, supers}
use Rattle.cjc_card_semantics.specs.Machine.Classes as card
use Rattle.cjc_world.specs.Classes.{Class, class_named}
use Rattle.cjc_world.specs.Supertypes.{Lists, Above}
use Rattle.cjc_world.specs.Lookup.{object}
use Rattle.cjc_world.specs.Subtype.{is_subtype, starts}
use Rattle.cjc_ncode.specs.Lowering.Naming.{Naming, IsClass}

-- some file has a class of this name
abbrev pub has_class : List Class → List ℕ → Bool
has_class w x = is_some (class_named w x)

-- the class of a type is in some file
abbrev pub HasShape : List Class → Shape (List ℕ) → Type 0
HasShape w (OfClass c) = has_class w c ≡ true
HasShape w (OfNumbers element) = Unit {0}
HasShape w (OfReferences c) = has_class w c ≡ true

-- a super of a class that its info lists, or that each interface has without being listed
pub data IsToldOf (n : Naming) (info : Info) (listed : List (List ℕ)) : List ℕ → Type 0 where
  listed_there : {y : List ℕ} → Lists y listed → IsToldOf n info listed y
  above_each : object_above n.loaded (Some info) ≡ option_to_list (object_class n.loaded)
      → IsToldOf n info listed object

-- The supers of a class on the card: of the package, the class_refs of its info are those of classes that stand above
-- it, its superclass and
-- each interface that it lists among them; of an export file, those that the file lists.
pub data SaysSupers (w : List Class) (n : Naming) (x : List ℕ) (c : Class) : Type 0 where
  of_package : (offset : ℕ) (info : Info) (listed : List (List ℕ)) → n.class x ≡ Own n.part offset
      → info_of n.loaded n.part offset ≡ Some info → info_supers info ≡ map n.class_ref listed
      → ((y : List ℕ) → IsToldOf n info listed y → (has_class w y ≡ true) × Above w x y)
      → ((y : List ℕ) → Lists y (c.supers ++ c.interfaces) → has_class w y ≡ true → IsToldOf n info listed y)
      → SaysSupers w n x c
  of_file : (tree token : ℕ) (e : ExportClass) → n.class x ≡ External tree token → external n.loaded tree token ≡ Some e
      → e.supers ≡ c.supers → e.interfaces ≡ c.interfaces
      → ((y : List ℕ) → Lists y (c.supers ++ c.interfaces) → external_named n.loaded y ≡ (if has_class w y
      then Some (n.class y) else None))
      → SaysSupers w n x c

-- Class infos and export files say of each class what stands above it, and two names are never one class.
pub record SaysKinds (w : List Class) (n : Naming) : Type 0 where
  pub class_ref : (y : List ℕ) → has_class w y ≡ true → IsClass n y
  pub object_there : has_class w object ≡ true
  pub object_class : object_class n.loaded ≡ Some (n.class object)
  pub once : (x y : List ℕ) → has_class w x ≡ true → has_class w y ≡ true → n.class x ≡ n.class y → x ≡ y
  pub no_array : (x : List ℕ) → has_class w x ≡ true → starts 91 x ≡ false
  pub supers : (x : List ℕ) (c : Class) → class_named w x ≡ Some c → SaysSupers w n x c

-- A class that some file has, which is this one on the card, and which stands above another by name.
pub record IsAboveByName (w : List Class) (n : Naming) (x : List ℕ) (b : card.Class) : Type 0 where
  pub name : List ℕ
  pub there : has_class w name ≡ true
  pub is : n.class name ≡ b
  pub above : Above w x name

-- What a class lists stands directly above it on the card, and what stands directly above it there stands above it by
-- name, wherever the class is: in one of several packages, or in an export file; and two names are never one class.
pub record SaysSteps (w : List Class) (n : Naming) : Type 0 where
  pub object_there : has_class w object ≡ true
  pub object_class : object_class n.loaded ≡ Some (n.class object)
  pub once : (x y : List ℕ) → has_class w x ≡ true → has_class w y ≡ true → n.class x ≡ n.class y → x ≡ y
  pub no_array : (x : List ℕ) → has_class w x ≡ true → starts 91 x ≡ false
  pub up : (x y : List ℕ) (c : Class) → class_named w x ≡ Some c → Lists y (c.supers ++ c.interfaces)
      → has_class w y ≡ true → is_in (n.class y) (supers n.loaded (n.class x)) ≡ true
  pub down : (x : List ℕ) (c : Class) (b : card.Class) → class_named w x ≡ Some c
      → is_in b (supers n.loaded (n.class x)) ≡ true → IsAboveByName w n x b

-- A type is of another by token where it is a subtype by name.
abbrev pub KindsAgree : List Class → Naming → Type 0
KindsAgree w n = (a b : Shape (List ℕ)) → HasShape w a → HasShape w b
    → is_of n.loaded (shape_as n.class a) (shape_as n.class b) ≡ is_subtype w (shape_name a) (shape_name b)
