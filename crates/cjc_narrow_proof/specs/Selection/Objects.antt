-- What rows on new arrays and objects and on types ask of the look-ups of both sides.
use Rattle.std.specs.Prelude.{◌≡◌, ℕ, List, Option, Some, Bool, true, false}
use Rattle.std.specs.List.{list_all}
use Rattle.cjc_bytes.specs.declared.fault.MemberId.{MemberId}
use Rattle.cjc_script.specs.declared.value.Value.{Value}
use Rattle.cjc_script.specs.Sorts.{Shape, OfClass, Sort, NoValue, field_sort, shape_name, shape_named}
use Rattle.cjc_ncode.specs.ByLabel.{Named}
use Rattle.cjc_narrow_proof.specs.Selection.Relation.{HasArrays}
use Rattle.cjc_jvm_semantics.specs.Linked.{Method, Linked}
use Rattle.cjc_jvm_semantics.specs.Effects.{Store}
use Rattle.cjc_jvm_semantics.specs.Effects as by_name

-- the class that holds the code of a method
abbrev pub class_of : Method → List ℕ
class_of m = let id = m.id in id.class

-- ---- new arrays and objects

-- a type of which values are
abbrev pub has_values : Sort → Bool
has_values NoValue = false
has_values _ = true

-- the descriptor is a type that a field can have
abbrev pub is_field : MemberId → Bool
is_field f = has_values (field_sort f.desc)

-- Objects of the class are made, with the same fields on both sides.
pub record IsMade (by : Linked) (l : Named) (m : Method) (class : List ℕ) : Type 0 where
  pub fields : List MemberId
  pub by_name : by.made (class_of m) class ≡ Some fields
  pub narrow : l.fields class ≡ Some fields
  pub are_fields : list_all is_field fields ≡ true

-- A class that some file has is named by its own name, and so are its arrays.
pub record IsClassThere (by : Linked) (l : Named) (m : Method) (class : List ℕ) : Type 0 where
  pub is_name : shape_named class ≡ Some (OfClass class)
  pub is_there : by.is_there (Some (class_of m)) class ≡ true
  pub arrays : HasArrays l class

-- ---- types

-- A type that some file has, or an array of numbers, of which the same types are on both sides.
pub record IsTypeThere (by : Linked) (l : Named) (m : Method) (type : List ℕ) : Type 0 where
  pub kind : Shape (List ℕ)
  pub is_name : shape_named type ≡ Some kind
  pub is_there : (at : ℕ) (locals : List (Option Value)) (store : Store)
      → by_name.is_type by m at locals store (Some kind) ≡ true
  pub tells : (of : Shape (List ℕ)) → by.subtype (Some (class_of m)) (shape_name of) type ≡ l.is_of of kind
