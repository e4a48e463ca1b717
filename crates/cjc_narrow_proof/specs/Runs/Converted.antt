-- What is asked of a package so that its class files and the narrow code that is written for them run alike.
use Rattle.std.specs.Prelude.{◌≡◌, ◌≤◌, ℕ, true, false, List, [], length, codes, Some, None}
use Rattle.std.specs.List.{All, AllByRecursion}
use Rattle.cjc_bytes.specs.Descriptor.{IsClassName}
use Rattle.cjc_bytes.specs.declared.fault.MemberId.{MemberId}
use Rattle.cjc_range.specs.Span.{Holds}
use Rattle.cjc_types.specs.Fixpoint.Tables.{HasRow}
use Rattle.cjc_script.specs.Sorts.{Shape, Reference, array_of, array_name, shape_name}
use Rattle.cjc_world.specs.Classes.{Class, class_named}
use Rattle.cjc_world.specs.Files.{Files}
use Rattle.cjc_world.specs.Classes.{all_classes}
use Rattle.cjc_world.specs.Subtype.{is_subtype}
use Rattle.cjc_world.specs.declared.image.ArrayCell.{ArrayCell}
use Rattle.cjc_world.specs.declared.image.StaticImage.{StaticImage}
use Rattle.cjc_types.specs.declared.state.State.{State}
use Rattle.cjc_ncode.specs.ByLabel.{Named}
use Rattle.cjc_jvm_semantics.specs.Linked.{Method}
use Rattle.cjc_jvm_semantics.specs.Effects.{Fault, exception_class}
use Rattle.cjc_jvm_semantics.specs.OnePackage.{is_plain_import, entry_named, sent_named, array_desc}
use Rattle.cjc_narrow_proof.specs.Selection.Relation.{IsMadeOf, element_range, SlotsFit}
use Rattle.cjc_narrow_proof.specs.Tables.Calls.{IsWordDesc, types_of}
use Rattle.cjc_narrow.specs.Rows.Package.{element_of_kind, first_memory}
use Rattle.cjc_narrow_proof.specs.Runs.Tables.{Tables, look_ups, HasTables}
use Rattle.cjc_narrow_proof.specs.Runs.Types.{IsThere}
use Rattle.cjc_narrow_proof.specs.Runs.Begun.{IsBegun}
use Rattle.cjc_narrow_proof.specs.Runs.Names.{AreNamed}

-- An imported class, no interface, that is a java/lang/Throwable.
pub record IsException (w : List Class) (class : List ℕ) : Type 0 where
  pub imported : is_plain_import (class_named w class) ≡ true
  pub throwable : is_subtype w class (codes "java/lang/Throwable") ≡ true

-- ---- what scripts name

-- A member of a script: its parameters are one word each, of types that are there, and methods of the package are
-- begun, on objects of the
-- classes that declare them.
pub record IsMember (files : Files) (l : Named) (tables : Tables) (id : MemberId) : Type 0 where
  pub desc : IsWordDesc id.desc
  pub known : AllByRecursion (λ type. (kind : Shape (List ℕ)) → type ≡ Reference kind
      → IsThere (all_classes files) kind) (let types = types_of id.desc in types.params)
  pub is_called : (m : Method) → entry_named files (all_classes files) id ≡ Some m
      → IsBegun files tables false id.desc m
  pub is_sent : (kind : Shape (List ℕ)) (m : Method) → IsMadeOf l kind
      → sent_named files (all_classes files) (shape_name kind) id ≡ Some m → IsBegun files tables true id.desc m
  pub receives : (kind : Shape (List ℕ)) (m : Method) → IsMadeOf l kind
      → sent_named files (all_classes files) (shape_name kind) id ≡ Some m
      → is_subtype (all_classes files) (shape_name kind) (let id = m.id in id.class) ≡ true

-- It is one of these, or no method is found for it, on no type of which something may be there.
pub data IsFound (files : Files) (l : Named) (tables : Tables) (id : MemberId) : Type 0 where
  no_method : entry_named files (all_classes files) id ≡ None
      → ((kind : Shape (List ℕ)) → IsMadeOf l kind → sent_named files (all_classes files) (shape_name kind) id ≡ None)
      → IsFound files l tables id
  a_member : IsMember files l tables id → IsFound files l tables id

-- ---- what the image says

-- An array of the image: of so many numbers of a type that arrays of numbers have.
pub record IsFirstArray (a : ArrayCell) : Type 0 where
  pub named : array_desc (array_of a.kind []) ≡ array_name (element_of_kind a.kind)
  pub few : length a.items ≤ 32767
  pub held : All (Holds (element_range (element_of_kind a.kind))) a.items

-- Its arrays are such, and each static cell holds what its descriptor says.
pub record IsFirst (l : Named) (files : Files) (image : StaticImage) : Type 0 where
  pub arrays : AllByRecursion IsFirstArray image.arrays
  pub cells : (let memory = first_memory files image in SlotsFit l memory.heap memory.statics)

-- ---- a package

-- Methods with a reached instruction have least tables that break no rule, classes have names of classes, and the
-- machine's own exceptions are
-- imported. What code and scripts name is found in the class files and export files, and what the image says is of
-- sound types.
pub record IsConverted (files : Files) (image : StaticImage) (near : List MemberId) (tables : Tables) : Type 0 where
  pub methods : (m : Method) (at : ℕ) (t : State) → HasRow (tables.types m) at t → HasTables files tables m
  pub names : (name : List ℕ) (c : Class) → class_named (all_classes files) name ≡ Some c → IsClassName name
  pub exceptions : (fault : Fault) → IsException (all_classes files) (exception_class fault)
  pub named : (m : Method) → HasTables files tables m → AreNamed files image near tables m
  pub scripted : (id : MemberId) → IsFound files (look_ups files image near tables) tables id
  pub first : IsFirst (look_ups files image near tables) files image
