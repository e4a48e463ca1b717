-- What is asked of several packages so that their class files and the narrow code that is written for them run alike
-- together.
use Rattle.std.specs.Prelude.{◌≡◌, ℕ, true, false, List, Some, None}
use Rattle.std.specs.List.{AllByRecursion}
use Rattle.cjc_bytes.specs.Descriptor.{IsClassName}
use Rattle.cjc_bytes.specs.declared.fault.MemberId.{MemberId}
use Rattle.cjc_types.specs.Fixpoint.Tables.{HasRow}
use Rattle.cjc_script.specs.Sorts.{Shape, Reference, shape_name}
use Rattle.cjc_world.specs.Classes.{Class, class_named}
use Rattle.cjc_world.specs.Files.{Files}
use Rattle.cjc_world.specs.Subtype.{is_subtype}
use Rattle.cjc_world.specs.declared.image.StaticImage.{StaticImage}
use Rattle.cjc_types.specs.declared.state.State.{State}
use Rattle.cjc_ncode.specs.ByLabel.{Named}
use Rattle.cjc_jvm_semantics.specs.Linked.{Method}
use Rattle.cjc_jvm_semantics.specs.Effects.{Fault, exception_class}
use Rattle.cjc_jvm_semantics.specs.OnePackage.{entry_named}
use Rattle.cjc_jvm_semantics.specs.Group.{joint, group_sent}
use Rattle.cjc_narrow_proof.specs.Selection.Relation.{IsMadeOf}
use Rattle.cjc_narrow_proof.specs.Tables.Calls.{IsWordDesc, types_of}
use Rattle.cjc_narrow_proof.specs.Runs.Tables.{Tables}
use Rattle.cjc_narrow_proof.specs.Runs.Types.{IsThere}
use Rattle.cjc_narrow_proof.specs.Runs.Converted.{IsException, IsFirst}
use Rattle.cjc_joint_theorem.specs.Together.Homes.{Homes, joint_world, group_look_ups, HasTablesIn, IsBegunIn}
use Rattle.cjc_joint_theorem.specs.Together.Names.{AreNamedIn}

-- ---- what scripts name

-- A member of a script: its parameters are one word each, of types that are there, and methods of the packages are
-- begun, on objects of the classes that declare them.
pub record IsMemberIn (group : List Files) (l : Named) (homes : Homes) (tables : Tables) (id : MemberId) :
    Type 0 where
  pub desc : IsWordDesc id.desc
  pub known : AllByRecursion (λ type. (kind : Shape (List ℕ)) → type ≡ Reference kind
      → IsThere (joint_world group) kind) (let types = types_of id.desc in types.params)
  pub is_called : (m : Method) → entry_named (joint group) (joint_world group) id ≡ Some m
      → IsBegunIn group homes tables false id.desc m
  pub is_sent : (kind : Shape (List ℕ)) (m : Method) → IsMadeOf l kind
      → group_sent (joint group) (joint_world group) (shape_name kind) id ≡ Some m
      → IsBegunIn group homes tables true id.desc m
  pub receives : (kind : Shape (List ℕ)) (m : Method) → IsMadeOf l kind
      → group_sent (joint group) (joint_world group) (shape_name kind) id ≡ Some m
      → is_subtype (joint_world group) (shape_name kind) (let id = m.id in id.class) ≡ true

-- It is one of these, or no method is found for it, on no type of which something may be there.
pub data IsFoundIn (group : List Files) (l : Named) (homes : Homes) (tables : Tables) (id : MemberId) : Type 0 where
  no_method : entry_named (joint group) (joint_world group) id ≡ None
      → ((kind : Shape (List ℕ)) → IsMadeOf l kind → group_sent (joint group) (joint_world group) (shape_name kind) id
      ≡ None) → IsFoundIn group l homes tables id
  a_member : IsMemberIn group l homes tables id → IsFoundIn group l homes tables id

-- ---- packages

-- Methods with a reached instruction have least tables that break no rule, classes have names of classes, and the
-- machine's own exceptions are imported. What code and scripts name is found in the class files and export files, and
-- what the images say is of sound types.
pub record AreConverted (group : List Files) (image : StaticImage) (homes : Homes) (tables : Tables) : Type 0 where
  pub methods : (m : Method) (at : ℕ) (t : State) → HasRow (tables.types m) at t → HasTablesIn group homes tables m
  pub names : (name : List ℕ) (c : Class) → class_named (joint_world group) name ≡ Some c → IsClassName name
  pub exceptions : (fault : Fault) → IsException (joint_world group) (exception_class fault)
  pub named : (m : Method) → HasTablesIn group homes tables m → AreNamedIn group image homes tables m
  pub scripted : (id : MemberId) → IsFoundIn group (group_look_ups group image homes tables) homes tables id
  pub first : IsFirst (group_look_ups group image homes tables) (joint group) image
