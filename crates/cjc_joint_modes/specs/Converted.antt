-- What is asked of several packages, some of whose methods are in int mode, so that their class files and the narrow
-- code that is written for them by modes run alike together.
use Rattle.std.specs.Prelude.{◌≡◌, ℕ, Bool, true, false, List, slice_get, Some, None}
use Rattle.std.specs.List.{AllByRecursion}
use Rattle.cjc_bytes.specs.Descriptor.{IsClassName}
use Rattle.cjc_bytes.specs.declared.fault.MemberId.{MemberId}
use Rattle.cjc_code.specs.declared.insn.JInsn.{JInsn}
use Rattle.cjc_types.specs.Fixpoint.Tables.{HasRow}
use Rattle.cjc_script.specs.Sorts.{Shape, Reference, shape_name}
use Rattle.cjc_world.specs.Classes.{Class, class_named}
use Rattle.cjc_world.specs.Files.{Files}
use Rattle.cjc_world.specs.Subtype.{is_subtype}
use Rattle.cjc_world.specs.declared.image.StaticImage.{StaticImage}
use Rattle.cjc_types.specs.declared.state.State.{State}
use Rattle.cjc_ncode.specs.ByLabel.{Named}
use Rattle.cjc_jvm_semantics.specs.Linked.{Method}
use Rattle.cjc_jvm_semantics.specs.Effects.{Fault, exception_class}
use Rattle.cjc_jvm_semantics.specs.OnePackage.{entry_named}
use Rattle.cjc_jvm_semantics.specs.Group.{joint, group_sent}
use Rattle.cjc_narrow_proof.specs.Selection.Relation.{IsMadeOf}
use Rattle.cjc_narrow_proof.specs.Tables.Calls.{types_of}
use Rattle.cjc_narrow_proof.specs.Runs.Tables.{Tables}
use Rattle.cjc_narrow_proof.specs.Runs.Types.{IsThere}
use Rattle.cjc_narrow_proof.specs.Runs.Converted.{IsException, IsFirst}
use Rattle.cjc_int_alike.specs.Calls.{IsIntDesc}
use Rattle.cjc_int_alike.specs.Named.{IsOneWord}
use Rattle.cjc_joint_theorem.specs.Together.Homes.{Homes, joint_world, HasTablesIn}
use Rattle.cjc_joint_modes.specs.Codes.{group_look_ups_by_mode, HasIntTablesIn, HasTablesByMode, IsBegunByModeIn}
use Rattle.cjc_joint_modes.specs.Names.{AreIntNamedIn}

-- ---- what scripts name

module _ (group : List Files) (l : Named) (homes : Homes) (tables : Tables) (is_int : Method → Bool)
    (id : MemberId) where
  -- A member of a script: its parameters are of types of some values that are there, and methods of the packages are
  -- begun, on objects of the classes that declare them.
  pub record IsIntMemberIn : Type 0 where
    pub desc : IsIntDesc id.desc
    pub known : AllByRecursion (λ type. (kind : Shape (List ℕ)) → type ≡ Reference kind
        → IsThere (joint_world group) kind) (let types = types_of id.desc in types.params)
    pub is_called : (m : Method) → entry_named (joint group) (joint_world group) id ≡ Some m
        → IsBegunByModeIn group homes tables is_int false id.desc m
    pub is_sent : (kind : Shape (List ℕ)) (m : Method) → IsMadeOf l kind
        → group_sent (joint group) (joint_world group) (shape_name kind) id ≡ Some m
        → IsBegunByModeIn group homes tables is_int true id.desc m
    pub receives : (kind : Shape (List ℕ)) (m : Method) → IsMadeOf l kind
        → group_sent (joint group) (joint_world group) (shape_name kind) id ≡ Some m
        → is_subtype (joint_world group) (shape_name kind) (let n = m.id in n.class) ≡ true

  -- It is one of these, or no method is found for it, on no type of which something may be there.
  pub data IsFoundByModeIn : Type 0 where
    no_method : entry_named (joint group) (joint_world group) id ≡ None
        → ((kind : Shape (List ℕ)) → IsMadeOf l kind → group_sent (joint group) (joint_world group) (shape_name kind) id
        ≡ None) → IsFoundByModeIn
    a_member : IsIntMemberIn → IsFoundByModeIn

-- ---- packages

-- Methods in int mode have least tables that break none of their rules, and so have the others, where they are reached,
-- of the rules that bind them. Classes have names of classes, and the machine's own exceptions are imported. What code
-- and scripts name is found in the class files and export files, and has one word where the code is not in int mode;
-- and what the images say is of sound types.
pub record AreConvertedByModes (group : List Files) (image : StaticImage) (homes : Homes) (tables : Tables)
    (is_int : Method → Bool) : Type 0 where
  pub int_methods : (m : Method) → is_int m ≡ true → HasIntTablesIn group homes tables m
  pub others : (m : Method) (at : ℕ) (t : State) → is_int m ≡ false → HasRow (tables.types m) at t
      → HasTablesIn group homes tables m
  pub names : (name : List ℕ) (c : Class) → class_named (joint_world group) name ≡ Some c → IsClassName name
  pub exceptions : (fault : Fault) → IsException (joint_world group) (exception_class fault)
  pub named : (m : Method) → HasTablesByMode group homes tables is_int m
      → AreIntNamedIn group image homes tables is_int m
  pub one_word : (m : Method) → HasTablesIn group homes tables m → is_int m ≡ false → (at : ℕ) (i : JInsn) (t : State)
      → slice_get m.insns at ≡ Some i → HasRow (tables.types m) at t → IsOneWord i.op
  pub scripted : (id : MemberId) → IsFoundByModeIn group (group_look_ups_by_mode group image homes tables is_int) homes
      tables is_int id
  pub first : IsFirst (group_look_ups_by_mode group image homes tables is_int) (joint group) image
