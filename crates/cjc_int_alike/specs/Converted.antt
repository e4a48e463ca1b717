-- What is asked of a package, some of whose methods are in int mode, so that its class files and the narrow code that
-- is written by modes run alike.
use Rattle.std.specs.Prelude.{◌≡◌, ℕ, Bool, true, false, List, slice_get, Some, None}
use Rattle.std.specs.List.{AllByRecursion}
use Rattle.cjc_bytes.specs.Descriptor.{IsClassName}
use Rattle.cjc_bytes.specs.declared.fault.MemberId.{MemberId}
use Rattle.cjc_code.specs.declared.insn.JInsn.{JInsn}
use Rattle.cjc_script.specs.Sorts.{Shape, Reference, shape_name}
use Rattle.cjc_world.specs.Classes.{Class, all_classes, class_named}
use Rattle.cjc_world.specs.Files.{Files}
use Rattle.cjc_world.specs.Subtype.{is_subtype}
use Rattle.cjc_world.specs.declared.image.StaticImage.{StaticImage}
use Rattle.cjc_types.specs.Fixpoint.Tables.{HasRow}
use Rattle.cjc_types.specs.Search.{cells_of}
use Rattle.cjc_types.specs.declared.state.State.{State}
use Rattle.cjc_jvm_semantics.specs.Effects.{Fault, exception_class}
use Rattle.cjc_jvm_semantics.specs.Linked.{Method}
use Rattle.cjc_jvm_semantics.specs.OnePackage.{entry_named, sent_named}
use Rattle.cjc_narrow_proof.specs.Runs.Converted.{IsException, IsFirst}
use Rattle.cjc_narrow_proof.specs.Runs.Tables.{HasTables, Tables}
use Rattle.cjc_narrow_proof.specs.Runs.Types.{IsThere}
use Rattle.cjc_narrow_proof.specs.Selection.Relation.{IsMadeOf}
use Rattle.cjc_narrow_proof.specs.Tables.Calls.{types_of}
use Rattle.cjc_int_alike.specs.ByModes.{HasIntTables, look_ups_by_mode}
use Rattle.cjc_int_alike.specs.Calls.{IsIntDesc}
use Rattle.cjc_int_alike.specs.Named.{IsIntNamed, IsOneWord}
use Rattle.cjc_int_alike.specs.Reached.{IsBegunIn}

module _ (files : Files) (image : StaticImage) (near : List MemberId) (tables : Tables) (is_int : Method → Bool) where
  -- A member of a script: its parameters are of types of some values that are there, and methods of the package are
  -- begun, on objects of the classes that declare them.
  pub record IsIntMember (id : MemberId) : Type 0 where
    pub desc : IsIntDesc id.desc
    pub known : AllByRecursion (λ type. (kind : Shape (List ℕ)) → type ≡ Reference kind
        → IsThere (all_classes files) kind) (let types = types_of id.desc in types.params)
    pub is_called : (m : Method) → entry_named files (all_classes files) id ≡ Some m
        → IsBegunIn files image near tables is_int false id.desc m
    pub is_sent : (kind : Shape (List ℕ)) (m : Method)
        → IsMadeOf (look_ups_by_mode files image near tables is_int) kind
        → sent_named files (all_classes files) (shape_name kind) id ≡ Some m
        → IsBegunIn files image near tables is_int true id.desc m
    pub receives : (kind : Shape (List ℕ)) (m : Method)
        → IsMadeOf (look_ups_by_mode files image near tables is_int) kind
        → sent_named files (all_classes files) (shape_name kind) id ≡ Some m
        → is_subtype (all_classes files) (shape_name kind) (let id = m.id in id.class) ≡ true

  -- It is one of these, or no method is found for it, on no type of which something may be there.
  pub data IsFoundByMode (id : MemberId) : Type 0 where
    no_method : entry_named files (all_classes files) id ≡ None
        → ((kind : Shape (List ℕ)) → IsMadeOf (look_ups_by_mode files image near tables is_int) kind
        → sent_named files (all_classes files) (shape_name kind) id ≡ None) → IsFoundByMode id
    a_member : IsIntMember id → IsFoundByMode id

  -- Methods in int mode have least tables that break none of their rules, and so have the others, where they are
  -- reached, of the rules that bind them. Classes have names of classes, and the machine's own exceptions are imported.
  -- What code and scripts name is found in the class files and export files, and has one word where the code is not in
  -- int mode; and what the image says is of sound types.
  pub record IsNarrowedByModes : Type 0 where
    pub int_methods : (m : Method) → is_int m ≡ true → HasIntTables files tables m
    pub others : (m : Method) (at : ℕ) (t : State) → is_int m ≡ false → HasRow (tables.types m) at t
        → HasTables files tables m
    pub names : (name : List ℕ) (c : Class) → class_named (all_classes files) name ≡ Some c → IsClassName name
    pub exceptions : (fault : Fault) → IsException (all_classes files) (exception_class fault)
    pub named : (m : Method) (at : ℕ) (i : JInsn) (t : State) → slice_get m.insns at ≡ Some i
        → HasRow (tables.types m) at t → IsIntNamed files image near tables is_int m (cells_of t.stack) i.op
    pub one_word : (m : Method) (at : ℕ) (i : JInsn) (t : State) → is_int m ≡ false → slice_get m.insns at ≡ Some i
        → HasRow (tables.types m) at t → IsOneWord i.op
    pub scripted : (id : MemberId) → IsFoundByMode id
    pub first : IsFirst (look_ups_by_mode files image near tables is_int) files image
