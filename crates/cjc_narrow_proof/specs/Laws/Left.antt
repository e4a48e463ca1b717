-- What is asked of a package that breaks no rule of names, types and limits, so that its narrow code runs as its class
-- files: its tables, and what is not
-- shown of its rules yet.
use Rattle.std.specs.Prelude.{◌≡◌, ◌<◌, ◌^◌, ℕ, false, true, List, length, Some}
use Rattle.std.specs.List.{Contains}
use Rattle.cjc_bytes.specs.Descriptor.{Parts}
use Rattle.cjc_bytes.specs.Spots.{desc_of}
use Rattle.cjc_bytes.specs.declared.fault.MemberId.{MemberId}
use Rattle.cjc_code.specs.ClassFile.Code.{CodeTree}
use Rattle.cjc_code.specs.ClassFile.declared.tree.ClassTree.{ClassTree}
use Rattle.cjc_code.specs.ClassFile.declared.tree.MethodTree.{MethodTree}
use Rattle.cjc_code.specs.declared.method_code.MethodCode.{MethodCode}
use Rattle.cjc_types.specs.Fixpoint.Tables.{HasRow}
use Rattle.cjc_jvm_semantics.specs.Effects.{Fault, exception_class}
use Rattle.cjc_jvm_semantics.specs.Linked.{Method}
use Rattle.cjc_jvm_semantics.specs.OnePackage.{is_initialiser, method_by}
use Rattle.cjc_narrow.specs.Rows.Resolved.{constant_named}
use Rattle.cjc_narrow_proof.specs.Runs.Converted.{IsException, IsFirst, IsFound}
use Rattle.cjc_narrow_proof.specs.Runs.Names.{AreNamed}
use Rattle.cjc_narrow_proof.specs.Runs.Tables.{HasTables, Tables, look_ups}
use Rattle.cjc_intervals.specs.Tables.{IsLeastRanges, Passes}
use Rattle.cjc_types.specs.declared.state.State.{State}
use Rattle.cjc_types.specs.declared.table.TypeTable.{TypeTable}
use Rattle.cjc_types.specs.Flow.{body_of}
use Rattle.cjc_types.specs.Tables.{IsMethodOf, IsTypeTable, rows_of}
use Rattle.cjc_world.specs.Classes.{all_classes}
use Rattle.cjc_world.specs.Files.{Files}
use Rattle.cjc_world.specs.declared.image.StaticImage.{StaticImage}

-- As a class file gives a method: its descriptor is a method's, which 32 bits count, and its code has an instruction.
pub record IsReadMethod (code : MethodCode) (method : MethodTree) : Type 0 where
  pub types : Parts
  pub is_desc : desc_of method.desc ≡ Some types
  pub is_method : types.is_method ≡ true
  pub short : length method.desc < 2 ^ 32
  pub some : 0 < length code.insns

-- A method of the package, no initialiser, whose type table is the least one, as inference answers it, which breaks
-- none of 501 to 503, and whose intervals are the least over it and break none of 601 to 609.
pub record HasLeast (files : Files) (codes : List MethodCode) (tables : Tables) (m : Method) : Type 0 where
  pub code : MethodCode
  pub class : ClassTree
  pub method : MethodTree
  pub tree : CodeTree
  pub of_package : IsMethodOf files code class method tree
  pub written : is_initialiser method.name ≡ false
  pub listed : Contains codes code
  pub read : IsReadMethod code method
  pub is : m ≡ method_by class method (Some tree)
  pub table : TypeTable
  pub is_table : IsTypeTable (all_classes files) (body_of class method tree code.insns) table
  pub types : tables.types m ≡ rows_of (body_of class method tree code.insns) table
  pub ranges : IsLeastRanges (body_of class method tree code.insns) (constant_named files (all_classes files))
      (tables.types m) (tables.ranges m)
  pub passes : Passes (body_of class method tree code.insns) (tables.types m) (tables.ranges m)

-- Each method with a reached instruction has such tables; and beside: the machine's own exceptions are imported, what
-- instructions and scripts name is in the
-- class files and export files, and what the image says is of sound types.
pub record IsLeft (files : Files) (image : StaticImage) (near : List MemberId) (codes : List MethodCode)
    (tables : Tables) : Type 0 where
  pub tabled : (m : Method) (at : ℕ) (t : State) → HasRow (tables.types m) at t → HasLeast files codes tables m
  pub exceptions : (fault : Fault) → IsException (all_classes files) (exception_class fault)
  pub named : (m : Method) → HasTables files tables m → AreNamed files image near tables m
  pub scripted : (id : MemberId) → IsFound files (look_ups files image near tables) tables id
  pub first : IsFirst (look_ups files image near tables) files image
