-- The methods of a package as their code is selected, by which instance fields have an index of one byte.
use Rattle.std.specs.Prelude.{List, map, Bool}
use Rattle.cjc_types.specs.Bytes.declared.fault.MemberId.{MemberId}
use Rattle.cjc_types.specs.ClassFile.Code.{CodeTree}
use Rattle.cjc_types.specs.ClassFile.declared.tree.ClassTree.{ClassTree}
use Rattle.cjc_types.specs.ClassFile.declared.tree.MethodTree.{MethodTree}
use Rattle.cjc_types.specs.Bytecode.declared.insn.JInsn.{JInsn}
use Rattle.cjc_types.specs.World.Files.{Files}
use Rattle.cjc_ncode.specs.declared.narrow.NMethod.{NMethod}
use Rattle.cjc_narrow.specs.Rows.Selected.{selected_code}
use Rattle.cjc_narrow.specs.Written.Rows.{rows_by}

-- a method with code, and which of its instructions are reached
pub record Selection : Type 0 where
  pub class : ClassTree
  pub method : MethodTree
  pub code : CodeTree
  pub insns : List JInsn
  pub reached : List Bool

-- the narrow code of one, where these instance fields have an index of one byte
abbrev pub code_selected : Files → (near : List MemberId) → Selection → NMethod
code_selected files near s = selected_code files near s.class s.method s.code s.insns (rows_by s.reached)

-- of all
abbrev pub all_selected : Files → (near : List MemberId) → List Selection → List NMethod
all_selected files near methods = map (code_selected files near) methods
