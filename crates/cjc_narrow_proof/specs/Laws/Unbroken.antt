-- Packages that were tested and break no rule.
use Rattle.std.specs.Prelude.{◌≡◌, ◌≤◌, ℕ, List, [], length, slice_get, Some, false}
use Rattle.std.specs.List.{Contains}
use Rattle.cjc_bytes.specs.Descriptor.{IsClassName}
use Rattle.cjc_bytes.specs.declared.settings.Settings.{Settings}
use Rattle.cjc_code.specs.ClassFile.Code.{CodeTree}
use Rattle.cjc_code.specs.ClassFile.declared.tree.ClassTree.{ClassTree}
use Rattle.cjc_code.specs.ClassFile.declared.tree.MethodTree.{MethodTree}
use Rattle.cjc_vtable.specs.LowerClassOrder.Classes.Numbers.{class_count}
use Rattle.cjc_code.specs.declared.insn.JInsn.{JInsn}
use Rattle.cjc_code.specs.declared.insn.JOp.{JOp}
use Rattle.cjc_code.specs.declared.method_code.MethodCode.{MethodCode}
use Rattle.cjc_jvm_semantics.specs.OnePackage.{is_initialiser}
use Rattle.cjc_world.specs.ExportFile.declared.tree.ExportClass.{ExportClass}
use Rattle.cjc_vtable.specs.LowerSubset.Checks.{check_breaks}
use Rattle.cjc_vtable.specs.LowerSubset.Ints.{code_works_on_int}
use Rattle.cjc_vtable.specs.LowerSubset.Members.{imports}
use Rattle.cjc_vtable.specs.LowerSubset.Names.{name_breaks}
use Rattle.cjc_types.specs.Tables.{IsMethodOf}
use Rattle.cjc_world.specs.Files.{Files}
use Rattle.cjc_world.specs.Rules.{breaks}

-- No method of the package with code works on int, but for an initialiser, for which no code is written.
abbrev pub NoneWorksOnInt : Files → List MethodCode → Type 0
NoneWorksOnInt files codes = (code : MethodCode) (class : ClassTree) (method : MethodTree) (tree : CodeTree)
    → Contains codes code → IsMethodOf files code class method tree → is_initialiser method.name ≡ false
    → code_works_on_int files code ≡ false

-- The list names each class file, and the package breaks none of 201 to 208, 301 to 307, 309, 310 and 401 to 409,
-- whichever of its methods work on int.
pub record KeepsNames (list : List ℕ) (files : Files) (codes : List MethodCode) (settings : Settings) : Type 0 where
  pub listed : length files.classes ≤ class_count files.lines
  -- 201 to 204, 207 and 208
  pub world : breaks list files ≡ []
  -- 203, 205 and 206 of instructions and handlers
  pub names : name_breaks files codes ≡ []
  -- the others
  pub checks : check_breaks list files codes settings ≡ []

-- The list names each class file, and the package breaks none of 201 to 208, 301 to 307, 309, 310 and 401 to 409; none
-- of its methods with code that are written works on int.
pub record IsUnbroken (list : List ℕ) (files : Files) (codes : List MethodCode) (settings : Settings) : Type 0 where
  pub listed : length files.classes ≤ class_count files.lines
  -- 201 to 204, 207 and 208
  pub world : breaks list files ≡ []
  -- 203, 205 and 206 of instructions and handlers
  pub names : name_breaks files codes ≡ []
  -- the others
  pub checks : check_breaks list files codes settings ≡ []
  pub no_int : NoneWorksOnInt files codes

-- The name of the package and those of the classes in export files are spelt as a class's name is.
pub record AreSpelt (files : Files) : Type 0 where
  pub package_name : IsClassName files.package_name
  pub exports : (n : ℕ) (c : ExportClass) → slice_get (imports files.exports) n ≡ Some c → IsClassName c.name

-- An instruction of a method of this class, no initialiser, whose code is among these.
pub record IsInsnOf (files : Files) (codes : List MethodCode) (class : ClassTree) (op : JOp) : Type 0 where
  pub code : MethodCode
  pub method : MethodTree
  pub tree : CodeTree
  pub of_package : IsMethodOf files code class method tree
  pub written : is_initialiser method.name ≡ false
  pub listed : Contains codes code
  pub place : ℕ
  pub insn : JInsn
  pub is_insn : slice_get code.insns place ≡ Some insn
  pub is_op : insn.op ≡ op
