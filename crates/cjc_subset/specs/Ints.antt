-- What works on int, beside what names it alone.
use Rattle.std.specs.Prelude.{ℕ, List, Bool, false, ◌||◌, ◌==◌, slice_get, Option, Some, None}
use Rattle.std.specs.List.{list_any}
use Rattle.cjc_code.specs.ClassFile.declared.tree.ClassTree.{ClassTree}
use Rattle.cjc_code.specs.ClassFile.declared.tree.MethodTree.{MethodTree}
use Rattle.cjc_code.specs.declared.insn.JInsn.{JInsn}
use Rattle.cjc_code.specs.declared.insn.JOp.{JOp}
use Rattle.cjc_code.specs.declared.insn.JOp.TheVariants as jop
use Rattle.cjc_code.specs.declared.method_code.MethodCode.{MethodCode}
use Rattle.cjc_code.specs.Jvm as jvm
use Rattle.cjc_world.specs.Files.{Files}
use Rattle.cjc_subset.specs.Types.{is_int_desc}

-- An instruction loads or stores an element of an array of ints (iaload, iastore), makes such an array (newarray 10),
-- or names a field or method in whose descriptor int stands.
unfoldable pub works_on_int : JOp → Bool
works_on_int (jop.ArrayLoad op) = op == jvm.iaload
works_on_int (jop.ArrayStore op) = op == jvm.iastore
works_on_int (jop.Static put id) = is_int_desc id.desc
works_on_int (jop.Field put id) = is_int_desc id.desc
works_on_int (jop.Call op id) = is_int_desc id.desc
works_on_int (jop.NewArray n) = n == 10
works_on_int _ = false

-- the method of this number of a class, where both are there
abbrev pub method_there : (method : ℕ) → Option ClassTree → Option MethodTree
method_there method None = None
method_there method (Some c) = slice_get c.methods method

-- a method that is there has int in its descriptor, or one of these instructions, which are its own, works on int
abbrev pub method_works_on_int : List JInsn → Option MethodTree → Bool
method_works_on_int insns None = false
method_works_on_int insns (Some m) = is_int_desc m.desc || list_any (λ i. works_on_int i.op) insns

-- a method of the package works on int, by its instructions
unfoldable pub code_works_on_int : Files → MethodCode → Bool
code_works_on_int files code = method_works_on_int code.insns (method_there code.method (slice_get files.classes
    code.class))

-- one of these methods does
abbrev pub any_works_on_int : Files → List MethodCode → Bool
any_works_on_int files codes = list_any (λ c. code_works_on_int files c) codes
