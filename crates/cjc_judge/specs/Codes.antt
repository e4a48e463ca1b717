-- Where the methods of a package break rule 303.
use Rattle.std.specs.Prelude.{ℕ, ◌==◌, List, [], ◌∷◌, if◌then◌else◌, Result, Ok, Err}
use Rattle.cjc_world.specs.ClassFile.declared.tree.ClassTree.{ClassTree}
use Rattle.cjc_bytes.specs.declared.breaks.BrokenAt.{BrokenAt}
use Rattle.cjc_clinit.specs.Bytecode.declared.insn.JInsn.{JInsn}
use Rattle.cjc_clinit.specs.Bytecode.PackageCodes.{of_classes}
use Rattle.cjc_judge.specs.declared.reading.UnsupportedInsn.{UnsupportedInsn}

-- the place of the first instruction of a method that is not converted, where 103 is not broken (rule 303)
abbrev pub unsupported_with : (class method : ℕ) → Result (List JInsn) BrokenAt → List UnsupportedInsn
unsupported_with class method (Ok insns) = []
unsupported_with class method (Err broken) = if broken.rule == 303 then record {
  class = class;
  method = method;
  offset = broken.offset;
} ∷ [] else []

-- of all classes, in list order, their methods in class file order
abbrev pub all_unsupported_insns : List ClassTree → List UnsupportedInsn
all_unsupported_insns trees = of_classes unsupported_with 0 trees
