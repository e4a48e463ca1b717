-- The instructions of the methods of a package.
use Rattle.std.specs.Prelude.{ℕ, ◌+◌, List, [], ◌∷◌, ◌++◌, Option, Some, None, Result, Ok, Err}
use Rattle.cjc_classfile.specs.Code.{CodeTree}
use Rattle.cjc_classfile.specs.declared.tree.MethodTree.{MethodTree}
use Rattle.cjc_classfile.specs.declared.tree.ClassTree.{ClassTree}
use Rattle.cjc_code.specs.declared.decoding.Broken.{Broken}
use Rattle.cjc_code.specs.Decoded.{decoding}
use Rattle.cjc_code.specs.declared.method_code.MethodCode.{MethodCode}
use Rattle.cjc_code.specs.declared.insn.JInsn.{JInsn}

-- of a method whose code is this run of instructions; of one that breaks a rule there are none
abbrev pub code_with : (class method : ℕ) → Result (List JInsn) Broken → List MethodCode
code_with class method (Ok insns) = record { class = class; method = method; insns = insns } ∷ []
code_with class method (Err broken) = []

abbrev pub code_where : (class method : ℕ) → ClassTree → MethodTree → Option CodeTree → List MethodCode
code_where class method tree m (Some code) = code_with class method (decoding tree m code)
code_where class method tree m None = []

-- of these methods, the first of which has this place in its class
abbrev pub codes_of_methods : (class method : ℕ) → ClassTree → List MethodTree → List MethodCode
codes_of_methods class method tree [] = []
codes_of_methods class method tree (m ∷ ms) = code_where class method tree m m.code ++ codes_of_methods class (method + 1) tree ms

-- of these classes, the first of which has this place in the package
abbrev pub codes_from : (class : ℕ) → List ClassTree → List MethodCode
codes_from class [] = []
codes_from class (tree ∷ trees) = codes_of_methods class 0 tree tree.methods ++ codes_from (class + 1) trees

-- of all classes, in list order, their methods in class file order
abbrev pub all_codes : List ClassTree → List MethodCode
all_codes trees = codes_from 0 trees

-- those of the first
abbrev pub first_insns : List MethodCode → List JInsn
first_insns [] = []
first_insns (c ∷ cs) = c.insns
