-- The instructions of the methods of a package.
use Rattle.std.specs.Prelude.{ℕ, ◌+◌, List, [], ◌∷◌, ◌++◌, Option, Some, None, Result, Ok, Err}
use Rattle.cjc_classfile.specs.Code.{CodeTree}
use Rattle.cjc_classfile.specs.declared.tree.MethodTree.{MethodTree}
use Rattle.cjc_classfile.specs.declared.tree.ClassTree.{ClassTree}
use Rattle.cjc_bytes.specs.declared.breaks.BrokenAt.{BrokenAt}
use Rattle.cjc_code.specs.Decoded.{decoding}
use Rattle.cjc_code.specs.declared.method_code.MethodCode.{MethodCode}
use Rattle.cjc_code.specs.declared.insn.JInsn.{JInsn}

-- of a method whose code is this run of instructions; of one that breaks a rule there are none
abbrev pub code_with : (class method : ℕ) → Result (List JInsn) BrokenAt → List MethodCode
code_with class method (Ok insns) = record { class = class; method = method; insns = insns } ∷ []
code_with class method (Err broken) = []

-- ---- of all methods that have code, by what it is decoded to

-- what is made of the decoded code of a method, and nothing where it has no code
abbrev pub where_code : {A : Type 0} → (Result (List JInsn) BrokenAt → List A) → ClassTree → MethodTree
    → Option CodeTree → List A
where_code f tree m (Some code) = f (decoding tree m code)
where_code f tree m None = []

-- of these methods, the first of which has this place in its class
abbrev pub of_methods : {A : Type 0} → (ℕ → ℕ → Result (List JInsn) BrokenAt → List A) → (class method : ℕ) → ClassTree
    → List MethodTree → List A
of_methods f class method tree [] = []
of_methods f class method tree (m ∷ ms) = where_code (f class method) tree m m.code
    ++ of_methods f class (method + 1) tree ms

-- of these classes, the first of which has this place in the package
abbrev pub of_classes : {A : Type 0} → (ℕ → ℕ → Result (List JInsn) BrokenAt → List A) → (class : ℕ) → List ClassTree
    → List A
of_classes f class [] = []
of_classes f class (tree ∷ trees) = of_methods f class 0 tree tree.methods ++ of_classes f (class + 1) trees

-- Of all classes, in list order, their methods in class file order: the instructions.
abbrev pub all_codes : List ClassTree → List MethodCode
all_codes trees = of_classes code_with 0 trees

-- those of the first
abbrev pub first_insns : List MethodCode → List JInsn
first_insns [] = []
first_insns (c ∷ cs) = c.insns
