-- The methods of class files, by what their code was decoded to.
use Rattle.std.specs.Prelude.{◌<◌, ◌^◌, ◌==◌, ◌&&◌, ℕ, List, [], ◌∷◌, map, length, drop, Bool, false, if◌then◌else◌}
use Rattle.std.specs.Prelude.{Option, Some, None}
use Rattle.cjc_world.specs.ClassFile.declared.tree.ClassTree.{ClassTree}
use Rattle.cjc_world.specs.ClassFile.declared.tree.MethodTree.{MethodTree}
use Rattle.cjc_world.specs.ClassFile.Code.{CodeTree}
use Rattle.cjc_jvm_step.specs.Bytecode.declared.insn.JInsn.{JInsn}
use Rattle.cjc_jvm_step.specs.Bytecode.declared.method_code.MethodCode.{MethodCode}
use Rattle.cjc_jvm_step.specs.Bytecode.Decoded.{decoded}
use Rattle.cjc_jvm_step.specs.Bytecode.PackageCodes.{first_insns}
use Rattle.cjc_jvm_semantics.specs.Linked.{Method}
use Rattle.cjc_jvm_semantics.specs.OnePackage.{method_by}
use Rattle.cjc_jvm_step.specs.Frame.Places.{IsIndex}

-- the methods of a class
abbrev pub methods_of : ClassTree → List Method
methods_of class = map (λ m. method_by class m m.code) class.methods

-- the instructions of a method; none where it has no code
abbrev pub insns_in : ClassTree → MethodTree → Option CodeTree → List JInsn
insns_in class m None = []
insns_in class m (Some code) = decoded class m code

-- Each of these is an index of the instructions of one method, in their order, and 32 bits count the instructions.
abbrev pub AreIndices : List MethodCode → List (List ℕ) → Type 0
AreIndices [] [] = Unit {0}
AreIndices [] (i ∷ is) = ⊥
AreIndices (c ∷ cs) [] = ⊥
AreIndices (c ∷ cs) (i ∷ is) = IsIndex c.insns i × (length c.insns < 2 ^ 32) × AreIndices cs is

-- ---- codes in the order of the methods

-- whether the first is that of this method
abbrev pub is_first : (class method : ℕ) → List MethodCode → Bool
is_first class method [] = false
is_first class method (c ∷ cs) = (c.class == class) && (c.method == method)

-- its instructions, or none
abbrev pub insns_at : (class method : ℕ) → List MethodCode → List JInsn
insns_at class method codes = if is_first class method codes then first_insns codes else []

-- what is behind it, or all
abbrev pub behind : (class method : ℕ) → List MethodCode → List MethodCode
behind class method codes = if is_first class method codes then drop 1 codes else codes
