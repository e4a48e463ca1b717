-- What is written for instructions one after the other.
use Rattle.std.specs.Prelude.{ℕ, ◌+◌, List, [], ◌∷◌, ◌++◌, length, replicate, Bool, true, false}
use Rattle.cjc_types.specs.Bytecode.declared.insn.JInsn.{JInsn}
use Rattle.cjc_types.specs.Bytecode.declared.insn.JOp.{JOp}
use Rattle.cjc_ncode.specs.declared.narrow.NInsn.{NInsn}
use Rattle.cjc_ncode.specs.declared.narrow.PairRole.{PairRole}
use Rattle.cjc_ncode.specs.Written.{Resolution, written_as}

-- of one, where it is reached
abbrev pub written_if : Bool → PairRole → Resolution → (place : ℕ → ℕ) → JOp → List NInsn
written_if true role r place op = written_as role r place op
written_if false role r place op = []

-- its place, as often as instructions are written for it
abbrev pub source_if : Bool → PairRole → Resolution → (k : ℕ) → JOp → List ℕ
source_if true role r k op = replicate (length (written_as role r (λ o. 0) op)) k
source_if false role r k op = []

-- of all that are reached, in their roles
abbrev pub code_by : Resolution → (place : ℕ → ℕ) → List JInsn → (flags : List Bool) → List PairRole → List NInsn
code_by r place [] flags roles = []
code_by r place (i ∷ insns) [] roles = []
code_by r place (i ∷ insns) (is ∷ flags) [] = []
code_by r place (i ∷ insns) (is ∷ flags) (role ∷ roles) = written_if is role r place i.op
    ++ code_by r place insns flags roles

-- and their places, from one on
abbrev pub sources_by : Resolution → (k : ℕ) → List JInsn → (flags : List Bool) → List PairRole → List ℕ
sources_by r k [] flags roles = []
sources_by r k (i ∷ insns) [] roles = []
sources_by r k (i ∷ insns) (is ∷ flags) [] = []
sources_by r k (i ∷ insns) (is ∷ flags) (role ∷ roles) = source_if is role r k i.op
    ++ sources_by r (k + 1) insns flags roles
