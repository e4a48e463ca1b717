-- Places of what is written, by how many instructions are written before each.
use Rattle.std.specs.Prelude.{ℕ, ◌+◌, List, [], ◌∷◌, length, nat_lt, Bool, true, false, None, if◌then◌else◌}
use Rattle.cjc_types.specs.ClassFile.declared.tree.Catch.{Catch}
use Rattle.cjc_types.specs.Bytecode.declared.insn.JInsn.{JInsn}
use Rattle.cjc_types.specs.Bytecode.declared.insn.JOp.{JOp}
use Rattle.cjc_ncode.specs.declared.narrow.PairRole.{PairRole}
use Rattle.cjc_ncode.specs.declared.narrow.PairRole.TheVariants.{Alone}
use Rattle.cjc_ncode.specs.declared.narrow.PoolKey.TheVariants as keys
use Rattle.cjc_ncode.specs.declared.narrow.NCatch.{NCatch}
use Rattle.cjc_ncode.specs.Written.{Resolution, catch_at, widest, written, written_as}

-- look-ups under which every name stands for itself
abbrev pub as_named : Resolution
as_named = record {
  field = λ m. m;
  constant = λ m. None;
  is_near = λ m. false;
  virtual = λ m. keys.Virtual m;
  special = λ m. keys.Super m;
  static = λ m. keys.StaticMethod m;
  interface = λ m. m;
  role = λ offset. Alone;
}

-- how many instructions are written for one
abbrev pub count : JOp → ℕ
count op = length (written as_named (λ o. 0) op)

-- for one of this role
abbrev pub count_as : PairRole → JOp → ℕ
count_as role op = length (written_as role as_named (λ o. 0) op)

-- with those before it, where it is reached
abbrev pub count_if : Bool → PairRole → (before : ℕ) → JOp → ℕ
count_if true role before op = before + count_as role op
count_if false role before op = before

-- the widest size of one with that of those before it, where it is reached
abbrev pub widest_if : Bool → (before : ℕ) → JOp → ℕ
widest_if true before op = before + widest op
widest_if false before op = before

-- of each place how many are written before it, and at the end of all
abbrev pub starts : (before : ℕ) → List JInsn → (reached : List Bool) → List PairRole → List ℕ
starts before [] reached roles = before ∷ []
starts before (i ∷ insns) [] roles = before ∷ []
starts before (i ∷ insns) (is ∷ reached) [] = before ∷ []
starts before (i ∷ insns) (is ∷ reached) (role ∷ roles) = before ∷ starts (count_if is role before i.op) insns reached
    roles

-- a handler where something in its range is written
abbrev pub catch_if : (place : ℕ → ℕ) → Catch → List NCatch
catch_if place c = if nat_lt (place c.start) (place c.end) then catch_at place c ∷ [] else []
