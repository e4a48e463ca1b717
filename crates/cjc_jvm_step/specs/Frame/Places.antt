-- An index of a method's instructions by their offsets.
use Rattle.std.specs.Prelude.{◌≡◌, ℕ, List, length, slice_get}
use Rattle.cjc_jvm_semantics.specs.LowerBytecode.declared.insn.JInsn.{JInsn}
use Rattle.cjc_jvm_semantics.specs.Effects.{place, or_other}

-- The index has by each offset the place of the instruction there; where it ends, none stands.
abbrev pub IsIndex : List JInsn → List ℕ → Type 0
IsIndex insns index = (offset : ℕ) → or_other (length insns) (slice_get index offset) ≡ place insns offset
