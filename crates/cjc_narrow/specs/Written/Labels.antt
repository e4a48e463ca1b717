-- Places of what is written, for offsets of the class file.
use Rattle.std.specs.Prelude.{ℕ, List, get_or, nat_lt}
use Rattle.std.specs.List.{prefix_len}
use Rattle.cjc_types.specs.Bytecode.declared.insn.JInsn.{JInsn}

-- a method's instructions, and how many instructions are written before each and at the end of all
pub record Labels : Type 0 where
  pub insns : List JInsn
  pub starts : List ℕ

-- The place of what is written for an offset, or of the next that is written.
abbrev pub place_of : Labels → (offset : ℕ) → ℕ
place_of l offset = get_or l.starts (prefix_len (λ i. nat_lt i.at offset) l.insns) 0
