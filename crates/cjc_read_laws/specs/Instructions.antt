-- What the instructions of a method that was decoded are: their opcodes are those of their kinds, and their numbers have so many bits.
use Rattle.std.specs.Prelude.{◌≡◌, ℕ, Bool, true, ◌==◌, List, [], ◌∷◌}
use Rattle.std.specs.List.{list_any}
use Rattle.cjc_code.specs.declared.insn.JOp.{JOp}
use Rattle.cjc_code.specs.declared.insn.JOp.TheVariants as jop
use Rattle.cjc_range.specs.Span.{Holds, full, short_range}

-- a number is among these
abbrev pub is_one_of : ℕ → List ℕ → Bool
is_one_of n ns = list_any (λ k. n == k) ns

-- an opcode of the kind (Java Virtual Machine Specification, section 6.5)
abbrev pub has_opcode : JOp → Bool
has_opcode (jop.ArrayLoad n) = is_one_of n (0x2E ∷ 0x32 ∷ 0x33 ∷ 0x35 ∷ [])
has_opcode (jop.ArrayStore n) = is_one_of n (0x4F ∷ 0x53 ∷ 0x54 ∷ 0x56 ∷ [])
has_opcode (jop.Stack n) = is_one_of n (0x57 ∷ 0x58 ∷ 0x59 ∷ 0x5A ∷ 0x5B ∷ 0x5C ∷ 0x5D ∷ 0x5E ∷ 0x5F ∷ [])
has_opcode (jop.Arith n) = is_one_of n (0x60 ∷ 0x64 ∷ 0x68 ∷ 0x6C ∷ 0x70 ∷ 0x74 ∷ 0x78 ∷ 0x7A ∷ 0x7C ∷ 0x7E ∷ 0x80 ∷ 0x82 ∷ [])
has_opcode (jop.Narrow n) = is_one_of n (0x91 ∷ 0x93 ∷ [])
has_opcode (jop.If n target) = is_one_of n (0x99 ∷ 0x9A ∷ 0x9B ∷ 0x9C ∷ 0x9D ∷ 0x9E ∷ 0x9F ∷ 0xA0 ∷ 0xA1 ∷ 0xA2 ∷ 0xA3 ∷ 0xA4 ∷ 0xA5 ∷ 0xA6 ∷ 0xC6 ∷ 0xC7 ∷ [])
has_opcode (jop.Return n) = is_one_of n (0xAC ∷ 0xB0 ∷ 0xB1 ∷ [])
has_opcode (jop.Call n id) = is_one_of n (0xB6 ∷ 0xB7 ∷ 0xB8 ∷ 0xB9 ∷ [])
has_opcode _ = true

-- a number of 32 bits that is pushed, one of 16 that is added to a local, the number of a newarray's type
abbrev pub NumbersFit : JOp → Type 0
NumbersFit (jop.Number z) = Holds full z
NumbersFit (jop.Inc k z) = Holds short_range z
NumbersFit (jop.NewArray n) = is_one_of n (4 ∷ 5 ∷ 6 ∷ 7 ∷ 8 ∷ 9 ∷ 10 ∷ 11 ∷ []) ≡ true
NumbersFit _ = Unit {0}

-- an instruction has an opcode of its kind, and its numbers fit
pub record IsInstruction (op : JOp) : Type 0 where
  pub opcode : has_opcode op ≡ true
  pub numbers : NumbersFit op
