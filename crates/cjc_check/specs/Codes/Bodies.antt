-- The code of methods as it is kept, and what holds of it.
use Rattle.std.specs.Prelude.{◌≡◌, ℕ, ◌+◌, ◌<◌, ◌^◌, List, length, get_or, map, Result, Ok, Err}
use Rattle.std.specs.List.Sorted.{IsNonDecreasing}
use Rattle.cjc_capread.specs.Decode.{Instruction, size}
use Rattle.cjc_capread.specs.Opcodes.{form}
use Rattle.cjc_capread.specs.Decoder.Decoded.{instruction_of}
use Rattle.cjc_capread.specs.Decoder.Shapes.{form_of, matches_in}
use Rattle.cjc_check_rules.specs.Spots.{Placed}
use Rattle.cjc_check_rules.specs.Codes.{Code}
use Rattle.cjc_check.specs.declared.codes.code.At.{At}
use Rattle.cjc_check.specs.declared.codes.code.Body.{Body}
use Rattle.cjc_check.specs.declared.codes.cutting.Cutting.{Cutting}
use Rattle.cjc_check.specs.declared.codes.cutting.Cutting.TheVariants as cuts

-- an instruction with its place
abbrev pub placed_of : At → Placed Instruction
placed_of a = record { at = a.at; item = instruction_of a.insn }

-- the code of a method
abbrev pub code_of : Body → Code
code_of b = record { is_abstract = b.is_abstract; first = b.first; end = b.end; instructions = map placed_of b.insns }

-- the codes of all methods, or where they end
abbrev pub cut_of : Cutting → Result (List Code) ℕ
cut_of (cuts.Whole bodies) = Ok (map code_of bodies)
cut_of (cuts.Ends at) = Err at

-- an instruction has its opcode's shape and a table of that, and offsets in it have 32 bits
pub record IsAt (a : At) : Type 0 where
  pub shape : form_of a.insn.shape ≡ form a.insn.opcode
  pub matches : a.insn.table.matches ≡ matches_in a.insn.shape
  pub size : a.insn.size ≡ size (instruction_of a.insn)
  pub room : 3 + a.at + a.insn.size < 2 ^ 32

-- so it is of all these instructions
abbrev pub AllAt : List At → Type 0
AllAt insns = (k : ℕ) (d : At) → k < length insns → IsAt (get_or insns k d)

-- the same of the code of a method, which begins and ends at such offsets, and whose instructions are kept in order
pub record IsBody (b : Body) : Type 0 where
  pub insns : AllAt b.insns
  pub starts : b.starts ≡ map (λ a. a.at) b.insns
  pub rise : IsNonDecreasing b.starts
  pub first : 3 + b.first < 2 ^ 32
  pub end : 3 + b.end < 2 ^ 32

-- so it is of the code of all these methods
abbrev pub AreBodies : List Body → Type 0
AreBodies bodies = (k : ℕ) (d : Body) → k < length bodies → IsBody (get_or bodies k d)

-- so it is of what was cut, or the offset where cutting ended has 32 bits
abbrev pub IsCut : Cutting → Type 0
IsCut (cuts.Whole bodies) = AreBodies bodies
IsCut (cuts.Ends at) = 3 + at < 2 ^ 32
