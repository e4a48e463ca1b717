-- What decoded operands and tables are as numbers.
use Rattle.std.specs.Prelude.{◌≡◌, ℕ, ◌+◌, ◌*◌, ◌≤◌, ◌^◌, List, [], ◌∷◌, length, Option, Some, None, if◌then◌else◌, ℤ}
use Rattle.cjc_capread.specs.Opcodes.{Form, form, widths}
use Rattle.cjc_capread.specs.Decode.{Instruction, Front, signed, in_table, is_whole, operands_of, size}
use Rattle.cjc_capread.specs.MethodHeader.{MethodHeader}
use Rattle.cjc_capread.specs.Decoder.Shapes.{form_of, matches_in}
use Rattle.cjc_capread.specs.declared.decoder.operands.Operands.{Operands}
use Rattle.cjc_capread.specs.declared.decoder.operands.Operands.TheVariants as few
use Rattle.cjc_capread.specs.declared.decoder.table.Matches.{Matches}
use Rattle.cjc_capread.specs.declared.decoder.table.Matches.TheVariants.{Counted, Short, Int}
use Rattle.cjc_capread.specs.declared.decoder.table.Table.{Table as Entries}
use Rattle.cjc_capread.specs.declared.decoder.insn.Insn.{Insn}
use Rattle.cjc_capread.specs.declared.decoder.header.Header.{Header}

-- operands in order
abbrev pub values : Operands → List ℤ
values few.None = []
values (few.One a) = a ∷ []
values (few.Two a b) = a ∷ b ∷ []
values (few.Three a b c) = a ∷ b ∷ c ∷ []

-- the number with sign that two bytes spell, the high one first
abbrev pub two : (a b : ℕ) → ℤ
two a b = signed 32768 (256 * a + b)

-- the number with sign that four bytes spell, the high one first
abbrev pub four : (a b c d : ℕ) → ℤ
four a b c d = signed (2 ^ 31) (16777216 * a + 65536 * b + 256 * c + d)

-- the numbers that a table's bytes spell
unfoldable pub numbers : Matches → List ℕ → List ℤ
numbers Counted (a ∷ b ∷ bytes) = two a b ∷ numbers Counted bytes
numbers Short (a ∷ b ∷ c ∷ d ∷ bytes) = two a b ∷ two c d ∷ numbers Short bytes
numbers Int (a ∷ b ∷ c ∷ d ∷ e ∷ f ∷ bytes) = four a b c d ∷ two e f ∷ numbers Int bytes
numbers matches bytes = []

-- the numbers that the entries of a table spell
abbrev pub numbers_of : Entries → List ℤ
numbers_of t = numbers t.matches t.entries.now

-- the numbers of a table, where it is whole
abbrev pub whole_table : Form → (operands : List ℤ) → Option Front → Option (List ℤ)
whole_table f operands None = None
whole_table f operands (Some front) = if is_whole f operands front.values then Some front.values else None

-- the numbers of the table behind these operands
abbrev pub table_of : Option Form → (operands : List ℤ) → List ℕ → Option (List ℤ)
table_of None operands bytes = None
table_of (Some f) operands bytes = whole_table f operands (operands_of (in_table f operands) bytes)

-- what stands in it
abbrev pub kinds_in : Option Form → (operands : List ℤ) → ℕ
kinds_in None operands = 0
kinds_in (Some f) operands = widths (in_table f operands)

-- the opcode, the operands and the numbers of the table that a decoded instruction stands for
abbrev pub instruction_of : Insn → Instruction
instruction_of i = record { opcode = i.opcode; operands = values i.operands; table = numbers_of i.table }

-- its shape is its opcode's, and it has so many of these bytes
pub record IsAtFront (i : Insn) (bytes : List ℕ) : Type 0 where
  pub shape : form_of i.shape ≡ form i.opcode
  pub matches : i.table.matches ≡ matches_in i.shape
  pub size : i.size ≡ size (instruction_of i)
  pub some : 1 ≤ i.size
  pub within : i.size ≤ length bytes

-- the method header that was decoded: its stack, arguments and locals, whether it is abstract, and its bytes
abbrev pub header_of : Header → MethodHeader
header_of h = record {
  max_stack = h.max_stack;
  nargs = h.nargs;
  max_locals = h.max_locals;
  is_abstract = h.is_abstract;
  size = h.size;
}
