-- The bytes of narrow instructions, and the offsets of their labels (Java Card Virtual Machine Specification 2.2.2,
-- chapter 7).
use Rattle.std.specs.Prelude.{ℕ, zero, suc, ◌+◌, ◌*◌, ◌<◌, List, [], ◌∷◌, length, replicate, Option, Some, None, Bool}
use Rattle.std.specs.Prelude.{true, if◌then◌else◌}
use Rattle.cjc_ncode.specs.LowerCapRead.Opcodes.{Form, Fields, Table, Lookup, form, width, widths}
use Rattle.cjc_ncode.specs.declared.narrow.NCase.{NCase}
use Rattle.cjc_ncode.specs.declared.narrow.NInsn.{NInsn}
use Rattle.cjc_ncode.specs.declared.narrow.NInsn.TheVariants as narrow
use Rattle.cjc_ncode.specs.LowerCapRead.Card.{invokeinterface, newarray}

-- The bytes of an instruction of this form: its opcode and its operands; of a switch the default's offset, its bounds
-- or the number of its cases, and an offset for each case, in a lookup switch behind its match.
abbrev pub size_by : Option Form → (cases : ℕ) → ℕ
size_by None cases = 1
size_by (Some (Fields operands)) cases = 1 + widths operands
size_by (Some (Table matches)) cases = 1 + (2 + (width matches + width matches)) + 2 * cases
size_by (Some (Lookup matches)) cases = 1 + (2 + 2) + (width matches + 2) * cases

-- the bytes of an instruction, of a jump with an offset of two bytes where it is wide, else of one
abbrev pub insn_size : (wide : Bool) → NInsn → ℕ
insn_size wide (narrow.Op op) = size_by (form op) 0
insn_size wide (narrow.Push op value) = size_by (form op) 0
insn_size wide (narrow.Local op index) = size_by (form op) 0
insn_size wide (narrow.Inc op index by) = size_by (form op) 0
insn_size wide (narrow.Words op m n) = size_by (form op) 0
insn_size wide (narrow.Jump op target) = if wide then 3 else 2
insn_size wide (narrow.Switch op other low cases) = size_by (form op) (length cases)
insn_size wide (narrow.Named op key) = size_by (form op) 0
insn_size wide (narrow.Interface nargs method) = size_by (form invokeinterface) 0
insn_size wide (narrow.NewArray kind) = size_by (form newarray) 0
insn_size wide (narrow.TypeTest op kind class) = size_by (form op) 0

-- The offset of a label from the first instruction: the sum of the sizes before it. That of the list's length is the
-- end of the code.
abbrev pub bytes_before : List NInsn → (wide : List Bool) → (label : ℕ) → ℕ
bytes_before insns wide zero = 0
bytes_before [] wide (suc k) = 0
bytes_before (i ∷ insns) [] (suc k) = 0
bytes_before (i ∷ insns) (w ∷ wide) (suc k) = insn_size w i + bytes_before insns wide k

-- the bytes of all
abbrev pub code_size : List NInsn → (wide : List Bool) → ℕ
code_size insns wide = bytes_before insns wide (length insns)

-- the bytes of all where every jump is wide
abbrev pub widest_size : List NInsn → ℕ
widest_size insns = code_size insns (replicate (length insns) true)

-- ---- labels

-- each case leads to one of so many places
abbrev pub CasesLead : (count : ℕ) → List NCase → Type 0
CasesLead count [] = Unit {0}
CasesLead count (c ∷ cases) = (c.target < count) × CasesLead count cases

-- an instruction leads to places of a list of this length
abbrev pub Leads : (count : ℕ) → NInsn → Type 0
Leads count (narrow.Jump op target) = target < count
Leads count (narrow.Switch op other low cases) = (other < count) × CasesLead count cases
Leads count _ = Unit {0}

-- so do all of these
abbrev pub AllLead : (count : ℕ) → List NInsn → Type 0
AllLead count [] = Unit {0}
AllLead count (i ∷ insns) = Leads count i × AllLead count insns
