-- Where a method stands in Method's info, and which bytes it is there (Java Card Virtual Machine Specification 2.2.2,
-- section 6.9).
use Rattle.std.specs.Prelude.{◌≡◌, ℕ, zero, suc, ◌+◌, ◌*◌, ◌≤◌, List, [], ◌∷◌, ◌++◌, length, Option, Some, None, Bool}
use Rattle.std.specs.Prelude.{slice_get}
use Rattle.cjc_card_semantics.specs.CapRead.declared.tree.Handler.{Handler}
use Rattle.cjc_card_semantics.specs.CapRead.declared.tree.MethodDescriptor.{MethodDescriptor}
use Rattle.cjc_card_semantics.specs.CapRead.MethodHeader.{method_header}
use Rattle.cjc_card_semantics.specs.CapRead.Opcodes.{Form, form}
use Rattle.cjc_card_semantics.specs.CapRead.Decode.{Instruction, emitted, size, IsWritable}
use Rattle.cjc_card_semantics.specs.Bytecode.Machine.{Start, Fetched}
use Rattle.cjc_card_semantics.specs.Machine.Loaded.{Part}
use Rattle.cjc_card_semantics.specs.Machine.Classes.{Class, Field}
use Rattle.cjc_card_semantics.specs.Machine.Statics.{StaticCell}
use Rattle.cjc_card_semantics.specs.Machine.Operations.{Callee}
use Rattle.cjc_card_semantics.specs.Machine.Methods.{Code, bytes_from, methods_begin, described}
use Rattle.cjc_ncode.specs.declared.narrow.NInsn.{NInsn}
use Rattle.cjc_ncode.specs.declared.narrow.NMethod.{NMethod}
use Rattle.cjc_ncode.specs.ByLabel
use Rattle.cjc_code.specs.Bytes.declared.fault.MemberId.{MemberId}
use Rattle.cjc_ncode.specs.Lowering.Naming.{Naming, on_card}
use Rattle.cjc_ncode.specs.Lowering.Laid.{laid, IsFormed}
use Rattle.cjc_ncode.specs.Lowering.Handlers.{handlers_of, AllElsewhere}

-- a method with the forms of its jumps, and its header with its offset
pub record Placed : Type 0 where
  pub method : NMethod
  -- for each instruction, whether a jump has its wide form
  pub wide : List Bool
  -- in bytes from the start of Method's info
  pub offset : ℕ
  pub header : List ℕ

-- ---- bytes

-- an instruction of this form
abbrev pub bytes_by : Option Form → Instruction → List ℕ
bytes_by None i = []
bytes_by (Some f) i = emitted f i

-- by the form of its opcode
abbrev pub bytes_of : Instruction → List ℕ
bytes_of i = bytes_by (form i.opcode) i

module _ (n : Naming) where
  -- how many bytes an instruction is, wherever it is laid
  abbrev pub insn_size : (wide : Bool) → NInsn → ℕ
  insn_size wide insn = size (laid n (λ label. 0) 0 wide insn)

  -- how many bytes stand before the instruction of a label
  abbrev pub bytes_before : List NInsn → List Bool → (label : ℕ) → ℕ
  bytes_before insns wide zero = 0
  bytes_before [] wide (suc k) = 0
  bytes_before (i ∷ insns) [] (suc k) = 0
  bytes_before (i ∷ insns) (w ∷ wide) (suc k) = insn_size w i + bytes_before insns wide k

  -- instructions one behind the other, from an offset on, where labels stand at `to`
  abbrev pub code_bytes : (to : ℕ → ℕ) (at : ℕ) → List NInsn → List Bool → List ℕ
  code_bytes to at [] wide = []
  code_bytes to at (i ∷ insns) [] = []
  code_bytes to at (i ∷ insns) (w ∷ wide) = bytes_of (laid n to at w i) ++ code_bytes to (at + insn_size w i) insns wide

-- ---- a method

-- where the code begins
abbrev pub first : Placed → ℕ
first p = p.offset + length p.header

-- the offset of a label; that behind the last instruction is the end of the code
abbrev pub offset_of : Naming → Placed → (label : ℕ) → ℕ
offset_of n p k = let m = p.method in first p + bytes_before n m.insns p.wide k

-- its header and its code
abbrev pub method_bytes : Naming → Placed → List ℕ
method_bytes n p = let m = p.method in p.header ++ code_bytes n (offset_of n p) (first p) m.insns p.wide

-- its code on the card
abbrev pub code_of : Naming → Placed → Code
code_of n p = let m = p.method in record {
  part = n.part;
  room = m.max_stack;
  first = first p;
  end = offset_of n p (length m.insns);
}

-- an instruction of it on the card
abbrev pub fetched_on_card : Naming → Placed → Fetched (List ℕ) MemberId MemberId ByLabel.Callee
    → Fetched Class Field StaticCell Callee
fetched_on_card n p i = record { operation = on_card n (offset_of n p) i.operation; next = offset_of n p i.next }

-- bytes can say an instruction
pub record IsSpellable (i : Instruction) : Type 0 where
  pub form : Form
  pub writable : IsWritable form i

-- Its instructions are formed, and can be said by bytes where they are laid.
pub record IsLaidOut (n : Naming) (p : Placed) : Type 0 where
  pub forms : length p.wide ≡ (let m = p.method in length m.insns)
  pub formed : (k : ℕ) (insn : NInsn) → (let m = p.method in slice_get m.insns k ≡ Some insn) → IsFormed n insn
  pub spellable : (k : ℕ) (insn : NInsn) (wide : Bool) → (let m = p.method in slice_get m.insns k ≡ Some insn)
      → slice_get p.wide k ≡ Some wide → IsSpellable (laid n (offset_of n p) (offset_of n p k) wide insn)

-- A package has its pool, and holds the bytes of a method at its offset, behind the handlers.
pub record Stands (n : Naming) (p : Placed) (part : Part) : Type 0 where
  pub there : (let l = n.loaded in slice_get l.parts n.part ≡ Some part)
  pub pool : part.pool ≡ n.pool
  pub after_handlers : methods_begin part ≤ p.offset
  pub behind : List ℕ
  pub bytes : bytes_from part p.offset ≡ method_bytes n p ++ behind

-- The handler table of the package has the handlers of the method, and others with ranges elsewhere.
pub record HandlersStand (n : Naming) (p : Placed) (part : Part) : Type 0 where
  pub earlier : List Handler
  pub later : List Handler
  pub table : (let method = part.method in let m = p.method in method.handlers ≡ earlier
      ++ (handlers_of n (offset_of n p) m.catches ++ later))
  pub earlier_elsewhere : (let m = p.method in AllElsewhere (first p) (offset_of n p (length m.insns)) earlier)
  pub later_elsewhere : (let m = p.method in AllElsewhere (first p) (offset_of n p (length m.insns)) later)

-- ---- how a method begins

-- two bytes of nibbles
abbrev pub short_header : NMethod → List ℕ
short_header m = m.max_stack ∷ (16 * m.nargs + m.max_locals) ∷ []

-- ACC_EXTENDED, and three bytes behind it
abbrev pub extended_header : NMethod → List ℕ
extended_header m = 0x80 ∷ m.max_stack ∷ m.nargs ∷ m.max_locals ∷ []

-- bytes are read as the header of a method, whatever stands behind them
abbrev pub IsHeader : (is_abstract : Bool) → NMethod → List ℕ → Type 0
IsHeader is_abstract m header = (behind : List ℕ) → method_header (header ++ behind)
    ≡ Some (record {
      max_stack = m.max_stack;
      nargs = m.nargs;
      max_locals = m.max_locals;
      is_abstract = is_abstract;
      size = length header;
    })

-- Descriptor lists the method at its offset with the bytes of its code
pub record IsListed (n : Naming) (p : Placed) (part : Part) : Type 0 where
  pub descriptor : MethodDescriptor
  pub there : described part part.descriptor p.offset ≡ Some descriptor
  pub count : (let m = p.method in descriptor.bytecode_count ≡ bytes_before n m.insns p.wide (length m.insns))

-- a method that begins on the card, at its first instruction
abbrev pub start_on_card : Naming → (is_abstract : Bool) → Placed → Start Code
start_on_card n is_abstract p = let m = p.method in record {
  code = code_of n p;
  at = offset_of n p 0;
  nargs = m.nargs;
  max_locals = m.max_locals;
  is_abstract = is_abstract;
}
