-- Methods that are cut into headers and whole instructions: where each stands, and where its instructions and handlers
-- lead (Java Card Virtual Machine Specification 2.2.2, section 6.9).
use Rattle.std.specs.Prelude.{◌≡◌, ◌⊎◌, ℕ, suc, ◌+◌, ◌-◌, ◌<◌, ◌≤◌, true, List, drop, slice_get, Some, None, Ok}
use Rattle.cjc_check_rules.specs.CapRead.declared.tree.Handler.{Handler}
use Rattle.cjc_check_rules.specs.CapRead.declared.tree.MethodDescriptor.{MethodDescriptor}
use Rattle.cjc_check_rules.specs.CapRead.Decode.{Instruction, decode, size}
use Rattle.cjc_check_rules.specs.CapRead.MethodHeader.{MethodHeader, method_header}
use Rattle.cjc_check_rules.specs.Spots.{Placed}
use Rattle.cjc_check_rules.specs.Codes.{Code, instructions, methods_begin}
use Rattle.cjc_check_rules.specs.Complete.{Complete}
use Rattle.cjc_check_rules.specs.Instructions.{ends_code, has_start, jumps_land}
use Rattle.cjc_card_semantics.specs.Machine.Loaded.{Part}

-- an instruction of a code that begins at an offset and has these bytes at its front, and so many of them
pub record Stands (from count : ℕ) (bytes : List ℕ) (p : Placed Instruction) : Type 0 where
  pub skipped : ℕ
  pub at : p.at ≡ from + skipped
  pub decoded : decode (drop skipped bytes) ≡ Some p.item
  pub within : skipped + size p.item ≤ count

-- A method whose header stands at its offset, from which on the bytes are these, and whose instructions are those of
-- its code.
pub record IsCut (m : MethodDescriptor) (bytes : List ℕ) (code : Code) : Type 0 where
  pub header : MethodHeader
  pub is_header : method_header bytes ≡ Some header
  pub is_abstract : code.is_abstract ≡ header.is_abstract
  pub first : code.first ≡ m.offset + header.size
  pub end : code.end ≡ m.offset + header.size + m.bytecode_count
  pub cut : instructions m.bytecode_count m.bytecode_count (m.offset + header.size) (drop header.size bytes)
      ≡ Ok code.instructions

-- where a method stands, its header and its code
pub record IsMethodAt (c : Complete) (m : MethodDescriptor) (code : Code) : Type 0 where
  pub begins : methods_begin c ≤ m.offset
  pub is_cut : IsCut m (let x = c.method in drop (m.offset - methods_begin c) x.methods) code

-- what is loaded of components is theirs
pub record AreOf (part : Part) (c : Complete) : Type 0 where
  pub method : part.method ≡ c.method
  pub class : part.class ≡ c.class
  pub descriptor : part.descriptor ≡ (let d = c.descriptor in d.classes)

-- an instruction of a code: its jumps land, and where it is the last nothing follows it
pub record Jumps (code : Code) (is : List (Placed Instruction)) (k : ℕ) (i : Placed Instruction) : Type 0 where
  pub land : jumps_land code i ≡ true
  pub last : slice_get is (suc k) ≡ None → (let x = i.item in ends_code x.opcode) ≡ true

-- what a handler says that is consistent with codes
pub record Leads (all : List Code) (h : Handler) : Type 0 where
  pub code : Code
  pub place : ℕ
  pub among : slice_get all place ≡ Some code
  pub starts : has_start code h.start ≡ true
  pub ends : (has_start code (h.start + h.length) ≡ true) ⊎ (h.start + h.length ≡ code.end)
  pub target : has_start code h.handler ≡ true

-- Codes stand apart: where an instruction of one begins, and behind it one of another before the first one's end, both
-- are one code.
abbrev pub StandApart : List Code → Type 0
StandApart all = (k j : ℕ) (a b : Code) → slice_get all k ≡ Some a → slice_get all j ≡ Some b → (x y : ℕ)
    → has_start a x ≡ true → has_start b y ≡ true → x ≤ y → y < a.end → a ≡ b

-- all instructions begin before their code's end
abbrev pub EndBehind : List Code → Type 0
EndBehind all = (k : ℕ) (a : Code) → slice_get all k ≡ Some a → (x : ℕ) → has_start a x ≡ true → x < a.end
