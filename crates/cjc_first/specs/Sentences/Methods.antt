-- The methods of Method are whole instructions (Java Card Virtual Machine Specification 2.2.2, 6.9.2 and chapter 7).
use Rattle.std.specs.Prelude.{ℕ, ◌+◌, ◌*◌, List, [], ◌∷◌, length, take, drop, flat_map, Bool, false, nat_le, ◌==◌, ◌&&◌, ◌||◌, if◌then◌else◌, Option, Some, None, is_some, option_map, slice_get, slice_index, pos, ◌+ℤ◌}
use Rattle.std.specs.List.{list_all, list_any, last_or}
use Rattle.std.specs.Ordering.{int_eq}
use Rattle.cjc_capread.specs.declared.tree.PoolEntry.{PoolEntry}
use Rattle.cjc_capread.specs.declared.tree.PoolEntry.TheVariants.{Classref, InstanceFieldref, VirtualMethodref, SuperMethodref, StaticFieldref, StaticMethodref}
use Rattle.cjc_capread.specs.declared.tree.MethodDescriptor.{MethodDescriptor}
use Rattle.cjc_bytes.specs.AccessFlags.{has}
use Rattle.cjc_first.specs.Sentences.Complete.{Complete}
use Rattle.cjc_first.specs.Sentences.Members.{class_methods}
use Rattle.cjc_first.specs.Sentences.Instructions.{Instruction, instructions, lies_between, jumps, ends_code, IndexOperand, indices}

-- the code of a method: whether it is abstract, where it begins and ends in bytes from the start of the info of Method, and its
-- instructions
pub record Code : Type 0 where
  pub is_abstract : Bool
  pub first : ℕ
  pub end : ℕ
  pub instructions : List Instruction

-- ---- cutting

-- a header: two bytes, or four with ACC_EXTENDED (0x80)
abbrev pub header_size : List ℕ → ℕ
header_size bytes = if has (slice_index bytes 0) 0x80 then 4 else 2

abbrev pub code_of : (is_abstract : Bool) → (first count : ℕ) → List Instruction → Code
code_of is_abstract first count is = record { is_abstract = is_abstract; first = first; end = first + count; instructions = is }

abbrev pub onto : Option Code → Option (List Code) → Option (List Code)
onto (Some code) (Some codes) = Some (code ∷ codes)
onto _ _ = None

-- the code of a method whose header stands at an offset and at the front of the bytes, ACC_ABSTRACT being 0x40
abbrev pub code_at : (at : ℕ) → MethodDescriptor → List ℕ → Option Code
code_at at m bytes =
    if m.offset == at && nat_le (header_size bytes + m.bytecode_count) (length bytes)
    then option_map (code_of (has (slice_index bytes 0) 0x40) (at + header_size bytes) m.bytecode_count)
    (instructions (at + header_size bytes) (take m.bytecode_count (drop (header_size bytes) bytes)))
    else None

-- The codes of methods that stand one behind the other from an offset on and fill the bytes; None where they do not, or where
-- a code is not whole instructions.
abbrev pub codes_from : (at : ℕ) → List MethodDescriptor → List ℕ → Option (List Code)
codes_from at [] [] = Some []
codes_from at [] (b ∷ bytes) = None
codes_from at (m ∷ ms) bytes =
    onto (code_at at m bytes) (codes_from (at + (header_size bytes + m.bytecode_count)) ms (drop (header_size bytes + m.bytecode_count) bytes))

-- the methods stand behind the number of handlers and the handlers of eight bytes each
unfoldable pub cut : Complete → Option (List Code)
cut c = codes_from (1 + 8 * length c.method.handlers) (class_methods c) c.method.methods

-- 709. The methods, cut by the counts of Descriptor, fill the bytes of Method and are whole instructions.
unfoldable pub methods_are_whole : Complete → Bool
methods_are_whole c = is_some (cut c)

abbrev pub all_codes : Option (List Code) → List Code
all_codes None = []
all_codes (Some codes) = codes

-- the codes of all methods, none where the methods are not whole
abbrev pub codes : Complete → List Code
codes c = all_codes (cut c)

-- ---- jumps

-- an instruction of the code begins at this offset
abbrev pub has_start : Code → ℕ → Bool
has_start code offset = list_any (λ i. i.at == offset) code.instructions

abbrev pub jumps_land : Code → Instruction → Bool
jumps_land code i = list_all (λ by. list_any (λ j. int_eq (pos j.at) (pos i.at +ℤ by)) code.instructions) (jumps i)

-- the last instruction ends the code; an abstract method needs none
abbrev pub ends_well : Code → Option Instruction → Bool
ends_well code None = code.is_abstract
ends_well code (Some i) = ends_code i.opcode

abbrev pub code_is_closed : Code → Bool
code_is_closed code = list_all (jumps_land code) code.instructions && ends_well code (last_or None code.instructions)

-- 710. Jumps land on instruction starts of the same method, and no last instruction falls off its method.
unfoldable pub codes_are_closed : Complete → Bool
codes_are_closed c = list_all code_is_closed (codes c)

-- ---- indices

-- the opcodes that need an entry of this tag
abbrev pub is_needed_by : PoolEntry → (opcode : ℕ) → Bool
-- invokeinterface, new, anewarray, checkcast, instanceof
is_needed_by (Classref class) op = op == 0x8E || op == 0x8F || op == 0x91 || op == 0x94 || op == 0x95
-- getfield and putfield with the forms of wide index and of this
is_needed_by (InstanceFieldref class token) op = lies_between 0x83 0x8A op || lies_between 0xA9 0xB8 op
-- invokevirtual
is_needed_by (VirtualMethodref class token) op = op == 0x8B
-- invokespecial
is_needed_by (SuperMethodref class token) op = op == 0x8C
-- getstatic and putstatic
is_needed_by (StaticFieldref member) op = lies_between 0x7B 0x82 op
-- invokespecial, invokestatic
is_needed_by (StaticMethodref member) op = op == 0x8C || op == 0x8D

abbrev pub is_entry_for : Option PoolEntry → (opcode : ℕ) → Bool
is_entry_for None op = false
is_entry_for (Some entry) op = is_needed_by entry op

-- the indices of all instructions, in order
abbrev pub all_indices : Complete → List IndexOperand
all_indices c = flat_map (λ code. flat_map indices code.instructions) (codes c)

-- 711. Each index operand names an entry of a tag that its opcode needs.
unfoldable pub indices_have_tags : Complete → Bool
indices_have_tags c = list_all (λ i. is_entry_for (slice_get c.pool.entries i.index) i.opcode) (all_indices c)
