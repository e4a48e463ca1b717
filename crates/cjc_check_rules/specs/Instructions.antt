-- Jumps and indices of instructions (Java Card Virtual Machine Specification 2.2.2, chapter 7).
use Rattle.std.specs.Prelude.{ℕ, ◌+◌, List, [], ◌∷◌, ◌++◌, flat_map, Bool, true, false, ◌==◌, ◌&&◌, ◌||◌, not}
use Rattle.std.specs.Prelude.{if◌then◌else◌, Option, Some, None, slice_get, ℤ, pos, ◌+ℤ◌}
use Rattle.std.specs.List.{list_all, list_any}
use Rattle.std.specs.Ordering.{int_eq}
use Rattle.cjc_capread.specs.declared.opcode.OpInfo.{OpInfo}
use Rattle.cjc_capread.specs.declared.tree.PoolEntry.{PoolEntry}
use Rattle.cjc_capread.specs.declared.tree.PoolEntry.TheVariants.{Classref, InstanceFieldref, VirtualMethodref}
use Rattle.cjc_capread.specs.declared.tree.PoolEntry.TheVariants.{SuperMethodref, StaticFieldref, StaticMethodref}
use Rattle.cjc_capread.specs.Opcodes.{Operand, Index1, Index2, Form, Fields, Table, Lookup, form, info}
use Rattle.cjc_capread.specs.Decode.{Instruction}
use Rattle.cjc_capread.specs.Card as card
use Rattle.cjc_check_rules.specs.Spots.{ComponentPlace, in_info, unless, Placed, begins, lies_between}
use Rattle.cjc_check_rules.specs.Complete.{Complete}
use Rattle.cjc_check_rules.specs.Codes.{Code, codes}

-- ---- jumps

-- the offsets of pairs of a match and an offset
abbrev pub pair_offsets : List ℤ → List ℤ
pair_offsets (value ∷ far ∷ numbers) = far ∷ pair_offsets numbers
pair_offsets _ = []

-- the offset of a switch's default stands first among its operands
abbrev pub default_of : List ℤ → List ℤ
default_of (far ∷ numbers) = far ∷ []
default_of [] = []

-- the offsets of a switch: the default's, and those of its table
abbrev pub switch_offsets : Option Form → Instruction → List ℤ
switch_offsets (Some (Table matches)) i = default_of i.operands ++ i.table
switch_offsets (Some (Lookup matches)) i = default_of i.operands ++ pair_offsets i.table
switch_offsets _ i = []

-- ifeq to goto, jsr, and ifeq_w to goto_w
abbrev pub is_jump : (opcode : ℕ) → Bool
is_jump op = lies_between card.ifeq card.jsr op || lies_between card.ifeq_w card.goto_w op

-- how far an instruction may jump, in bytes from its opcode
abbrev pub jumps : Instruction → List ℤ
jumps i = if is_jump i.opcode then i.operands else switch_offsets (form i.opcode) i

-- an instruction of the code begins at this offset
abbrev pub has_start : Code → (offset : ℕ) → Bool
has_start code offset = begins code.instructions offset

-- a jump this far from an offset lands on an instruction
abbrev pub lands : Code → (at : ℕ) → ℤ → Bool
lands code at by = list_any (λ j. int_eq (pos j.at) (pos at +ℤ by)) code.instructions

-- all jumps of an instruction land on instructions of its method
abbrev pub jumps_land : Code → Placed Instruction → Bool
jumps_land code p = list_all (lands code p.at) (jumps p.item)

-- what stands behind an instruction is not run after it: goto, jsr, ret, the switches and returns, athrow, goto_w,
-- impdep1, impdep2
abbrev pub ends_code : (opcode : ℕ) → Bool
ends_code op = lies_between card.goto card.return op || op == card.athrow || op == card.goto_w
    || lies_between card.impdep1 card.impdep2 op

-- of instructions from one on: a jump that doesn't land, and the last one where it falls off
unfoldable pub in_code : Code → List (Placed Instruction) → List ComponentPlace
in_code code [] = []
in_code code (p ∷ []) = unless (jumps_land code p && ends_code p.item.opcode) (in_info 7 p.at)
in_code code (p ∷ q ∷ ps) = unless (jumps_land code p) (in_info 7 p.at) ++ in_code code (q ∷ ps)

-- a list has nothing in it
abbrev pub is_empty : {A : Type 0} → List A → Bool
is_empty [] = true
is_empty (x ∷ xs) = false

-- a method that is not abstract has an instruction
abbrev pub code_spots : Code → List ComponentPlace
code_spots code = unless (code.is_abstract || not (is_empty code.instructions)) (in_info 7 code.first)
    ++ in_code code code.instructions

-- 710. Jumps land on instruction starts of the same method, and no last instruction falls off its method. Broken is the
-- instruction, or
-- where the code would begin.
abbrev pub jump_spots : Complete → List ComponentPlace
jump_spots c = flat_map code_spots (codes c)

-- ---- indices into the constant pool

-- the index among operands
abbrev pub index_among : List Operand → List ℤ → Option ℕ
index_among (Index1 ∷ kinds) (pos n ∷ values) = Some n
index_among (Index2 ∷ kinds) (pos n ∷ values) = Some n
index_among (kind ∷ kinds) (value ∷ values) = index_among kinds values
index_among _ _ = None

-- an index: the opcode that names it, the offset where it stands, its size in bytes, and itself
pub record IndexOperand : Type 0 where
  pub opcode : ℕ
  pub at : ℕ
  pub size : ℕ
  pub index : ℕ

-- the type of an array of boolean, byte, short or int, at the front of operands
abbrev pub is_type_of_numbers : List ℤ → Bool
is_type_of_numbers (pos n ∷ values) = lies_between 10 13 n
is_type_of_numbers _ = false

-- checkcast and instanceof of such an array, which name no class
abbrev pub names_no_class : Instruction → Bool
names_no_class i = lies_between card.checkcast card.instanceof i.opcode && is_type_of_numbers i.operands

-- an instruction's index with its place behind the opcode, if it has one
abbrev pub index_in : Placed Instruction → OpInfo → Option ℕ → List IndexOperand
index_in p o None = []
index_in p o (Some index) = record {
  opcode = p.item.opcode;
  at = p.at + o.index_at;
  size = o.index_bytes;
  index = index;
} ∷ []

-- the index of an instruction by the form of its opcode; switches have none
abbrev pub index_by : Placed Instruction → Option Form → List IndexOperand
index_by p (Some (Fields kinds)) = index_in p (info (Fields kinds)) (index_among kinds p.item.operands)
index_by p _ = []

-- the index of an instruction, if it has one
abbrev pub indices : Placed Instruction → List IndexOperand
indices p = if names_no_class p.item then [] else index_by p (form p.item.opcode)

-- the indices of all instructions, in order
abbrev pub all_indices : Complete → List IndexOperand
all_indices c = flat_map (λ code. flat_map indices code.instructions) (codes c)

-- the opcodes that need an entry of this tag
abbrev pub is_needed_by : PoolEntry → (opcode : ℕ) → Bool
-- invokeinterface, new, anewarray, checkcast, instanceof
is_needed_by (Classref class) op = op == card.invokeinterface || op == card.new || op == card.anewarray
    || op == card.checkcast || op == card.instanceof
-- getfield and putfield with the forms of wide index and of this
is_needed_by (InstanceFieldref class token) op = lies_between card.getfield_a card.putfield_i op
    || lies_between card.getfield_a_w card.putfield_i_this op
-- invokevirtual
is_needed_by (VirtualMethodref class token) op = op == card.invokevirtual
-- invokespecial
is_needed_by (SuperMethodref class token) op = op == card.invokespecial
-- getstatic and putstatic
is_needed_by (StaticFieldref member) op = lies_between card.getstatic_a card.putstatic_i op
-- invokespecial, invokestatic
is_needed_by (StaticMethodref member) op = op == card.invokespecial || op == card.invokestatic

-- a pool entry is there and has a tag that the opcode needs
abbrev pub is_entry_for : Option PoolEntry → (opcode : ℕ) → Bool
is_entry_for None op = false
is_entry_for (Some entry) op = is_needed_by entry op

-- 711. Each index operand names an entry of a tag that its opcode needs. Broken is the index.
abbrev pub index_spots : Complete → List ComponentPlace
index_spots c = flat_map (λ i. unless (is_entry_for (slice_get c.pool.entries i.index) i.opcode) (in_info 7 i.at))
    (all_indices c)
