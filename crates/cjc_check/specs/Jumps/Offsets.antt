-- Offsets and indices of instructions as they are kept.
use Rattle.std.specs.Prelude.{ℕ, ◌+◌, ◌<◌, ◌^◌, List, [], ◌∷◌, length, get_or, Bool, true, false, Option, Some, None, ℤ}
use Rattle.std.specs.Prelude.{pos, slice_get}
use Rattle.cjc_capread.specs.declared.tree.PoolEntry.{PoolEntry}
use Rattle.cjc_capread.specs.Opcodes.{Form, Fields, info}
use Rattle.cjc_capread.specs.declared.decoder.shape.Shape.{Shape}
use Rattle.cjc_capread.specs.declared.decoder.shape.Shape.TheVariants.{Index1, Index2, Typed, Call, ShortTable}
use Rattle.cjc_capread.specs.declared.decoder.shape.Shape.TheVariants.{IntTable, ShortPairs, IntPairs}
use Rattle.cjc_capread.specs.declared.decoder.table.Matches.{Matches}
use Rattle.cjc_capread.specs.declared.decoder.table.Matches.TheVariants.{Counted, Short, Int}
use Rattle.cjc_check_rules.specs.declared.spot.ComponentPlace.{ComponentPlace}
use Rattle.cjc_check_rules.specs.Spots.{in_info, unless}
use Rattle.cjc_check_rules.specs.Instructions.{IndexOperand, index_among, is_entry_for, pair_offsets}
use Rattle.cjc_check.specs.declared.jumps.indices.IndexAt.{IndexAt}

-- the offsets among the numbers of a table
abbrev pub offsets_in : Matches → List ℤ → List ℤ
offsets_in Counted numbers = numbers
offsets_in Short numbers = pair_offsets numbers
offsets_in Int numbers = pair_offsets numbers

-- the shape is that of stableswitch, itableswitch, slookupswitch or ilookupswitch
abbrev pub is_switch : Shape → Bool
is_switch ShortTable = true
is_switch IntTable = true
is_switch ShortPairs = true
is_switch IntPairs = true
is_switch _ = false

-- the index among the operands of a form, where it stands and its size
abbrev pub index_in : Option Form → List ℤ → Option ℕ
index_in (Some (Fields kinds)) values = index_among kinds values
index_in _ values = None

-- how far behind its opcode an index stands by the form, 0 without a form
abbrev pub index_place_in : Option Form → ℕ
index_place_in None = 0
index_place_in (Some f) = (info f).index_at

-- how many bytes an index has by the form, 0 without a form
abbrev pub index_size_in : Option Form → ℕ
index_size_in None = 0
index_size_in (Some f) = (info f).index_bytes

-- the operand that is the index by a shape
abbrev pub index_operand : Shape → List ℤ → Option ℤ
index_operand Index1 values = slice_get values 0
index_operand Index2 values = slice_get values 0
index_operand Typed values = slice_get values 1
index_operand Call values = slice_get values 1
index_operand _ values = None

-- a number that is not negative
abbrev pub natural : Option ℤ → Option ℕ
natural (Some (pos n)) = Some n
natural _ = None

-- an index that is kept, as an index of an instruction
abbrev pub operand_at : IndexAt → IndexOperand
operand_at x = record { opcode = x.opcode; at = x.at; size = x.size; index = x.index }

-- what is there, as a list of at most one
abbrev pub optional : {A : Type 0} → Option A → List A
optional None = []
optional (Some x) = x ∷ []

-- its place has 32 bits
abbrev pub IsNear : IndexAt → Type 0
IsNear x = 3 + x.at < 2 ^ 32

-- the places of all these indices have 32 bits
abbrev pub AreNear : List IndexAt → Type 0
AreNear xs = (k : ℕ) (d : IndexAt) → k < length xs → IsNear (get_or xs k d)

-- where an index is broken
abbrev pub index_spot : List PoolEntry → IndexOperand → List ComponentPlace
index_spot entries i = unless (is_entry_for (slice_get entries i.index) i.opcode) (in_info 7 i.at)
