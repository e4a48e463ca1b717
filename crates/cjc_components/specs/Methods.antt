-- Where the methods of a package stand in Method, one behind the other (Java Card Virtual Machine Specification 2.2.2,
-- section 6.9).
use Rattle.std.specs.Prelude.{ℕ, ◌+◌, ◌*◌, ◌==◌, ◌&&◌, List, [], ◌∷◌, length, sum_by, Bool, not, if◌then◌else◌}
use Rattle.cjc_clinit.specs.World.declared.found.Found.{Found}
use Rattle.cjc_emit.specs.NCode.declared.narrow.NMethod.{NMethod}
use Rattle.cjc_emit.specs.NCode.Lowering.Placed.{Placed}
use Rattle.cjc_emit.specs.LowerLayout.Sizes.{code_size}
use Rattle.cjc_emit.specs.LowerLayout.Handlers.{table_order}
use Rattle.cjc_emit.specs.Emitted.{header_bytes}
use Rattle.cjc_components.specs.Package.{LaidMethod, Package}

-- ---- one method

-- with ACC_ABSTRACT among the flags of its first byte
abbrev pub with_abstract : List ℕ → List ℕ
with_abstract [] = []
with_abstract (b ∷ bytes) = (0x40 + b) ∷ bytes

-- The header of a method. An abstract one is a header alone.
abbrev pub header_of : LaidMethod → List ℕ
header_of m = if m.is_abstract then with_abstract (header_bytes m.code) else header_bytes m.code

-- the bytes of a method's code
abbrev pub bytecode_count : LaidMethod → ℕ
bytecode_count m = let code = m.code in code_size code.insns m.wide

-- the bytes of a method, its header counted
abbrev pub method_size : LaidMethod → ℕ
method_size m = length (header_of m) + bytecode_count m

-- the handlers that are written for a method
abbrev pub handler_count : LaidMethod → ℕ
handler_count m = let code = m.code in length (table_order code.catches)

-- its handlers in the order of the table
abbrev pub in_table_order : NMethod → NMethod
in_table_order code = record code { catches = table_order code.catches }

-- a method at an offset
abbrev pub placed_at : (offset : ℕ) → LaidMethod → Placed
placed_at offset m = record { method = in_table_order m.code; wide = m.wide; offset = offset; header = header_of m }

-- ---- all methods

-- one behind the other, the first at this offset
abbrev pub placed_from : (offset : ℕ) → List LaidMethod → List Placed
placed_from at [] = []
placed_from at (m ∷ methods) = placed_at at m ∷ placed_from (at + method_size m) methods

-- The methods stand behind the number of handlers and the handlers, of eight bytes each.
abbrev pub first_method : List LaidMethod → ℕ
first_method methods = 1 + 8 * sum_by handler_count methods

-- the methods of a package at their offsets
abbrev pub placed_methods : Package → List Placed
placed_methods p = placed_from (first_method p.methods) p.methods

-- ---- where one stands

-- Where a method stands: its offset, the bytes of its code, and its handlers in the table of all.
pub record Extent : Type 0 where
  pub offset : ℕ
  pub bytecode_count : ℕ
  pub handler_count : ℕ
  -- 0 where it has no handler
  pub first_handler : ℕ

-- of a method that is not in Method, as those of interfaces
abbrev pub nowhere : Extent
nowhere = record { offset = 0; bytecode_count = 0; handler_count = 0; first_handler = 0 }

-- a method at an offset, before which so many handlers stand in the table
abbrev pub extent_at : (offset handlers : ℕ) → LaidMethod → Extent
extent_at at k m = record {
  offset = at;
  bytecode_count = bytecode_count m;
  handler_count = handler_count m;
  first_handler = if handler_count m == 0 then 0 else k;
}

-- the method is this member of its class
abbrev pub is_member : Found → LaidMethod → Bool
is_member f m = let g = m.member in not f.imported && f.class == g.class && f.member == g.member

-- among methods the first of which stands at this offset, behind so many handlers
abbrev pub extent_from : (offset handlers : ℕ) → List LaidMethod → Found → Extent
extent_from at k [] f = nowhere
extent_from at k (m ∷ methods) f =
    if is_member f m then extent_at at k m else extent_from (at + method_size m) (k + handler_count m) methods f

-- where a method of the package stands
abbrev pub extent_of : Package → Found → Extent
extent_of p f = extent_from (first_method p.methods) 0 p.methods f

-- the offset of a method's header
abbrev pub method_offset : Package → Found → ℕ
method_offset p f = let e = extent_of p f in e.offset
