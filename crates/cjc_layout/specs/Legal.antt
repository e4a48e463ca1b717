-- Which jumps of a method may be narrow: legal choices, and the least of them.
use Rattle.std.specs.Prelude.{◌≡◌, ℕ, ◌+◌, List, length, Some, Bool, true, false, nat_le, ◌&&◌, slice_get}
use Rattle.cjc_ncode.specs.declared.narrow.NInsn.{NInsn}
use Rattle.cjc_ncode.specs.declared.narrow.NInsn.TheVariants as narrow
use Rattle.cjc_layout.specs.Sizes.{bytes_before}

-- from the one offset to the other are -128 to 127 bytes
abbrev pub is_near : (from to : ℕ) → Bool
is_near from to = nat_le to (from + 127) && nat_le from (to + 128)

-- A choice of wide jumps, true or false for each instruction, is legal: the target of each narrow jump is near under
-- this very choice. An offset counts from the jump's own opcode.
pub record IsLegal (insns : List NInsn) (wide : List Bool) : Type 0 where
  pub count : length wide ≡ length insns
  pub near : (k op to : ℕ) → slice_get insns k ≡ Some (narrow.Jump op to) → slice_get wide k ≡ Some false
      → is_near (bytes_before insns wide k) (bytes_before insns wide to) ≡ true

-- what is wide in the first is wide in the second
abbrev pub IsWithin : (wide other : List Bool) → Type 0
IsWithin wide other = (k : ℕ) → slice_get wide k ≡ Some true → slice_get other k ≡ Some true

-- The choice is legal, and every legal choice has all of its wide jumps wide.
pub record IsLeast (insns : List NInsn) (wide : List Bool) : Type 0 where
  pub legal : IsLegal insns wide
  pub least : (other : List Bool) → IsLegal insns other → IsWithin wide other
