-- What stands by the keys of a constant pool.
use Rattle.std.specs.Prelude.{ℕ}
use Rattle.cjc_bytes.specs.declared.fault.MemberId.{MemberId}
use Rattle.cjc_components.specs.LowerNCode.declared.narrow.PoolKey.{PoolKey}
use Rattle.cjc_components.specs.LowerNCode.declared.narrow.PoolKey.TheVariants as keys

-- the offset of the cell of its static field, 0 of a key of another kind
abbrev pub key_cell : (offset : MemberId → ℕ) → PoolKey → ℕ
key_cell offset (keys.StaticField f) = offset f
key_cell offset _ = 0
