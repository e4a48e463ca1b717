-- Indices of keys in the constant pool, and the fields whose index fits one byte.
use Rattle.std.specs.Prelude.{ℕ, List, [], ◌∷◌, take, position, Option}
use Rattle.std.specs.List.{flat_map}
use Rattle.cjc_types.specs.Bytes.declared.fault.MemberId.{MemberId}
use Rattle.cjc_ncode.specs.declared.narrow.NMethod.{NMethod}
use Rattle.cjc_ncode.specs.declared.narrow.PoolKey.{PoolKey}
use Rattle.cjc_ncode.specs.declared.narrow.PoolKey.TheVariants as keys
use Rattle.cjc_ncode.specs.PoolOrder.{same_key, pool_order}

-- the index of a key
abbrev pub index_of : List PoolKey → PoolKey → Option ℕ
index_of ks key = position (same_key key) ks

-- the instance field of a key
abbrev pub field_of : PoolKey → List MemberId
field_of (keys.Field f) = f ∷ []
field_of _ = []

-- the instance fields whose index fits one byte, in the pool's order
abbrev pub near_fields : List NMethod → List MemberId
near_fields methods = flat_map field_of (take 256 (pool_order methods))
