-- What an entry of the constant pool means to code (Java Virtual Machine Specification, section 4.4), without where its
-- texts lie in memory.
use Rattle.std.specs.Prelude.{ℕ, ℤ, List}
use Rattle.cjc_bytes.specs.declared.fault.MemberId.{MemberId}

-- an item of the pool, one an index
pub data PoolItem : Type 0 where
  -- a CONSTANT_Integer
  Int : ℤ → PoolItem
  -- a CONSTANT_Class, by its name; of an array class its descriptor
  Class : List ℕ → PoolItem
  Field : MemberId → PoolItem
  Method : MemberId → PoolItem
  InterfaceMethod : MemberId → PoolItem
  -- any other entry, index 0, and the index after a Long or Double
  Other : PoolItem
