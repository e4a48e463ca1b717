-- The component ConstantPool as bytes (Java Card Virtual Machine Specification 2.2.2, section 6.7): what the
-- writer is proved to write.
use Rattle.std.specs.Prelude.{ℕ, List, [], ◌∷◌, ◌++◌, length}
use Rattle.std.specs.List.{flat_map}
use Rattle.cjc_capread.specs.declared.tree.ConstantPool.{ConstantPool}
use Rattle.cjc_capread.specs.declared.tree.PoolEntry.{PoolEntry}
use Rattle.cjc_capread.specs.declared.tree.PoolEntry.TheVariants as entries
use Rattle.cjc_capwrite.specs.Parts.{two, class_bytes, static_bytes}

-- an entry: its tag and three bytes (section 6.7)
unfoldable pub entry_bytes : PoolEntry → List ℕ
entry_bytes (entries.Classref class) = 1 ∷ [] ++ (class_bytes class ++ 0 ∷ [])
entry_bytes (entries.InstanceFieldref class token) = 2 ∷ [] ++ (class_bytes class ++ token ∷ [])
entry_bytes (entries.VirtualMethodref class token) = 3 ∷ [] ++ (class_bytes class ++ token ∷ [])
entry_bytes (entries.SuperMethodref class token) = 4 ∷ [] ++ (class_bytes class ++ token ∷ [])
entry_bytes (entries.StaticFieldref member) = 5 ∷ [] ++ static_bytes member
entry_bytes (entries.StaticMethodref member) = 6 ∷ [] ++ static_bytes member

-- the info of ConstantPool (section 6.7)
unfoldable pub pool_bytes : ConstantPool → List ℕ
pool_bytes x = two (length x.entries) ++ flat_map entry_bytes x.entries
