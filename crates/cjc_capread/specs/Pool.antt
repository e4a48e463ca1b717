-- The constant pool (section 6.7).
use Rattle.std.specs.Prelude.{ℕ, Option, Some, None, ◌==◌, if◌then◌else◌}
use Rattle.std.specs.Int.{w8}
use Rattle.cjc_bytes.specs.Format.{Format, number, gives, ◌>>=◌, repeated, u1, u2}
use Rattle.cjc_capread.specs.declared.tree.ConstantPool.{ConstantPool}
use Rattle.cjc_capread.specs.declared.tree.PoolEntry.{PoolEntry}
use Rattle.cjc_capread.specs.declared.tree.PoolEntry.TheVariants as entries
use Rattle.cjc_capread.specs.declared.pool.Tag.{Tag}
use Rattle.cjc_capread.specs.declared.pool.Tag.TheVariants as tags
use Rattle.cjc_capread.specs.Parts.{exactly, class_ref, static_ref}

-- what the tag of an entry says
abbrev pub tag_of : ℕ → Option Tag
tag_of n =
    if n == 1 then Some tags.Class
    else if n == 2 then Some tags.InstanceField
    else if n == 3 then Some tags.VirtualMethod
    else if n == 4 then Some tags.SuperMethod
    else if n == 5 then Some tags.StaticField
    else if n == 6 then Some tags.StaticMethod
    else None

-- what stands behind a tag
unfoldable pub content : Tag → Format PoolEntry
content tags.Class = do
  owner ← class_ref
  padding ← number w8 (exactly 0)
  gives (entries.Classref owner)
content tags.InstanceField = do
  owner ← class_ref
  token ← u1
  gives (entries.InstanceFieldref owner token)
content tags.VirtualMethod = do
  owner ← class_ref
  token ← u1
  gives (entries.VirtualMethodref owner token)
content tags.SuperMethod = do
  owner ← class_ref
  token ← u1
  gives (entries.SuperMethodref owner token)
content tags.StaticField = do
  member ← static_ref
  gives (entries.StaticFieldref member)
content tags.StaticMethod = do
  member ← static_ref
  gives (entries.StaticMethodref member)

-- an entry: its tag, and what that asks for
unfoldable pub pool_entry : Format PoolEntry
pool_entry = number w8 tag_of >>= content

-- the entries, behind their number
unfoldable pub constant_pool : Format ConstantPool
constant_pool = do
  count ← u2
  entries ← repeated count pool_entry
  gives (record { entries = entries })
