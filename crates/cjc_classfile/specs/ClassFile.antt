-- The class file (Java Virtual Machine Specification, section 4.1).
use Rattle.std.specs.Prelude.{ℕ, ◌-◌, List, length, Option, Some, None, nat_lt, nat_le, ◌==◌, ◌&&◌, if◌then◌else◌}
use Rattle.std.specs.Int.{w16, w32}
use Rattle.cjc_bytes.specs.Format.{Format, number, looked_up, gives, ◌>>=◌, repeated, in_a_row, u2}
use Rattle.cjc_bytes.specs.Refused.{refusal}
use Rattle.cjc_bytes.specs.declared.fault.Refusal.{Refusal}
use Rattle.cjc_classfile.specs.declared.tree.ClassTree.{ClassTree}
use Rattle.cjc_classfile.specs.PoolItem.{PoolItem}
use Rattle.cjc_classfile.specs.Entry.{Entry}
use Rattle.cjc_classfile.specs.Pool.{pool_of}
use Rattle.cjc_classfile.specs.Items.{pool_items}
use Rattle.cjc_classfile.specs.Members.{exactly, class_field, attribute, field_tree}
use Rattle.cjc_classfile.specs.Methods.{method_tree}

-- from 45 to 52 (Java SE 8)
abbrev pub version : ℕ → Option ℕ
version n = if nat_le 45 n && nat_le n 52 then Some n else None

-- a count that is at least 1
abbrev pub not_zero : ℕ → Option ℕ
not_zero n = if nat_lt 0 n then Some n else None

-- up to the pool: the major version and the entries
unfoldable pub front_part : Format (ℕ × List Entry)
front_part = do
  magic ← number w32 (exactly 0xCAFEBABE)
  minor ← u2
  major ← number w16 version
  count ← number w16 not_zero
  pool ← pool_of (count - 1)
  gives (major, pool)

-- behind the pool
unfoldable pub back_part : ℕ → List Entry → List PoolItem → Format ClassTree
back_part major pool items = do
  flags ← u2
  name ← class_field pool
  superclass ← class_field pool
  interface_count ← u2
  interfaces ← repeated interface_count (class_field pool)
  field_count ← u2
  fields ← repeated field_count (field_tree pool)
  method_count ← u2
  methods ← repeated method_count (method_tree pool)
  attribute_count ← u2
  free ← in_a_row attribute_count (attribute pool)
  gives (record {
    major = major;
    flags = flags;
    name = name;
    superclass = superclass;
    interfaces = interfaces;
    pool = items;
    fields = fields;
    methods = methods;
  })

-- a whole class file; what the entries of its pool mean is settled before what stands behind the pool is read
unfoldable pub class_file : Format ClassTree
class_file = do
  front ← front_part
  items ← looked_up (pool_items front.1)
  back_part front.0 front.1 items

-- The refusal of a break at k: 102 where the version is there and is not one of these, else 101.
abbrev pub refusal_at : List ℕ → List ℕ → ℕ → Refusal
refusal_at file bytes k = refusal file (if (k == 6) && nat_le 8 (length bytes) then 102 else 101) k
