-- What an instruction needs of the constant pool (Java Virtual Machine Specification, 4.9.1 and 6.5).
use Rattle.std.specs.Prelude.{ℕ, Bool, true, false, ◌&&◌, ◌||◌, nat_lt, nat_le, if◌then◌else◌, List, length, Option}
use Rattle.std.specs.Prelude.{Some, slice_get}
use Rattle.cjc_classfile.specs.PoolItem.{PoolItem}
use Rattle.cjc_classfile.specs.PoolItem as items
use Rattle.cjc_code.specs.declared.table.Family.{Family}
use Rattle.cjc_code.specs.declared.table.Family.TheVariants as family
use Rattle.cjc_code.specs.declared.items.Need.{Need}
use Rattle.cjc_code.specs.declared.items.Need.TheVariants as needs

-- what the index of an instruction has to name, in a class file of this major version
abbrev pub needed : (major : ℕ) → Family → Need
needed major family.Constant = needs.Any
needed major family.UnsupportedConstant = needs.Any
needed major (family.Static put) = needs.Field
needed major (family.Field put) = needs.Field
needed major family.CallVirtual = needs.Method
needed major family.CallDirect = if nat_le 52 major then needs.AnyMethod else needs.Method
needed major family.CallInterface = needs.InterfaceMethod
needed major family.New = needs.Class
needed major family.ANewArray = needs.Class
needed major family.CheckCast = needs.Class
needed major family.InstanceOf = needs.Class
needed major family.UnsupportedClass = needs.Class
needed major _ = needs.Nothing

-- whether it is a CONSTANT_Class
abbrev pub is_class : Option PoolItem → Bool
is_class (Some (items.Class name)) = true
is_class _ = false

-- whether it is a CONSTANT_Fieldref
abbrev pub is_field : Option PoolItem → Bool
is_field (Some (items.Field id)) = true
is_field _ = false

-- whether it is a CONSTANT_Methodref
abbrev pub is_method : Option PoolItem → Bool
is_method (Some (items.Method id)) = true
is_method _ = false

-- whether it is a CONSTANT_InterfaceMethodref
abbrev pub is_interface_method : Option PoolItem → Bool
is_interface_method (Some (items.InterfaceMethod id)) = true
is_interface_method _ = false

-- whether the index names what is needed; any entry has an index inside the pool that is not 0
abbrev pub meets : List PoolItem → (index : ℕ) → Need → Bool
meets pool index needs.Nothing = true
meets pool index needs.Any = nat_lt 0 index && nat_lt index (length pool)
meets pool index needs.Class = is_class (slice_get pool index)
meets pool index needs.Field = is_field (slice_get pool index)
meets pool index needs.Method = is_method (slice_get pool index)
meets pool index needs.AnyMethod = is_method (slice_get pool index) || is_interface_method (slice_get pool index)
meets pool index needs.InterfaceMethod = is_interface_method (slice_get pool index)
