-- What the instructions of a code are, with the names of the constant pool, and rule 303: an instruction of the
-- Java Virtual Machine that is not converted, or an ldc of something other than an Integer.
use Rattle.std.specs.Prelude.{ℕ, Bool, true, false, if◌then◌else◌, List, [], ◌∷◌, map, Option, Some, None, slice_get}
use Rattle.std.specs.Prelude.{Result, Ok, Err, ℤ, pos}
use Rattle.cjc_bytes.specs.Found.{each}
use Rattle.cjc_bytes.specs.declared.fault.MemberId.{MemberId}
use Rattle.cjc_classfile.specs.PoolItem.{PoolItem}
use Rattle.cjc_classfile.specs.PoolItem as items
use Rattle.cjc_code.specs.declared.insn.JInsn.{JInsn}
use Rattle.cjc_code.specs.declared.insn.JCase.{JCase}
use Rattle.cjc_code.specs.declared.insn.JOp.{JOp}
use Rattle.cjc_code.specs.declared.insn.JOp.TheVariants as jop
use Rattle.cjc_code.specs.declared.raw.Raw.{Raw}
use Rattle.cjc_code.specs.declared.table.Family.{Family}
use Rattle.cjc_code.specs.declared.table.Family.TheVariants as family
use Rattle.cjc_code.specs.Table.{count}
use Rattle.cjc_code.specs.Numbers.{first, second, u16_of, u8_of, i16_of, target}

-- ---- what an index names, where the entry is of the kind

-- the number of a CONSTANT_Integer
abbrev pub int_of : Option PoolItem → Option ℤ
int_of (Some (items.Int z)) = Some z
int_of _ = None

-- the name of a CONSTANT_Class, and no name of another entry
abbrev pub class_of : Option PoolItem → List ℕ
class_of (Some (items.Class name)) = name
class_of _ = []

-- a member without a name, for an entry that names none
abbrev pub no_member : MemberId
no_member = record { class = []; name = []; desc = [] }

-- the field that a CONSTANT_Fieldref names
abbrev pub field_of : Option PoolItem → MemberId
field_of (Some (items.Field id)) = id
field_of _ = no_member

-- the method that a CONSTANT_Methodref or CONSTANT_InterfaceMethodref names
abbrev pub method_of : Option PoolItem → MemberId
method_of (Some (items.Method id)) = id
method_of (Some (items.InterfaceMethod id)) = id
method_of _ = no_member

-- the entry that an instruction names
abbrev pub item : List PoolItem → List ℤ → Option PoolItem
item pool zs = slice_get pool (u16_of (first zs))

-- ---- rule 303

-- there is no number
abbrev pub is_no_integer : Option ℤ → Bool
is_no_integer (Some z) = false
is_no_integer None = true

-- the instruction is none that is converted, or an ldc or ldc_w of something other than an Integer
abbrev pub is_unsupported : List PoolItem → Family → List ℤ → Bool
is_unsupported pool family.Constant zs = is_no_integer (int_of (item pool zs))
is_unsupported pool family.Unsupported zs = true
is_unsupported pool family.UnsupportedConstant zs = true
is_unsupported pool family.UnsupportedLocal zs = true
is_unsupported pool (family.UnsupportedLocalAt n) zs = true
is_unsupported pool family.UnsupportedJump zs = true
is_unsupported pool family.UnsupportedReturn zs = true
is_unsupported pool family.UnsupportedClass zs = true
is_unsupported pool family.Ret zs = true
is_unsupported pool _ zs = false

-- ---- what an instruction does

-- the place of a target, which is inside the code where rule 103 is not broken
abbrev pub place : (at : ℕ) → (offset : ℤ) → ℕ
place at offset = count (target at offset)

-- the places of several targets
abbrev pub places : (at : ℕ) → List ℤ → List ℕ
places at offsets = map (place at) offsets

-- the cases of a lookupswitch, from its pairs of a value and an offset
abbrev pub cases : (at : ℕ) → List ℤ → List JCase
cases at (value ∷ offset ∷ zs) = record { value = value; target = place at offset } ∷ cases at zs
cases at zs = []

-- a tableswitch, by its default offset, its lowest and highest value and the offset of each value
abbrev pub table : (at : ℕ) → List ℤ → JOp
table at (other ∷ low ∷ high ∷ zs) = jop.TableSwitch (place at other) low (places at zs)
table at zs = jop.Nop

-- a lookupswitch, by its default offset, the count of its pairs and the pairs
abbrev pub lookup : (at : ℕ) → List ℤ → JOp
lookup at (other ∷ pairs ∷ zs) = jop.LookupSwitch (place at other) (cases at zs)
lookup at zs = jop.Nop

-- the number, or 0 where there is none
abbrev pub number_of : Option ℤ → ℤ
number_of (Some z) = z
number_of None = pos 0

-- by the place, the opcode and the numbers of an instruction
abbrev pub op_of : List PoolItem → (at opcode : ℕ) → Family → List ℤ → JOp
op_of pool at opcode family.Null zs = jop.Null
op_of pool at opcode (family.Small z) zs = jop.Number z
op_of pool at opcode family.Push zs = jop.Number (first zs)
op_of pool at opcode family.Constant zs = jop.Number (number_of (int_of (item pool zs)))
op_of pool at opcode (family.Load refs) zs = jop.Load refs (u16_of (first zs))
op_of pool at opcode (family.LoadAt refs n) zs = jop.Load refs n
op_of pool at opcode (family.Store refs) zs = jop.Store refs (u16_of (first zs))
op_of pool at opcode (family.StoreAt refs n) zs = jop.Store refs n
op_of pool at opcode family.ArrayLoad zs = jop.ArrayLoad opcode
op_of pool at opcode family.ArrayStore zs = jop.ArrayStore opcode
op_of pool at opcode family.Stack zs = jop.Stack opcode
op_of pool at opcode family.Arith zs = jop.Arith opcode
op_of pool at opcode family.Inc zs = jop.Inc (u16_of (first zs)) (i16_of (second zs))
op_of pool at opcode family.Narrow zs = jop.Narrow opcode
op_of pool at opcode family.If zs = jop.If opcode (place at (first zs))
op_of pool at opcode family.Goto zs = jop.Goto (place at (first zs))
op_of pool at opcode family.TableSwitch zs = table at zs
op_of pool at opcode family.LookupSwitch zs = lookup at zs
op_of pool at opcode family.Return zs = jop.Return opcode
op_of pool at opcode (family.Static put) zs = jop.Static put (field_of (item pool zs))
op_of pool at opcode (family.Field put) zs = jop.Field put (field_of (item pool zs))
op_of pool at opcode family.CallVirtual zs = jop.Call opcode (method_of (item pool zs))
op_of pool at opcode family.CallDirect zs = jop.Call opcode (method_of (item pool zs))
op_of pool at opcode family.CallInterface zs = jop.Call opcode (method_of (item pool zs))
op_of pool at opcode family.New zs = jop.New (class_of (item pool zs))
op_of pool at opcode family.NewArray zs = jop.NewArray (u8_of (first zs))
op_of pool at opcode family.ANewArray zs = jop.ANewArray (class_of (item pool zs))
op_of pool at opcode family.ArrayLength zs = jop.ArrayLength
op_of pool at opcode family.Throw zs = jop.Throw
op_of pool at opcode family.CheckCast zs = jop.CheckCast (class_of (item pool zs))
op_of pool at opcode family.InstanceOf zs = jop.InstanceOf (class_of (item pool zs))
op_of pool at opcode _ zs = jop.Nop

-- an instruction with its names, or its place where it breaks rule 303
unfoldable pub named : List PoolItem → Raw → Result JInsn ℕ
named pool i =
    if is_unsupported pool i.family i.numbers then Err i.at
    else Ok (record { at = i.at; op = op_of pool i.at i.opcode i.family i.numbers })

-- all instructions, or the place of the first that breaks rule 303
unfoldable pub all_named : List PoolItem → List Raw → Result (List JInsn) ℕ
all_named pool insns = each (named pool) insns
