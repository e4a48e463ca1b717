-- The narrow code of a method that is not in int mode: what is written for each reached instruction, in the class
-- file's order.
use Rattle.std.specs.Prelude.{ℕ, ◌+◌, ◌-◌, ◌*◌, List, [], ◌∷◌, ◌++◌, length, map, flat_map, replicate, filter, Option}
use Rattle.std.specs.Prelude.{Some, None, Bool, true, false, nat_le, nat_lt, ◌==◌, ◌&&◌, if◌then◌else◌, ℤ, pos, negsuc}
use Rattle.std.specs.Prelude.{◌+ℤ◌}
use Rattle.std.specs.Int.RustNames.{int_le}
use Rattle.cjc_code.specs.Bytes.declared.fault.MemberId.{MemberId}
use Rattle.cjc_code.specs.ClassFile.Code.{CodeTree}
use Rattle.cjc_code.specs.ClassFile.declared.tree.Catch.{Catch}
use Rattle.cjc_code.specs.declared.insn.JInsn.{JInsn}
use Rattle.cjc_code.specs.declared.insn.JCase.{JCase}
use Rattle.cjc_code.specs.declared.insn.JOp.{JOp}
use Rattle.cjc_code.specs.declared.insn.JOp.TheVariants as jop
use Rattle.cjc_code.specs.Jvm as jvm
use Rattle.cjc_card_semantics.specs.Script.Sorts.{Sort, Boolean, Byte, Short, Int, Signature, Shape, OfClass}
use Rattle.cjc_card_semantics.specs.Script.Sorts.{OfNumbers}
use Rattle.cjc_card_semantics.specs.Script.Sorts.{OfReferences}
use Rattle.cjc_card_semantics.specs.Script.Sorts.{Booleans, Bytes, Shorts, Ints, field_sort, signature_of}
use Rattle.cjc_card_semantics.specs.Script.Sorts.{shape_named}
use Rattle.cjc_card_semantics.specs.Bytecode.Arguments.{widths}
use Rattle.cjc_card_semantics.specs.Bytecode.Numbers.{is_word}
use Rattle.cjc_code.specs.Range.Words.{low_word}
use Rattle.cjc_card_semantics.specs.CapRead.Card as card
use Rattle.cjc_ncode.specs.declared.narrow.NCase.{NCase}
use Rattle.cjc_ncode.specs.declared.narrow.NInsn.{NInsn}
use Rattle.cjc_ncode.specs.declared.narrow.NInsn.TheVariants.{Op, Push, Local, Inc, Words, Jump, Switch, Named}
use Rattle.cjc_ncode.specs.declared.narrow.NInsn.TheVariants.{Interface, NewArray, TypeTest}
use Rattle.cjc_ncode.specs.declared.narrow.NCatch.{NCatch}
use Rattle.cjc_ncode.specs.declared.narrow.NMethod.{NMethod}
use Rattle.cjc_ncode.specs.declared.narrow.PairRole.{PairRole}
use Rattle.cjc_ncode.specs.declared.narrow.PairRole.TheVariants.{Alone, Opens, Closes}
use Rattle.cjc_ncode.specs.declared.narrow.PoolKey.{PoolKey}
use Rattle.cjc_ncode.specs.declared.narrow.PoolKey.TheVariants as keys

-- What the world says of names, seen from the class that holds the code.
pub record Resolution : Type 0 where
  -- a field with the class in which it is found, and the value of a constant
  pub field : MemberId → MemberId
  pub constant : MemberId → Option ℤ
  -- whether an instance field stands at an index of at most 255
  pub is_near : MemberId → Bool
  -- the keys of a method that invokevirtual, invokespecial and invokestatic name: a virtual method that is named
  -- through a class of the package has that class, every other the class in which it is found, a super call the class
  -- that holds the code
  pub virtual : MemberId → PoolKey
  pub special : MemberId → PoolKey
  pub static : MemberId → PoolKey
  -- a method with the interface in which it is found
  pub interface : MemberId → MemberId
  -- what the instruction at an offset is to a pair that is written as one
  pub role : (offset : ℕ) → PairRole

-- ---- numbers and locals

-- sconst_m1 to sconst_5, else bspush, else sspush
abbrev pub pushed_word : ℤ → NInsn
pushed_word (pos n) = if nat_le n 5 then Op (card.sconst_0 + n) else (if nat_le n 127 then Push card.bspush (pos n)
    else Push card.sspush (pos n))
pushed_word (negsuc n) = if n == 0 then Op card.sconst_m1 else (if nat_le n 127 then Push card.bspush (negsuc n)
    else Push card.sspush (negsuc n))

-- the low word of a number
abbrev pub pushed : ℤ → List NInsn
pushed z = pushed_word (low_word z) ∷ []

-- the forms for locals 0 to 3 begin at an opcode
abbrev pub local : (short long index : ℕ) → List NInsn
local short long l = (if nat_le l 3 then Op (short + l) else Local long l) ∷ []

-- a number of one byte
abbrev pub is_byte : ℤ → Bool
is_byte z = int_le (negsuc 127) z && int_le z (pos 127)

-- ---- opcodes for opcodes

-- aaload, baload, saload; aastore, bastore, sastore
abbrev pub array_load : ℕ → ℕ
array_load op = if op == jvm.aaload then card.aaload else (if op == jvm.baload then card.baload else card.saload)

-- the same for stores
abbrev pub array_store : ℕ → ℕ
array_store op = if op == jvm.aastore then card.aastore else (if op == jvm.bastore then card.bastore else card.sastore)

-- pop, pop2, dup, dup2; dup_x1, dup_x2, dup2_x1, dup2_x2, swap
abbrev pub on_stack : ℕ → NInsn
on_stack op =
    if op == jvm.pop then Op card.pop else (if op == jvm.pop2 then Op card.pop2 else (if op == jvm.dup then Op card.dup
    else (if op == jvm.dup2 then Op card.dup2
    else (if op == jvm.dup_x1 then Words card.dup_x 1 2 else (if op == jvm.dup_x2 then Words card.dup_x 1 3
    else (if op == jvm.dup2_x1 then Words card.dup_x 2 3
    else (if op == jvm.dup2_x2 then Words card.dup_x 2 4 else Words card.swap_x 1 1)))))))

-- iadd, isub, imul, idiv, irem, ineg, ishl, ishr, iushr, iand, ior, ixor
abbrev pub arithmetic : ℕ → ℕ
arithmetic op =
    if op == jvm.iadd then card.sadd else (if op == jvm.isub then card.ssub else (if op == jvm.imul then card.smul
    else (if op == jvm.idiv then card.sdiv
    else (if op == jvm.irem then card.srem else (if op == jvm.ineg then card.sneg else (if op == jvm.ishl then card.sshl
    else (if op == jvm.ishr then card.sshr
    else (if op == jvm.iushr then card.sushr else (if op == jvm.iand then card.sand else (if op == jvm.ior then card.sor
    else card.sxor))))))))))

-- ifeq to ifle, if_icmpeq to if_icmple, if_acmpeq, if_acmpne, ifnull, ifnonnull
abbrev pub condition : ℕ → ℕ
condition op =
    if nat_le op jvm.ifle then op - jvm.ifeq + card.ifeq else (if nat_le op jvm.if_icmple
    then op - jvm.if_icmpeq + card.if_scmpeq
    else (if op == jvm.if_acmpeq then card.if_acmpeq else (if op == jvm.if_acmpne then card.if_acmpne
    else (if op == jvm.ifnull then card.ifnull else card.ifnonnull))))

-- ireturn, areturn, return
abbrev pub leaving : ℕ → ℕ
leaving op = if op == jvm.ireturn then card.sreturn else (if op == jvm.areturn then card.areturn else card.return)

-- how far the opcode of a type stands behind that of references
abbrev pub behind_reference : Sort → ℕ
behind_reference Boolean = 1
behind_reference Byte = 1
behind_reference Short = 2
behind_reference Int = 3
behind_reference other = 0

-- ---- switches

-- the cases within 16 bits, of a table from a low value on
abbrev pub table_cases : (place : ℕ → ℕ) → ℤ → List ℕ → List NCase
table_cases place low [] = []
table_cases place low (t ∷ targets) =
    let more = table_cases place (low +ℤ pos 1) targets in
    if is_word low then record { value = low; target = place t } ∷ more else more

-- a pair with the place of its target
abbrev pub pair_case : (place : ℕ → ℕ) → JCase → NCase
pair_case place c = record { value = c.value; target = place c.target }

-- the pairs within 16 bits
abbrev pub pair_cases : (place : ℕ → ℕ) → List JCase → List NCase
pair_cases place cases = map (pair_case place) (filter (λ c. is_word c.value) cases)

-- the first value that is left
abbrev pub low_of : List NCase → ℤ
low_of [] = pos 0
low_of (c ∷ cases) = c.value

-- pop and a goto to the default where no case is left
abbrev pub switched : (op other : ℕ) → (low : ℤ) → List NCase → List NInsn
switched op other low [] = Op card.pop ∷ Jump card.goto other ∷ []
switched op other low (c ∷ cases) = Switch op other low (c ∷ cases) ∷ []

-- ---- names

-- getstatic or putstatic of a type
abbrev pub static_access : (put : Bool) → Sort → ℕ
static_access put sort = (if put then card.putstatic_a else card.getstatic_a) + behind_reference sort

-- getfield or putfield of a type, in the form of one byte or two
abbrev pub field_access : (put near : Bool) → Sort → ℕ
field_access put near sort =
    (if near then (if put then card.putfield_a else card.getfield_a) else (if put then card.putfield_a_w
    else card.getfield_a_w)) + behind_reference sort

-- getfield_this or putfield_this of a type
abbrev pub this_access : (put : Bool) → Sort → ℕ
this_access put sort = field_access put false sort + 4

-- a constant is pushed
abbrev pub static_by : Resolution → (put : Bool) → MemberId → Option ℤ → List NInsn
static_by r put f (Some z) = pushed z
static_by r put f None = Named (static_access put (field_sort f.desc)) (keys.StaticField (r.field f)) ∷ []

-- a call by its key
abbrev pub called : Resolution → (op : ℕ) → MemberId → NInsn
called r op m = if op == jvm.invokevirtual then Named card.invokevirtual (r.virtual m) else (if op == jvm.invokespecial
    then Named card.invokespecial (r.special m) else Named card.invokestatic (r.static m))

-- the words of the parameters, and the receiver
abbrev pub words_by : Option Signature → ℕ
words_by None = 1
words_by (Some types) = 1 + widths types.params

-- of an interface's method
abbrev pub nargs_of : MemberId → ℕ
nargs_of m = words_by (signature_of m.desc)

-- a call of any kind
abbrev pub call_by : Resolution → (op : ℕ) → MemberId → List NInsn
call_by r op m = (if op == jvm.invokeinterface then Interface (nargs_of m) (r.interface m) else called r op m) ∷ []

-- boolean 4, byte 8, short 9, int 10 of a class file
abbrev pub element_number : ℕ → ℕ
element_number n = if n == 4 then 10 else (if n == 8 then 11 else (if n == 9 then 12 else 13))

-- checkcast or instanceof of a type
abbrev pub type_test : (op : ℕ) → Option (Shape (List ℕ)) → List NInsn
type_test op None = []
type_test op (Some (OfClass class)) = TypeTest op 0 (Some class) ∷ []
type_test op (Some (OfReferences class)) = TypeTest op 14 (Some class) ∷ []
type_test op (Some (OfNumbers Booleans)) = TypeTest op 10 None ∷ []
type_test op (Some (OfNumbers Bytes)) = TypeTest op 11 None ∷ []
type_test op (Some (OfNumbers Shorts)) = TypeTest op 12 None ∷ []
type_test op (Some (OfNumbers Ints)) = TypeTest op 13 None ∷ []

-- ---- an instruction

-- What is written for an instruction, where `place` gives the place of what is written for an offset.
abbrev pub written : Resolution → (place : ℕ → ℕ) → JOp → List NInsn
written r place jop.Nop = []
written r place jop.Null = Op card.aconst_null ∷ []
written r place (jop.Number z) = pushed z
written r place (jop.Load false l) = local card.sload_0 card.sload l
written r place (jop.Load true l) = local card.aload_0 card.aload l
written r place (jop.Store false l) = local card.sstore_0 card.sstore l
written r place (jop.Store true l) = local card.astore_0 card.astore l
written r place (jop.ArrayLoad op) = Op (array_load op) ∷ []
written r place (jop.ArrayStore op) = Op (array_store op) ∷ []
written r place (jop.Stack op) = on_stack op ∷ []
written r place (jop.Arith op) = Op (arithmetic op) ∷ []
written r place (jop.Inc l by) = Inc (if is_byte by then card.sinc else card.sinc_w) l by ∷ []
written r place (jop.Narrow op) = if op == jvm.i2b then Op card.s2b ∷ [] else []
written r place (jop.If op target) = Jump (condition op) (place target) ∷ []
written r place (jop.Goto target) = Jump card.goto (place target) ∷ []
written r place (jop.TableSwitch other low targets) = let cases = table_cases place low targets
    in switched card.stableswitch (place other) (low_of cases) cases
written r place (jop.LookupSwitch other cases) = switched card.slookupswitch (place other) (pos 0)
    (pair_cases place cases)
written r place (jop.Return op) = Op (leaving op) ∷ []
written r place (jop.Static put f) = static_by r put f (r.constant f)
written r place (jop.Field put f) = Named (field_access put (r.is_near f) (field_sort f.desc)) (keys.Field (r.field f))
    ∷ []
written r place (jop.Call op m) = call_by r op m
written r place (jop.New class) = Named card.new (keys.Class class) ∷ []
written r place (jop.NewArray kind) = NewArray (element_number kind) ∷ []
written r place (jop.ANewArray class) = Named card.anewarray (keys.Class class) ∷ []
written r place jop.ArrayLength = Op card.arraylength ∷ []
written r place jop.Throw = Op card.athrow ∷ []
written r place (jop.CheckCast class) = type_test card.checkcast (shape_named class)
written r place (jop.InstanceOf class) = type_test card.instanceof (shape_named class)

-- ---- pairs that are written as one

-- an access of an instance field
pub record Access : Type 0 where
  pub put : Bool
  pub field : MemberId

-- that of getfield and putfield
abbrev pub accessed : JOp → Option Access
accessed (jop.Field put f) = Some (record { put = put; field = f })
accessed op = None

-- a load of a local
abbrev pub is_load : JOp → Bool
is_load (jop.Load refs l) = true
is_load op = false

-- the load that opens a pair is left out
abbrev pub written_open : Resolution → (place : ℕ → ℕ) → JOp → List NInsn
written_open r place op = if is_load op then [] else written r place op

-- the access that closes a pair takes the object of local 0
abbrev pub on_this : Resolution → (place : ℕ → ℕ) → JOp → Option Access → List NInsn
on_this r place op None = written r place op
on_this r place op (Some a) =
    let f = a.field in Named (this_access a.put (field_sort f.desc)) (keys.Field (r.field f)) ∷ []

-- what is written for an instruction of this role
abbrev pub written_as : PairRole → Resolution → (place : ℕ → ℕ) → JOp → List NInsn
written_as Alone r place op = written r place op
written_as Opens r place op = written_open r place op
written_as Closes r place op = on_this r place op (accessed op)

-- What is written for an instruction at its offset.
abbrev pub written_for : Resolution → (place : ℕ → ℕ) → JInsn → List NInsn
written_for r place i = written_as (r.role i.at) r place i.op

-- ---- a method

-- how many instructions are written before an offset, of reached ones
abbrev pub place_in : Resolution → List JInsn → (offset : ℕ) → ℕ
place_in r [] offset = 0
place_in r (i ∷ insns) offset = (if nat_lt i.at offset then length (written_for r (λ o. 0) i) else 0) + place_in r insns
    offset

-- what a table says of reached instructions: the rows that are there
abbrev pub reached : {A : Type 0} → List JInsn → List (Option A) → List JInsn
reached (i ∷ insns) (Some row ∷ rows) = i ∷ reached insns rows
reached (i ∷ insns) (None ∷ rows) = reached insns rows
reached insns rows = []

-- a handler over what is written; none where nothing in its range is
abbrev pub catch_at : (place : ℕ → ℕ) → Catch → NCatch
catch_at place c = record {
  start = place c.start;
  end = place c.end;
  target = place c.target;
  class = c.class;
  at = c.target;
}

-- handlers over something that is written
abbrev pub catches_at : (place : ℕ → ℕ) → List Catch → List NCatch
catches_at place catches = filter (λ c. nat_lt c.start c.end) (map (catch_at place) catches)

-- The instructions of a method: those of each reached instruction in order.
abbrev pub narrow_code : Resolution → List JInsn → List NInsn
narrow_code r insns = flat_map (written_for r (place_in r insns)) insns

-- of each written instruction the place of its own in the method's list, where the first has this place
abbrev pub sources : {A : Type 0} → Resolution → (first : ℕ) → List JInsn → List (Option A) → List ℕ
sources r k (i ∷ insns) (Some row ∷ rows) = replicate (length (written_for r (λ o. 0) i)) k
    ++ sources r (k + 1) insns rows
sources r k (i ∷ insns) (None ∷ rows) = sources r (k + 1) insns rows
sources r k insns rows = []

-- the widest size of what is written for an instruction, in bytes
abbrev pub widest : JOp → ℕ
widest jop.Nop = 0
widest jop.Null = 1
widest (jop.Number z) = 3
widest (jop.Load refs l) = 2
widest (jop.Store refs l) = 2
widest (jop.ArrayLoad op) = 1
widest (jop.ArrayStore op) = 1
widest (jop.Stack op) = if nat_le op jvm.dup then 1 else (if op == jvm.dup2 then 1 else 2)
widest (jop.Arith op) = 1
widest (jop.Inc l by) = 4
widest (jop.Narrow op) = if op == jvm.i2b then 1 else 0
widest (jop.If op target) = 3
widest (jop.Goto target) = 3
widest (jop.TableSwitch other low targets) = 7 + 2 * length targets
widest (jop.LookupSwitch other cases) = 5 + 4 * length cases
widest (jop.Return op) = 1
widest (jop.Static put f) = 3
widest (jop.Field put f) = 3
widest (jop.Call op m) = if op == jvm.invokeinterface then 5 else 3
widest (jop.New class) = 3
widest (jop.NewArray kind) = 3
widest (jop.ANewArray class) = 3
widest jop.ArrayLength = 1
widest jop.Throw = 1
widest (jop.CheckCast class) = 4
widest (jop.InstanceOf class) = 4

-- of all reached instructions
abbrev pub widest_sum : List JInsn → ℕ
widest_sum [] = 0
widest_sum (i ∷ insns) = widest i.op + widest_sum insns

-- The narrow method of a method with these words of arguments: an instruction is reached where its least table has a
-- row.
abbrev pub narrow_method : {A : Type 0} → Resolution → CodeTree → (nargs : ℕ) → List JInsn → List (Option A) → NMethod
narrow_method r code nargs insns rows =
    let kept = reached insns rows in
    record {
      insns = narrow_code r kept;
      from = sources r 0 insns rows;
      catches = catches_at (place_in r kept) code.catches;
      max_stack = code.max_stack;
      nargs = nargs;
      max_locals = code.max_locals - nargs;
      widest = widest_sum kept;
    }
