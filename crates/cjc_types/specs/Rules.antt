-- Rules 501, 502 and 503 over what is known before an instruction.
use Rattle.std.specs.Prelude.{◌≡◌, ℕ, ◌+◌, ◌-◌, Bool, true, false, not, ◌==◌, ◌&&◌, ◌||◌, nat_lt, if◌then◌else◌, List}
use Rattle.std.specs.Prelude.{[], ◌∷◌, length, get_or, Option, Some, None, codes}
use Rattle.std.specs.List.{list_all}
use Rattle.std.specs.Str.{bytes_eq}
use Rattle.cjc_bytes.specs.Descriptor.{Part}
use Rattle.cjc_bytes.specs.declared.fault.MemberId.{MemberId}
use Rattle.cjc_bytes.specs.declared.descriptor.Kind.{Kind}
use Rattle.cjc_bytes.specs.declared.descriptor.Kind.TheVariants as kinds
use Rattle.cjc_code.specs.declared.insn.JOp.{JOp}
use Rattle.cjc_code.specs.declared.insn.JOp.TheVariants as jop
use Rattle.cjc_code.specs.Jvm as jvm
use Rattle.cjc_world.specs.Classes.{Class, Member, class_at}
use Rattle.cjc_bytes.specs.AccessFlags.{is_private}
use Rattle.cjc_world.specs.Lookup.{find_method}
use Rattle.cjc_world.specs.Subtype.{is_subtype, starts}
use Rattle.cjc_world.specs.declared.found.Found.{Found}
use Rattle.cjc_types.specs.declared.cell.Cell.{Cell}
use Rattle.cjc_types.specs.declared.cell.Cell.TheVariants.{Number, Refs, Unusable}
use Rattle.cjc_types.specs.declared.state.Stack.{Stack}
use Rattle.cjc_types.specs.declared.state.Stack.TheVariants.{Cells, Clash}
use Rattle.cjc_types.specs.declared.state.State.{State}
use Rattle.cjc_types.specs.Types.{parts, held}
use Rattle.cjc_types.specs.Steps.{operand, takes, stack_behind}
use Rattle.cjc_types.specs.Flow.{Body}

-- ---- kinds of cells

-- a value of boolean, byte, short or int
abbrev pub is_number : Cell → Bool
is_number Number = true
is_number (Refs names) = false
is_number Unusable = false

-- a reference to an object or an array, or null
abbrev pub is_reference : Cell → Bool
is_reference Number = false
is_reference (Refs names) = true
is_reference Unusable = false

-- a reference all of whose types pass
abbrev pub all_types : (List ℕ → Bool) → Cell → Bool
all_types passes Number = false
all_types passes (Refs names) = list_all passes names
all_types passes Unusable = false

-- a reference of this class or array type
abbrev pub is_of : List Class → (class : List ℕ) → Cell → Bool
is_of w class cell = all_types (λ name. is_subtype w name class) cell

-- a value of a type; nothing is one of char, long, float and double
abbrev pub is_value : List Class → Kind → (class : List ℕ) → Cell → Bool
is_value w kinds.Bool class cell = is_number cell
is_value w kinds.Byte class cell = is_number cell
is_value w kinds.Short class cell = is_number cell
is_value w kinds.Int class cell = is_number cell
is_value w kinds.Other class cell = false
is_value w kinds.Ref class cell = is_of w class cell
is_value w kinds.Void class cell = false

-- a value of the type of a field, a parameter or a result
abbrev pub is_value_of : List Class → Part → Cell → Bool
is_value_of w p cell = is_value w p.kind p.class cell

-- ---- arrays

-- whether there is a name
abbrev pub is_some : Option (List ℕ) → Bool
is_some (Some name) = true
is_some None = false

-- an array of numbers whose descriptor has this letter
abbrev pub is_array_by : (letter : ℕ) → (name : List ℕ) → Bool
is_array_by letter name = bytes_eq name (91 ∷ letter ∷ [])

-- whether an array load or store by this opcode is of this array type: iaload and iastore of int, aaload and aastore of
-- references, baload and bastore of byte or boolean, saload and sastore of short
abbrev pub is_array_for : (opcode : ℕ) → (name : List ℕ) → Bool
is_array_for opcode name =
    if (opcode == jvm.iaload) || (opcode == jvm.iastore) then is_array_by 73 name
    else if (opcode == jvm.aaload) || (opcode == jvm.aastore) then is_some (held name)
    else if (opcode == jvm.baload) || (opcode == jvm.bastore) then is_array_by 66 name || is_array_by 90 name
    else is_array_by 83 name

-- ---- methods

-- what is read where a class has no such member: no flag is set
abbrev pub no_member : Member
no_member = record { flags = 0; name = []; desc = []; token = 0 }

-- whether the method that was found is private, by its flags in the class that holds it
abbrev pub is_private_in : Found → Option Class → Bool
is_private_in f None = false
is_private_in f (Some c) = is_private (get_or c.methods (f.member - length c.fields) no_member).flags

-- whether a method was found and is private
abbrev pub is_found_private : List Class → Option Found → Bool
is_found_private w None = false
is_found_private w (Some f) = is_private_in f (class_at w f.imported f.class)

-- the instruction names a private method
unfoldable pub names_private : List Class → MemberId → Bool
names_private w id = is_found_private w (find_method w id.class id.name id.desc)

-- invokespecial of a method that is neither a constructor nor private
abbrev pub is_super_call : List Class → (opcode : ℕ) → MemberId → Bool
is_super_call w opcode id = (opcode == jvm.invokespecial) && not (bytes_eq id.name (codes "<init>"))
    && not (names_private w id)

-- the class that the receiver of a call is of: of a call by super the class that holds the code, else the one that is
-- named
abbrev pub receiver_class : List Class → Body → (opcode : ℕ) → MemberId → List ℕ
receiver_class w b opcode id = if is_super_call w opcode id then b.class else id.class

-- the k-th operand of a call from the top: the last parameter first, the receiver behind all of them
abbrev pub is_argument : List Class → Body → (opcode : ℕ) → MemberId → ℕ → Cell → Bool
is_argument w b opcode id k cell =
    let d = parts id.desc in
    let count = length d.params in
    if nat_lt k count then is_value_of w (get_or d.params (count - 1 - k) d.result) cell
    else is_of w (receiver_class w b opcode id) cell

-- ---- 502: an operand is of the wrong kind or class

-- if_acmpeq, if_acmpne, ifnull and ifnonnull
abbrev pub tests_references : (opcode : ℕ) → Bool
tests_references opcode = (opcode == jvm.if_acmpeq) || (opcode == jvm.if_acmpne) || (opcode == jvm.ifnull)
    || (opcode == jvm.ifnonnull)

-- the operands of an array load from the top: the index, the array
abbrev pub is_load_operand : (opcode : ℕ) → ℕ → Cell → Bool
is_load_operand opcode k cell = if k == 0 then is_number cell else all_types (is_array_for opcode) cell

-- those of an array store: the value, the index, the array
abbrev pub is_store_operand : (opcode : ℕ) → ℕ → Cell → Bool
is_store_operand opcode k cell =
    if k == 0 then (if opcode == jvm.aastore then is_reference cell else is_number cell)
    else if k == 1 then is_number cell
    else all_types (is_array_for opcode) cell

-- those of getfield, the receiver, and of putfield, the value and the receiver
abbrev pub is_field_operand : List Class → (put : Bool) → MemberId → ℕ → Cell → Bool
is_field_operand w put field k cell =
    if put && (k == 0) then is_value_of w (parts field.desc).result cell
    else is_of w field.class cell

-- the class that the operand of athrow is of
abbrev pub throwable : List ℕ
throwable = codes "java/lang/Throwable"

-- whether the k-th operand from the top may be this cell
abbrev pub accepts : List Class → Body → JOp → ℕ → Cell → Bool
accepts w b jop.Nop k cell = true
accepts w b jop.Null k cell = true
accepts w b (jop.Number z) k cell = true
accepts w b (jop.Load refs i) k cell = true
accepts w b (jop.Store refs i) k cell = if refs then is_reference cell else is_number cell
accepts w b (jop.ArrayLoad opcode) k cell = is_load_operand opcode k cell
accepts w b (jop.ArrayStore opcode) k cell = is_store_operand opcode k cell
accepts w b (jop.Stack opcode) k cell = true
accepts w b (jop.Arith opcode) k cell = is_number cell
accepts w b (jop.Inc i by) k cell = true
accepts w b (jop.Narrow opcode) k cell = is_number cell
accepts w b (jop.If opcode target) k cell = if tests_references opcode then is_reference cell else is_number cell
accepts w b (jop.Goto target) k cell = true
accepts w b (jop.TableSwitch other low targets) k cell = is_number cell
accepts w b (jop.LookupSwitch other cases) k cell = is_number cell
accepts w b (jop.Return opcode) k cell = is_value_of w (parts b.desc).result cell
accepts w b (jop.Static put field) k cell = is_value_of w (parts field.desc).result cell
accepts w b (jop.Field put field) k cell = is_field_operand w put field k cell
accepts w b (jop.Call opcode method) k cell = is_argument w b opcode method k cell
accepts w b (jop.New class) k cell = true
accepts w b (jop.NewArray number) k cell = is_number cell
accepts w b (jop.ANewArray class) k cell = is_number cell
accepts w b jop.ArrayLength k cell = all_types (starts 91) cell
accepts w b jop.Throw k cell = is_of w throwable cell
accepts w b (jop.CheckCast class) k cell = is_reference cell
accepts w b (jop.InstanceOf class) k cell = is_reference cell

-- one of so many operands, from the k-th on, that is there is wrong
abbrev pub has_wrong : List Class → Body → JOp → (count k : ℕ) → List Cell → Bool
has_wrong w b op count k [] = false
has_wrong w b op count k (x ∷ xs) = (nat_lt k count && not (accepts w b op k x)) || has_wrong w b op count (k + 1) xs

-- the local that an instruction loads or changes is of the wrong kind
abbrev pub has_wrong_local : JOp → (locals : List Cell) → Bool
has_wrong_local (jop.Load refs i) locals = not (if refs then is_reference (operand locals i)
    else is_number (operand locals i))
has_wrong_local (jop.Inc i by) locals = not (is_number (operand locals i))
has_wrong_local _ locals = false

-- whether a return instruction is that of a result: ireturn of numbers, areturn of references, return of none
abbrev pub returns : (opcode : ℕ) → Kind → Bool
returns opcode kinds.Bool = opcode == jvm.ireturn
returns opcode kinds.Byte = opcode == jvm.ireturn
returns opcode kinds.Short = opcode == jvm.ireturn
returns opcode kinds.Int = opcode == jvm.ireturn
returns opcode kinds.Other = false
returns opcode kinds.Ref = opcode == jvm.areturn
returns opcode kinds.Void = opcode == jvm.return

-- the return instruction is not that of the method's result
abbrev pub is_wrong_return : Body → JOp → Bool
is_wrong_return b (jop.Return opcode) = not (returns opcode (parts b.desc).result.kind)
is_wrong_return b _ = false

-- an operand or a local is of the wrong kind or class, or the return instruction is not that of the method's result
abbrev pub is_wrong : List Class → Body → JOp → (locals stack : List Cell) → Bool
is_wrong w b op locals s = has_wrong w b op (takes op) 0 s || has_wrong_local op locals || is_wrong_return b op

-- ---- 503: an operand is missing, or the stack before or behind the instruction has more than max_stack cells

-- fewer cells than the instruction takes, or more than max_stack before or behind it
abbrev pub is_off : Body → JOp → (locals stack : List Cell) → Bool
is_off b op locals s = nat_lt (length s) (takes op) || nat_lt b.max_stack (length s)
    || nat_lt b.max_stack (length (stack_behind op locals s))

-- ---- the rules

-- The state before an instruction breaks the rule of this number.
pub data Breaks (w : List Class) (b : Body) (op : JOp) : State → ℕ → Type 0 where
  -- ways with stacks of different heights lead here
  clash : (locals : List Cell) → Breaks w b op (record { stack = Clash; locals = locals }) 501
  wrong : (s locals : List Cell) → is_wrong w b op locals s ≡ true
      → Breaks w b op (record { stack = Cells s; locals = locals }) 502
  off : (s locals : List Cell) → is_off b op locals s ≡ true
      → Breaks w b op (record { stack = Cells s; locals = locals }) 503

-- the first rule that an instruction breaks on this stack with these locals
abbrev pub rule_of_stack : List Class → Body → JOp → (locals : List Cell) → Stack → Option ℕ
rule_of_stack w b op locals Clash = Some 501
rule_of_stack w b op locals (Cells s) = if is_wrong w b op locals s then Some 502 else if is_off b op locals s
    then Some 503 else None

-- the first rule that the state before an instruction breaks
unfoldable pub first_rule : List Class → Body → JOp → State → Option ℕ
first_rule w b op x = rule_of_stack w b op x.locals x.stack
