-- The narrow code of a method in int mode: every number is two words with its whole value of 32 bits, so words are cut
-- only where an
-- element, a field, a parameter or a result holds less.
use Rattle.std.specs.Prelude.{ℕ, ◌+◌, ◌-◌, ◌*◌, List, [], ◌∷◌, ◌++◌, length, map, take, replicate, sum_by, max, Option}
use Rattle.std.specs.Prelude.{Some, None, Bool, true, false, nat_le, nat_lt, ◌==◌, if◌then◌else◌, ℤ, pos, negsuc, ◌+ℤ◌}
use Rattle.std.specs.List.{list_any}
use Rattle.cjc_code.specs.Bytes.declared.fault.MemberId.{MemberId}
use Rattle.cjc_code.specs.ClassFile.Code.{CodeTree}
use Rattle.cjc_code.specs.declared.insn.JInsn.{JInsn}
use Rattle.cjc_code.specs.declared.insn.JOp.{JOp}
use Rattle.cjc_code.specs.declared.insn.JOp.TheVariants as jop
use Rattle.cjc_code.specs.Jvm as jvm
use Rattle.cjc_card_semantics.specs.Script.Sorts.{Sort, Boolean, Byte, Short, Int, Reference, Signature}
use Rattle.cjc_card_semantics.specs.Script.Sorts.{field_sort}
use Rattle.cjc_card_semantics.specs.Script.Sorts.{signature_of}
use Rattle.cjc_card_semantics.specs.Script.Sorts.{shape_named}
use Rattle.cjc_card_semantics.specs.Bytecode.Arguments.{widths}
use Rattle.cjc_ncode.specs.declared.narrow.NCase.{NCase}
use Rattle.cjc_ncode.specs.declared.narrow.NInsn.{NInsn}
use Rattle.cjc_ncode.specs.declared.narrow.NInsn.TheVariants.{Op, Push, Inc, Words, Jump, Switch, Named, NewArray}
use Rattle.cjc_ncode.specs.declared.narrow.NMethod.{NMethod}
use Rattle.cjc_ncode.specs.declared.narrow.PoolKey.TheVariants as keys
use Rattle.cjc_ncode.specs.Written.{Resolution, local, is_byte, arithmetic, condition, leaving, pair_case}
use Rattle.cjc_ncode.specs.Written.{static_access, field_access, call_by, element_number, type_test, catches_at}
use Rattle.cjc_card_semantics.specs.CapRead.Card as card

-- what the least tables say of the frame before an instruction
pub record Before : Type 0 where
  -- whether each cell of the stack is a reference, the top first; a cell that is none is a number
  pub references : List Bool
  -- whether the index of the element that is read or written lies within -32769 to 65535
  pub is_index_inside : Bool

-- a reached instruction
pub record Reached : Type 0 where
  pub insn : JInsn
  pub before : Before

-- a method: the types of its parameters, the receiver among them, and of its result, and the locals of the class file
pub record Frame : Type 0 where
  pub params : List Sort
  pub result : Option Sort
  pub max_locals : ℕ

-- ---- where locals stand

-- the words of the arguments
abbrev pub nargs : Frame → ℕ
nargs f = widths f.params

-- the first word of a local of the class file, which has two
abbrev pub first_word : Frame → ℕ → ℕ
first_word f l = nargs f + 2 * l

-- the first word of a scratch pair
abbrev pub scratch : Frame → ℕ → ℕ
scratch f j = nargs f + 2 * f.max_locals + 2 * j

-- ---- numbers

-- a type whose values are one word
abbrev pub is_short : Sort → Bool
is_short Boolean = true
is_short Byte = true
is_short Short = true
is_short _ = false

-- s2i behind a value of such a type, i2s before it is stored or handed over
abbrev pub widened : Sort → List NInsn
widened sort = if is_short sort then Op card.s2i ∷ [] else []

-- i2s in front of a store or a hand-over of a value of such a type
abbrev pub narrowed : Sort → List NInsn
narrowed sort = if is_short sort then Op card.i2s ∷ [] else []

-- iconst_m1 to iconst_5, else bipush, else sipush, else iipush
abbrev pub pushed : ℤ → NInsn
pushed (pos n) = if nat_le n 5 then Op (card.iconst_0 + n) else (if nat_le n 127 then Push card.bipush (pos n)
    else (if nat_le n 32767 then Push card.sipush (pos n) else Push card.iipush (pos n)))
pushed (negsuc n) = if n == 0 then Op card.iconst_m1 else (if nat_le n 127 then Push card.bipush (negsuc n)
    else (if nat_le n 32767 then Push card.sipush (negsuc n) else Push card.iipush (negsuc n)))

-- iload, aload, istore and astore of a word and, of a number, the one behind it
abbrev pub loads : (reference : Bool) → (word : ℕ) → List NInsn
loads false n = local card.iload_0 card.iload n
loads true n = local card.aload_0 card.aload n

-- istore or astore of the word; an istore takes the word behind it too
abbrev pub stores : (reference : Bool) → (word : ℕ) → List NInsn
stores false n = local card.istore_0 card.istore n
stores true n = local card.astore_0 card.astore n

-- a type whose values are references
abbrev pub is_reference : Sort → Bool
is_reference (Reference shape) = true
is_reference _ = false

-- ---- what stands before the first instruction

-- an argument that begins at a word goes to a local
abbrev pub moved : Frame → Sort → (word l : ℕ) → List NInsn
moved f sort word l =
    (if is_short sort then local card.sload_0 card.sload word else loads (is_reference sort) word) ++ widened sort
    ++ stores (is_reference sort) (first_word f l)

-- those from a word and a local on
abbrev pub moved_from : Frame → (word l : ℕ) → List Sort → List NInsn
moved_from f word l [] = []
moved_from f word l (sort ∷ sorts) = moved f sort word l ++ moved_from f (word + widths (sort ∷ [])) (l + 1) sorts

-- the arguments go to the locals of the class file, from the first word and the first local on
abbrev pub prologue : Frame → List NInsn
prologue f = moved_from f 0 0 f.params

-- ---- elements

-- An index of two words becomes one. One that may lie outside 16 bits becomes -1 where it does: dup2 dup2 i2s s2i icmp
-- ifeq, over pop2
-- and iconst_m1, to i2s. `here` is the place of the first.
abbrev pub guard : (inside : Bool) → (here : ℕ) → List NInsn
guard true here = Op card.i2s ∷ []
guard false here = Op card.dup2 ∷ Op card.dup2 ∷ Op card.i2s ∷ Op card.s2i ∷ Op card.icmp ∷ Jump card.ifeq (here + 8)
    ∷ Op card.pop2 ∷ Op card.iconst_m1 ∷ Op card.i2s ∷ []

-- iaload, aaload, baload, saload
abbrev pub element_read : (op : ℕ) → List NInsn
element_read op = if op == jvm.iaload then Op card.iaload ∷ [] else (if op == jvm.aaload then Op card.aaload ∷ []
    else (if op == jvm.baload then Op card.baload ∷ Op card.s2i ∷ [] else Op card.saload ∷ Op card.s2i ∷ []))

-- the value goes below the index, which becomes one word, and above it again
abbrev pub index_of_one : (inside : Bool) → (here : ℕ) → List NInsn
index_of_one inside here = Words card.swap_x 1 2 ∷ (guard inside (here + 1) ++ Words card.swap_x 1 1 ∷ [])

-- the same with a value of two words
abbrev pub index_of_two : (inside : Bool) → (here : ℕ) → List NInsn
index_of_two inside here = Words card.swap_x 2 2 ∷ (guard inside (here + 1) ++ Words card.swap_x 1 2 ∷ [])

-- iastore, aastore, bastore, sastore
abbrev pub element_written : (op : ℕ) → (inside : Bool) → (here : ℕ) → List NInsn
element_written op inside here =
    if op == jvm.iastore then index_of_two inside here ++ Op card.iastore ∷ [] else (if op == jvm.aastore
    then index_of_one inside here ++ Op card.aastore ∷ []
    else Op card.i2s ∷ (index_of_one inside (here + 1) ++ Op (if op == jvm.bastore then card.bastore else card.sastore)
    ∷ []))

-- ---- the stack

-- the words of the cells on top
abbrev pub words : (cells : ℕ) → List Bool → ℕ
words n references = sum_by (λ (r : Bool). if r then 1 else 2) (take n references)

-- pop of a reference, pop2 of a number
abbrev pub dropped : Bool → NInsn
dropped reference = Op (if reference then card.pop else card.pop2)

-- dup, dup2, or dup_x of more words
abbrev pub copied : (words : ℕ) → NInsn
copied w = if w == 1 then Op card.dup else (if w == 2 then Op card.dup2 else Words card.dup_x w 0)

-- pop, pop2, dup, dup2; dup_x1, dup_x2, dup2_x1, dup2_x2, swap
abbrev pub on_stack : (op : ℕ) → List Bool → List NInsn
on_stack op references =
    if op == jvm.pop then map dropped (take 1 references) else (if op == jvm.pop2 then map dropped (take 2 references)
    else (if op == jvm.dup then copied (words 1 references) ∷ [] else (if op == jvm.dup2
    then copied (words 2 references) ∷ []
    else (if op == jvm.dup_x1 then Words card.dup_x (words 1 references) (words 2 references) ∷ []
    else (if op == jvm.dup_x2 then Words card.dup_x (words 1 references) (words 3 references) ∷ []
    else (if op == jvm.dup2_x1 then Words card.dup_x (words 2 references) (words 3 references) ∷ []
    else (if op == jvm.dup2_x2 then Words card.dup_x (words 2 references) (words 4 references) ∷ []
    else Words card.swap_x (words 1 references) (words 2 references - words 1 references) ∷ [])))))))

-- ---- jumps and switches

-- ifeq to ifle compare with iconst_0, if_icmpeq to if_icmple both numbers; the others see references
abbrev pub jumped : (op target : ℕ) → List NInsn
jumped op target =
    if nat_le op jvm.ifle then Op card.iconst_0 ∷ Op card.icmp ∷ Jump (card.ifeq + (op - jvm.ifeq)) target ∷ []
    else (if nat_le op jvm.if_icmple then Op card.icmp ∷ Jump (card.ifeq + (op - jvm.if_icmpeq)) target ∷ []
    else Jump (condition op) target ∷ [])

-- every case of a table, from a low value on
abbrev pub table_cases : (place : ℕ → ℕ) → ℤ → List ℕ → List NCase
table_cases place low [] = []
table_cases place low (t ∷ targets) = record { value = low; target = place t } ∷ table_cases place (low +ℤ pos 1)
    targets

-- ---- fields and calls

-- a constant is pushed; any other static field is read, and widened where it has one word
abbrev pub static_get : Resolution → MemberId → Option ℤ → List NInsn
static_get r f (Some z) = pushed z ∷ []
static_get r f None = let sort = field_sort f.desc in Named (static_access false sort) (keys.StaticField (r.field f))
    ∷ widened sort

-- a static field is written, with i2s before where it has one word
abbrev pub static_put : Resolution → MemberId → List NInsn
static_put r f = let sort = field_sort f.desc in narrowed sort
    ++ Named (static_access true sort) (keys.StaticField (r.field f)) ∷ []

-- an instance field is read, and widened where it has one word
abbrev pub field_get : Resolution → MemberId → List NInsn
field_get r f = let sort = field_sort f.desc in Named (field_access false (r.is_near f) sort) (keys.Field (r.field f))
    ∷ widened sort

-- an instance field is written, with i2s before where it has one word
abbrev pub field_put : Resolution → MemberId → List NInsn
field_put r f = let sort = field_sort f.desc in narrowed sort ++ Named (field_access true (r.is_near f) sort)
    (keys.Field (r.field f)) ∷ []

-- all but the last
abbrev pub before_last : List Sort → List Sort
before_last sorts = take (length sorts - 1) sorts

-- A call whose last parameter alone has one word cuts it where it is. One with another such parameter hands all over by
-- scratch pairs.
abbrev pub is_by_scratch : List Sort → Bool
is_by_scratch params = list_any is_short (before_last params)

-- parameters of these numbers go into scratch pairs, the last first
abbrev pub put_aside : Frame → (number : ℕ) → List Sort → List NInsn
put_aside f j [] = []
put_aside f j (sort ∷ sorts) = put_aside f (j + 1) sorts ++ stores (is_reference sort) (scratch f j)

-- and come back in order, cut where they have one word
abbrev pub taken_back : Frame → (number : ℕ) → List Sort → List NInsn
taken_back f j [] = []
taken_back f j (sort ∷ sorts) = loads (is_reference sort) (scratch f j) ++ narrowed sort ++ taken_back f (j + 1) sorts

-- how the parameters of a call are cut: by scratch pairs, by i2s of the last alone, or not at all
abbrev pub handed_over : Frame → List Sort → List NInsn
handed_over f params =
    if is_by_scratch params then put_aside f 0 params ++ taken_back f 0 params else (if list_any is_short params
    then Op card.i2s ∷ [] else [])

-- s2i behind a call whose result has one word
abbrev pub widened_result : Option Sort → List NInsn
widened_result None = []
widened_result (Some sort) = widened sort

-- a call, with its parameters cut before it and its result widened behind it, where its descriptor can be read
abbrev pub called_with : Frame → Resolution → (op : ℕ) → MemberId → Option Signature → List NInsn
called_with f r op m None = call_by r op m
called_with f r op m (Some types) = handed_over f types.params ++ call_by r op m ++ widened_result types.result

-- an int, or a value of one word
abbrev pub returned : Option Sort → List NInsn
returned (Some Int) = Op card.ireturn ∷ []
returned result = Op card.i2s ∷ Op card.sreturn ∷ []

-- ---- an instruction

-- What is written for an instruction, where `place` gives the place of what is written for an offset and `here` is its
-- own.
abbrev pub written : Frame → Resolution → (place : ℕ → ℕ) → Before → (here : ℕ) → JOp → List NInsn
written f r place b here jop.Nop = []
written f r place b here jop.Null = Op card.aconst_null ∷ []
written f r place b here (jop.Number z) = pushed z ∷ []
written f r place b here (jop.Load refs l) = loads refs (first_word f l)
written f r place b here (jop.Store refs l) = stores refs (first_word f l)
written f r place b here (jop.ArrayLoad op) = guard b.is_index_inside here ++ element_read op
written f r place b here (jop.ArrayStore op) = element_written op b.is_index_inside here
written f r place b here (jop.Stack op) = on_stack op b.references
written f r place b here (jop.Arith op) = Op (arithmetic op + 1) ∷ []
written f r place b here (jop.Inc l by) = Inc (if is_byte by then card.iinc else card.iinc_w) (first_word f l) by ∷ []
written f r place b here (jop.Narrow op) = Op (if op == jvm.i2b then card.i2b else card.i2s) ∷ Op card.s2i ∷ []
written f r place b here (jop.If op target) = jumped op (place target)
written f r place b here (jop.Goto target) = Jump card.goto (place target) ∷ []
written f r place b here (jop.TableSwitch other low targets) = Switch card.itableswitch (place other) low
    (table_cases place low targets) ∷ []
written f r place b here (jop.LookupSwitch other cases) = Switch card.ilookupswitch (place other) (pos 0)
    (map (pair_case place) cases) ∷ []
written f r place b here (jop.Return op) = if op == jvm.ireturn then returned f.result else Op (leaving op) ∷ []
written f r place b here (jop.Static put field) = if put then static_put r field
    else static_get r field (r.constant field)
written f r place b here (jop.Field put field) = if put then field_put r field else field_get r field
written f r place b here (jop.Call op m) = called_with f r op m (signature_of m.desc)
written f r place b here (jop.New class) = Named card.new (keys.Class class) ∷ []
written f r place b here (jop.NewArray kind) = Op card.i2s ∷ NewArray (element_number kind) ∷ []
written f r place b here (jop.ANewArray class) = Op card.i2s ∷ Named card.anewarray (keys.Class class) ∷ []
written f r place b here jop.ArrayLength = Op card.arraylength ∷ Op card.s2i ∷ []
written f r place b here jop.Throw = Op card.athrow ∷ []
written f r place b here (jop.CheckCast class) = type_test card.checkcast (shape_named class)
written f r place b here (jop.InstanceOf class) = type_test card.instanceof (shape_named class) ++ Op card.s2i ∷ []

-- ---- a method

-- how many instructions are written for a reached one
abbrev pub size : Frame → Resolution → Reached → ℕ
size f r i = let j = i.insn in length (written f r (λ o. 0) i.before 0 j.op)

-- how many stand before what is written for an offset, the prologue among them
abbrev pub place_from : Frame → Resolution → List Reached → (offset : ℕ) → ℕ
place_from f r [] offset = 0
place_from f r (i ∷ reached) offset = (if nat_lt (let j = i.insn in j.at) offset then size f r i else 0) + place_from f
    r reached offset

-- the place of what is written for an offset, behind the prologue
abbrev pub place_in : Frame → Resolution → List Reached → (offset : ℕ) → ℕ
place_in f r reached offset = length (prologue f) + place_from f r reached offset

-- what is written for instructions of which the first is written at this place
abbrev pub written_from : Frame → Resolution → (place : ℕ → ℕ) → (here : ℕ) → List Reached → List NInsn
written_from f r place here [] = []
written_from f r place here (i ∷ reached) =
    let j = i.insn in let new = written f r place i.before here j.op in new
    ++ written_from f r place (here + length new) reached

-- of each written instruction the place of its own in the method's list, where these are the places of the reached ones
abbrev pub sources : Frame → Resolution → List Reached → (places : List ℕ) → List ℕ
sources f r (i ∷ reached) (k ∷ places) = replicate (size f r i) k ++ sources f r reached places
sources f r reached places = []

-- the parameters of a call that goes by scratch pairs
abbrev pub scratch_pairs_by : Option Signature → ℕ
scratch_pairs_by None = 0
scratch_pairs_by (Some types) = if is_by_scratch types.params then length types.params else 0

-- the scratch pairs of an instruction: those of a call, else none
abbrev pub scratch_pairs_of : JOp → ℕ
scratch_pairs_of (jop.Call op m) = scratch_pairs_by (signature_of m.desc)
scratch_pairs_of _ = 0

-- the greatest number of them
abbrev pub scratch_pairs : List Reached → ℕ
scratch_pairs [] = 0
scratch_pairs (i ∷ reached) = let j = i.insn in max (scratch_pairs_of j.op) (scratch_pairs reached)

-- ---- the widest sizes, in bytes

-- the number of parameters of a descriptor, 0 where it cannot be read
abbrev pub params_by : Option Signature → ℕ
params_by None = 0
params_by (Some types) = length types.params

-- a static field that is read: a constant is a number that is pushed
abbrev pub widest_get : Option ℤ → ℕ
widest_get (Some z) = 5
widest_get None = 4

-- the most bytes that what is written for an instruction can have
abbrev pub widest : Resolution → JOp → ℕ
widest r jop.Nop = 0
widest r jop.Null = 1
widest r (jop.Number z) = 5
widest r (jop.Load refs l) = 2
widest r (jop.Store refs l) = 2
widest r (jop.ArrayLoad op) = if op == jvm.iaload then 12 else (if op == jvm.aaload then 12 else 13)
widest r (jop.ArrayStore op) = if op == jvm.iastore then 16 else (if op == jvm.aastore then 16 else 17)
widest r (jop.Stack op) = 2
widest r (jop.Arith op) = 1
widest r (jop.Inc l by) = 4
widest r (jop.Narrow op) = 2
widest r (jop.If op target) = if nat_le op jvm.ifle then 5 else (if nat_le op jvm.if_icmple then 4 else 3)
widest r (jop.Goto target) = 3
widest r (jop.TableSwitch other low targets) = 11 + 2 * length targets
widest r (jop.LookupSwitch other cases) = 5 + 6 * length cases
widest r (jop.Return op) = if op == jvm.ireturn then 2 else 1
widest r (jop.Static put f) = if put then 4 else widest_get (r.constant f)
widest r (jop.Field put f) = 4
widest r (jop.Call op m) = (if op == jvm.invokeinterface then 6 else 4) + 5 * params_by (signature_of m.desc)
widest r (jop.New class) = 3
widest r (jop.NewArray kind) = 4
widest r (jop.ANewArray class) = 4
widest r jop.ArrayLength = 2
widest r jop.Throw = 1
widest r (jop.CheckCast class) = 4
widest r (jop.InstanceOf class) = 5

-- of all reached instructions and the prologue, which counts 5 for each parameter and the receiver
abbrev pub widest_sum : Frame → Resolution → List Reached → ℕ
widest_sum f r reached = 5 * length f.params + sum_by (λ (i : Reached). let j = i.insn in widest r j.op) reached

-- The narrow method in int mode, of reached instructions with their places in the method's list. No handler covers the
-- prologue, and a
-- jump to the first instruction goes behind it.
abbrev pub int_method : Frame → Resolution → CodeTree → List Reached → (places : List ℕ) → NMethod
int_method f r code reached places = record {
  insns = prologue f ++ written_from f r (place_in f r reached) (length (prologue f)) reached;
  from = replicate (length (prologue f)) 0 ++ sources f r reached places;
  catches = catches_at (place_in f r reached) code.catches;
  max_stack = 2 * code.max_stack + 4;
  nargs = nargs f;
  max_locals = 2 * f.max_locals + 2 * scratch_pairs reached;
  widest = widest_sum f r reached;
}
