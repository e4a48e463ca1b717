-- Initialisers read instruction by instruction: what they have done so far, and the first instruction with which one is no
-- longer the beginning of an initialiser.
use Rattle.std.specs.Prelude.{ℕ, ◌+◌, List, [], ◌∷◌, ◌++◌, map, length, replicate, slice_get, slice_set, nat_lt, nat_le, Bool, true, false, ◌==◌, if◌then◌else◌, Option, Some, None, option_map, option_and_then, Result, Ok, Err, ℤ, pos, negsuc}
use Rattle.cjc_bytes.specs.declared.fault.MemberId.{MemberId}
use Rattle.cjc_bytes.specs.declared.names.Kind.{Kind}
use Rattle.cjc_classfile.specs.declared.tree.ClassTree.{ClassTree}
use Rattle.cjc_classfile.specs.declared.tree.FieldTree.{FieldTree}
use Rattle.cjc_classfile.specs.declared.tree.MethodTree.{MethodTree}
use Rattle.cjc_code.specs.declared.insn.JInsn.{JInsn}
use Rattle.cjc_code.specs.declared.insn.JOp.{JOp}
use Rattle.cjc_code.specs.declared.insn.JOp.TheVariants as jop
use Rattle.cjc_code.specs.declared.method_code.MethodCode.{MethodCode}
use Rattle.cjc_world.specs.declared.image.ArrayCell.{ArrayCell}
use Rattle.cjc_world.specs.Files.{Files}
use Rattle.cjc_clinit.specs.declared.stage.Held.{Held}
use Rattle.cjc_clinit.specs.declared.stage.Held.TheVariants as held
use Rattle.cjc_clinit.specs.declared.stage.Stage.{Stage}
use Rattle.cjc_clinit.specs.declared.stage.Stage.TheVariants as stages
use Rattle.cjc_clinit.specs.declared.stage.Wrong.{Wrong}
use Rattle.cjc_clinit.specs.Fields.{Contents, ANumber, ANull, AnArray, fits, held_by}
use Rattle.cjc_clinit.specs.Initialiser.{dup, return, element_kind, store, most_items, place_for, is_initialiser}

-- ---- one instruction that puts nothing

abbrev pub stage_if : Bool → Stage → Option Stage
stage_if true s = Some s
stage_if false s = None

-- an index inside an array
abbrev pub index_in : List ℤ → ℤ → Option ℕ
index_in items (pos i) = if nat_lt i (length items) then Some i else None
index_in items (negsuc i) = None

-- a number: what is put, a count, an index or a value
abbrev pub after_number : ℤ → Stage → Option Stage
after_number z stages.Free = Some (stages.Number z)
after_number z (stages.Copied kind items) = option_map (λ i. stages.Indexed kind items i) (index_in items z)
after_number z (stages.Indexed kind items i) = stage_if (fits kind z) (stages.Valued kind items i z)
after_number z _ = None

abbrev pub after_null : Stage → Option Stage
after_null stages.Free = Some stages.Null
after_null _ = None

abbrev pub after_return : ℕ → Stage → Option Stage
after_return op stages.Free = stage_if (op == return) stages.Ended
after_return op _ = None

abbrev pub after_stack : ℕ → Stage → Option Stage
after_stack op (stages.Array kind items) = stage_if (op == dup) (stages.Copied kind items)
after_stack op _ = None

abbrev pub after_store : ℕ → Stage → Option Stage
after_store op (stages.Valued kind items i z) = stage_if (op == store kind) (stages.Array kind (slice_set items i z))
after_store op _ = None

-- a number of items
abbrev pub count_in : ℤ → Option ℕ
count_in (pos n) = if nat_le n most_items then Some n else None
count_in (negsuc n) = None

abbrev pub new_array : Option Kind → Option ℕ → Option Stage
new_array (Some kind) (Some count) = Some (stages.Array kind (replicate count (pos 0)))
new_array kind count = None

abbrev pub after_newarray : ℕ → Stage → Option Stage
after_newarray number (stages.Number z) = new_array (element_kind number) (count_in z)
after_newarray number _ = None

-- by the instruction
unfoldable pub stage_after : Stage → JOp → Option Stage
stage_after s (jop.Number z) = after_number z s
stage_after s jop.Null = after_null s
stage_after s (jop.Return op) = after_return op s
stage_after s (jop.Stack op) = after_stack op s
stage_after s (jop.ArrayStore op) = after_store op s
stage_after s (jop.NewArray number) = after_newarray number s
stage_after s _ = None

-- ---- a put

-- what is on the stack, where it is all that is put
abbrev pub contents_of : Stage → Option Contents
contents_of (stages.Number z) = Some (ANumber z)
contents_of stages.Null = Some ANull
contents_of (stages.Array kind items) = Some (AnArray kind items)
contents_of _ = None

-- the array of a field, where it is one
abbrev pub array_in : MemberId → Contents → List ArrayCell
array_in field (AnArray kind items) = record { field = field; kind = kind; items = items } ∷ []
array_in field contents = []

-- what the fields of the class hold, the arrays that were made so far, and how far the statement is
pub record State : Type 0 where
  pub fields : List Held
  pub arrays : List ArrayCell
  pub stage : Stage

abbrev pub state : List Held → List ArrayCell → Stage → State
state fields arrays stage = record { fields = fields; arrays = arrays; stage = stage }

-- the same field, by the class that declares it
abbrev pub own_field : ClassTree → MemberId → MemberId
own_field c id = record { class = c.name; name = id.name; desc = id.desc }

abbrev pub or_wrong : (at : ℕ) → Option State → (State → Result State ℕ) → Result State ℕ
or_wrong at None go = Err at
or_wrong at (Some s) go = go s

-- of the class of this number
module _ (files : Files) (number : ℕ) (c : ClassTree) where
  abbrev pub state_with : Contents → MemberId → State → ℕ → State
  state_with contents id s k = state (slice_set s.fields k (held_by contents)) (s.arrays ++ array_in (own_field c id) contents) stages.Free

  -- putstatic
  abbrev pub after_put : Option Contents → MemberId → State → Option State
  after_put None id s = None
  after_put (Some contents) id s = option_map (λ k. state_with contents id s k) (place_for files number c s.fields contents id)

  abbrev pub after_static : Bool → MemberId → State → Option State
  after_static true id s = after_put (contents_of s.stage) id s
  after_static false id s = None

  -- by the instruction; none with which this is no beginning of an initialiser
  unfoldable pub state_after : State → JOp → Option State
  state_after s (jop.Static put id) = after_static put id s
  state_after s op = option_map (λ t. state s.fields s.arrays t) (stage_after s.stage op)

  -- all instructions, or the offset of the first with which this is no beginning of an initialiser
  unfoldable pub read : State → List JInsn → Result State ℕ
  read s [] = Ok s
  read s (i ∷ insns) = or_wrong i.at (state_after s i.op) (λ t. read t insns)

-- behind the return
abbrev pub is_ended : Stage → Bool
is_ended stages.Ended = true
is_ended _ = false

-- Code without its return, which no decoded code is, is wrong at its start.
abbrev pub ended : Result State ℕ → Result State ℕ
ended (Ok s) = if is_ended s.stage then Ok s else Err 0
ended (Err at) = Err at

-- ---- the initialisers of a package, one after the other

-- what the fields of each class hold, and the arrays that were made so far
pub record Puts : Type 0 where
  pub fields : List (List Held)
  pub arrays : List ArrayCell

-- before any initialiser
abbrev pub nothing_in : ClassTree → List Held
nothing_in c = replicate (length c.fields) held.Nothing

abbrev pub no_puts : List ClassTree → Puts
no_puts classes = record { fields = map nothing_in classes; arrays = [] }

abbrev pub with_read : MethodCode → Puts → Result State ℕ → Result Puts Wrong
with_read code puts (Ok s) = Ok (record { fields = slice_set puts.fields code.class s.fields; arrays = s.arrays })
with_read code puts (Err at) = Err (record { class = code.class; method = code.method; offset = at })

-- an initialiser of a class whose fields hold this
abbrev pub after_initialiser : Files → ClassTree → MethodCode → Puts → Option (List Held) → Result Puts Wrong
after_initialiser files c code puts None = Ok puts
after_initialiser files c code puts (Some fields) = with_read code puts (ended (read files code.class c (state fields puts.arrays stages.Free) code.insns))

-- a method
abbrev pub after_method : Files → ClassTree → MethodCode → Puts → Option MethodTree → Result Puts Wrong
after_method files c code puts None = Ok puts
after_method files c code puts (Some m) = if is_initialiser m then after_initialiser files c code puts (slice_get puts.fields code.class) else Ok puts

abbrev pub of_class : Files → MethodCode → Puts → Option ClassTree → Result Puts Wrong
of_class files code puts None = Ok puts
of_class files code puts (Some c) = after_method files c code puts (slice_get c.methods code.method)

-- the instructions of a method, which are passed over where it is no initialiser
unfoldable pub after_code : Files → Puts → MethodCode → Result Puts Wrong
after_code files puts code = of_class files code puts (slice_get files.classes code.class)

abbrev pub and_then : Result Puts Wrong → (Puts → Result Puts Wrong) → Result Puts Wrong
and_then (Ok puts) go = go puts
and_then (Err wrong) go = Err wrong

-- those of all methods, or the first instruction with which an initialiser is none
unfoldable pub after_codes : Files → Puts → List MethodCode → Result Puts Wrong
after_codes files puts [] = Ok puts
after_codes files puts (code ∷ codes) = and_then (after_code files puts code) (λ later. after_codes files later codes)
