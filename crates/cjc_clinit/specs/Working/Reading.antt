-- Initialisers as the code reads them, instruction by instruction: what they have put so far, and how far they are in a
-- statement.
use Rattle.std.specs.Prelude.{◌≡◌, ℕ, List, [], ◌∷◌, ◌++◌, length, replicate, slice_set, nat_lt, nat_le, Bool, true}
use Rattle.std.specs.Prelude.{false, ◌==◌, ◌&&◌, if◌then◌else◌, Option, Some, None, option_map, Result, Ok, Err, ℤ, pos}
use Rattle.std.specs.Prelude.{negsuc}
use Rattle.cjc_bytes.specs.Breaks.{Break, at, each, broken_at}
use Rattle.cjc_bytes.specs.Order.{FilePlace, file_of}
use Rattle.cjc_bytes.specs.declared.fault.MemberId.{MemberId}
use Rattle.cjc_bytes.specs.declared.descriptor.Kind.{Kind}
use Rattle.cjc_subset.specs.LowerClassFile.declared.tree.ClassTree.{ClassTree}
use Rattle.cjc_subset.specs.LowerBytecode.declared.insn.JInsn.{JInsn}
use Rattle.cjc_subset.specs.LowerBytecode.declared.insn.JOp.{JOp}
use Rattle.cjc_subset.specs.LowerBytecode.declared.insn.JOp.TheVariants as jop
use Rattle.cjc_subset.specs.LowerBytecode.declared.method_code.MethodCode.{MethodCode}
use Rattle.cjc_subset.specs.Places.{at_class, at_method, of_code}
use Rattle.cjc_subset.specs.LowerWorld.declared.image.ArrayCell.{ArrayCell}
use Rattle.cjc_subset.specs.LowerWorld.Files.{Files}
use Rattle.cjc_clinit.specs.declared.stage.Held.{Held}
use Rattle.cjc_clinit.specs.declared.stage.Held.TheVariants as held
use Rattle.cjc_clinit.specs.declared.stage.Stage.{Stage}
use Rattle.cjc_clinit.specs.declared.stage.Stage.TheVariants as stages
use Rattle.cjc_clinit.specs.Fields.{Contents, ANumber, ANull, AnArray, fits, held_by, takes}
use Rattle.cjc_clinit.specs.Image.{array_in, own_field, initialised}
use Rattle.cjc_subset.specs.LowerBytecode.Jvm.{dup, return}
use Rattle.cjc_clinit.specs.Initialiser.{element_kind, store, most_items, nothing_in, place_for}
use Rattle.cjc_clinit.specs.Rules.{is_wrong_class}

-- ---- one instruction that puts nothing

-- the stage where it is so, else none
abbrev pub stage_if : Bool → Stage → Option Stage
stage_if true s = Some s
stage_if false s = None

-- an index inside an array
abbrev pub index_in : List ℤ → ℤ → Option ℕ
index_in items (pos i) = if nat_lt i (length items) then Some i else None
index_in items (negsuc i) = None

-- a number: what is put, a count, an index or a value
abbrev pub after_number : ℤ → Stage → Option Stage
after_number z stages.Free = Some (stages.Number z)
after_number z (stages.Copied kind items) = option_map (λ i. stages.Indexed kind items i) (index_in items z)
after_number z (stages.Indexed kind items i) = stage_if (fits kind z) (stages.Valued kind items i z)
after_number z _ = None

-- null, which is put
abbrev pub after_null : Stage → Option Stage
after_null stages.Free = Some stages.Null
after_null _ = None

-- the return, between statements alone
abbrev pub after_return : ℕ → Stage → Option Stage
after_return op stages.Free = stage_if (op == return) stages.Ended
after_return op _ = None

-- an array that has an item
abbrev pub after_stack : ℕ → Stage → Option Stage
after_stack op (stages.Array kind items) = stage_if (op == dup && nat_lt 0 (length items)) (stages.Copied kind items)
after_stack op _ = None

-- a value into its item of the array, by the store of its kind
abbrev pub after_store : ℕ → Stage → Option Stage
after_store op (stages.Valued kind items i z) = stage_if (op == store kind) (stages.Array kind (slice_set items i z))
after_store op _ = None

-- a number of items
abbrev pub count_in : ℤ → Option ℕ
count_in (pos n) = if nat_le n most_items then Some n else None
count_in (negsuc n) = None

-- an array of so many items of 0, where kind and count are allowed
abbrev pub new_array : Option Kind → Option ℕ → Option Stage
new_array (Some kind) (Some count) = Some (stages.Array kind (replicate count (pos 0)))
new_array kind count = None

-- an array of the type with this number, of as many items as the number before it says
abbrev pub after_newarray : ℕ → Stage → Option Stage
after_newarray number (stages.Number z) = new_array (element_kind number) (count_in z)
after_newarray number _ = None

-- by the instruction
unfoldable pub stage_after : Stage → JOp → Option Stage
stage_after s (jop.Number z) = after_number z s
stage_after s jop.Null = after_null s
stage_after s (jop.Return op) = after_return op s
stage_after s (jop.Stack op) = after_stack op s
stage_after s (jop.ArrayStore op) = after_store op s
stage_after s (jop.NewArray number) = after_newarray number s
stage_after s _ = None

-- ---- a put

-- what is on the stack, where it is all that is put
abbrev pub contents_of : Stage → Option Contents
contents_of (stages.Number z) = Some (ANumber z)
contents_of stages.Null = Some ANull
contents_of (stages.Array kind items) = Some (AnArray kind items)
contents_of _ = None

-- what the fields of the class hold, the arrays that were made so far, and how far the statement is
pub record State : Type 0 where
  pub fields : List Held
  pub arrays : List ArrayCell
  pub stage : Stage

-- the three together
abbrev pub state : List Held → List ArrayCell → Stage → State
state fields arrays stage = record { fields = fields; arrays = arrays; stage = stage }

-- what follows the state, or the offset where there is no state
abbrev pub or_wrong : (at : ℕ) → Option State → (State → Result State ℕ) → Result State ℕ
or_wrong at None go = Err at
or_wrong at (Some s) go = go s

-- of the class of this number
module _ (files : Files) (number : ℕ) (c : ClassTree) where
  -- these contents are put in the field at this place, an array of theirs is made, and the statement is over
  abbrev pub state_with : Contents → MemberId → State → ℕ → State
  state_with contents id s k = state (slice_set s.fields k (held_by contents)) (s.arrays
      ++ array_in (own_field c id) contents) stages.Free

  -- putstatic
  abbrev pub after_put : Option Contents → MemberId → State → Option State
  after_put None id s = None
  after_put (Some contents) id s = option_map (λ k. state_with contents id s k) (place_for files number c s.fields
      contents id)

  -- putstatic puts what is on the stack; getstatic can not stand in an initialiser
  abbrev pub after_static : Bool → MemberId → State → Option State
  after_static true id s = after_put (contents_of s.stage) id s
  after_static false id s = None

  -- by the instruction; none with which this is no beginning of an initialiser
  unfoldable pub state_after : State → JOp → Option State
  state_after s (jop.Static put id) = after_static put id s
  state_after s op = option_map (λ t. state s.fields s.arrays t) (stage_after s.stage op)

  -- all instructions, or the offset of the first with which this is no beginning of an initialiser
  unfoldable pub read : State → List JInsn → Result State ℕ
  read s [] = Ok s
  read s (i ∷ insns) = or_wrong i.at (state_after s i.op) (λ t. read t insns)

-- behind the return
abbrev pub is_ended : Stage → Bool
is_ended stages.Ended = true
is_ended _ = false

-- Code without its return, which no decoded code is, is wrong at its start.
abbrev pub ended : Result State ℕ → Result State ℕ
ended (Ok s) = if is_ended s.stage then Ok s else Err 0
ended (Err at) = Err at

-- ---- the initialisers of a package, one after the other

-- what the fields of each class hold, and the arrays that were made so far
pub record Puts : Type 0 where
  pub fields : List (List Held)
  pub arrays : List ArrayCell

-- the two together
abbrev pub puts : List (List Held) → List ArrayCell → Puts
puts fields arrays = record { fields = fields; arrays = arrays }

-- the offset with which an initialiser is none, or what was put
abbrev pub with_read : MethodCode → Puts → Result State ℕ → Result Puts ℕ
with_read code before (Ok s) = Ok (puts (slice_set before.fields code.class s.fields) s.arrays)
with_read code before (Err at) = Err at

-- an initialiser of a class
unfoldable pub after_initialiser : Files → ClassTree → MethodCode → Puts → Result Puts ℕ
after_initialiser files c code before =
    with_read code before (ended (read files code.class c (state (nothing_in c) before.arrays stages.Free) code.insns))

-- the class, where the code is of its initialiser
abbrev pub after_class : Files → MethodCode → Puts → Option ClassTree → Result Puts ℕ
after_class files code before None = Ok before
after_class files code before (Some c) = after_initialiser files c code before

-- the instructions of a method, which are passed over where it is no initialiser
unfoldable pub after_code : Files → Puts → MethodCode → Result Puts ℕ
after_code files before code = after_class files code before (initialised files code)

-- what follows, or the offset with which an initialiser is none
abbrev pub and_then : Result Puts ℕ → (Puts → Result Puts ℕ) → Result Puts ℕ
and_then (Ok later) go = go later
and_then (Err at) go = Err at

-- those of all methods, or the first offset with which an initialiser is none
unfoldable pub after_codes : Files → Puts → List MethodCode → Result Puts ℕ
after_codes files before [] = Ok before
after_codes files before (code ∷ codes) = and_then (after_code files before code) (λ later. after_codes files later
    codes)

-- ---- what is broken

-- the offset with which an initialiser is none, where it is so
abbrev pub wrong_in : Result Puts ℕ → Option ℕ
wrong_in (Ok later) = None
wrong_in (Err at) = Some at

-- what is broken at the offset, nothing where there is none
abbrev pub breaks_at : (ℕ → List Break) → Option ℕ → List Break
breaks_at breaks None = []
breaks_at breaks (Some at) = breaks at

-- at an offset of the method of this code
unfoldable pub offset_break : Files → MethodCode → (offset : ℕ) → List Break
offset_break files code offset = of_code files code.class code.method (λ f c m. broken_at (at_method f c code.method m
    offset) 308 ∷ [])

-- at the offset with which the code of a method is no initialiser, where it should be one
unfoldable pub code_breaks : Files → MethodCode → List Break
code_breaks files code = breaks_at (offset_break files code) (wrong_in (after_code files (puts [] []) code))

-- at the class itself
unfoldable pub class_breaks : FilePlace → ClassTree → List Break
class_breaks f c = at (is_wrong_class c) (at_class f c) 308

-- All that is broken of 308, at the classes and in their initialisers.
unfoldable pub image_breaks : Files → List MethodCode → List Break
image_breaks files codes = each (λ n c. class_breaks (file_of files.lines n) c) files.classes
    ++ each (λ _ code. code_breaks files code) codes

-- ---- what the code holds

-- of all that is put, or false
abbrev pub takes_from : Option Contents → (desc : List ℕ) → Bool
takes_from None desc = false
takes_from (Some contents) desc = takes contents desc

-- what a field holds after the put; nothing, where it is not all that is put
abbrev pub held_from : Option Contents → Held
held_from None = held.Nothing
held_from (Some contents) = held_by contents

-- the array of a field, where what is put is one
abbrev pub array_from : MemberId → Option Contents → List ArrayCell
array_from field None = []
array_from field (Some contents) = array_in field contents

-- a wrong offset, or what was put
abbrev pub puts_as : Option ℕ → Puts → Result Puts ℕ
puts_as None later = Ok later
puts_as (Some at) later = Err at

-- Reading an initialiser ended at a wrong offset, or left this.
abbrev pub IsRead : Result State ℕ → (at : Option ℕ) → List Held → List ArrayCell → Type 0
IsRead (Ok s) None fields arrays = (s.fields ≡ fields) × (s.arrays ≡ arrays)
IsRead (Err at) (Some found) fields arrays = at ≡ found
IsRead r at fields arrays = ⊥
