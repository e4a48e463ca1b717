-- When an instruction of a class file and the narrow instruction that is written for it do the same, whatever frames
-- that
-- agree they stand in.
use Rattle.std.specs.Prelude.{◌≡◌, ℕ, ◌+◌, ◌≤◌, List, [], ◌∷◌, ◌++◌, length, Option, Some, Bool, true, false, ◌||◌}
use Rattle.cjc_bytes.specs.declared.fault.MemberId.{MemberId}
use Rattle.cjc_range.specs.Span.{byte_range, short_range, full}
use Rattle.cjc_code.specs.declared.insn.JOp.{JOp}
use Rattle.cjc_script.specs.declared.value.Value.{Value}
use Rattle.cjc_script.specs.Sorts.{Shape, OfClass, Sort, Boolean, Byte, Short, Int, Reference, NoValue, field_sort}
use Rattle.cjc_card_semantics.specs.Bytecode.Calculations
use Rattle.cjc_card_semantics.specs.Bytecode.Effects.{Slot}
use Rattle.cjc_card_semantics.specs.Bytecode.Effects as narrow
use Rattle.cjc_ncode.specs.declared.narrow.NInsn.{NInsn}
use Rattle.cjc_ncode.specs.PoolOrder.{same_member}
use Rattle.cjc_ncode.specs.Written.{Resolution, written}
use Rattle.cjc_ncode.specs.ByLabel.{Callee, Named, classes, operation}
use Rattle.cjc_jvm_semantics.specs.Linked.{Method, Instance, Linked}
use Rattle.cjc_jvm_semantics.specs.Effects.{Fault, Arithmetic, NullPointer, IndexOutside, NegativeSize, ClassCast}
use Rattle.cjc_jvm_semantics.specs.Effects.{ArrayStore, Store}
use Rattle.cjc_jvm_semantics.specs.Effects as by_name
use Rattle.cjc_narrow_proof.specs.Selection.Relation.{Kind, Range, Refers, Free, boolean_range, NMemory, Stacks, Locals}
use Rattle.cjc_narrow_proof.specs.Selection.Relation.{IsMadeOf, Stores, HasObjects}

-- an exception of the machine's own, as narrow code raises it
abbrev pub narrow_fault : Fault → Calculations.Fault
narrow_fault Arithmetic = Calculations.Arithmetic
narrow_fault NullPointer = Calculations.NullPointer
narrow_fault IndexOutside = Calculations.IndexOutside
narrow_fault NegativeSize = Calculations.NegativeSize
narrow_fault ClassCast = Calculations.ClassCast
narrow_fault ArrayStore = Calculations.ArrayStore

-- what a narrow instruction asks of its machine
abbrev pub NEffect : Type 0
NEffect = narrow.Effect (List ℕ) MemberId Callee (List (Slot MemberId))

-- Both go on, with stacks and locals of these kinds, heaps and static cells that agree; or both raise the same
-- exception, or
-- both throw the same object.
pub data Same (l : Named) (ks ls : List Kind) (at next : ℕ) : by_name.Effect → NEffect → Type 0 where
  goes : {vs ws : List Value} {locals words : List (Option Value)} {store : Store} {memory : NMemory}
      → Stacks memory.heap ks vs ws → Locals memory.heap ls locals words → Stores l store memory
      → Same l ks ls at next (by_name.Go at vs locals store) (narrow.Go next ws words memory)
  raises : {fault : Fault} → Same l ks ls at next (by_name.Raise fault) (narrow.Raise (narrow_fault fault))
  tosses : {object : ℕ} → Same l ks ls at next (by_name.Toss object) (narrow.Toss object)

-- as many cells are no more than either stack holds
pub record HasRoom (ks : List Kind) (max_stack room : ℕ) : Type 0 where
  pub by_name : length ks ≤ max_stack
  pub narrow : length ks ≤ room

-- In the code of m, `op` on a stack with cells of the kinds `before` on top and the one instruction that is written for
-- it do
-- the same: both leave cells of the kinds `after` in their place, and go on behind the instruction.
abbrev pub RowAgrees : Linked → Named → Resolution → Method → JOp → (before after : List Kind) → Type 0
RowAgrees by l r m op before after =
    (place : ℕ → ℕ) (insn : NInsn) → written r place op ≡ insn ∷ [] →
    (room at next : ℕ) (ks ls : List Kind) (vs ws : List Value) (locals words : List (Option Value)) (store : Store)
    (memory : NMemory) →
    HasRoom (after ++ ks) m.max_stack room → Stores l store memory → Locals memory.heap ls locals words
    → Stacks memory.heap (before ++ ks) vs ws →
    Same l (after ++ ks) ls (at + 1) next (by_name.effect by m at locals store op vs) (narrow.effect (classes l)
    (operation insn) room next words memory ws)

-- The same of an instruction that reads or writes locals, which have these kinds before it and those after it.
abbrev pub RowOnLocals : Linked → Named → Resolution → Method → JOp → (before after ls js : List Kind) → Type 0
RowOnLocals by l r m op before after ls js =
    (place : ℕ → ℕ) (insn : NInsn) → written r place op ≡ insn ∷ [] →
    (room at next : ℕ) (ks : List Kind) (vs ws : List Value) (locals words : List (Option Value)) (store : Store)
    (memory : NMemory) →
    HasRoom (after ++ ks) m.max_stack room → Stores l store memory → Locals memory.heap ls locals words
    → Stacks memory.heap (before ++ ks) vs ws →
    Same l (after ++ ks) js (at + 1) next (by_name.effect by m at locals store op vs) (narrow.effect (classes l)
    (operation insn) room next words memory ws)

-- The machine by name goes on behind the instruction, with a stack that agrees with the narrow one as it is.
pub record GoesOn (by : Linked) (m : Method) (op : JOp) (at : ℕ) (locals : List (Option Value)) (store : Store)
    (memory : NMemory) (ks : List Kind) (vs ws : List Value) : Type 0 where
  pub stack : List Value
  pub goes_on : by_name.effect by m at locals store op vs ≡ by_name.Go (at + 1) stack locals store
  pub agree : Stacks memory.heap ks stack ws

-- Nothing is written for `op`, and it changes the number on top in no way that its word shows.
pub record IsNotWritten (by : Linked) (r : Resolution) (m : Method) (op : JOp) (before after : List Kind) : Type 0 where
  pub is_left_out : (place : ℕ → ℕ) → written r place op ≡ []
  pub does : (at : ℕ) (ks : List Kind) (vs ws : List Value) (locals : List (Option Value)) (store : Store)
      (memory : NMemory) → Stacks memory.heap (before ++ ks) vs ws → GoesOn by m op at locals store memory (after
      ++ ks) vs ws

-- ---- fields

-- what a cell of a type is on the stack
abbrev pub kind_of : Named → Sort → Kind
kind_of l Boolean = Range boolean_range
kind_of l Byte = Range byte_range
kind_of l Short = Range short_range
kind_of l Int = Range full
kind_of l (Reference kind) = Refers (λ s. l.is_of s kind)
kind_of l NoValue = Free

-- a type whose values are one word
abbrev pub is_word_sort : Sort → Bool
is_word_sort Int = false
is_word_sort NoValue = false
is_word_sort _ = true

-- a field is among others
abbrev pub lists : List MemberId → MemberId → Bool
lists [] f = false
lists (g ∷ fields) f = same_member g f || lists fields f

-- an object of a class each of whose objects has the field
pub record HasField (l : Named) (f : MemberId) (kind : Shape (List ℕ)) : Type 0 where
  pub class : List ℕ
  pub is_class : kind ≡ OfClass class
  pub has : (fields : List MemberId) → HasObjects l class fields → lists fields f ≡ true

-- Code of m names a field whose values are one word; narrow code names it as it is found, and each object that may be
-- there and passes the
-- test has it.
pub record FieldIsThere (by : Linked) (l : Named) (r : Resolution) (m : Method) (named : MemberId)
    (within : Shape (List ℕ) → Bool) : Type 0 where
  pub is_found : by.field (let id = m.id in id.class) named ≡ Some (Instance (r.field named))
  pub type : field_sort (let f = r.field named in f.desc) ≡ field_sort named.desc
  pub one_word : is_word_sort (field_sort named.desc) ≡ true
  pub has : (kind : Shape (List ℕ)) → within kind ≡ true → IsMadeOf l kind → HasField l (r.field named) kind
