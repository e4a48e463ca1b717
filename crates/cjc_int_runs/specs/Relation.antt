-- When a frame of the machine by name, on numbers of 32 bits, and one of code in int mode, on words of 16 bits, agree
-- before an instruction of the class file. It knows no instruction, and not how a table was made.
use Rattle.std.specs.Prelude.{◌≡◌, ℕ, ◌*◌, List, [], ◌∷◌, ◌++◌, length, Option, Some, Bool, true, slice_get, ℤ}
use Rattle.cjc_script.specs.Bytes.declared.fault.MemberId.{MemberId}
use Rattle.cjc_range.specs.Words.{low_word}
use Rattle.cjc_range.specs.Span.{Span, Holds, byte_range, short_range, full}
use Rattle.cjc_script.specs.declared.value.Value.{Value}
use Rattle.cjc_script.specs.declared.value.Value.TheVariants.{Num, Null, Obj}
use Rattle.cjc_script.specs.Sorts.{Shape, Sort, Boolean, Byte, Short, Int, Reference}
use Rattle.cjc_card_semantics.specs.Bytecode.Effects.{HeapObject, shape}
use Rattle.cjc_card_semantics.specs.Bytecode.Numbers.{spelt_by}
use Rattle.cjc_ncode.specs.IntCode.IntCode.{nargs, is_short}
use Rattle.cjc_ncode.specs.IntCode.IntCode as written
use Rattle.cjc_jvm_semantics.specs.Machine.{Frame}
use Rattle.cjc_narrow_proof.specs.Selection.Relation.{Kind, Range, Refers, Free, Heap, boolean_range}
use Rattle.cjc_narrow_proof.specs.Selection.Calls.{NFrame}

-- null, or an array or object of a type that passes a test
pub data RefersTo (heap : Heap) (within : Shape (List ℕ) → Bool) : Value → Type 0 where
  to_null : RefersTo heap within Null
  to_object : {k : ℕ} (thing : HeapObject (List ℕ) MemberId) → slice_get heap k ≡ Some thing
      → within (shape thing) ≡ true → RefersTo heap within (Obj k)

-- ---- the stack

-- Cell by cell, the top first. A number is two words, the low one on top, which spell it, and lies in its interval. A
-- reference is one word, and equal. There is no cell that no code reads.
pub data IntStacks (heap : Heap) : List Kind → List Value → List Value → Type 0 where
  bottom : IntStacks heap [] [] []
  number : {s : Span} {x high low : ℤ} {ks : List Kind} {vs ws : List Value} → x ≡ spelt_by high low → Holds s x
      → IntStacks heap ks vs ws → IntStacks heap (Range s ∷ ks) (Num x ∷ vs) (Num low ∷ Num high ∷ ws)
  reference : {within : Shape (List ℕ) → Bool} {v : Value} {ks : List Kind} {vs ws : List Value}
      → RefersTo heap within v → IntStacks heap ks vs ws
      → IntStacks heap (Refers within ∷ ks) (v ∷ vs) (v ∷ ws)

-- ---- locals

-- Local by local, two words each, the high one first. A reference is the first word, and the second is free. Both words
-- of a local that no code reads are free, and it may hold anything, or nothing.
pub data LocalPairs (heap : Heap) : List Kind → List (Option Value) → List (Option Value) → Type 0 where
  no_local : LocalPairs heap [] [] []
  number_local : {s : Span} {x high low : ℤ} {ks : List Kind} {vs ws : List (Option Value)} → x ≡ spelt_by high low
      → Holds s x → LocalPairs heap ks vs ws
      → LocalPairs heap (Range s ∷ ks) (Some (Num x) ∷ vs) (Some (Num high) ∷ Some (Num low) ∷ ws)
  reference_local : {within : Shape (List ℕ) → Bool} {v : Value} {behind : Option Value} {ks : List Kind}
      {vs ws : List (Option Value)} → RefersTo heap within v → LocalPairs heap ks vs ws
      → LocalPairs heap (Refers within ∷ ks) (Some v ∷ vs) (Some v ∷ behind ∷ ws)
  unused_local : {v first second : Option Value} {ks : List Kind} {vs ws : List (Option Value)}
      → LocalPairs heap ks vs ws → LocalPairs heap (Free ∷ ks) (v ∷ vs) (first ∷ second ∷ ws)

-- The words of a frame: those of the arguments, two for each local, and those of the scratch pairs. Words of arguments
-- and scratch words are free.
pub record IntLocals (heap : Heap) (f : written.Frame) (pairs : ℕ) (ls : List Kind) (locals words :
    List (Option Value)) : Type 0 where
  pub arguments : List (Option Value)
  pub own : List (Option Value)
  pub scratch : List (Option Value)
  pub are : words ≡ arguments ++ (own ++ scratch)
  pub argument_words : length arguments ≡ nargs f
  pub own_words : length own ≡ 2 * f.max_locals
  pub scratch_words : length scratch ≡ 2 * pairs
  pub agree : LocalPairs heap ls locals own

-- the stacks and the locals of two frames
pub record IntFrames (heap : Heap) (f : written.Frame) (pairs : ℕ) (ks ls : List Kind) (frame : Frame)
    (narrow : NFrame) : Type 0 where
  pub stack : IntStacks heap ks frame.stack narrow.stack
  pub locals : IntLocals heap f pairs ls frame.locals narrow.locals

-- ---- calls and results, whatever the modes of both methods are

-- the numbers of a type
abbrev pub type_range : Sort → Span
type_range Boolean = boolean_range
type_range Byte = byte_range
type_range Short = short_range
type_range _ = full

-- What is handed over as a value of a type, the deepest word first: a boolean, a byte or a short, which is a number of
-- its type, as its low word, an int as two words, and a reference as it is.
pub data Handed (heap : Heap) : Sort → Kind → Value → List Value → Type 0 where
  one_word : {sort : Sort} {s : Span} {x : ℤ} → is_short sort ≡ true → Holds (type_range sort) x → Holds s x
      → Handed heap sort (Range s) (Num x) (Num (low_word x) ∷ [])
  two_words : {s : Span} {x high low : ℤ} → x ≡ spelt_by high low → Holds s x
      → Handed heap Int (Range s) (Num x) (Num high ∷ Num low ∷ [])
  as_it_is : {shape : Shape (List ℕ)} {within : Shape (List ℕ) → Bool} {v : Value} → RefersTo heap within v
      → Handed heap (Reference shape) (Refers within) v (v ∷ [])

-- as values of these types, the first first
pub data AllHanded (heap : Heap) : List Sort → List Kind → List Value → List Value → Type 0 where
  nothing : AllHanded heap [] [] [] []
  one_more : {sort : Sort} {kind : Kind} {v : Value} {sorts : List Sort} {ks : List Kind} {vs words ws : List Value}
      → Handed heap sort kind v words → AllHanded heap sorts ks vs ws
      → AllHanded heap (sort ∷ sorts) (kind ∷ ks) (v ∷ vs) (words ++ ws)
