-- What an instruction asks of the machine, beside what it has changed itself, against the definition's effect.
use Rattle.std.specs.Prelude.{◌≡◌, ℕ, List, [], ◌∷◌, Option, Result, Ok, Err}
use Rattle.cjc_card_semantics.specs.Script.declared.value.Value.{Value}
use Rattle.cjc_card_semantics.specs.Bytecode.Effects.{Effect, Memory, HeapObject}
use Rattle.cjc_card_semantics.specs.Bytecode.Effects
use Rattle.cjc_card_semantics.specs.Machine.Loaded.{Loaded}
use Rattle.cjc_card_semantics.specs.Machine.Classes.{Class, Field}
use Rattle.cjc_card_semantics.specs.Machine.Operations.{Callee}
use Rattle.cjc_card_semantics.specs.Machine.Statics.{Image}
use Rattle.cjc_card_frame.specs.Frame.Frames.{Words, fault_of}
use Rattle.cjc_card_frame.specs.Kinds.{callee_of}
use Rattle.cjc_card_step.specs.declared.effects.deed.Deed.{Deed}
use Rattle.cjc_card_step.specs.declared.effects.deed.Deed.TheVariants.{Go, Raise, Toss, Invoke, Leave, Stick}
use Rattle.cjc_card_step.specs.declared.effects.deed.Returned.{Returned}
use Rattle.cjc_card_step.specs.declared.effects.deed.Returned.TheVariants as results
use Rattle.cjc_card_step.specs.declared.effects.deed.Halt.{Halt}
use Rattle.cjc_card_step.specs.declared.effects.deed.Halt.TheVariants as halts
use Rattle.cjc_card_semantics.specs.Script.declared.value.Value.TheVariants.{Num, Null, Obj}

-- an effect, the heap and the memory of the machine by token
abbrev pub EffectByToken : Type 0
EffectByToken = Effect Class Field Callee (List Image)

-- the heap and the static field images of the machine by token
abbrev pub MemoryByToken : Type 0
MemoryByToken = Memory Class Field (List Image)

-- the arrays and objects of the machine by token, by their numbers
abbrev pub Heap : Type 0
Heap = List (HeapObject Class Field)

-- heap and static cells
abbrev pub memory : Heap → List Image → MemoryByToken
memory heap statics = record { heap = heap; statics = statics }

-- the words of a result, the deepest first
abbrev pub words_in : Returned → List Value
words_in results.Nothing = []
words_in (results.Number z) = Num z ∷ []
words_in results.Null = Null ∷ []
words_in (results.Object k) = Obj k ∷ []
words_in (results.Int high low) = Num high ∷ Num low ∷ []

-- an exception of the machine's own, or nothing that applies
abbrev pub halted : Halt → EffectByToken
halted (halts.Raise e) = Effects.Raise (fault_of e)
halted halts.Stick = Effects.Stick

-- what follows from what was found
abbrev pub found : {T : Type 0} → Result T Halt → (T → EffectByToken) → EffectByToken
found (Ok x) go = go x
found (Err halt) go = halted halt

-- the effect of what was done, where going on leads to this place
abbrev pub effect_of : Deed → (next : ℕ) → Words → MemoryByToken → EffectByToken
effect_of Go next w m = Effects.Go next w.stack w.locals m
effect_of (Raise e) next w m = Effects.Raise (fault_of e)
effect_of (Toss k) next w m = Effects.Toss k
effect_of (Invoke callee) next w m = Effects.Invoke (callee_of callee)
effect_of (Leave result) next w m = Effects.Leave (words_in result)
effect_of Stick next w m = Effects.Stick

-- only going on changes words and memory
abbrev pub Keeps : Deed → (old new : Words) (m m' : MemoryByToken) → Type 0
Keeps Go old new m m' = Unit {0}
Keeps (Raise e) old new m m' = (new ≡ old) × (m' ≡ m)
Keeps (Toss k) old new m m' = (new ≡ old) × (m' ≡ m)
Keeps (Invoke callee) old new m m' = (new ≡ old) × (m' ≡ m)
Keeps (Leave result) old new m m' = (new ≡ old) × (m' ≡ m)
Keeps Stick old new m m' = (new ≡ old) × (m' ≡ m)

-- An effect has been followed.
pub record Follows (effect : EffectByToken) (deed : Deed) (next : ℕ) (old new : Words) (m m' : MemoryByToken) :
    Type 0 where
  pub same : effect ≡ effect_of deed next new m'
  pub keeps : Keeps deed old new m m'

-- what an instruction does with the next place, the locals, the memory and the stack
abbrev pub Row : Type 0
Row = (next : ℕ) → List (Option Value) → MemoryByToken → List Value → EffectByToken

-- A row has been followed, wherever the next place is.
abbrev pub FollowsRow : Row → Deed → (old new : Words) (m m' : MemoryByToken) → Type 0
FollowsRow row deed old new m m' = (next : ℕ) → Follows (row next old.locals m old.stack) deed next old new m m'

-- The same of one that leaves memory as it is, whatever it is.
abbrev pub FollowsAlone : Row → Deed → (old new : Words) → Type 0
FollowsAlone row deed old new = (m : MemoryByToken) → FollowsRow row deed old new m m

-- The same of one that leaves static cells as they are, whatever they are.
abbrev pub FollowsOn : Row → Deed → (old new : Words) (heap heap' : Heap) → Type 0
FollowsOn row deed old new heap heap' = (statics : List Image) → FollowsRow row deed old new (memory heap statics)
    (memory heap' statics)

-- The same of one that leaves the heap as it is, whatever it is.
abbrev pub FollowsIn : Row → Deed → (old new : Words) (statics statics' : List Image) → Type 0
FollowsIn row deed old new statics statics' = (heap : Heap) → FollowsRow row deed old new (memory heap statics)
    (memory heap statics')
