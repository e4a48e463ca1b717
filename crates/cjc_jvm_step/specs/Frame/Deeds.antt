-- What an instruction asks of the machine, beside what it has changed itself, against the definition's effect.
use Rattle.std.specs.Prelude.{◌≡◌, ℕ, List, Option}
use Rattle.cjc_script.specs.declared.value.Value.{Value}
use Rattle.cjc_script.specs.declared.report.FieldValue.{FieldValue}
use Rattle.cjc_script.specs.declared.report.Thing.{Thing}
use Rattle.cjc_jvm_semantics.specs.Linked.{Linked, Method}
use Rattle.cjc_jvm_semantics.specs.Effects.{Effect, Fault, Store}
use Rattle.cjc_jvm_semantics.specs.Effects
use Rattle.cjc_jvm_semantics.specs.Machine.{Frame}
use Rattle.cjc_jvm_step.specs.declared.frame.deed.Deed.{Deed}
use Rattle.cjc_jvm_step.specs.declared.frame.deed.Deed.TheVariants.{Go, Raise, Toss, Invoke, Leave, Stick}
use Rattle.cjc_jvm_step.specs.declared.frame.deed.Exception.{Exception}
use Rattle.cjc_jvm_step.specs.declared.frame.deed.Exception.TheVariants as exceptions

-- an exception of the machine's own
abbrev pub fault_of : Exception → Fault
fault_of exceptions.Arithmetic = Effects.Arithmetic
fault_of exceptions.NullPointer = Effects.NullPointer
fault_of exceptions.IndexOutside = Effects.IndexOutside
fault_of exceptions.NegativeSize = Effects.NegativeSize
fault_of exceptions.ClassCast = Effects.ClassCast
fault_of exceptions.ArrayStore = Effects.ArrayStore

-- the effect, where going on has been done
abbrev pub effect_done : Deed → Frame → Store → Effect
effect_done Go f store = Effects.Go f.at f.stack f.locals store
effect_done (Raise e) f store = Effects.Raise (fault_of e)
effect_done (Toss k) f store = Effects.Toss k
effect_done (Invoke op id) f store = Effects.Invoke op id.now
effect_done (Leave v) f store = Effects.Leave v
effect_done Stick f store = Effects.Stick

-- going on leaves the method, and all else leaves the frame and the store as they were
abbrev pub Keeps : Deed → (old new : Frame) (store store' : Store) → Type 0
Keeps Go old new store store' = new.method ≡ old.method
Keeps (Raise e) old new store store' = (new ≡ old) × (store' ≡ store)
Keeps (Toss k) old new store store' = (new ≡ old) × (store' ≡ store)
Keeps (Invoke op id) old new store store' = (new ≡ old) × (store' ≡ store)
Keeps (Leave v) old new store store' = (new ≡ old) × (store' ≡ store)
Keeps Stick old new store store' = (new ≡ old) × (store' ≡ store)

-- An effect has been followed.
pub record FollowsEffect (a : Effect) (deed : Deed) (old new : Frame) (store store' : Store) : Type 0 where
  pub effect : a ≡ effect_done deed new store'
  pub keeps : Keeps deed old new store store'

-- a row of the instructions: by the look-ups, the method, the place in its list, the locals, the store and the stack
abbrev pub Row : Type 0
Row = Linked → Method → ℕ → List (Option Value) → Store → List Value → Effect

-- A row that leaves static cells as they are has been followed, by whatever look-ups and beside whatever cells.
abbrev pub FollowsOn : Row → Deed → (old new : Frame) (heap heap' : List Thing) → Type 0
FollowsOn row deed old new heap heap' =
    (l : Linked) (statics : List FieldValue) →
    FollowsEffect (row l old.method old.at old.locals (record { heap = heap; statics = statics }) old.stack) deed old
    new
    (record { heap = heap; statics = statics }) (record { heap = heap'; statics = statics })

-- A row that leaves the store as it is has been followed, by whatever look-ups and in whatever store.
abbrev pub Follows : Row → Deed → (old new : Frame) → Type 0
Follows row deed old new = (l : Linked) (store : Store)
    → FollowsEffect (row l old.method old.at old.locals store old.stack) deed old new store store
