-- What acts and answers of a script leave of a heap.
use Rattle.std.specs.Prelude.{◌≡◌, ◌⊎◌, ℕ, true, false, List, [], slice_get, Some, codes}
use Rattle.cjc_card_semantics.specs.Bytecode.Effects.{Slot, HeapObject, Object, Memory}
use Rattle.cjc_card_semantics.specs.Bytecode.Machine.{Turn, Next, Ended, StuckAt}
use Rattle.cjc_card_semantics.specs.Machine.Loaded.{Loaded}
use Rattle.cjc_card_semantics.specs.Machine.Classes.{Class, Own, External, Field, external_named, fault_class}
use Rattle.cjc_card_semantics.specs.Machine.Classes.{is_interface, is_kind_of}
use Rattle.cjc_script.specs.Sorts.{OfClass}
use Rattle.cjc_card_semantics.specs.Bytecode.Calculations.{Fault}
use Rattle.cjc_card_acts.specs.CardTypes.{shape_by}
use Rattle.cjc_card_semantics.specs.Machine.Statics.{Image}
use Rattle.cjc_card_semantics.specs.Machine.Methods.{Code}
use Rattle.cjc_verify_proof.specs.Heaps.{AreFit}
use Rattle.cjc_verify_proof.specs.Growth.{Extends}
use Rattle.cjc_verify_proof.specs.References.{AreHeld}
use Rattle.cjc_verify_proof.specs.Frames.{Program, AreFrames, IsEnd}

-- a class of an export file that is no interface
abbrev pub IsImported : Loaded → Class → Type 0
IsImported l (Own p offset) = ⊥
IsImported l (External tree token) = is_interface l (External tree token) ≡ false

-- A heap after acts: what was there keeps its type, arrays hold what they may, and an object is one that was there or
-- one of an imported class without fields.
pub record IsPrepared (l : Loaded) (heap after : List (HeapObject Class Field)) : Type 0 where
  pub extends : Extends heap after
  pub fit : AreFit heap → AreFit after
  pub held : AreHeld l heap → AreHeld l after
  pub objects : (k : ℕ) (class : Class) (slots : List (Slot Field)) → slice_get after k ≡ Some (Object class slots)
      → (slice_get heap k ≡ Some (Object class slots)) ⊎ ((slots ≡ []) × IsImported l class)

-- A turn is not stuck, and where it goes on its heap is that of acts and its frames are typed.
abbrev pub GoesOnPrepared : Loaded → Program → Memory Class Field (List Image)
    → Turn Code Class Field (List Image) → Type 0
GoesOnPrepared l program m (Next s) = IsPrepared l m.heap s.memory.heap × ((s.memory.statics ≡ m.statics)
    × AreFrames l program s.memory.heap s.frames)
GoesOnPrepared l program m (Ended outcome s) = IsEnd outcome
GoesOnPrepared l program m (StuckAt at s) = ⊥

-- There is Throwable, which the type of all exceptions means, and each exception of the machine's own is a subclass and
-- no interface.
pub record HasExceptions (l : Loaded) (exceptions : List ℕ) : Type 0 where
  pub thrown : Class
  pub named : external_named l (codes "java/lang/Throwable") ≡ Some thrown
  pub means : shape_by l exceptions ≡ Some (OfClass thrown)
  pub faults : (fault : Fault) → (c : Class) × ((fault_class l fault ≡ Some c) × ((is_kind_of l c thrown ≡ true)
      × (is_interface l c ≡ false)))
