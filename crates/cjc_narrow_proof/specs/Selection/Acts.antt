-- When an act of a script does the same to heaps that agree.
use Rattle.std.specs.Prelude.{◌≡◌, ℕ, List, map, Option, Some, None, true, false, slice_get}
use Rattle.cjc_bytes.specs.declared.fault.MemberId.{MemberId}
use Rattle.cjc_script.specs.declared.script.Act.{Act}
use Rattle.cjc_script.specs.declared.report.Thing.{Thing}
use Rattle.cjc_script.specs.Sorts.{Shape, OfClass, shape_name, shape_named}
use Rattle.cjc_card_semantics.specs.Bytecode.Effects.{HeapObject, shape}
use Rattle.cjc_card_semantics.specs.Bytecode.Machine.{heap_after}
use Rattle.cjc_ncode.specs.ByLabel.{Named, by_label}
use Rattle.cjc_jvm_semantics.specs.Linked.{Linked}
use Rattle.cjc_jvm_semantics.specs.Machine.{heap_after_act}
use Rattle.cjc_narrow_proof.specs.Selection.Relation.{Heap, HeapFits, shown}

-- something of a type is at a place of the heap
pub record IsAt (heap : Heap) (k : ℕ) (kind : Shape (List ℕ)) : Type 0 where
  pub thing : HeapObject (List ℕ) MemberId
  pub is : slice_get heap k ≡ Some thing
  pub type : shape thing ≡ kind

-- what is there has its type on the other heap too
abbrev pub Keeps : Heap → Heap → Type 0
Keeps heap after = (k : ℕ) (thing : HeapObject (List ℕ) MemberId) → slice_get heap k ≡ Some thing
    → IsAt after k (shape thing)

-- It fits neither; or both heaps are the same afterwards, of sound types, and what was there has its type.
pub data SameHeaps (l : Named) (heap : Heap) : Option (List Thing) → Option Heap → Type 0 where
  unfit : SameHeaps l heap None None
  changed : {after : Heap} → Keeps heap after → HeapFits l after → SameHeaps l heap (Some (map (shown l) after))
      (Some after)

-- each act, on each heap of sound types
abbrev pub ActsAlike : Linked → Named → Type 0
ActsAlike by l = (act : Act) (heap : Heap) → HeapFits l heap
    → SameHeaps l heap (heap_after_act by act (map (shown l) heap)) (heap_after (by_label l) act heap)

-- What acts ask of classes is told alike: which are there, which are imported, and what is of a class; and a type is
-- named by its own name.
pub record ActsAreTold (by : Linked) (l : Named) : Type 0 where
  pub there : (class : List ℕ) → by.is_there None class ≡ true → l.class_named class ≡ Some class
  pub not_there : (class : List ℕ) → by.is_there None class ≡ false → l.class_named class ≡ None
  pub imported : (class : List ℕ) → by.is_imported class ≡ true → l.imported class ≡ Some class
  pub not_imported : (class : List ℕ) → by.is_imported class ≡ false → l.imported class ≡ None
  pub tells : (of : Shape (List ℕ)) (class : List ℕ) → by.subtype None (shape_name of) class
      ≡ l.is_of of (OfClass class)
  pub spelt : (name : List ℕ) (kind : Shape (List ℕ)) → shape_named name ≡ Some kind → shape_name kind ≡ name
