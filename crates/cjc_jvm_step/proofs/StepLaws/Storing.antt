-- A store into an array, up to what the array keeps of the value.
use Rattle.std.proofs.Common.{◌≡◌, ℕ, List, ◌+◌, ◌∷◌, ◌∙◌, ap, sym, drop, true}
use Rattle.std.specs.Prelude.{FitsSigned, Some, slice_set, ℤ}
use Rattle.std.specs.Int.{w32, cast_signed, cast_unsigned}
use Rattle.std.proofs.lemmas.Int.{to_z-of_z}
use Rattle.cjc_script.specs.declared.report.FieldValue.{FieldValue}
use Rattle.cjc_script.specs.declared.report.Thing.{Thing}
use Rattle.cjc_script.specs.declared.report.Thing.TheVariants.{Array}
use Rattle.cjc_script.specs.declared.value.Value.{Value}
use Rattle.cjc_script.specs.declared.value.Value.TheVariants.{Num}
use Rattle.cjc_script.specs.Sorts.{shape_named}
use Rattle.cjc_jvm_semantics.specs.Effects.{Effect, Go, Moves, only_if, is_kind, of_references, with_kept}
use Rattle.cjc_jvm_semantics.specs.Effects.{after_array_store}
use Rattle.cjc_jvm_semantics.specs.Linked.{Linked}
use Rattle.cjc_jvm_semantics.specs.Machine.{Frame}
use Rattle.cjc_jvm_step.specs.Heap.Looks.{element_at}
use Rattle.cjc_jvm_step.specs.Step.Rows.{store_of}

module _ (l : Linked) (f : Frame) (heap : List Thing) (statics : List FieldValue) where
  -- the element n of the array k is replaced
  abbrev pub replaced : (k : ℕ) (desc : List ℕ) (items : List Value) (n : ℕ) → Value → Effect
  replaced k desc items n w = Go (f.at + 1) (drop 3 f.stack) f.locals
      (store_of (slice_set heap k (Array desc (slice_set items n w))) statics)

  -- what a store does at the element that it finds
  abbrev pub at_element : Moves → Value → (k : ℕ) (desc : List ℕ) (items : List Value) (n : ℕ) (old : Value) → Effect
  at_element moves v k desc items n old = with_kept l f.method f.at f.locals (store_of heap statics) moves
      (shape_named desc) v (replaced k desc items n)

  pub store_finds : (moves : Moves) (v r : Value) (i : ℤ) → FitsSigned w32 i → f.stack ≡ v ∷ Num i ∷ r ∷ drop 3 f.stack
      → is_kind (of_references moves) v ≡ true
      → after_array_store l f.method f.at f.locals (store_of heap statics) (Some moves) f.stack
      ≡ element_at moves heap r (cast_signed w32 (cast_unsigned w32 i)) (at_element moves v)
  store_finds moves v r i fits stack kind =
      ap (λ s. after_array_store l f.method f.at f.locals (store_of heap statics) (Some moves) s) stack
      ∙ ap (λ t. only_if t (element_at moves heap r i (at_element moves v))) kind
      ∙ ap (λ j. element_at moves heap r j (at_element moves v)) (sym (to_z-of_z w32 i fits))
