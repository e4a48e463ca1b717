-- An element of an array, by the array.
use Rattle.std.proofs.Common.{◌≡◌, ℕ, ℤ, List, ap, ◌∙◌}
use Rattle.cjc_script.specs.declared.value.Value.{Value}
use Rattle.cjc_script.specs.declared.report.Thing.{Thing}
use Rattle.cjc_script.specs.Sorts.{shape_named}
use Rattle.cjc_jvm_semantics.specs.Effects.{Effect, Moves, thing_at, array_in, only_if, serves, item_at}
use Rattle.cjc_jvm_step.specs.declared.heap.kind.ArrayKind.{ArrayKind}
use Rattle.cjc_jvm_step.specs.Heap.Kinds.{shape_of}
use Rattle.cjc_jvm_step.specs.Heap.Looks.{name_at, element_at}

pub element_by_array : (moves : Moves) (heap : List Thing) (r : Value) (i : ℤ) (kind : ArrayKind) (k : ℕ)
    (items : List Value) → ((go : ℕ → List ℕ → List Value → Effect) → thing_at heap r (λ j thing. array_in thing (go j))
    ≡ go k (name_at heap k) items) → shape_named (name_at heap k) ≡ shape_of kind (name_at heap k)
    → (go : ℕ → List ℕ → List Value → ℕ → Value → Effect) → element_at moves heap r i go
    ≡ only_if (serves moves (shape_of kind (name_at heap k))) (item_at items i (go k (name_at heap k) items))
element_by_array moves heap r i kind k items found shape go =
    found (λ j desc xs. only_if (serves moves (shape_named desc)) (item_at xs i (go j desc xs)))
    ∙ ap (λ s. only_if (serves moves s) (item_at items i (go k (name_at heap k) items))) shape
