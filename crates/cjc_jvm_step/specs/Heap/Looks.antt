-- What instructions look up and change in the heap, by the definition's steps.
use Rattle.std.specs.Prelude.{ℕ, ℤ, List, [], Option, Some, None, slice_get, slice_set}
use Rattle.cjc_script.specs.Bytes.declared.fault.MemberId.{MemberId}
use Rattle.cjc_script.specs.declared.value.Value.{Value}
use Rattle.cjc_script.specs.declared.report.Thing.{Thing}
use Rattle.cjc_script.specs.Sorts.{shape_named}
use Rattle.cjc_jvm_semantics.specs.Effects
use Rattle.cjc_jvm_semantics.specs.Effects.{Effect, Moves, type_of, thing_at, array_in, object_in, only_if, serves}
use Rattle.cjc_jvm_semantics.specs.Effects.{item_at, with_some, value_in}
use Rattle.cjc_jvm_step.specs.Frame.Deeds.{fault_of}
use Rattle.cjc_jvm_step.specs.declared.heap.halt.Halt.{Halt}
use Rattle.cjc_jvm_step.specs.declared.heap.halt.Halt.TheVariants.{Raise, Stick}
use Rattle.cjc_jvm_step.specs.Heap.Objects.{items_in, put_in_object}

-- an exception of the machine's own, or nothing that applies
abbrev pub halted : Halt → Effect
halted (Raise e) = Effects.Raise (fault_of e)
halted Stick = Effects.Stick

-- the name of a type, and none where nothing is
abbrev pub name_if : Option Thing → List ℕ
name_if None = []
name_if (Some thing) = type_of thing

-- the name of the type of an array or object
abbrev pub name_at : List Thing → ℕ → List ℕ
name_at heap k = name_if (slice_get heap k)

-- elements, and none where nothing is
abbrev pub items_if : Option Thing → List Value
items_if None = []
items_if (Some thing) = items_in thing

-- the elements of an array
abbrev pub items_at : List Thing → ℕ → List Value
items_at heap k = items_if (slice_get heap k)

-- the element at an index of the array of a reference: the array's number, descriptor and elements, the element's place
-- and value
abbrev pub element_at : Moves → List Thing → Value → ℤ → (ℕ → List ℕ → List Value → ℕ → Value → Effect) → Effect
element_at moves heap r i go =
    thing_at heap r (λ k thing. array_in thing (λ desc items. only_if (serves moves (shape_named desc))
    (item_at items i (go k desc items))))

-- what a field of the object of a reference holds
abbrev pub field_at : List Thing → Value → MemberId → (Value → Effect) → Effect
field_at heap r id go = thing_at heap r (λ k thing. object_in thing (λ class fields. with_some (value_in fields id) go))

-- a field of the object of a reference is put, where it holds a value of the same kind: the heap after that
abbrev pub put_field_at : List Thing → Value → MemberId → Value → (List Thing → Effect) → Effect
put_field_at heap r id v go = thing_at heap r (λ k thing. put_in_object thing id v (λ put. go (slice_set heap k put)))
