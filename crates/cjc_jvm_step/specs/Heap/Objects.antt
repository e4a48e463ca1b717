-- Arrays and objects, as the heap keeps them and as they are.
use Rattle.std.specs.Prelude.{◌≡◌, ◌<◌, ◌^◌, ℕ, suc, List, [], ◌∷◌, length, Option, Some, None, option_map}
use Rattle.std.specs.Prelude.{option_and_then, if◌then◌else◌}
use Rattle.cjc_script.specs.Bytes.declared.fault.MemberId.{MemberId}
use Rattle.cjc_script.specs.declared.value.Value.{Value}
use Rattle.cjc_script.specs.declared.report.FieldValue.{FieldValue}
use Rattle.cjc_script.specs.declared.report.Thing.{Thing}
use Rattle.cjc_script.specs.declared.report.Thing.TheVariants as things
use Rattle.cjc_script.specs.Sorts.{shape_named}
use Rattle.cjc_jvm_semantics.specs.Effects.{Effect, is_same_field, object_in, with_some, only_if, value_in, values_with}
use Rattle.cjc_jvm_semantics.specs.Effects.{is_same_kind}
use Rattle.cjc_jvm_step.specs.declared.heap.object.Body.{Body}
use Rattle.cjc_jvm_step.specs.declared.heap.object.Body.TheVariants.{Array, Object}
use Rattle.cjc_jvm_step.specs.Heap.Kinds.{shape_of}

-- fields with these values
abbrev pub fields_with : List FieldValue → List Value → List FieldValue
fields_with [] values = []
fields_with (f ∷ fields) [] = []
fields_with (f ∷ fields) (v ∷ values) = record f { value = v } ∷ fields_with fields values

-- what is kept of an array or object
abbrev pub thing_of : Body → Thing
thing_of (Array desc kind items) = things.Array desc items.items
thing_of (Object class fresh values) = things.Object class.now (fields_with fresh.now values.items)

-- an array is served by its descriptor, and an object has a value for each field
abbrev pub IsSound : Body → Type 0
IsSound (Array desc kind items) = (shape_named desc ≡ shape_of kind desc) × (length items.items < 2 ^ 31)
IsSound (Object class fresh values) = length values.items ≡ length fresh.now

-- the elements of an array
abbrev pub items_in : Thing → List Value
items_in (things.Array desc items) = items
items_in (things.Object class fields) = []

-- the place of the first field that is this one
abbrev pub place_in : List FieldValue → MemberId → Option ℕ
place_in [] id = None
place_in (f ∷ fields) id = if is_same_field f.field id then Some 0 else option_map suc (place_in fields id)

-- fields after a put into one, where that is there and holds a value of the same kind
abbrev pub fields_after_put : List FieldValue → MemberId → Value → Option (List FieldValue)
fields_after_put fields id v =
    option_and_then (λ old. if is_same_kind old v then Some (values_with fields id v) else None) (value_in fields id)

-- a field of an object is put, where it holds a value of the same kind
abbrev pub put_in_object : Thing → MemberId → Value → (Thing → Effect) → Effect
put_in_object thing id v go =
    object_in thing (λ class fields. with_some (value_in fields id) (λ old.
    only_if (is_same_kind old v) (go (things.Object class (values_with fields id v)))))
