-- What an array or object holds, as it is told.
use Rattle.std.specs.Prelude.{◌≡◌, ℕ, List, length}
use Rattle.cjc_script.specs.declared.report.Thing.{Thing}
use Rattle.cjc_script.specs.declared.report.Thing.TheVariants.{Array, Object}
use Rattle.cjc_jvm_step.specs.declared.heap.object.Parts.{Parts}
use Rattle.cjc_jvm_step.specs.declared.heap.object.Parts.TheVariants.{Items, Fields}
use Rattle.cjc_jvm_step.specs.Heap.Objects.{fields_with}

-- an array or object of a type that holds this
abbrev pub thing_by : (type : List ℕ) → Parts → Thing
thing_by type (Items items) = Array type items.now
thing_by type (Fields fresh values) = Object type (fields_with fresh.now values.now)

-- there is a value for each field
abbrev pub AreSound : Parts → Type 0
AreSound (Items items) = Unit {0}
AreSound (Fields fresh values) = length values.now ≡ length fresh.now
