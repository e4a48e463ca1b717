-- What static cells hold before anything runs, as it is kept by their fields.
use Rattle.std.specs.Prelude.{◌≡◌, List, Option, Some, None}
use Rattle.std.specs.HashMap.{get_by}
use Rattle.cjc_world.specs.Bytes.declared.fault.MemberId.{MemberId}
use Rattle.cjc_jvm_step.specs.Script.declared.value.Value.{Value}
use Rattle.cjc_world.specs.declared.image.ArrayCell.{ArrayCell}
use Rattle.cjc_world.specs.declared.image.ValueCell.{ValueCell}
use Rattle.cjc_jvm_semantics.specs.Effects.{is_same_field}
use Rattle.cjc_jvm_semantics.specs.OnePackage.{array_place, number_place}
use Rattle.cjc_jvm_link.specs.declared.cells.Starts.{Starts}

-- what is kept for a field
abbrev pub start_in : Starts → MemberId → Option Value
start_in starts id = get_by (is_same_field id) starts.values

-- the first of two
abbrev pub either : Option Value → Option Value → Option Value
either (Some v) other = Some v
either None other = other

-- an array or a number of these
abbrev pub start_of : List ArrayCell → List ValueCell → MemberId → Option Value
start_of arrays others id = either (array_place 0 arrays id) (number_place others id)

-- what is kept is what the arrays and numbers say
abbrev pub AreStarts : List ArrayCell → List ValueCell → Starts → Type 0
AreStarts arrays others starts = (id : MemberId) → start_in starts id ≡ start_of arrays others id
