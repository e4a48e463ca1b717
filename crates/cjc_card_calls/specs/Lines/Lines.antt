-- What is kept of what stands above classes.
use Rattle.std.specs.Prelude.{◌≡◌, List, map, Option, Some, None, option_map, if◌then◌else◌}
use Rattle.std.specs.HashMap.{get_by}
use Rattle.cjc_card_semantics.specs.Machine.Loaded.{Loaded}
use Rattle.cjc_card_semantics.specs.Machine.Classes.{Class, is_in, is_there, same_class, upwards}
use Rattle.cjc_card_frame.specs.declared.heap.class.Class.{Class as ClassData}
use Rattle.cjc_card_frame.specs.Objects.{class_of}
use Rattle.cjc_card_calls.specs.declared.lines.lines.Lines.{Lines}

-- what is kept under a class
abbrev pub data_under : Lines → Class → Option (List ClassData)
data_under lines x = get_by (λ k. same_class x k) lines.kept

-- what classes these are
abbrev pub line_under : Lines → Class → Option (List Class)
line_under lines x = option_map (map class_of) (data_under lines x)

-- a class of these, and what stands above it
abbrev pub line_by : Loaded → List Class → Class → Option (List Class)
line_by l classes x = if is_in x classes then Some (upwards l x) else None

-- Each class that is there is kept with what stands above it, and no other class is.
abbrev pub AreLines : Loaded → Lines → Type 0
AreLines l lines = (x : Class) → line_under lines x ≡ (if is_there l x then Some (upwards l x) else None)
