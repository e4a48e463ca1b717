-- What an act has done to the heap.
use Rattle.std.specs.Prelude.{◌≡◌, List, Option, Some, None, Bool, true, false}
use Rattle.cjc_jvm_step.specs.Script.declared.report.Thing.{Thing}

-- an act that fits has left the heap of the definition, and one that does not has left all as it was
abbrev pub IsPerformed : (fits : Bool) → (after : Option (List Thing)) → (old new : List Thing) → Type 0
IsPerformed true after old new = after ≡ Some new
IsPerformed false after old new = (after ≡ None) × (new ≡ old)
