-- A type's name as the code keeps it, lent or made, and the bytes that it is.
use Rattle.std.specs.Prelude.{ℕ, List}
use Rattle.cjc_jvm_step.specs.declared.heap.type_name.Text.{Text}
use Rattle.cjc_jvm_step.specs.declared.heap.type_name.Text.TheVariants.{Told, Made}

-- those that others hold, or its own
abbrev pub text_bytes : Text → List ℕ
text_bytes (Told bytes) = bytes.now
text_bytes (Made bytes) = bytes
