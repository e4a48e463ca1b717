-- The types of values and of methods, as they are kept, in the definition's terms.
use Rattle.std.specs.Prelude.{List, Option, option_map, map}
use Rattle.cjc_jvm_step.specs.Script.Sorts
use Rattle.cjc_jvm_step.specs.Script.Sorts.{Signature}
use Rattle.cjc_jvm_step.specs.Step.Names.{shape_meant}
use Rattle.cjc_jvm.specs.declared.acts.sort.Sort.{Sort}
use Rattle.cjc_jvm.specs.declared.acts.sort.Sort.TheVariants.{Boolean, Byte, Short, Int, Reference, NoValue}

-- the type of a value
abbrev pub sort_meant : Sort → Sorts.Sort
sort_meant Boolean = Sorts.Boolean
sort_meant Byte = Sorts.Byte
sort_meant Short = Sorts.Short
sort_meant Int = Sorts.Int
sort_meant (Reference shape) = Sorts.Reference (shape_meant shape)
sort_meant NoValue = Sorts.NoValue

-- the types of a method's parameters and of its result
abbrev pub signature_with : List Sort → Option Sort → Signature
signature_with params result = record { params = map sort_meant params; result = option_map sort_meant result }
