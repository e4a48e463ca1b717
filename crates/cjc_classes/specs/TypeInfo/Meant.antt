-- What the code's types of values stand for.
use Rattle.cjc_components.specs.LowerScript.Sorts.{Booleans, Bytes, Shorts, Ints, OfClass, OfNumbers, OfReferences}
use Rattle.cjc_components.specs.LowerScript.Sorts.{Boolean}
use Rattle.cjc_components.specs.LowerScript.Sorts.{Byte}
use Rattle.cjc_components.specs.LowerScript.Sorts.{Short, Int, Reference, NoValue}
use Rattle.cjc_components.specs.LowerScript.Sorts
use Rattle.cjc_classes.specs.declared.type_info.sort.Sort.{Sort}
use Rattle.cjc_classes.specs.declared.type_info.sort.Sort.TheVariants as sorts

-- the type that one of the code's stands for: a primitive, a class, or an array by its elements
abbrev pub sort_meant : Sort → Sorts.Sort
sort_meant sorts.Boolean = Boolean
sort_meant sorts.Byte = Byte
sort_meant sorts.Short = Short
sort_meant sorts.Int = Int
sort_meant (sorts.Class name) = Reference (OfClass name.now)
sort_meant sorts.Booleans = Reference (OfNumbers Booleans)
sort_meant sorts.Bytes = Reference (OfNumbers Bytes)
sort_meant sorts.Shorts = Reference (OfNumbers Shorts)
sort_meant sorts.Ints = Reference (OfNumbers Ints)
sort_meant (sorts.Array name) = Reference (OfReferences name.now)
sort_meant sorts.NoValue = NoValue
