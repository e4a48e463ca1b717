-- What arrays hold and array instructions move, in the definition's terms.
use Rattle.std.specs.Prelude.{ℕ, List, [], ◌∷◌, ◌-◌, ◌==◌, length, take, drop, Option, Some, None, Bool, true, false}
use Rattle.std.specs.Prelude.{not}
use Rattle.cjc_script.specs.Sorts
use Rattle.cjc_script.specs.Sorts.{Shape, OfNumbers, OfReferences}
use Rattle.cjc_jvm_semantics.specs.Effects.{AReference, AByte, AShort, AnInt}
use Rattle.cjc_jvm_semantics.specs.Effects
use Rattle.cjc_jvm_step.specs.declared.heap.kind.Element.{Element}
use Rattle.cjc_jvm_step.specs.declared.heap.kind.Element.TheVariants.{Boolean, Byte, Short, Int}
use Rattle.cjc_jvm_step.specs.declared.heap.kind.ArrayKind.{ArrayKind}
use Rattle.cjc_jvm_step.specs.declared.heap.kind.ArrayKind.TheVariants.{Numbers, References, Neither}
use Rattle.cjc_jvm_step.specs.declared.heap.kind.Moves.{Moves}
use Rattle.cjc_jvm_step.specs.declared.heap.kind.Moves.TheVariants as moves

-- the elements of an array of numbers
abbrev pub elements_of : Element → Sorts.Element
elements_of Boolean = Sorts.Booleans
elements_of Byte = Sorts.Bytes
elements_of Short = Sorts.Shorts
elements_of Int = Sorts.Ints

-- the name of the class of an array's elements, where its descriptor names one
abbrev pub class_within : (desc : List ℕ) → List ℕ
class_within desc = take (length (drop 2 desc) - 1) (drop 2 desc)

-- the type of an array by its descriptor and what it holds
abbrev pub shape_of : ArrayKind → (desc : List ℕ) → Option (Shape (List ℕ))
shape_of (Numbers element) desc = Some (OfNumbers (elements_of element))
shape_of References desc = Some (OfReferences (class_within desc))
shape_of Neither desc = None

-- a name that begins no array, and one byte behind it
abbrev pub is_class_and_end : List ℕ → Bool
is_class_and_end [] = false
is_class_and_end (b ∷ []) = false
is_class_and_end (b ∷ c ∷ bs) = not (b == 91)

-- what an array instruction moves
abbrev pub effect_moves : Moves → Effects.Moves
effect_moves moves.Reference = AReference
effect_moves moves.Byte = AByte
effect_moves moves.Short = AShort
effect_moves moves.Int = AnInt
