-- The types of arrays of numbers by their descriptors.
use Rattle.std.proofs.Common.{◌≡◌, refl}
use Rattle.std.specs.Prelude.{Some}
use Rattle.cjc_script.specs.Bytes.Spots.{after, bad_at, types_from, parts_of, desc_of}
use Rattle.cjc_script.specs.Sorts.{OfNumbers, array_name, shape_named}
use Rattle.cjc_jvm_step.specs.declared.heap.kind.Element.{Element}
use Rattle.cjc_jvm_step.specs.declared.heap.kind.Element.TheVariants.{Boolean, Byte, Short, Int}
use Rattle.cjc_jvm_step.specs.Heap.Kinds.{elements_of}

pub shape_by_name : (e : Element) → shape_named (array_name (elements_of e)) ≡ Some (OfNumbers (elements_of e))
unfolding after bad_at types_from parts_of desc_of
shape_by_name Boolean = refl
shape_by_name Byte = refl
shape_by_name Short = refl
shape_by_name Int = refl
