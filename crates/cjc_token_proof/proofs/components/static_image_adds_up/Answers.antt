use Rattle.std.proofs.Common.{◌≡◌, ℕ, ◌+◌, ◌*◌, ◌%◌, ◌==◌, true, List, [], ◌∷◌, length, refl, ap, ◌∙◌, arith}
use Rattle.std.proofs.Common.{length-append}
use Rattle.std.specs.Prelude.{map, flat_map, nat_le, ℤ}
use Rattle.std.proofs.lemmas.Bool.Decides.{nat_tests}
use Rattle.std.proofs.lemmas.List.{length-map}
use Rattle.cjc_bytes.specs.declared.descriptor.Kind.{Kind}
use Rattle.cjc_bytes.proofs.Numbers.{like_number}
use Rattle.cjc_bytes.specs.declared.descriptor.Kind.TheVariants as kinds
use Rattle.cjc_world.specs.declared.image.ArrayCell.{ArrayCell}
use Rattle.cjc_components.specs.LowerCheckRules.Spots.{in_info, along}
use Rattle.cjc_components.specs.LowerCheckRules.Complete.{array_size}
use Rattle.cjc_components.specs.LowerCheckRules.Statics.{element_size, in_array}
use Rattle.cjc_components.specs.Statics.{static_field, array_init, element_bytes, type_number, reference_count}
use Rattle.cjc_token_proof.proofs.ComponentsLaws.Tests.{passes, none_in_both}
use Rattle.cjc_token_proof.proofs.components.static_image_adds_up.Goals as goal

-- each element has the bytes of its type
one : (kind : Kind) (z : ℤ) → length (element_bytes kind z) ≡ element_size (type_number kind)
one kinds.Bool z = refl
one kinds.Byte z = refl
one kinds.Short z = refl
one kinds.Int z = refl
one kinds.Other z = refl
one kinds.Ref z = refl
one kinds.Void z = refl

all : (kind : Kind) (items : List ℤ) → length (flat_map (element_bytes kind) items) ≡ length items * element_size
    (type_number kind)
all kind [] = omega arith
all kind (z ∷ items) =
    let e = one kind z in
    let r = all kind items in
    length-append (element_bytes kind z) (flat_map (element_bytes kind) items) ∙ omega (arith, e, r)

whole : (kind : Kind) (items : List ℤ) → (length (flat_map (element_bytes kind) items) % element_size (type_number kind)
    == 0) ≡ true
whole kinds.Bool items = grind (arith, nat_tests, all kinds.Bool items)
whole kinds.Byte items = grind (arith, nat_tests, all kinds.Byte items)
whole kinds.Short items = grind (arith, nat_tests, all kinds.Short items)
whole kinds.Int items = grind (arith, nat_tests, all kinds.Int items)
whole kinds.Other items = grind (arith, nat_tests, all kinds.Other items)
whole kinds.Ref items = grind (arith, nat_tests, all kinds.Ref items)
whole kinds.Void items = grind (arith, nat_tests, all kinds.Void items)

arrays_are_whole : (at : ℕ) (arrays : List ArrayCell) → along array_size in_array at (map array_init arrays) ≡ []
unfolding along
arrays_are_whole at [] = refl
arrays_are_whole at (a ∷ arrays) =
    none_in_both (passes _ (in_info 8 (at + 1)) (whole a.kind a.items))
    (arrays_are_whole (at + array_size (array_init a)) arrays)

pub returns : goal.returns
returns c image =
    let s = static_field image in
    let few : nat_le (length (map array_init image.arrays)) (reference_count image) ≡ true =
    ap (λ n. nat_le n (reference_count image)) (length-map image.arrays array_init) ∙ grind (arith, nat_tests) in
    none_in_both (none_in_both (passes _ (in_info 8 0) (like_number s.image_size)) (passes _ (in_info 8 4) few))
    (arrays_are_whole 6 image.arrays)
