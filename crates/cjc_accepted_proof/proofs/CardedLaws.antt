-- A descriptor that names none of the types which a package may not use is one of types that the card has.
use Rattle.std.proofs.Common.{◌≡◌, ℕ, ◌<◌, ◌^◌, refl, sym, ap, ◌∙◌, Bool, true, false, List, [], ◌∷◌, ◌++◌, length, map}
use Rattle.std.specs.Prelude.{◌&&◌, ◌||◌, Some, option_and_then}
use Rattle.std.specs.List.{list_all, list_any}
use Rattle.std.proofs.lemmas.Bool.{lt-ltb}
use Rattle.cjc_types.specs.Bytes.Descriptor.{AreTypes, IsDescriptor, IsResult, Part, Parts, field, method, next, none}
use Rattle.cjc_types.specs.Bytes.Descriptor.{nothing}
use Rattle.cjc_types.specs.Bytes.Descriptor.{value}
use Rattle.cjc_types.specs.Bytes.Spots.{desc_of}
use Rattle.cjc_types.specs.Bytes.declared.descriptor.Kind.{Kind}
use Rattle.cjc_types.specs.Bytes.declared.descriptor.Kind.TheVariants as kinds
use Rattle.cjc_types.proofs.BytesBools.{or_left, or_right}
use Rattle.cjc_types.proofs.BytesDescriptorTypes.{desc_spelt}
use Rattle.cjc_types.proofs.BytesQuantified.{last_false}
use Rattle.cjc_verify.specs.Script.Sorts.{Boolean, Byte, Int, NoValue, Reference, Short, Sort, result_by}
use Rattle.cjc_verify.specs.Script.Sorts.{signature_by}
use Rattle.cjc_verify.specs.Script.Sorts.{sort_of}
use Rattle.cjc_verify.specs.Script.Sorts.{sort_or_none}
use Rattle.cjc_verify.specs.Subset.Types.{is_any_unsupported, is_unsupported_desc, is_unsupported_part}
use Rattle.cjc_check_proof.specs.NarrowProof.Selection.Objects.{has_values}
use Rattle.cjc_check_proof.proofs.NarrowProofWordTypes.{type_values}
use Rattle.cjc_verify.specs.Pairs.{is_card_result, is_card_sort, is_card_type}
use Rattle.cjc_accepted_proof.specs.Carded.{IsOnCard}
use Rattle.cjc_accepted_proof.proofs.InfosLaws.{both_hold}

values_card : (s : Sort) → has_values s ≡ true → is_card_sort s ≡ true
values_card Boolean e = refl
values_card Byte e = refl
values_card Short e = refl
values_card Int e = refl
values_card (Reference shape) e = refl
values_card NoValue e = e

types_card : {ps : List Part} {bytes : List ℕ} → AreTypes ps bytes → (more : List Part)
    → list_any is_unsupported_part (ps ++ more) ≡ false → list_all is_card_sort (map sort_of ps) ≡ true
types_card none more f = refl
types_card (next {p = p} {ps = ps} t ts) more f = both_hold (values_card (sort_of p) (type_values t (or_left
    (is_unsupported_part p) (list_any is_unsupported_part (ps ++ more)) f))) (types_card ts more (or_right
    (is_unsupported_part p) (list_any is_unsupported_part (ps ++ more)) f))

result_card : {r : Part} {bytes : List ℕ} → IsResult r bytes → is_unsupported_part r ≡ false → is_card_result
    (result_by r.kind r) ≡ true
result_card (value {p = p} t) f = by p.kind (values_card (sort_of p) (type_values t f))
  where
    by : (k : Kind) → is_card_sort (sort_of p) ≡ true → is_card_result (result_by k p) ≡ true
    by kinds.Void h = refl
    by kinds.Bool h = h
    by kinds.Byte h = h
    by kinds.Short h = h
    by kinds.Int h = h
    by kinds.Other h = h
    by kinds.Ref h = h
result_card nothing f = refl

pub on_card : (desc : List ℕ) (d : Parts) → length desc < 2 ^ 32 → desc_of desc ≡ Some d → is_unsupported_desc desc
    ≡ false → IsOnCard desc
unfolding is_unsupported_desc
on_card desc d short is f =
    let clean : is_any_unsupported (Some d) ≡ false = ap is_any_unsupported (sym is)
    ∙ ap (λ b. b && is_any_unsupported (desc_of desc)) (sym (lt-ltb (length desc) (2 ^ 32) short)) ∙ f in
    ap (λ o. is_card_type desc (option_and_then signature_by o)) is ∙ by (desc_spelt d desc is) is clean
  where
    by : {d : Parts} {bytes : List ℕ} → IsDescriptor d bytes → desc_of desc ≡ Some d → is_any_unsupported (Some d) ≡
        false → is_card_type desc (signature_by d) ≡ true
    by (field {p = p} t) e g = ap (λ o. is_card_sort (sort_or_none o)) e ∙ values_card (sort_of p) (type_values t
        (or_left (is_unsupported_part p) false g))
    by (method {ps = ps} {r = r} ts t) e g = both_hold (types_card ts (r ∷ []) g) (result_card t (last_false
        is_unsupported_part ps r g))
