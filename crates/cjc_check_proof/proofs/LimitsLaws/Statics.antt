-- StaticField, and the numbers of Directory that are its own.
use Rattle.std.proofs.Common.{◌≡◌, ℕ, suc, ◌+◌, ◌*◌, ◌^◌, ◌<◌, ◌≤◌, refl, List, [], ◌∷◌, ◌++◌, map, length}
use Rattle.std.proofs.Common.{length-append, arith}
use Rattle.std.specs.Prelude.{flat_map, sum_by, ℤ, Some, slice_get}
use Rattle.std.specs.List.{AllByRecursion}
use Rattle.std.proofs.lemmas.List.{length-map}
use Rattle.std.proofs.lemmas.List.Sums.{sum_by-cons}
use Rattle.cjc_bytes.specs.declared.fault.MemberId.{MemberId}
use Rattle.cjc_bytes.specs.declared.descriptor.Kind.{Kind}
use Rattle.cjc_bytes.specs.declared.descriptor.Kind.TheVariants as kinds
use Rattle.cjc_capread.specs.declared.tree.ArrayInit.{ArrayInit}
use Rattle.cjc_capread.specs.declared.tree.StaticField.{StaticField}
use Rattle.cjc_pool.specs.CapWrite.Fits.{ArrayInitFits, StaticFieldFits}
use Rattle.cjc_pool.specs.CapWrite.Statics.{array_init_bytes, static_field_bytes}
use Rattle.cjc_components.proofs.CapWriteLengths.{array_init_length, static_field_length}
use Rattle.cjc_token_proof.specs.Script.Sorts.{Sort, Boolean, Byte, Short, Int, Reference, NoValue, field_sort}
use Rattle.cjc_check_rules.specs.Listed.{array_bytes}
use Rattle.cjc_world.specs.declared.image.ArrayCell.{ArrayCell}
use Rattle.cjc_world.specs.declared.image.StaticImage.{StaticImage}
use Rattle.cjc_world.specs.declared.image.ValueCell.{ValueCell}
use Rattle.cjc_components.specs.Package.{Package}
use Rattle.cjc_components.specs.Statics.{array_init, cell_order, default_size, other_values, reference_count}
use Rattle.cjc_components.specs.Statics.{size_of_field, static_field, type_number, value_by, value_bytes}
use Rattle.cjc_check_proof.specs.Limits.Premises.{IsLimited}
use Rattle.cjc_check_proof.proofs.LimitsLaws.Lists.{many, one_of_all}
use Rattle.cjc_check_proof.proofs.LimitsLaws.Limits.{components_short, sizes_kept}
use Rattle.cjc_check_proof.proofs.LimitsLaws.Offsets.{few_cells, size_small}

-- ---- cells

value_small : (s : Sort) (z : ℤ) → length (value_by s z) ≤ 4
value_small Boolean z = omega arith
value_small Byte z = omega arith
value_small Short z = omega arith
value_small Int z = omega arith
value_small (Reference shape) z = omega arith
value_small NoValue z = omega arith

values_small : (vs : List ValueCell) → length (flat_map value_bytes vs) ≤ 4 * length vs
values_small [] = omega arith
values_small (v ∷ vs) =
    let f = v.field in
    let one : length (value_bytes v) ≤ 4 = value_small (field_sort f.desc) v.value in
    let rest = values_small vs in
    let l = length-append (value_bytes v) (flat_map value_bytes vs) in
    omega (arith, one, rest, l)

sizes_small : (fs : List MemberId) → sum_by size_of_field fs ≤ 4 * length fs
sizes_small [] = omega arith
sizes_small (f ∷ fs) =
    let one : size_of_field f ≤ 4 = size_small (field_sort f.desc) in
    let rest = sizes_small fs in
    let l = sum_by-cons size_of_field f fs in
    omega (arith, one, rest, l)

order_long : (i : StaticImage) → length (cell_order i) ≡ length i.arrays + length i.nulls + length i.zeros + length
    i.others
order_long i =
    let arrays = map (λ (a : ArrayCell). a.field) i.arrays in
    let others = map (λ (v : ValueCell). v.field) i.others in
    let a = length-append arrays (i.nulls ++ (i.zeros ++ others)) in
    let b = length-append i.nulls (i.zeros ++ others) in
    let c = length-append i.zeros others in
    let d = length-map i.arrays (λ (a : ArrayCell). a.field) in
    let e = length-map i.others (λ (v : ValueCell). v.field) in
    omega (arith, a, b, c, d, e)

-- ---- arrays

type_low : (k : Kind) → 2 ≤ type_number k
type_low kinds.Bool = omega arith
type_low kinds.Byte = omega arith
type_low kinds.Short = omega arith
type_low kinds.Int = omega arith
type_low kinds.Other = omega arith
type_low kinds.Ref = omega arith
type_low kinds.Void = omega arith

type_high : (k : Kind) → type_number k ≤ 5
type_high kinds.Bool = omega arith
type_high kinds.Byte = omega arith
type_high kinds.Short = omega arith
type_high kinds.Int = omega arith
type_high kinds.Other = omega arith
type_high kinds.Ref = omega arith
type_high kinds.Void = omega arith

array_some : (x : ArrayInit) → 3 ≤ length (array_init_bytes x)
array_some x = let l = array_init_length x in omega (arith, l)

arrays_long : (xs : List ArrayInit) → array_bytes xs ≤ length (flat_map array_init_bytes xs)
arrays_long [] = omega arith
arrays_long (x ∷ xs) =
    let one = array_init_length x in
    let rest = arrays_long xs in
    let a = sum_by-cons (λ (y : ArrayInit). length y.values) x xs in
    let l = length-append (array_init_bytes x) (flat_map array_init_bytes xs) in
    omega (arith, one, rest, a, l)

module _ (p : Package) (h : IsLimited p) where
  abbrev shown : StaticField
  shown = static_field p.image

  short : length (static_field_bytes shown) ≤ 65535
  short = let s = components_short p (sizes_kept p h.limits) in s.statics

  in_arrays : length (flat_map array_init_bytes (let s = shown in s.array_inits)) ≤ 65525
  in_arrays = let s = short in let l = static_field_length shown in omega (arith, s, l)

  pub image_low : (let s = shown in s.image_size) < 2 ^ 16
  image_low = let i = p.image in
      let few = few_cells p h in
      let long = order_long i in
      let zeros = sizes_small i.zeros in
      let others = values_small i.others in
      let all : 2 * reference_count i + default_size i + length (other_values i) < 2 ^ 16 =
      omega (arith, few, long, zeros, others) in
      all

  pub arrays_few : (let s = shown in length s.array_inits) < 2 ^ 16
  arrays_few = let s = shown in
      let most = many array_init_bytes 3 array_some s.array_inits in
      let all = in_arrays in
      omega (arith, most, all)

  pub array_bytes_low : (let s = shown in array_bytes s.array_inits) < 2 ^ 16
  array_bytes_low = let s = shown in
      let long = arrays_long s.array_inits in
      let all = in_arrays in
      omega (arith, long, all)

  array_fits : (k : ℕ) (x : ArrayInit) → (let s = shown in slice_get s.array_inits k ≡ Some x)
      → length x.values < 2 ^ 16
  array_fits k x e = let s = shown in
      let one = one_of_all array_init_bytes s.array_inits k x e in
      let l = array_init_length x in
      let all = in_arrays in
      omega (arith, one, l, all)

  pub statics_fit : StaticFieldFits (static_field p.image)
  statics_fit = let i = p.image in
      let few = few_cells p h in
      let long = order_long i in
      let zeros = sizes_small i.zeros in
      record {
        image_size = image_low;
        reference_count = (let lt : reference_count i < 2 ^ 16 = omega (arith, few, long) in lt);
        count = arrays_few;
        array_inits = all_here i.arrays (λ k x e. array_fits k x e);
        default_value_count = (let lt : default_size i < 2 ^ 16 = omega (arith, few, long, zeros) in lt);
        values = (let s = short in let l = static_field_length shown in let lt : length (other_values i) < 2 ^ 16 =
            omega (arith, s, l) in lt);
      }
    where
      all_here : (xs : List ArrayCell) → ((k : ℕ) (x : ArrayInit) → slice_get (map array_init xs) k ≡ Some x
          → length x.values < 2 ^ 16) → AllByRecursion ArrayInitFits (map array_init xs)
      all_here [] each = tt
      all_here (a ∷ xs) each = (
        record {
          least = type_low a.kind;
          greatest = type_high a.kind;
          values = each 0 (array_init a) refl;
        },
        all_here xs (λ k x e. each (suc k) x e),
      )
