-- Descriptor.
use Rattle.std.proofs.Common.{◌≡◌, ℕ, zero, suc, ◌+◌, ◌*◌, ◌^◌, ◌<◌, ◌≤◌, refl, ap, ◌∙◌, Bool, true, false, List, []}
use Rattle.std.proofs.Common.{◌∷◌, ◌++◌, map, length, arith, Option, Some, None}
use Rattle.std.specs.Prelude.{slice_get, flat_map, position, unwrap_or, option_and_then, nat_lt, if◌then◌else◌}
use Rattle.std.specs.List.{AllByRecursion, list_any}
use Rattle.std.specs.Str.{bytes_eq}
use Rattle.std.proofs.lemmas.List.{length-map}
use Rattle.cjc_bytes.specs.AccessFlags.{acc_final, acc_private, acc_protected, acc_public, acc_static, has, is_static}
use Rattle.cjc_bytes.proofs.Gets.{all_at}
use Rattle.cjc_bytes.proofs.Bools.{or_left, or_right}
use Rattle.cjc_bytes.proofs.Quantified.{all_both}
use Rattle.cjc_bytes.proofs.Lists.{each_size}
use Rattle.cjc_capread.specs.declared.tree.ClassRef.{ClassRef}
use Rattle.cjc_capread.specs.declared.tree.ClassRef.TheVariants.{Inside, Outside}
use Rattle.cjc_capread.specs.declared.tree.ClassDescriptor.{ClassDescriptor}
use Rattle.cjc_capread.specs.declared.tree.FieldPlace.TheVariants as places
use Rattle.cjc_pool.specs.CapWrite.Descriptor.{class_descriptor_bytes, type_bytes}
use Rattle.cjc_pool.specs.CapWrite.Files.{is_wide}
use Rattle.cjc_pool.specs.CapWrite.Fits.{ClassDescriptorFits, ClassFits, DescriptorFits, FieldFits, Fits2}
use Rattle.cjc_pool.specs.CapWrite.Fits.{MethodDescriptorFits, PlaceFits, TypeDescriptorFits, TypeFits}
use Rattle.cjc_components.proofs.CapWriteLengths.{class_descriptor_length, descriptor_length, types_length}
use Rattle.cjc_world.specs.ClassFile.declared.tree.FieldTree.{FieldTree}
use Rattle.cjc_pool.specs.Clinit.Image.{field_id}
use Rattle.cjc_world.specs.ExportFile.Supers.{is_one_of}
use Rattle.cjc_token_proof.specs.Script.Sorts.{Element, Booleans, Bytes, Shorts, Ints, Shape, OfClass, OfNumbers}
use Rattle.cjc_token_proof.specs.Script.Sorts.{OfReferences}
use Rattle.cjc_token_proof.specs.Script.Sorts.{Sort, Boolean, Byte, Short, Int, Reference, NoValue, Signature}
use Rattle.cjc_token_proof.specs.Script.Sorts.{field_sort}
use Rattle.cjc_token_proof.specs.Script.Sorts.{signature_of}
use Rattle.cjc_check_rules.specs.Complete.{type_size}
use Rattle.cjc_pool.specs.ClassOrder.Supers.Supers.{each_once}
use Rattle.cjc_tokens.specs.Fields.{is_constant}
use Rattle.cjc_world.specs.declared.found.Found.{Found}
use Rattle.cjc_world.specs.Classes.{Class}
use Rattle.cjc_world.specs.Order.{class_order, methods_of_class}
use Rattle.cjc_components.specs.Package.{Package, pool, world}
use Rattle.cjc_components.specs.Class.{fields_of, interfaces_of}
use Rattle.cjc_components.specs.Descriptor.{class_descriptor, descriptor, field_descriptor, field_flags, field_place}
use Rattle.cjc_components.specs.Descriptor.{field_type, fields_from, method_descriptor, method_in, pool_type, type_by}
use Rattle.cjc_components.specs.Methods.{extent_of}
use Rattle.cjc_components.specs.Names.{class_ref}
use Rattle.cjc_components.specs.Statics.{cell_offset}
use Rattle.cjc_components.specs.Types.{all_descs, array_nibble, desc_of_key, nibbles_by, nibbles_of, ref_nibbles}
use Rattle.cjc_components.specs.Types.{result_nibbles, shape_nibbles, sort_nibbles, type_descriptor, type_offset}
use Rattle.cjc_components.specs.Types.{type_starts, types_of}
use Rattle.cjc_check_proof.specs.Limits.Premises.{IsLimited}
use Rattle.cjc_check_proof.proofs.LimitsLaws.Lists.{all_mapped, one_of_all}
use Rattle.cjc_check_proof.proofs.LimitsLaws.Limits.{at_most, entries_few, narrow_types}
use Rattle.cjc_check_proof.proofs.LimitsLaws.Limits.{sizes_kept, types_near}
use Rattle.cjc_check_proof.proofs.LimitsLaws.Offsets.{cell_low, descriptor_short, extent_low}
use Rattle.cjc_check_proof.proofs.LimitsLaws.Refs.{class_fits, starts_below}
use Rattle.cjc_token_proof.proofs.ComponentsLaws.Sizes.{type_is}

-- ---- nibbles

ref_low : (ref : ClassRef) → ClassFits ref → AllByRecursion (λ n. n < 16) (ref_nibbles ref)
ref_low (Inside o) fits = (omega (arith, fits), (omega (arith, fits), (omega (arith, fits), (omega (arith, fits), tt))))
ref_low (Outside i c) fits = let a = fits.0 in let b = fits.1
    in (omega (arith, a), (omega (arith, a), (omega (arith, b), (omega (arith, b), tt))))

array_low : (e : Element) → array_nibble e < 16
array_low Booleans = omega arith
array_low Bytes = omega arith
array_low Shorts = omega arith
array_low Ints = omega arith

module _ (ref : List ℕ → ClassRef) (fits : (name : List ℕ) → ClassFits (ref name)) where
  shape_low : (s : Shape (List ℕ)) → AllByRecursion (λ n. n < 16) (shape_nibbles ref s)
  shape_low (OfClass c) = (omega arith, ref_low (ref c) (fits c))
  shape_low (OfReferences c) = (omega arith, ref_low (ref c) (fits c))
  shape_low (OfNumbers e) = (array_low e, tt)

  sort_low : (s : Sort) → AllByRecursion (λ n. n < 16) (sort_nibbles ref s)
  sort_low Boolean = (omega arith, tt)
  sort_low Byte = (omega arith, tt)
  sort_low Short = (omega arith, tt)
  sort_low Int = (omega arith, tt)
  sort_low (Reference shape) = shape_low shape
  sort_low NoValue = tt

  params_low : (ss : List Sort) → AllByRecursion (λ n. n < 16) (flat_map (sort_nibbles ref) ss)
  params_low [] = tt
  params_low (s ∷ ss) = all_both (λ n. n < 16) (sort_nibbles ref s) (flat_map (sort_nibbles ref) ss) (sort_low s)
      (params_low ss)

  result_low : (o : Option Sort) → AllByRecursion (λ n. n < 16) (result_nibbles ref o)
  result_low None = (omega arith, tt)
  result_low (Some s) = sort_low s

  nibbles_low : (desc : List ℕ) (o : Option Signature) → AllByRecursion (λ n. n < 16) (nibbles_by ref desc o)
  nibbles_low desc None = sort_low (field_sort desc)
  nibbles_low desc (Some types) = all_both (λ n. n < 16) (flat_map (sort_nibbles ref) types.params)
      (result_nibbles ref types.result) (params_low types.params) (result_low types.result)

once_all : (P : List ℕ → Type 0) (seen xs : List (List ℕ)) → AllByRecursion P xs → AllByRecursion P (each_once seen xs)
once_all P seen [] all = tt
once_all P seen (x ∷ xs) all = by (is_one_of seen x) (once_all P seen xs all.1) (once_all P (seen ++ x ∷ []) xs all.1)
  where
    by : (b : Bool) → AllByRecursion P (each_once seen xs) → AllByRecursion P (each_once (seen ++ x ∷ []) xs)
        → AllByRecursion P (if b then each_once seen xs else x ∷ each_once (seen ++ x ∷ []) xs)
    by true a b = a
    by false a b = (all.0, b)

types_by : (ns : List (List ℕ)) → list_any is_wide (map type_descriptor ns) ≡ false
    → AllByRecursion (λ (x : List ℕ). AllByRecursion (λ n. n < 16) x) ns
    → AllByRecursion TypeDescriptorFits (map type_descriptor ns)
types_by [] narrow all = tt
types_by (x ∷ ns) narrow all = (
  record {
    count = (let le = at_most 255 (length x) (or_left (nat_lt 255 (length x))
        (list_any is_wide (map type_descriptor ns)) narrow) in let lt : length x < 2 ^ 8 = omega (arith, le) in lt);
    nibbles = all.0;
  },
  types_by ns (or_right (nat_lt 255 (length x)) (list_any is_wide (map type_descriptor ns)) narrow) all.1,
)

-- ---- flags

static_flag : (a b c d e : Bool) → is_static ((if a then 0x01 else 0) + (if b then 0x02 else 0) + (if c then 0x04
    else 0) + (if d then 0x08 else 0) + (if e then 0x10 else 0)) ≡ d
static_flag true true true true true = refl
static_flag true true true true false = refl
static_flag true true true false true = refl
static_flag true true true false false = refl
static_flag true true false true true = refl
static_flag true true false true false = refl
static_flag true true false false true = refl
static_flag true true false false false = refl
static_flag true false true true true = refl
static_flag true false true true false = refl
static_flag true false true false true = refl
static_flag true false true false false = refl
static_flag true false false true true = refl
static_flag true false false true false = refl
static_flag true false false false true = refl
static_flag true false false false false = refl
static_flag false true true true true = refl
static_flag false true true true false = refl
static_flag false true true false true = refl
static_flag false true true false false = refl
static_flag false true false true true = refl
static_flag false true false true false = refl
static_flag false true false false true = refl
static_flag false true false false false = refl
static_flag false false true true true = refl
static_flag false false true true false = refl
static_flag false false true false true = refl
static_flag false false true false false = refl
static_flag false false false true true = refl
static_flag false false false true false = refl
static_flag false false false false true = refl
static_flag false false false false false = refl

flag_is : (flags : ℕ) → is_static (field_flags flags) ≡ is_static flags
flag_is flags = static_flag (has flags acc_public) (has flags acc_private) (has flags acc_protected)
    (has flags acc_static) (has flags acc_final)

module _ (p : Package) (h : IsLimited p) where
  -- ---- types

  starts_low : AllByRecursion (λ s. s ≤ 32767) (type_starts p)
  starts_low =
      let d = descriptor p in
      let near = types_near p (sizes_kept p h.limits) in
      let long = types_length d in
      let all = each_size type_bytes type_size type_is d.types in
      let count = length-map (pool p) (pool_type p) in
      starts_below type_size (2 + 2 * length (pool p)) 32767 d.types (omega (arith, near, long, all, count))

  type_near : (desc : List ℕ) → type_offset p desc ≤ 32767
  type_near desc = by (position (bytes_eq (nibbles_of p desc)) (types_of p))
    where
      get : (o : Option ℕ) → ((s : ℕ) → o ≡ Some s → s ≤ 32767) → unwrap_or o 0 ≤ 32767
      get None low = omega arith
      get (Some s) low = low s refl

      by : (o : Option ℕ) → unwrap_or (option_and_then (slice_get (type_starts p)) o) 0 ≤ 32767
      by None = omega arith
      by (Some k) = get (slice_get (type_starts p) k) (λ s e. all_at (λ s. s ≤ 32767) (type_starts p) k s starts_low
          e)

  type_low : (desc : List ℕ) → type_offset p desc < 2 ^ 16
  type_low desc = let le = type_near desc in omega (arith, le)

  entry_low : (ds : List (List ℕ)) → type_by p ds < 2 ^ 16
  entry_low [] = omega arith
  entry_low (d ∷ ds) = type_low d

  types_fit : AllByRecursion TypeDescriptorFits (map type_descriptor (types_of p))
  types_fit =
      types_by (types_of p) (narrow_types p (sizes_kept p h.limits))
      (once_all (λ (x : List ℕ). AllByRecursion (λ n. n < 16) x) [] (map (nibbles_of p) (all_descs p))
      (all_mapped (λ (x : List ℕ). AllByRecursion (λ n. n < 16) x) (nibbles_of p) (all_descs p) (λ k desc e. nibbles_low
      (class_ref p) (class_fits p h) desc (signature_of desc))))

  -- ---- members

  place_fits : (c : Class) (f : FieldTree) (token : ℕ) → PlaceFits (field_flags f.flags) (field_place p c f token)
  place_fits c f token = by (is_static f.flags) refl
    where
      by : (b : Bool) → is_static f.flags ≡ b → PlaceFits (field_flags f.flags) (if b
          then places.Static (cell_offset p.image (field_id c.name f)) else places.Instance (class_ref p c.name) token)
      by true e = (flag_is f.flags ∙ e, cell_low p h (field_id c.name f))
      by false e = (flag_is f.flags ∙ e, class_fits p h c.name)

  field_type_fits : (desc : List ℕ) (s : Sort) → TypeFits (field_type p desc s)
  field_type_fits desc Boolean = tt
  field_type_fits desc Byte = tt
  field_type_fits desc Short = tt
  field_type_fits desc Int = tt
  field_type_fits desc (Reference shape) = let le = type_near desc in omega (arith, le)
  field_type_fits desc NoValue = omega arith

  fields_fit : (c : Class) (i : ℕ) (fs : List FieldTree) → AllByRecursion FieldFits (fields_from p c i fs)
  fields_fit c i [] = tt
  fields_fit c i (f ∷ fs) = by (is_constant f) (fields_fit c (i + 1) fs)
    where
      by : (b : Bool) → AllByRecursion FieldFits (fields_from p c (i + 1) fs)
          → AllByRecursion FieldFits ((if b then [] else field_descriptor p c i f ∷ []) ++ fields_from p c (i + 1) fs)
      by true rest = rest
      by false rest = (record { place = place_fits c f _; type = field_type_fits f.desc (field_sort f.desc) }, rest)

  method_fits : (c : Class) (f : Found) → MethodDescriptorFits (method_descriptor p c f)
  method_fits c f =
      let x = extent_of p f in
      let e = extent_low p h f in
      let m = method_in (world p) c f.member in
      let o = e.offset in
      let n = e.bytecode_count in
      let g = e.handler_count in
      let j = e.first_handler in
      record {
        offset = (let lt : x.offset < 2 ^ 16 = omega (arith, o) in lt);
        type_offset = type_low m.desc;
        bytecode_count = (let lt : x.bytecode_count < 2 ^ 16 = omega (arith, n) in lt);
        handler_count = (let lt : x.handler_count < 2 ^ 16 = omega (arith, g) in lt);
        first_handler = (let lt : x.first_handler < 2 ^ 16 = omega (arith, j) in lt);
      }

  -- ---- classes

  few : (b : Bool) (n : ℕ) → n ≤ (if b then 14 else 15) → n < 2 ^ 8
  few true n le = omega (arith, le)
  few false n le = omega (arith, le)

  class_long : (k : ℕ) (x : ClassDescriptor) → (let d = descriptor p in slice_get d.classes k ≡ Some x)
      → 9 + 2 * length x.interfaces + 7 * length x.fields + 12 * length x.methods ≤ 65535
  class_long k x e =
      let d = descriptor p in
      let one = one_of_all class_descriptor_bytes d.classes k x e in
      let l = class_descriptor_length x in
      let all = descriptor_length d in
      let short = descriptor_short p h in
      omega (arith, one, l, all, short)

  get_mapped : {A B : Type 0} (f : A → B) (xs : List A) (k : ℕ) (x : A) → slice_get xs k ≡ Some x
      → slice_get (map f xs) k ≡ Some (f x)
  get_mapped f [] k x e = cc
  get_mapped f (y ∷ xs) zero x e = let same : y ≡ x = cc in ap (λ z. Some (f z)) same
  get_mapped f (y ∷ xs) (suc k) x e = get_mapped f xs k x e

  described : (k : ℕ) (c : Class) → slice_get (class_order (world p)) k ≡ Some c
      → ClassDescriptorFits (class_descriptor p c)
  described k c e =
      let x = class_descriptor p c in
      let small = h.classes k c e in
      let is = interfaces_of (world p) c in
      let ref = λ (i : Class). class_ref p i.name in
      let long = class_long k x (get_mapped (class_descriptor p) (class_order (world p)) k c e) in
      let n = few _ (length is) small.interfaces in
      let same = length-map is ref in
      record {
        this_class = class_fits p h c.name;
        interface_count = (let lt : length (map ref is) < 2 ^ 8 = omega (arith, n, same) in lt);
        field_count = (let lt : length x.fields < 2 ^ 16 = omega (arith, long) in lt);
        method_count = (let lt : length x.methods < 2 ^ 16 = omega (arith, long) in lt);
        interfaces = all_mapped ClassFits ref is (λ j i f. class_fits p h i.name);
        fields = fields_fit c 0 (fields_of p.files c);
        methods = all_mapped MethodDescriptorFits (method_descriptor p c) (methods_of_class (world p) c)
            (λ j f g. method_fits c f);
      }

  pub descriptor_fits : DescriptorFits (descriptor p)
  descriptor_fits = record {
    count = (let n = h.few_classes in let same = length-map (class_order (world p)) (class_descriptor p)
        in let lt : length (map (class_descriptor p) (class_order (world p))) < 2 ^ 8 = omega (arith, n, same) in lt);
    classes = all_mapped ClassDescriptorFits (class_descriptor p) (class_order (world p)) described;
    pool_count = (let n = (entries_few p h.limits) in let same = length-map (pool p) (pool_type p)
        in let lt : length (map (pool_type p) (pool p)) < 2 ^ 16 = omega (arith, n, same) in lt);
    pool_types = all_mapped Fits2 (pool_type p) (pool p) (λ k key e. entry_low (desc_of_key key));
    types = types_fit;
  }
