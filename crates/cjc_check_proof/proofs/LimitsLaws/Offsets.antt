-- Offsets of cells and of methods, by what stands before them.
use Rattle.std.proofs.Common.{◌≡◌, ℕ, ◌+◌, ◌*◌, ◌^◌, ◌<◌, ◌≤◌, ◌==◌, Bool, true, false, List, [], ◌∷◌, map, length}
use Rattle.std.proofs.Common.{length-append, arith, Some}
use Rattle.std.specs.Prelude.{sum_by, flat_map, slice_get, if◌then◌else◌}
use Rattle.std.specs.List.{AllByRecursion}
use Rattle.std.proofs.lemmas.List.Sums.{sum_by-cons}
use Rattle.cjc_bytes.specs.declared.fault.MemberId.{MemberId}
use Rattle.cjc_pool.specs.CapWrite.Descriptor.{class_descriptor_bytes, descriptor_bytes}
use Rattle.cjc_components.proofs.CapWriteLengths.{class_descriptor_length, descriptor_length}
use Rattle.cjc_token_proof.specs.Script.Sorts.{Sort, Boolean, Byte, Short, Int, Reference, NoValue, field_sort}
use Rattle.cjc_world.specs.declared.found.Found.{Found}
use Rattle.cjc_world.specs.Classes.{Class}
use Rattle.cjc_world.specs.Order.{class_order}
use Rattle.cjc_ncode.specs.declared.narrow.NMethod.{NMethod}
use Rattle.cjc_ncode.specs.PoolOrder.{same_member}
use Rattle.cjc_ncode.specs.Lowering.Placed.{short_header, extended_header}
use Rattle.cjc_pool.specs.Emit.Emitted.{is_short}
use Rattle.cjc_components.proofs.LayoutPlaces.{all_wide}
use Rattle.cjc_components.specs.Limits.{widest_method}
use Rattle.cjc_components.specs.Package.{LaidMethod, Package, world}
use Rattle.cjc_components.specs.Class.{fields_of}
use Rattle.cjc_components.specs.Descriptor.{class_descriptor, descriptor, fields_from}
use Rattle.cjc_components.specs.Methods.{Extent, bytecode_count, extent_at, extent_from, extent_of, first_method}
use Rattle.cjc_components.specs.Methods.{handler_count, header_of, is_member, method_offset, method_size, with_abstract}
use Rattle.cjc_components.specs.Statics.{cell_offset, cell_order, cell_size, offset_from, size_of_field}
use Rattle.cjc_check_proof.specs.Limits.Premises.{IsLimited, MethodIsShort}
use Rattle.cjc_check_proof.proofs.LimitsLaws.Lists.{all_of}
use Rattle.cjc_check_proof.proofs.LimitsLaws.Limits.{components_short, method_counted, sizes_kept}

-- ---- cells

pub size_small : (s : Sort) → cell_size s ≤ 4
size_small Boolean = omega arith
size_small Byte = omega arith
size_small Short = omega arith
size_small Int = omega arith
size_small (Reference shape) = omega arith
size_small NoValue = omega arith

offset_small : (at : ℕ) (fs : List MemberId) (f : MemberId) → offset_from at fs f ≤ at + 4 * length fs
offset_small at [] f = omega arith
offset_small at (g ∷ fs) f = by (same_member g f) (size_small (field_sort g.desc)) (offset_small (at + size_of_field g)
    fs f)
  where
    by : (b : Bool) → size_of_field g ≤ 4 → offset_from (at + size_of_field g) fs f ≤ at + size_of_field g + 4 * length
        fs → (if b then at else offset_from (at + size_of_field g) fs f) ≤ at + 4 * length (g ∷ fs)
    by true small rest = omega arith
    by false small rest = omega (arith, small, rest)

-- each field of Descriptor has seven bytes
fields_long : (p : Package) (cs : List Class)
    → 7 * sum_by (λ (c : Class). length (fields_from p c 0 (fields_of p.files c))) cs ≤ length
    (flat_map class_descriptor_bytes (map (class_descriptor p) cs))
fields_long p [] = omega arith
fields_long p (c ∷ cs) =
    let rest = fields_long p cs in
    let here = class_descriptor_length (class_descriptor p c) in
    let l = length-append (class_descriptor_bytes (class_descriptor p c)) (flat_map class_descriptor_bytes
    (map (class_descriptor p) cs)) in
    let s = sum_by-cons (λ (c : Class). length (fields_from p c 0 (fields_of p.files c))) c cs in
    omega (arith, rest, here, l, s)

module _ (p : Package) (h : IsLimited p) where
  pub descriptor_short : length (descriptor_bytes (descriptor p)) ≤ 65535
  descriptor_short = let s = components_short p (sizes_kept p h.limits) in s.descriptor

  pub few_cells : 4 * length (cell_order p.image) ≤ 65535
  few_cells =
      let short = descriptor_short in
      let long = descriptor_length (descriptor p) in
      let fields = fields_long p (class_order (world p)) in
      let cells = h.cells in
      omega (arith, short, long, fields, cells)

  pub cell_low : (f : MemberId) → cell_offset p.image f < 2 ^ 16
  cell_low f = let low = offset_small 0 (cell_order p.image) f in let few = few_cells in omega (arith, low, few)

-- ---- methods

header_short : (a s : Bool) (m : NMethod) → length (if a then with_abstract (if s then short_header m
    else extended_header m) else (if s then short_header m else extended_header m)) ≤ 4
header_short true true m = omega arith
header_short true false m = omega arith
header_short false true m = omega arith
header_short false false m = omega arith

pub header_few : (m : LaidMethod) → length (header_of m) ≤ 4
header_few m = header_short m.is_abstract (is_short m.code) m.code

pub code_few : (m : LaidMethod) → MethodIsShort m → bytecode_count m ≤ (let code = m.code in code.widest)
code_few m s = let code = m.code in let a = all_wide code.insns m.wide (length code.insns) in let b = s.size
    in omega (arith, a, b)

methods_few : (ms : List LaidMethod) → AllByRecursion MethodIsShort ms → sum_by method_size ms ≤ 4 * length ms + sum_by
    (λ (m : LaidMethod). let code = m.code in code.widest) ms
methods_few [] all = omega arith
methods_few (m ∷ ms) all =
    let rest = methods_few ms all.1 in
    let head = header_few m in
    let code = code_few m all.0 in
    let a = sum_by-cons method_size m ms in
    let b = sum_by-cons (λ (m : LaidMethod). let code = m.code in code.widest) m ms in
    omega (arith, rest, head, code, a, b)

-- where a method stands, by how many bytes and handlers there are in all
pub record IsWithin (bytes handlers : ℕ) (e : Extent) : Type 0 where
  pub offset : e.offset ≤ bytes
  pub bytecode_count : e.bytecode_count ≤ bytes
  pub handler_count : e.handler_count ≤ handlers
  pub first_handler : e.first_handler ≤ handlers

extent_within : (at k : ℕ) (ms : List LaidMethod) (f : Found)
    → IsWithin (at + sum_by method_size ms) (k + sum_by handler_count ms) (extent_from at k ms f)
extent_within at k [] f = record {
  offset = omega arith;
  bytecode_count = omega arith;
  handler_count = omega arith;
  first_handler = omega arith;
}
extent_within at k (m ∷ ms) f =
    let b = sum_by-cons method_size m ms in
    let c = sum_by-cons handler_count m ms in
    by (is_member f m) (first (handler_count m == 0)) b c (extent_within (at + method_size m) (k + handler_count m) ms
    f)
  where
    first : (z : Bool) → (if z then 0 else k) ≤ k
    first true = omega arith
    first false = omega arith

    by : (t : Bool) → (let e = extent_at at k m in e.first_handler ≤ k) → sum_by method_size (m ∷ ms)
        ≡ method_size m + sum_by method_size ms → sum_by handler_count (m ∷ ms) ≡ handler_count m + sum_by handler_count
        ms
        → IsWithin (at + method_size m + sum_by method_size ms) (k + handler_count m + sum_by handler_count ms)
        (extent_from (at + method_size m) (k + handler_count m) ms f)
        → IsWithin (at + sum_by method_size (m ∷ ms)) (k + sum_by handler_count (m ∷ ms)) (if t then extent_at at k m
        else extent_from (at + method_size m) (k + handler_count m) ms f)
    by true one b c rest = record {
      offset = omega arith;
      bytecode_count = omega (arith, b);
      handler_count = omega (arith, c);
      first_handler = omega (arith, one);
    }
    by false one b c rest =
        let o = rest.offset in
        let n = rest.bytecode_count in
        let g = rest.handler_count in
        let j = rest.first_handler in
        record {
          offset = omega (arith, b, o);
          bytecode_count = omega (arith, b, n);
          handler_count = omega (arith, c, g);
          first_handler = omega (arith, c, j);
        }

-- as many bytes as Method has at the widest
pub widest_short : (p : Package) → ((k : ℕ) (m : LaidMethod) → slice_get p.methods k ≡ Some m → MethodIsShort m)
    → widest_method p ≤ 65535 → first_method p.methods + sum_by method_size p.methods ≤ 65535
widest_short p each all = let few = methods_few p.methods (all_of MethodIsShort p.methods each)
    in omega (arith, few, all)

module _ (p : Package) (h : IsLimited p) where
  pub methods_short : first_method p.methods + sum_by method_size p.methods ≤ 65535
  methods_short = widest_short p h.methods (method_counted p (sizes_kept p h.limits))

  pub extent_low : (f : Found) → IsWithin 65535 255 (extent_of p f)
  extent_low f =
      let e = extent_within (first_method p.methods) 0 p.methods f in
      let bytes = methods_short in
      let few = h.few_handlers in
      let o = e.offset in
      let n = e.bytecode_count in
      let g = e.handler_count in
      let j = e.first_handler in
      record {
        offset = omega (arith, bytes, o);
        bytecode_count = omega (arith, bytes, n);
        handler_count = omega (arith, few, g);
        first_handler = omega (arith, few, j);
      }

  pub offset_low : (f : Found) → method_offset p f < 2 ^ 16
  offset_low f = let e = extent_low f in let o = e.offset in omega (arith, o)
