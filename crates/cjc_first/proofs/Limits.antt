-- The components of a package of the form keep all limits, and can be written.
use Rattle.std.proofs.Common.{◌≡◌, ℕ, zero, suc, ◌+◌, ◌-◌, ◌≤◌, ◌<◌, Bool, true, false, cond, List, Some, None, length, replicate, refl, arith}
use Rattle.std.specs.Prelude.{nat_lt, ◌||◌}
use Rattle.std.specs.List.{AllByRecursion}
use Rattle.std.proofs.lemmas.List.{length-append, length-replicate}
use Rattle.std.proofs.lemmas.Bool.{le-ltb}
use Rattle.cjc_classfile.specs.Code.{CodeTree}
use Rattle.cjc_classfile.specs.declared.tree.ClassTree.{ClassTree}
use Rattle.cjc_code.specs.declared.insn.JOp.{JOp}
use Rattle.cjc_capwrite.specs.Parts.{one, two}
use Rattle.cjc_capwrite.specs.Package.{header_bytes, directory_bytes, import_bytes, imported_package_bytes}
use Rattle.cjc_capwrite.specs.Pool.{pool_bytes}
use Rattle.cjc_capwrite.specs.Class.{class_info_bytes, class_entry_bytes}
use Rattle.cjc_capwrite.specs.Method.{method_bytes}
use Rattle.cjc_capwrite.specs.Statics.{static_field_bytes, reference_location_bytes}
use Rattle.cjc_capwrite.specs.Export.{export_bytes, exported_class_bytes}
use Rattle.cjc_capwrite.specs.Descriptor.{packed, type_bytes, types_bytes, descriptor_bytes, class_descriptor_bytes, method_descriptor_bytes, code_bytes}
use Rattle.cjc_capwrite.specs.Files.{part, infos_of, ends_too_far, is_long, is_too_large, limit_of}
use Rattle.cjc_capwrite.specs.Writable.{IsWritable}
use Rattle.cjc_first.specs.FirstForm.{PackageLine, IsFirstForm, ops_of}
use Rattle.cjc_first.specs.Selected.{header, selected_code}
use Rattle.cjc_first.specs.Converted.{tree_for, header_part, directory_part, import_part, pool_part, class_part, static_part, location_part, export_part, descriptor_part, method_bytes as method_of}
use Rattle.cjc_export.specs.declared.tree.ExportClass.{ExportClass}
use Rattle.cjc_export.specs.declared.tree.ExportTree.{ExportTree}
use Rattle.cjc_first.specs.Tests.{IsSmallImport}
use Rattle.cjc_first.proofs.Small.{code_length, header_length, packed_length}

-- the names are short, the parameters few and the code not long
pub record IsSmall (line : PackageLine) (lang : ExportTree) (root : ExportClass) (params : ℕ) (ops : List JOp) : Type 0 where
  pub aid : length line.aid ≤ 255
  pub name : length line.name ≤ 255
  pub import : IsSmallImport lang root
  pub few : params ≤ 15
  pub code : length (selected_code ops) ≤ 32767

one_cell : (n : ℕ) → length (one n) ≡ 1
one_cell n = refl

two_cells : (n : ℕ) → length (two n) ≡ 2
two_cells n = refl

types_length : (params n : ℕ) → params ≤ 15 → length (types_bytes (descriptor_part params n)) ≤ 32767
unfolding types_bytes type_bytes
types_length params n few =
    let nibbles = replicate {A = ℕ} (params + 1) 4 in
    let whole : length (types_bytes (descriptor_part params n)) ≡ 3 + (length (packed None nibbles) + 0) = simp (length-append, one_cell) (omega arith) in
    omega (arith, packed_length None nibbles, length-replicate {A = ℕ} (params + 1) 4)

descriptor_length : (params n : ℕ) → params ≤ 15 → length (descriptor_bytes (descriptor_part params n)) ≤ 65535
unfolding descriptor_bytes class_descriptor_bytes method_descriptor_bytes code_bytes
descriptor_length params n few =
    let whole : length (descriptor_bytes (descriptor_part params n)) ≡ 22 + length (types_bytes (descriptor_part params n)) = simp (length-append, one_cell, two_cells) (omega arith) in
    omega (arith, types_length params n few)

header_long : (line : PackageLine) → length line.aid ≤ 255 → length line.name ≤ 255 → length (header_bytes (header_part line)) ≤ 65535
unfolding header_bytes
header_long line a n =
    let whole : length (header_bytes (header_part line)) ≡ 10 + (length line.aid + suc (length line.name)) = simp (length-append, one_cell) (omega arith) in
    omega arith

directory_length : (line : PackageLine) (aid : List ℕ) (params methods : ℕ) → length (directory_bytes (directory_part line aid params methods)) ≡ 33
unfolding directory_bytes
directory_length line aid params methods = refl

import_length : (lang : ExportTree) → length (import_bytes (import_part lang)) ≡ 4 + length lang.aid
unfolding import_bytes imported_package_bytes
import_length lang = simp (length-append, one_cell) (omega arith)

pool_length : length (pool_bytes pool_part) ≡ 2
unfolding pool_bytes
pool_length = refl

class_length : (root : ExportClass) → length (class_info_bytes (class_part root)) ≡ 12
unfolding class_info_bytes class_entry_bytes
class_length root = refl

statics_length : length (static_field_bytes static_part) ≡ 10
unfolding static_field_bytes
statics_length = refl

locations_length : length (reference_location_bytes location_part) ≡ 4
unfolding reference_location_bytes
locations_length = refl

export_length : length (export_bytes export_part) ≡ 7
unfolding export_bytes exported_class_bytes
export_length = refl

method_length : (params : ℕ) (code : CodeTree) (ops : List JOp) → length (selected_code ops) ≤ 32767 → length (method_of params code ops) ≤ 32771
method_length params code ops short =
    omega (arith, length-append (header code.max_stack params (code.max_locals - params)) (selected_code ops), header_length code.max_stack params (code.max_locals - params))

neither : (a b : Bool) → a ≡ false → b ≡ false → (a || b) ≡ false
neither true b e f = absurd cc
neither false b e f = f

is_none : (a b : Bool) (x y : ℕ) → a ≡ false → b ≡ false → cond a (Some x) (cond b (Some y) None) ≡ None
is_none true b x y e f = absurd cc
is_none false true x y e f = absurd cc
is_none false false x y e f = refl

not_long : (bytes : List ℕ) → length bytes ≤ 65535 → is_long bytes ≡ false
not_long bytes le = le-ltb 65535 (length bytes) le

pub keeps_limits : (line : PackageLine) (lang : ExportTree) (root : ExportClass) (params : ℕ) (code : CodeTree) (ops : List JOp) → IsSmall line lang root params ops → limit_of (tree_for line lang root params code ops) ≡ None
unfolding tree_for
keeps_limits line lang root params code ops s =
    let i = infos_of (tree_for line lang root params code ops) in
    let n = length (selected_code ops) in
    let methods = length (method_of params code ops) in
    let few : params ≤ 15 = s.few in
    let nibbles = replicate {A = ℕ} (params + 1) 4 in
    let narrow : nat_lt 255 (length nibbles) ≡ false = le-ltb 255 (length nibbles) (omega (arith, length-replicate {A = ℕ} (params + 1) 4)) in
    let types : ends_too_far (Some (descriptor_part params n)) ≡ false =
    neither _ _ (neither _ _ narrow refl) (le-ltb 32767 (length (types_bytes (descriptor_part params n))) (types_length params n s.few)) in
    let large : is_too_large i ≡ false =
    neither _ _ (le-ltb 32767 (length i.class) (omega (arith, class_length root)))
    (neither _ _ (not_long i.header (header_long line s.aid s.name))
    (neither _ _ (not_long i.directory (omega (arith, directory_length line lang.aid params methods)))
    (neither _ _ (not_long i.applet (omega arith))
    (neither _ _ (not_long i.import (let a = s.import.aid in omega (arith, a, import_length lang)))
    (neither _ _ (not_long i.pool (omega (arith, pool_length)))
    (neither _ _ (not_long i.statics (omega (arith, statics_length)))
    (neither _ _ (not_long i.locations (omega (arith, locations_length)))
    (neither _ _ (not_long i.export (omega (arith, export_length))) (not_long i.descriptor (descriptor_length params n s.few))))))))))
    in
    is_none (ends_too_far (Some (descriptor_part params n))) (is_too_large i) 411 416 types large

pub methods_short : (line : PackageLine) (lang : ExportTree) (root : ExportClass) (params : ℕ) (code : CodeTree) (ops : List JOp) → IsSmall line lang root params ops → length (part method_bytes (tree_for line lang root params code ops).method) ≤ 65535
unfolding tree_for method_bytes
methods_short line lang root params code ops s =
    let whole : length (part method_bytes (tree_for line lang root params code ops).method) ≡ 1 + length (method_of params code ops) = omega arith in
    omega (arith, method_length params code ops s.code)

all_fours : (n : ℕ) → AllByRecursion (λ k. k < 16) (replicate n 4)
all_fours zero = tt
all_fours (suc n) = (omega arith, all_fours n)

pub is_writable : (line : PackageLine) (lang : ExportTree) (root : ExportClass) (params : ℕ) (code : CodeTree) (ops : List JOp) → IsSmall line lang root params ops → IsWritable (tree_for line lang root params code ops)
unfolding tree_for
is_writable line lang root params code ops s =
    let n = length (selected_code ops) in
    let m = length (method_of params code ops) in
    let short : n ≤ 32767 = s.code in
    let few : params ≤ 15 = s.few in
    let aid : length line.aid ≤ 255 = s.aid in
    let name : length line.name ≤ 255 = s.name in
    let import_aid : length lang.aid ≤ 255 = s.import.aid in
    let token : root.token ≤ 255 = s.import.token in
    let methods : m ≤ 32771 = method_length params code ops s.code in
    let count : length (replicate {A = ℕ} (params + 1) 4) ≡ params + 1 = length-replicate {A = ℕ} (params + 1) 4 in
    record {
      header = record { aid = omega arith; name = omega arith };
      directory = record {
        twelve = refl;
        component_sizes = (omega arith, (omega arith, (omega arith, (omega arith, (omega arith, (omega arith, (omega arith, (omega arith, (omega arith, (omega arith, (omega arith, (omega arith, tt))))))))))));
        image_size = omega arith;
        array_init_count = omega arith;
        array_init_size = omega arith;
      };
      applet = tt;
      import = record { count = omega arith; packages = (record { aid = omega arith }, tt) };
      pool = record { count = omega arith; entries = tt };
      class = record {
        interfaces = tt;
        classes = (
          record {
            flags = omega arith;
            superclass = (omega arith, omega arith);
            public_count = omega arith;
            package_count = omega arith;
            public_methods = tt;
            package_methods = tt;
            count = omega arith;
            interfaces = tt;
          },
          tt,
        );
      };
      method = record { count = omega arith; handlers = tt };
      statics = record { image_size = omega arith; reference_count = omega arith; count = omega arith; array_inits = tt; default_value_count = omega arith; values = omega arith };
      locations = record { one_byte = omega arith; two_byte = omega arith };
      export = record { count = omega arith; classes = (record { class_offset = omega arith; field_count = omega arith; method_count = omega arith; fields = tt; methods = (omega arith, tt) }, tt) };
      descriptor = record {
        count = omega arith;
        classes = (
          record {
            this_class = omega arith;
            interface_count = omega arith;
            field_count = omega arith;
            method_count = omega arith;
            interfaces = tt;
            fields = tt;
            methods = (record { offset = omega arith; type_offset = omega arith; bytecode_count = omega arith; handler_count = omega arith; first_handler = omega arith }, tt);
          },
          tt,
        );
        pool_count = omega arith;
        pool_types = tt;
        types = (record { count = rw count (omega arith); nibbles = all_fours (params + 1) }, tt);
      };
    }

-- a package of the form is small
pub small_form : (line : PackageLine) (lang : ExportTree) (root : ExportClass) (tree : ClassTree) (form : IsFirstForm line tree) → length line.aid ≤ 255 → IsSmallImport lang root → IsSmall line lang root form.params (ops_of form.insns)
small_form line lang root tree form aid import = record {
  aid = aid;
  name = form.short_name;
  import = import;
  few = form.is_sum.few;
  code = let size = form.is_sum.is_sum.size in omega (arith, size, code_length (ops_of form.insns));
}
