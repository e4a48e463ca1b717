-- What is written of Method, StaticField, ReferenceLocation and Export spells it.
use Rattle.std.proofs.Common.{◌≡◌, ℕ, ◌+◌, ◌-◌, ◌%◌, ◌<◌, ◌≤◌, ◌^◌, Bool, true, false, leb, cond, List, ◌++◌, length}
use Rattle.std.proofs.Common.{Some, refl, arith, length-append}
use Rattle.std.specs.List.{flat_map}
use Rattle.std.proofs.lemmas.Bool.Decides.{nat_tests}
use Rattle.cjc_capread.proofs.BytesWriters.{Writes, then_writes, last_writes, here_writes, raw_writes, number1_writes}
use Rattle.cjc_capread.proofs.BytesWriters.{repeated_writes}
use Rattle.cjc_capread.specs.declared.tree.Method.{Method}
use Rattle.cjc_capread.specs.declared.tree.Handler.{Handler}
use Rattle.cjc_capread.specs.declared.tree.StaticField.{StaticField}
use Rattle.cjc_capread.specs.declared.tree.ArrayInit.{ArrayInit}
use Rattle.cjc_capread.specs.declared.tree.ReferenceLocation.{ReferenceLocation}
use Rattle.cjc_capread.specs.declared.tree.Export.{Export}
use Rattle.cjc_capread.specs.declared.tree.ExportedClass.{ExportedClass}
use Rattle.cjc_capread.specs.Parts.{bytes_before}
use Rattle.cjc_capread.specs.Method.{handler, method}
use Rattle.cjc_capread.specs.StaticField.{element_type, array_init, static_field}
use Rattle.cjc_capread.specs.ReferenceLocation.{reference_location}
use Rattle.cjc_capread.specs.Export.{exported_class, export}
use Rattle.cjc_capwrite.specs.Method.{range_bits, handler_bytes, method_bytes}
use Rattle.cjc_capwrite.specs.Statics.{array_init_bytes, static_field_bytes, reference_location_bytes}
use Rattle.cjc_capwrite.specs.Export.{exported_class_bytes, export_bytes}
use Rattle.cjc_capwrite.specs.Fits.{HandlerFits, MethodFits, ArrayInitFits, StaticFieldFits, LocationsFit}
use Rattle.cjc_capwrite.specs.Fits.{ExportedClassFits, ExportFits}
use Rattle.cjc_capwrite.proofs.PartsWritten.{one_writes, two_writes, bytes2_writes, numbers_write}

array_type : (n : ℕ) → 2 ≤ n → n ≤ 5 → element_type n ≡ Some n
array_type n least greatest = grind (arith, nat_tests)

pub array_init_writes : (at : ℕ) (x : ArrayInit) → ArrayInitFits x → Writes array_init at x (array_init_bytes x)
unfolding array_init array_init_bytes
array_init_writes at x fits = then_writes (number1_writes element_type at x.type_ x.type_ (array_type x.type_ fits.least
    fits.greatest)) (last_writes (bytes2_writes _ x.values fits.values) refl)

pub static_field_writes : (at : ℕ) (x : StaticField) → StaticFieldFits x
    → Writes static_field at x (static_field_bytes x)
unfolding static_field static_field_bytes
static_field_writes at x fits =
    then_writes (two_writes at x.image_size fits.image_size)
    (then_writes (two_writes _ x.reference_count fits.reference_count)
    (then_writes (two_writes _ (length x.array_inits) fits.count)
    (then_writes (repeated_writes array_init array_init_bytes ArrayInitFits array_init_writes _ (length x.array_inits)
    x.array_inits refl fits.array_inits)
    (then_writes (two_writes _ x.default_value_count fits.default_value_count)
    (last_writes (bytes2_writes _ x.values fits.values) refl)))))

pub locations_write : (at : ℕ) (x : ReferenceLocation) → LocationsFit x
    → Writes reference_location at x (reference_location_bytes x)
unfolding reference_location reference_location_bytes
locations_write at x fits = then_writes (bytes2_writes at x.one_byte fits.one_byte)
    (last_writes (bytes2_writes _ x.two_byte fits.two_byte) refl)

pub exported_class_writes : (at : ℕ) (x : ExportedClass) → ExportedClassFits x
    → Writes exported_class at x (exported_class_bytes x)
unfolding exported_class exported_class_bytes
exported_class_writes at x fits =
    then_writes (two_writes at x.class_offset fits.class_offset)
    (then_writes (one_writes _ (length x.fields) fits.field_count)
    (then_writes (one_writes _ (length x.methods) fits.method_count)
    (then_writes (numbers_write _ (length x.fields) x.fields refl fits.fields)
    (last_writes (numbers_write _ (length x.methods) x.methods refl fits.methods) refl))))

pub export_writes : (at : ℕ) (x : Export) → ExportFits x → Writes export at x (export_bytes x)
unfolding export export_bytes
export_writes at x fits =
    then_writes (one_writes at (length x.classes) fits.count)
    (last_writes (repeated_writes exported_class exported_class_bytes ExportedClassFits exported_class_writes _
    (length x.classes) x.classes refl fits.classes) refl)

-- ---- Method

-- a range by its bits
range_back : (start length target catch_index : ℕ) (stop : Bool) → length < 0x8000
    → (leb 0x8000 (cond stop 0x8000 0 + length % 0x8000) ≡ stop) × ((cond stop 0x8000 0 + length % 0x8000) % 0x8000
    ≡ length)
range_back start length target catch_index true lt =
    let low : length % 0x8000 ≡ length = grind arith in
    (let test : leb 0x8000 (0x8000 + length % 0x8000) ≡ true = grind (arith, nat_tests) in test, omega arith)
range_back start length target catch_index false lt =
    let low : length % 0x8000 ≡ length = grind arith in
    (let test : leb 0x8000 (0 + length % 0x8000) ≡ false = grind (arith, nat_tests) in test, omega arith)

range_fits : (x : Handler) → range_bits x < 2 ^ 16
range_fits x = fits x.stop
  where
    fits : (stop : Bool) → cond stop 0x8000 0 + x.length % 0x8000 < 2 ^ 16
    fits true = omega arith
    fits false = omega arith

pub handler_writes : (at : ℕ) (x : Handler) → HandlerFits x → Writes handler at x (handler_bytes x)
unfolding handler handler_bytes
handler_writes at x fits =
    let back = range_back x.start x.length x.handler x.catch_index x.stop fits.length in
    then_writes (two_writes at x.start fits.start)
    (then_writes (two_writes _ (range_bits x) (range_fits x))
    (then_writes (two_writes _ x.handler fits.handler)
    (last_writes (two_writes _ x.catch_index fits.catch_index) (same x _ _ back.0 back.1))))
  where
    same : (x : Handler) (stop : Bool) (length : ℕ) → stop ≡ x.stop → length ≡ x.length
        → (let made : Handler = record {
          start = x.start;
          stop = stop;
          length = length;
          handler = x.handler;
          catch_index = x.catch_index;
        } in made ≡ x)
    same x stop length e f = rw (e, f) refl

bytes_before_writes : (at end : ℕ) (bytes : List ℕ) → at + length bytes ≡ end → Writes (bytes_before end) at bytes bytes
unfolding bytes_before
bytes_before_writes at end bytes is = here_writes (raw_writes at (end - at) bytes (omega (arith, is)))

pub method_writes : (at end : ℕ) (x : Method) → at + length (method_bytes x) ≡ end → MethodFits x
    → Writes (method end) at x (method_bytes x)
unfolding method method_bytes
method_writes at end x is fits =
    let len : length (flat_map handler_bytes x.handlers ++ x.methods) ≡ length (flat_map handler_bytes x.handlers) +
    length x.methods = length-append _ _ in
    then_writes (one_writes at (length x.handlers) fits.count)
    (then_writes (repeated_writes handler handler_bytes HandlerFits handler_writes _ (length x.handlers) x.handlers refl
    fits.handlers)
    (last_writes (bytes_before_writes _ end x.methods (omega (arith, is, len))) refl))
