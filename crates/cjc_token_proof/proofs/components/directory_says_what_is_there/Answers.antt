use Rattle.std.proofs.Common.{◌≡◌, ℕ, ◌+◌, ◌/◌, ◌<◌, ◌==◌, Bool, true, false, List, [], length, refl, ap, ◌∙◌, arith}
use Rattle.std.specs.Prelude.{◌&&◌, ◌||◌, not}
use Rattle.std.proofs.lemmas.Bool.Decides.{nat_tests}
use Rattle.cjc_components.specs.LowerCapWrite.Package.{applet_bytes, directory_bytes}
use Rattle.cjc_components.specs.LowerCapWrite.Export.{export_bytes}
use Rattle.cjc_components.specs.LowerCheckRules.Spots.{in_info, beside}
use Rattle.cjc_components.specs.LowerCheckRules.Complete.{applets_size, export_size, header_size, import_size}
use Rattle.cjc_components.specs.LowerCheckRules.Complete.{pool_size}
use Rattle.cjc_components.specs.LowerCheckRules.Complete.{class_info_size, method_size, statics_size, locations_size}
use Rattle.cjc_components.specs.LowerCheckRules.Complete.{descriptor_size}
use Rattle.cjc_components.specs.LowerCheckRules.Complete.{size_of, directory_size}
use Rattle.cjc_components.specs.LowerCheckRules.Listed.{applet_count, may_be_absent, size_spots, sizes_agree}
use Rattle.cjc_components.specs.LowerCheckRules.Listed.{array_bytes}
use Rattle.cjc_components.specs.Package.{Package}
use Rattle.cjc_components.specs.Class.{class_info}
use Rattle.cjc_components.specs.Statics.{static_field}
use Rattle.cjc_components.specs.Names.{class_ref, pool_entries}
use Rattle.cjc_components.specs.Exports.{export}
use Rattle.cjc_components.specs.Descriptor.{descriptor}
use Rattle.cjc_components.specs.Components.{header, applet, imported_package, import, method, reference_location}
use Rattle.cjc_components.specs.Components.{components_of, sizes}
use Rattle.cjc_components.specs.LowerCheckRules.Complete.{size_items}
use Rattle.std.proofs.lemmas.List.{length-map}
use Rattle.cjc_token_proof.proofs.ComponentsLaws.Tests.{passes, none_in_both}
use Rattle.cjc_token_proof.proofs.ComponentsLaws.Sizes.{part_size, header_is, applets_are, import_is, pool_is}
use Rattle.cjc_token_proof.proofs.ComponentsLaws.Sizes.{classes_are, method_is, statics_are, locations_are, export_is}
use Rattle.cjc_token_proof.proofs.ComponentsLaws.Sizes.{descriptor_is}
use Rattle.cjc_bytes.proofs.Numbers.{like_number}
use Rattle.cjc_token_proof.proofs.components.directory_says_what_is_there.Goals as goal

equal : (told own : ℕ) → told ≡ own → (told == own && true) ≡ true
equal told own e = grind (arith, nat_tests, e)

agree : (told own : ℕ) (absent : Bool) → told ≡ own → 0 < own → (told == own && (absent || not (own == 0))) ≡ true
agree told own true e there = equal told own e
agree told own false e there = grind (arith, nat_tests, e, there)

-- of a component that is there, and of one that may be absent
there : (at told own : ℕ) → told ≡ own → 0 < own → size_spots at told own ≡ []
there at told own e lt = passes _ (in_info 2 at) (agree told own (may_be_absent (1 + at / 2)) e lt)

maybe : (at told own : ℕ) → may_be_absent (1 + at / 2) ≡ true → told ≡ own → size_spots at told own ≡ []
maybe at told own m e = passes _ (in_info 2 at) (ap (λ b. told == own && (b || not (own == 0))) m ∙ equal told own e)

sizes_are : (p : Package) → sizes_agree (sizes p) (size_items (components_of p)) ≡ []
unfolding beside directory_bytes
sizes_are p =
    none_in_both (there 0 _ (header_size (header p)) (header_is (header p)) (omega arith))
    (none_in_both (there 2 _ directory_size refl (omega arith))
    (none_in_both (maybe 4 _ (size_of applets_size (applet p)) refl (part_size applet_bytes applets_size applets_are
    (applet p)))
    (none_in_both (there 6 _ (import_size (import p)) (import_is (import p)) (omega arith))
    (none_in_both (there 8 _ (pool_size (record { entries = pool_entries p }))
    (pool_is (record { entries = pool_entries p })) (omega arith))
    (none_in_both (there 10 _ (class_info_size (class_info (class_ref p) p)) (classes_are (class_info (class_ref p) p))
    (omega arith))
    (none_in_both (there 12 _ (method_size (method p)) (method_is (method p)) (omega arith))
    (none_in_both (there 14 _ (statics_size (static_field p.image)) (statics_are (static_field p.image)) (omega arith))
    (none_in_both (there 16 _ (locations_size (reference_location p)) (locations_are (reference_location p))
    (omega arith))
    (none_in_both (maybe 18 _ (size_of export_size (export p)) refl (part_size export_bytes export_size export_is
    (export p)))
    (none_in_both (there 20 _ (descriptor_size (descriptor p)) (descriptor_is (descriptor p)) (omega arith))
    (none_in_both (maybe 22 0 0 refl refl) refl)))))))))))

same_length : {A : Type 0} (xs : List A) → (length xs == length xs) ≡ true
same_length xs = like_number (length xs)

pub returns : goal.returns
returns c p =
    let statics = static_field p.image in
    let files = p.files in
    let same : (n : ℕ) → (n == n) ≡ true = like_number in
    let numbers =
    none_in_both (none_in_both (passes _ (in_info 2 24) (same statics.image_size)) (passes _ (in_info 2 26)
    (same (length statics.array_inits)))) (passes _ (in_info 2 28) (same (array_bytes statics.array_inits))) in
    let packages = passes _ (in_info 2 30) (ap (λ n. length files.exports == n) (length-map files.exports
    imported_package) ∙ same_length files.exports) in
    none_in_both (none_in_both (none_in_both (sizes_are p) numbers) packages) (passes _ (in_info 2 31)
    (same (applet_count (applet p))))
