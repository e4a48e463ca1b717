-- Export.
use Rattle.std.proofs.Common.{◌≡◌, ℕ, ◌^◌, ◌<◌, ◌≤◌, refl, List, [], ◌∷◌, map, length, arith, Option, Some, None}
use Rattle.std.specs.Prelude.{slice_get, filter, unwrap_or, IfSome}
use Rattle.std.proofs.lemmas.List.{length-map}
use Rattle.cjc_pool.specs.CapWrite.Fits.{ExportedClassFits, ExportFits, Fits2}
use Rattle.cjc_world.specs.ClassFile.declared.tree.FieldTree.{FieldTree}
use Rattle.cjc_pool.specs.Clinit.Image.{field_id}
use Rattle.cjc_tokens.specs.Fields.{is_open_static}
use Rattle.cjc_world.specs.Classes.{Class}
use Rattle.cjc_components.specs.Package.{Package}
use Rattle.cjc_components.specs.Class.{fields_of}
use Rattle.cjc_components.specs.Exports.{export, export_with, exported_class, exported_classes, open_methods}
use Rattle.cjc_components.specs.Methods.{method_offset}
use Rattle.cjc_components.specs.Names.{class_offset}
use Rattle.cjc_components.specs.Statics.{cell_offset}
use Rattle.cjc_check_proof.specs.Limits.Premises.{ExportsFew, IsLimited}
use Rattle.cjc_check_proof.proofs.LimitsLaws.Lists.{all_mapped}
use Rattle.cjc_check_proof.proofs.LimitsLaws.Offsets.{cell_low, offset_low}
use Rattle.cjc_check_proof.proofs.LimitsLaws.Refs.{class_low}

module _ (p : Package) (h : IsLimited p) where
  start_low : (o : Option ℕ) → ((s : ℕ) → o ≡ Some s → s ≤ 32767) → unwrap_or o 0 < 2 ^ 16
  start_low None low = omega arith
  start_low (Some s) low = let le = low s refl in omega (arith, le)

  class_fits : (c : Class) → ExportsFew p c → ExportedClassFits (exported_class p c)
  class_fits c few =
      let shown = filter is_open_static (fields_of p.files c) in
      let listed = open_methods c (length c.fields) c.methods in
      let cell = λ (f : FieldTree). cell_offset p.image (field_id c.name f) in
      record {
        class_offset = start_low (class_offset p c.name) (class_low p h c.name);
        field_count = (let n = few.fields in let same = length-map shown cell in let lt : length (map cell shown) < 2 ^
            8 = omega (arith, n, same) in lt);
        method_count = (let n = few.methods in let same = length-map listed (method_offset p)
            in let lt : length (map (method_offset p) listed) < 2 ^ 8 = omega (arith, n, same) in lt);
        fields = all_mapped Fits2 cell shown (λ k f e. cell_low p h (field_id c.name f));
        methods = all_mapped Fits2 (method_offset p) listed (λ k f e. offset_low p h f);
      }

  all_fit : (cs : List Class) → length cs ≤ 255 → ((k : ℕ) (c : Class) → slice_get cs k ≡ Some c → ExportsFew p c)
      → IfSome (export_with p cs) ExportFits
  all_fit [] few each = tt
  all_fit (c ∷ cs) few each = record {
    count = (let same = length-map (c ∷ cs) (exported_class p) in let lt : length (map (exported_class p) (c ∷ cs)) < 2
        ^ 8 = omega (arith, few, same) in lt);
    classes = all_mapped ExportedClassFits (exported_class p) (c ∷ cs) (λ k d e. class_fits d (each k d e));
  }

  pub export_fits : IfSome (export p) ExportFits
  export_fits = all_fit (exported_classes p) h.few_exported h.exported
