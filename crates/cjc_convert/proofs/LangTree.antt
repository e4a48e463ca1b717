-- What the export file of java/lang says.
use Rattle.std.proofs.Common.{◌≡◌, ℕ, true, List, [], ◌∷◌, Ok, refl}
use Rattle.std.specs.Prelude.{codes}
use Rattle.cjc_bytes.specs.Format.{FileSpells, repeated, iterated, u1, u2, u4, raw}
use Rattle.cjc_bytes.specs.Found.{each, all_of}
use Rattle.cjc_bytes.specs.Reading.{front, digits, read_file}
use Rattle.cjc_bytes.specs.Spots.{after, bad_at, types_from, parts_of, desc_of}
use Rattle.cjc_bytes.proofs.Laws.{file_ok, one_value}
use Rattle.cjc_check.specs.Example.{exported_class}
use Rattle.cjc_export.specs.declared.tree.ExportTree.{ExportTree}
use Rattle.cjc_export.specs.ExportFile.{new_name_at, class_tree, front_part, export_file}
use Rattle.cjc_export.specs.Members.{grown, text_field, class_field, desc_at, desc_field, class_method, method}
use Rattle.cjc_export.specs.Package.{package_at, package_field}
use Rattle.cjc_export.specs.Pool.{index, counted, content, entry, text_at, tested_name, tested, class_name_at}
use Rattle.cjc_convert.specs.Converted.{lang_aid}
use Rattle.cjc_convert.specs.declared.lang.TheConstants.{LANG}

abbrev above_exception : List (List ℕ)
above_exception = codes "java/lang/Throwable" ∷ codes "java/lang/Object" ∷ []

abbrev above_runtime : List (List ℕ)
above_runtime = codes "java/lang/Exception" ∷ above_exception

abbrev above_most : List (List ℕ)
above_most = codes "java/lang/RuntimeException" ∷ above_runtime

abbrev pub lang_tree : ExportTree
lang_tree = record {
  name = codes "java/lang";
  aid = lang_aid;
  major = 1;
  minor = 0;
  library = true;
  classes =
      exported_class 0 (codes "java/lang/Object") []
      ∷ exported_class 1 (codes "java/lang/Throwable") (codes "java/lang/Object" ∷ [])
      ∷ exported_class 2 (codes "java/lang/Exception") above_exception
      ∷ exported_class 3 (codes "java/lang/RuntimeException") above_runtime
      ∷ exported_class 4 (codes "java/lang/ArithmeticException") above_most
      ∷ exported_class 5 (codes "java/lang/ClassCastException") above_most
      ∷ exported_class 6 (codes "java/lang/NullPointerException") above_most
      ∷ exported_class 7 (codes "java/lang/IndexOutOfBoundsException") above_most
      ∷ exported_class 8 (codes "java/lang/ArrayIndexOutOfBoundsException") (codes "java/lang/IndexOutOfBoundsException" ∷ above_most)
      ∷ exported_class 9 (codes "java/lang/NegativeArraySizeException") above_most
      ∷ exported_class 10 (codes "java/lang/ArrayStoreException") above_most
      ∷ [];
}

lang_read : read_file export_file LANG ≡ Ok lang_tree
unfolding repeated iterated u1 u2 u4 raw each all_of front digits read_file after bad_at types_from parts_of desc_of new_name_at class_tree front_part export_file grown text_field class_field desc_at desc_field class_method method package_at package_field index counted content entry text_at tested_name tested class_name_at
lang_read = refl

pub lang_spelt : FileSpells export_file lang_tree LANG
lang_spelt = file_ok export_file LANG lang_tree lang_read

-- the export file of java/lang spells no other tree
pub lang_only : (lang : ExportTree) → FileSpells export_file lang LANG → lang ≡ lang_tree
lang_only lang spelt = one_value export_file LANG lang lang_tree spelt lang_spelt
