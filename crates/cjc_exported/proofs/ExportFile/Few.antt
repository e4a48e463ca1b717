-- An export file has no more classes than are counted where rule 401 is tested.
use Rattle.std.proofs.Common.{◌≡◌, ℕ, ◌+◌, ◌<◌, ◌≤◌, refl, sym, subst, arith, Bool, true, false, List, [], ◌∷◌, ◌++◌}
use Rattle.std.proofs.Common.{drop, length}
use Rattle.std.specs.Prelude.{Option, Some, None, if◌then◌else◌, filter, not, slice_get, ◌&&◌}
use Rattle.std.proofs.lemmas.List.{length-map}
use Rattle.cjc_world.specs.Bytes.declared.settings.FileLine.{FileLine}
use Rattle.cjc_world.specs.ClassFile.declared.tree.ClassTree.{ClassTree}
use Rattle.cjc_world.specs.ExportFile.declared.tree.ExportClass.{ExportClass}
use Rattle.cjc_world.specs.ExportFile.declared.tree.ExportTree.{ExportTree}
use Rattle.cjc_world.specs.Classes.{Class, declared, numbered, size, of_class_file, of_export_file, classes_from}
use Rattle.cjc_world.specs.Classes.{all_classes}
use Rattle.cjc_world.specs.Exported.{is_exported}
use Rattle.cjc_components.specs.LowerTokens.Rules.{FewExported, count_exported}
use Rattle.cjc_components.specs.LowerTokens.Tokens.{one_more}
use Rattle.cjc_components.specs.Package.{Package, has_applets}
use Rattle.cjc_components.specs.Exports.{exported_classes}
use Rattle.cjc_components.specs.ExportFile.{export_class, export_of}
use Rattle.cjc_exported.proofs.ExportFile.ByNumber.{past}
use Rattle.cjc_world.proofs.BytesGets.{drop_at, drop_behind}

module _ (w : List Class) (applets : Bool) where
  abbrev pub test : Class → Bool
  test d = not d.is_imported && is_exported w applets d

  numbered-left : (i : ℕ) (cs : List ExportClass) (rest : List Class) → filter test (numbered i cs ++ rest)
      ≡ filter test rest
  numbered-left i [] rest = refl
  numbered-left i (c ∷ cs) rest = numbered-left (i + 1) cs rest

  pub export-left : (i : ℕ) (o : Option ExportTree) (rest : List Class) → filter test (of_export_file i o ++ rest)
      ≡ filter test rest
  export-left i None rest = refl
  export-left i (Some t) rest = numbered-left i t.classes rest

  pub fewer : (trees : List ClassTree) (exports : List ExportTree) (c e i : ℕ) (lines : List FileLine)
      → length (filter test (classes_from trees exports c e i lines)) ≤ count_exported w applets c (drop c trees)
  unfolding classes_from
  fewer trees exports c e i [] = omega arith
  fewer trees exports c e i (line ∷ lines) = by line.class_file (fewer trees exports (c + 1) e i lines)
      (fewer trees exports c (e + 1) (i + size (slice_get exports e)) lines)
    where
      file : (o : Option ClassTree) (rest : List Class) → slice_get trees c ≡ o
          → length (filter test rest) ≤ count_exported w applets (c + 1) (drop (c + 1) trees)
          → length (filter test (of_class_file c o ++ rest)) ≤ count_exported w applets c (drop c trees)
      file None rest at le =
          let none : length (filter test rest) ≤ 0 = subst (λ (xs : List ClassTree). length (filter test rest) ≤
          count_exported w applets (c + 1) xs) (drop_behind trees (c + 1) (past trees c (c + 1) at (omega arith)))
          le in
          omega arith
      file (Some t) rest at le = subst (λ (xs : List ClassTree). length (filter test (declared c t ∷ rest)) ≤
          count_exported w applets c xs) (sym (drop_at trees c t at)) (one (is_exported w applets (declared c t)) le)
        where
          one : (b : Bool) → length (filter test rest) ≤ count_exported w applets (c + 1) (drop (c + 1) trees)
              → length (if b then declared c t ∷ filter test rest else filter test rest) ≤ one_more b
              (count_exported w applets (c + 1) (drop (c + 1) trees))
          one true h = omega arith
          one false h = h

      by : (b : Bool) → length (filter test (classes_from trees exports (c + 1) e i lines)) ≤ count_exported w applets
          (c + 1) (drop (c + 1) trees)
          → length (filter test (classes_from trees exports c (e + 1) (i + size (slice_get exports e)) lines)) ≤
          count_exported w applets c (drop c trees)
          → length (filter test (if b then of_class_file c (slice_get trees c) ++ classes_from trees exports (c + 1) e i
          lines else of_export_file i (slice_get exports e) ++ classes_from trees exports c (e + 1)
          (i + size (slice_get exports e)) lines)) ≤ count_exported w applets c (drop c trees)
      by true r s = file (slice_get trees c) (classes_from trees exports (c + 1) e i lines) refl r
      by false r s = subst (λ (xs : List Class). length xs ≤ count_exported w applets c (drop c trees))
          (sym (export-left i (slice_get exports e) (classes_from trees exports c (e + 1)
          (i + size (slice_get exports e)) lines))) s

pub exported-few : (p : Package) → FewExported (has_applets p) p.files → (let t = export_of p in length t.classes < 256)
unfolding all_classes
exported-few p few =
    let counts = length-map (exported_classes p) (export_class p) in
    let le = fewer (all_classes p.files) (has_applets p) p.files.classes p.files.exports 0 0 0 p.files.lines in
    omega (arith, counts, le, few)
