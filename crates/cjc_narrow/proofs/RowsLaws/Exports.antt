-- Classes of export files, one after the other.
use Rattle.std.proofs.Common.{◌≡◌, ℕ, ◌<◌, ◌≤◌, ◌+◌, ◌-◌, ap, ◌∙◌, List, ◌++◌}
use Rattle.std.proofs.Common.{length, get_or, drop}
use Rattle.std.specs.Prelude.{slice_get}
use Rattle.std.specs.List.{flat_map}
use Rattle.cjc_types.specs.ExportFile.declared.tree.ExportClass.{ExportClass}
use Rattle.cjc_types.specs.ExportFile.declared.tree.ExportTree.{ExportTree}
use Rattle.cjc_types.proofs.BytesGets.{drop_next, get_front, get_back}

-- the classes of all export files
abbrev pub imports : List ExportTree → List ExportClass
imports trees = flat_map (λ t. t.classes) trees

module _ (ts : List ExportTree) (i : ℕ) (t : ExportTree) (l : i < length ts) (is : t ≡ get_or ts i t) where
  next : imports (drop i ts) ≡ t.classes ++ imports (drop (i + 1) ts)
  next = ap imports (drop_next ts i t l is)

  pub import_here : (n : ℕ) → n < length t.classes → slice_get (imports (drop i ts)) n ≡ slice_get t.classes n
  import_here n h = ap (λ cs. slice_get cs n) next ∙ get_front t.classes (imports (drop (i + 1) ts)) n h

  pub import_on : (n : ℕ) → length t.classes ≤ n → slice_get (imports (drop i ts)) n
      ≡ slice_get (imports (drop (i + 1) ts)) (n - length t.classes)
  import_on n h = ap (λ cs. slice_get cs n) next ∙ get_back t.classes (imports (drop (i + 1) ts)) n h
