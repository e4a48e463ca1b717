-- What is written for a package that breaks no rule, and which rule stops it.
use Rattle.std.proofs.Common.{◌≡◌, ◌∙◌, [], None, Option, Some, ap, inl, inr, subst, sym, ◌⊎◌, ℕ, List}
use Rattle.cjc_captree.specs.Bytes.Breaks.{IsFirstRefusal}
use Rattle.cjc_captree.specs.Bytes.Format.{FileSpells}
use Rattle.cjc_captree.specs.Bytes.Refused.{refusal}
use Rattle.cjc_captree.specs.Bytes.declared.fault.Fault.{Fault}
use Rattle.cjc_captree.specs.Bytes.declared.fault.Fault.TheVariants as faults
use Rattle.cjc_captree.specs.CapWrite.Files.{files_of}
use Rattle.cjc_captree.specs.CapWrite.Writable.{IsSpelt}
use Rattle.cjc_shape_proof.specs.LowerIntPackage.Components.{components_by_modes}
use Rattle.cjc_shape_proof.specs.Components.Limits.{size_breaks}
use Rattle.cjc_convert.proofs.ConversionLaws.Stops.{keeps_limits, stopped_by_sizes}
use Rattle.cjc_convert.specs.Conversion.{IsConvertedByModes}
use Rattle.cjc_convert.specs.declared.conversion.Converted.{Converted}
use Rattle.cjc_captree.specs.ExportFile.ExportFile.{export_file}
use Rattle.cjc_captree.specs.ExportFile.Written.{written}
use Rattle.cjc_captree.specs.ExportFile.declared.tree.ExportTree.{ExportTree}
use Rattle.cjc_shape_proof.specs.LowerJudge.declared.judged.Judged.{Judged}
use Rattle.cjc_shape_proof.specs.LowerShape.Prepared.{BreaksNothing}
use Rattle.cjc_shape_proof.specs.LowerShape.Whole.Working.Shaped.{IsShaped, Stopped, package_of}
use Rattle.cjc_shape_proof.specs.LowerShape.declared.whole.shaping.Shaped.{Shaped}

module _ (j : Judged) (s : Shaped) (is : BreaksNothing j) (h : IsShaped j s) where
  pub by_sizes : (e : Fault) → IsFirstRefusal (size_breaks (package_of j s)) e → Stopped j.list.now j.files.now e
  by_sizes = stopped_by_sizes j.list.now j.files.now j is (package_of j s) h.is_package h.words h.forms

  module _ (small : size_breaks (package_of j s) ≡ []) where
    pub converted : (made : Converted) → made.caps ≡ files_of (components_by_modes h.is_package.tables (package_of j s))
        → IsSpelt (components_by_modes h.is_package.tables (package_of j s)) made.caps → made.export ≡ written s.export
        → FileSpells export_file s.export made.export → IsConvertedByModes j.list.now j.files.now made
    converted made caps spelt export file = let by = is.judged_by in record {
      unbroken = by.unbroken;
      whole = package_of j s;
      is_package = h.is_package;
      limits = keeps_limits j.list.now j.files.now j is (package_of j s) h.is_package h.words h.forms small;
      caps = caps;
      caps_spelt = spelt;
      export = export ∙ ap written h.by_export;
      export_spelt = subst (λ (t : ExportTree). FileSpells export_file t made.export) h.by_export file;
      judged = j;
      sound = is;
    }

-- a tree that keeps the limits is refused for want of memory alone
pub only_memory : (rule : Option ℕ) (list : List ℕ) (e : Fault) → rule ≡ None
    → (e ≡ faults.NoMemory) ⊎ ((r : ℕ) × (rule ≡ Some r) × (e ≡ faults.Refused (refusal list r 0)))
    → e ≡ faults.NoMemory
only_memory rule list e none (inl memory) = memory
only_memory rule list e none (inr broken) = absurd (let z : None ≡ Some broken.0 = sym none ∙ broken.1 in cc)
