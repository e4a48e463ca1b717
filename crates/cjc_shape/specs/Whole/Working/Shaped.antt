-- A package whose methods are laid out and break no rule, as the code holds it.
use Rattle.std.specs.Prelude.{◌≡◌, ◌⊎◌, ℕ, List, []}
use Rattle.cjc_exported.specs.Bytes.declared.fault.Fault.{Fault}
use Rattle.cjc_exported.specs.Bytes.declared.fault.Fault.TheVariants as faults
use Rattle.cjc_exported.specs.Bytes.declared.fault.Refusal.{Refusal}
use Rattle.cjc_exported.specs.Components.ExportFile.{export_of}
use Rattle.cjc_exported.specs.Components.Limits.{form_breaks, of_methods}
use Rattle.cjc_exported.specs.Components.Package.{Package, tokens}
use Rattle.cjc_methods.specs.LowerIntPackage.Components.{has_int_mode}
use Rattle.cjc_methods.specs.LowerIntPackage.Limits.{word_breaks_by_modes}
use Rattle.cjc_judge.specs.declared.judged.Judged.{Judged}
use Rattle.cjc_methods.specs.Layouts.Laid.{AreLaid, laid_methods}
use Rattle.cjc_methods.specs.List.Listed.{ListTree}
use Rattle.cjc_shape.specs.Whole.Conversion.{IsPackageByModesOf, IsRefused}
use Rattle.cjc_shape.specs.declared.whole.shaping.Shaped.{Shaped}

-- the package that both are: its list and its files as they were judged, and the rest as it is laid out
abbrev pub package_of : Judged → Shaped → Package
package_of j s = record {
  list = j.list.now;
  files = j.world;
  image = s.image;
  methods = laid_methods s.methods;
}

-- It is the package of the list and its files, each method by its mode, and breaks none of 417, 311, 414 and 415.
pub record IsShaped (j : Judged) (s : Shaped) : Type 0 where
  pub is_package : IsPackageByModesOf j.list.now j.files.now (package_of j s)
  pub by_tokens : s.tokens.now ≡ tokens (package_of j s)
  pub laid : AreLaid s.methods
  pub by_export : s.export ≡ export_of (package_of j s)
  pub by_mode : s.in_int_mode ≡ has_int_mode is_package.tables (package_of j s)
  pub words : of_methods (package_of j s) (word_breaks_by_modes is_package.tables (package_of j s)) ≡ []
  pub forms : form_breaks (package_of j s) ≡ []

-- The error is want of memory, or that of the first broken rule.
abbrev pub Stopped : ListTree → List (List ℕ) → Fault → Type 0
Stopped list files e = (e ≡ faults.NoMemory) ⊎ ((r : Refusal) × IsRefused list files r × (e ≡ faults.Refused r))
