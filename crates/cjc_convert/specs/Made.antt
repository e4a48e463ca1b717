-- What is made of the package of a list and its files.
use Rattle.std.specs.Prelude.{◌≡◌, ℕ, List, []}
use Rattle.cjc_bytes.specs.Breaks.{Break}
use Rattle.cjc_capread.specs.declared.tree.CapTree.{CapTree}
use Rattle.cjc_components.specs.Components.{components_of}
use Rattle.cjc_components.specs.Limits.{limit_breaks}
use Rattle.cjc_components.specs.Package.{Package}
use Rattle.cjc_judge.specs.Rules.{Breach}
use Rattle.cjc_list.specs.Listed.{ListTree}
use Rattle.cjc_shape.specs.Prepared.{tested}
use Rattle.cjc_shape.specs.Whole.Conversion.{IsPackageOf}

-- The files break no rule, nor does what is written for them, and these are the components of their package.
pub record AreCaps (list : ListTree) (files : List (List ℕ)) (caps : CapTree) : Type 0 where
  pub unbroken : (b : Break) → Breach list files tested b → ⊥
  pub whole : Package
  pub is_package : IsPackageOf list files whole
  pub limits : limit_breaks whole ≡ []
  pub are : caps ≡ components_of whole
