-- What a conversion promises of what it makes.
use Rattle.std.specs.Prelude.{ℕ, List}
use Rattle.cjc_theorem.specs.Alike.Alike.{BehaveAlike}
use Rattle.cjc_theorem.specs.CapRead.declared.tree.CapTree.{CapTree}
use Rattle.cjc_convert.specs.CapWrite.Writable.{IsSpelt}
use Rattle.cjc_convert.specs.declared.conversion.Converted.{Converted}
use Rattle.cjc_theorem.specs.FairExports.Fair.{ExportsAreFair}
use Rattle.cjc_convert.specs.Judge.Rules.{files_spelt}
use Rattle.cjc_convert.specs.Judge.Spelt.{FileTree, SpellTrees, exports_of}
use Rattle.cjc_convert.specs.List.Listed.{ListTree}
use Rattle.cjc_convert.specs.CheckRules.Consistent.{Consistent}

-- The files of a list spell these classes and export files, and the component files that are made spell these
-- components. Over export files that are fair the components are consistent with them, and class files and components
-- behave alike for every script.
pub record KeepsPromise (list : ListTree) (files : List (List ℕ)) (made : Converted) : Type 0 where
  pub trees : List FileTree
  pub spell : SpellTrees list.lines files trees
  pub cap : CapTree
  pub spelt : IsSpelt cap made.caps
  pub consistent : ExportsAreFair (exports_of trees) → Consistent cap (exports_of trees)
  pub alike : ExportsAreFair (exports_of trees) → BehaveAlike list (files_spelt list trees) cap
