-- The world of a package of a list and its files is what the files spell.
use Rattle.std.proofs.Common.{◌≡◌, ℕ, List, sym, ap, subst, ◌∙◌}
use Rattle.cjc_convert.proofs.JudgeFirsts.{one_spelling}
use Rattle.cjc_convert.specs.Judge.Rules.{files_spelt}
use Rattle.cjc_convert.specs.Judge.Spelt.{FileTree, SpellTrees, exports_of}
use Rattle.cjc_convert.specs.List.Listed.{ListTree}
use Rattle.cjc_theorem.specs.FairExports.Fair.{ExportsAreFair}
use Rattle.cjc_convert.specs.World.Files.{Files as World}

module _ (list : ListTree) (files : List (List ℕ)) (trees : List FileTree) (spell : SpellTrees list.lines files trees)
    (own : List FileTree) (is : SpellTrees list.lines files own) (w : World) (world_is : w ≡ files_spelt list own) where
  pub files_are : w ≡ files_spelt list trees
  files_are = world_is ∙ ap (files_spelt list) (one_spelling list.lines files own trees is spell)

  pub exports_are_fair : ExportsAreFair (exports_of trees) → ExportsAreFair w.exports
  exports_are_fair fair = subst (λ (v : World). ExportsAreFair v.exports) (sym files_are) fair
