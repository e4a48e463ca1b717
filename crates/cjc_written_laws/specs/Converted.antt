-- Packages that are converted, and what is asked of the export files beside them.
use Rattle.std.specs.Prelude.{◌≡◌, ℕ, List, []}
use Rattle.cjc_components.specs.Limits.{form_breaks, of_methods, size_breaks, word_breaks}
use Rattle.cjc_components.specs.Package.{Package, world}
use Rattle.cjc_judge.specs.declared.judged.Judged.{Judged}
use Rattle.cjc_judge.specs.Spelt.{IsRead}
use Rattle.cjc_list.specs.Listed.{ListTree}
use Rattle.cjc_prepared.specs.Prepared.{IsSound}
use Rattle.cjc_solid_laws.specs.Files.{ExportsAreSound}
use Rattle.cjc_vtable.specs.Kept.{ExportsAgree}
use Rattle.cjc_whole.specs.Conversion.{IsPackageOf}

-- The package of a list that was read and of its files. It breaks no rule: none of its files, neither 417, 311, 414
-- and 415, nor 411 and 416. Its export files say of their classes what a platform has, and don't contradict one another.
pub record IsConverted (list : ListTree) (files : List (List ℕ)) (judged : Judged) (p : Package) : Type 0 where
  pub read : IsRead list
  pub sound : IsSound list files judged
  pub is_package : IsPackageOf list files p
  pub words : of_methods p (word_breaks p) ≡ []
  pub forms : form_breaks p ≡ []
  pub sizes : size_breaks p ≡ []
  pub exports : ExportsAreSound p.files
  pub agree : ExportsAgree (world p)
