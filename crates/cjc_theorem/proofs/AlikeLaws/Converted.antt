-- A package that breaks no rule, nor does what is written for it, is one that is converted.
use Rattle.std.proofs.Common.{◌≡◌, ℕ, sym, subst, List, []}
use Rattle.cjc_components.specs.Limits.{else_of, form_breaks, limit_breaks, of_methods, size_breaks, word_breaks}
use Rattle.cjc_components.specs.Package.{Package, world}
use Rattle.cjc_shape_proof.specs.LowerJudge.Rules.{settings_of}
use Rattle.cjc_shape_proof.specs.LowerJudge.Spelt.{IsRead}
use Rattle.cjc_shape_proof.specs.LowerJudge.declared.judged.Judged.{Judged}
use Rattle.cjc_token_proof.specs.List.Listed.{ListTree}
use Rattle.cjc_shape_proof.specs.LowerShape.Prepared.{IsSound}
use Rattle.cjc_shape_proof.specs.WorldProof.Files.{ExportsAreSound}
use Rattle.cjc_token_proof.specs.Subset.Checks.{check_breaks}
use Rattle.cjc_theorem.proofs.FairExports.Listed.{names}
use Rattle.cjc_theorem.proofs.SoundRuns.Placed.{sound_package}
use Rattle.cjc_token_proof.specs.Tables.Sound.{IsSound as IsSoundPackage}
use Rattle.cjc_vtable.specs.Kept.{ExportsAgree}
use Rattle.cjc_shape_proof.proofs.ShapeSelected.{judged_checks as tested_checks}
use Rattle.cjc_shape_proof.proofs.ShapeSound.{is_tested}
use Rattle.cjc_shape_proof.proofs.ShapeDrafts.{same_spelt}
use Rattle.cjc_shape_proof.specs.LowerShape.Whole.Conversion.{IsPackageByModesOf, IsPackageOf}
use Rattle.cjc_world.specs.Files.{Files}
use Rattle.cjc_shape_proof.specs.Written.Converted.{ExportsArePlain, IsConverted}
use Rattle.cjc_shape_proof.proofs.CheckProofLimits.{after_first, before_second}

module _ (list : ListTree) (files : List (List ℕ)) (judged : Judged) (of : IsRead list) (is : IsSound list files judged)
  where
    -- no rule of the card's language and of limits is broken
    pub judged_checks : check_breaks list.name judged.world judged.codes (settings_of list) ≡ []
    judged_checks = tested_checks list files judged (is_tested list files judged is)

    pub judged_package : IsSoundPackage list.name judged.world
    judged_package = sound_package list files judged is of (names list.name judged.world judged.codes (settings_of list)
        judged_checks)

    -- ---- a package of these files

    pub same_by_modes : (p : Package) → IsPackageByModesOf list files p → p.files ≡ judged.world
    same_by_modes p laid = same_spelt list files judged is p.files (let t = laid.tables in t.types) laid.spelt

    pub same_files : (p : Package) → IsPackageOf list files p → p.files ≡ judged.world
    same_files p laid = same_spelt list files judged is p.files laid.rows laid.spelt

    module _ (p : Package) (same : p.files ≡ judged.world) where
      pub own_checks : check_breaks list.name p.files judged.codes (settings_of list) ≡ []
      own_checks = subst (λ (w : Files). check_breaks list.name w judged.codes (settings_of list) ≡ []) (sym same)
          judged_checks

      pub own_package : IsSoundPackage list.name p.files
      own_package = subst (IsSoundPackage list.name) (sym same) judged_package

    pub is_converted : (p : Package) → IsPackageOf list files p → limit_breaks p ≡ [] → ExportsAreSound p.files
        → ExportsArePlain p.files → ExportsAgree (world p) → IsConverted list files judged p
    is_converted p laid limits exports plain agree =
        let rest = after_first (of_methods p (word_breaks p)) (else_of (form_breaks p) (size_breaks p)) limits in
        record {
          read = of;
          sound = is;
          is_package = laid;
          words = before_second (of_methods p (word_breaks p)) (else_of (form_breaks p) (size_breaks p)) limits;
          forms = before_second (form_breaks p) (size_breaks p) rest;
          sizes = after_first (form_breaks p) (size_breaks p) rest;
          exports = exports;
          plain = plain;
          agree = agree;
        }
