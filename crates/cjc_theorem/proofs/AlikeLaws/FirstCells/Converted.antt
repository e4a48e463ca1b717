-- The numbers of a converted package's static image are of the types of their fields.
use Rattle.std.proofs.Common.{List, ℕ, sym, subst}
use Rattle.cjc_bytes.specs.Breaks.{Break}
use Rattle.cjc_token_proof.specs.Clinit.Rules.{BreaksImage}
use Rattle.cjc_components.specs.Bytecode.PackageCodes.{all_codes}
use Rattle.cjc_components.specs.Package.{Package}
use Rattle.cjc_shape_proof.specs.LowerClasses.Descriptor.Fits.{AreFit}
use Rattle.cjc_shape_proof.proofs.WrittenLaws.FittingLaws.Arrays.{arrays_fit}
use Rattle.cjc_shape_proof.proofs.WrittenLaws.FittingLaws.Values.{values_fit}
use Rattle.cjc_shape_proof.specs.LowerJudge.declared.judged.Judged.{Judged}
use Rattle.cjc_token_proof.specs.List.Listed.{ListTree}
use Rattle.cjc_shape_proof.proofs.ShapeSound as Sound
use Rattle.cjc_world.specs.Files.{Files}
use Rattle.cjc_shape_proof.proofs.WrittenLaws.Files.{own_image, same_files}
use Rattle.cjc_shape_proof.specs.Written.Converted.{IsConverted}

module _ (list : ListTree) (files : List (List ℕ)) (judged : Judged) (p : Package) (is : IsConverted list files judged
    p) where
  -- it breaks nothing of 308
  none_broken : (b : Break) → BreaksImage p.files (all_codes (let w = p.files in w.classes)) b → ⊥
  none_broken b broken =
      let ready = Sound.are_ready list files judged is.sound in
      let here : BreaksImage judged.world judged.codes b =
      subst (λ cs. BreaksImage judged.world cs b) (sym ready.codes_are)
      (subst (λ (w : Files). BreaksImage w (all_codes w.classes) b) (same_files list files judged p is) broken) in
      Sound.no_image_break list files judged is.sound b here

  pub image_fits : AreFit p.image
  image_fits = let w = p.files in record {
    arrays = arrays_fit p.files (all_codes w.classes) p.image (own_image list files judged p is);
    values = values_fit p.files (all_codes w.classes) none_broken p.image (own_image list files judged p is);
  }
