-- The sizes of a package that is laid out and breaks neither 411 nor 416.
use Rattle.std.proofs.Common.{◌≡◌, ℕ, ap, ◌∙◌, subst, arith, List, [], length}
use Rattle.std.specs.Prelude.{◌≤◌}
use Rattle.cjc_components.specs.Limits.{has_far_types, has_large_component, size_breaks, spot_of_list}
use Rattle.cjc_components.specs.Package.{Package}
use Rattle.cjc_bytes.specs.Breaks.{at}
use Rattle.cjc_shape_proof.specs.LowerJudge.declared.judged.Judged.{Judged}
use Rattle.cjc_token_proof.specs.List.Listed.{ListTree}
use Rattle.cjc_world.specs.Files.{Files}
use Rattle.cjc_bytes.specs.declared.settings.FileLine.{FileLine}
use Rattle.cjc_bytes.proofs.BrokenRules.{not_broken}
use Rattle.cjc_bytes.proofs.Lists.{none_left, none_right}
use Rattle.cjc_token_proof.specs.Tables.Sound.{IsSound, export_count}
use Rattle.cjc_shape_proof.specs.Written.LaidOut.{IsLaidOut}
use Rattle.cjc_shape_proof.specs.LowerCheckProof.Classes.Premises.{HasShortMethods}
use Rattle.cjc_shape_proof.specs.LowerCheckProof.Consistent.Premises.{HasSoundSizes}
use Rattle.cjc_theorem.proofs.AlikeLaws.Converted.{same_by_modes}

module _ (list : ListTree) (files : List (List ℕ)) (judged : Judged) (p : Package) (is : IsLaidOut list files judged
    p) (sound : IsSound list.name p.files) where
  few_imports : (let w = p.files in length w.exports ≤ 128)
  few_imports =
      let read = is.read in
      let spelt = read.2.0 in
      let same = same_by_modes list files judged is.read is.sound p is.is_package in
      let lines : (let w = p.files in w.lines) ≡ list.lines = ap (λ (w : Files). w.lines) (same
      ∙ is.sound.judged_by.world) in
      let few = subst (λ (ls : List FileLine). (let w = p.files in length w.exports) ≤ export_count ls) lines
      sound.exports in
      let all = spelt.3.within.exports in
      omega (arith, few, all)

  pub sizes_kept : size_breaks p ≡ [] → HasShortMethods p → HasSoundSizes p
  sizes_kept sizes short =
      let far = at (has_far_types p) (spot_of_list p) 411 in
      let large = at (has_large_component p) (spot_of_list p) 416 in
      record {
        types = not_broken (has_far_types p) (spot_of_list p) 411 (none_left far large sizes);
        components = not_broken (has_large_component p) (spot_of_list p) 416 (none_right far large sizes);
        methods = short;
        imports = few_imports;
      }
