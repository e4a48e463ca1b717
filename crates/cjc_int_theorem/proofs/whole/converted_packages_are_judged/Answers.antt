use Rattle.std.proofs.Common.{◌≡◌, ℕ, List, [], sym, subst}
use Rattle.cjc_check_proof.proofs.LimitsLaws.Limits.{after_first, before_second}
use Rattle.cjc_classes.specs.List.Listed.{ListTree}
use Rattle.cjc_components.specs.Limits.{else_of, form_breaks, of_methods, size_breaks}
use Rattle.cjc_components.specs.Package.{Package}
use Rattle.cjc_int_components.specs.Limits.{limit_breaks_by_modes, word_breaks_by_modes}
use Rattle.cjc_int_components.specs.Written.{IsPackageByModes}
use Rattle.cjc_shape.specs.LowerJudge.Rules.{settings_of}
use Rattle.cjc_shape.specs.Prepared.{IsSound}
use Rattle.cjc_shape.specs.Whole.Conversion.{IsPackageByModesOf}
use Rattle.cjc_shape_proof.proofs.WritingLaws.Aids.{aids_short}
use Rattle.cjc_shape_proof.proofs.WrittenLaws.Files.{judged_checked}
use Rattle.cjc_shape_proof.specs.LowerJudge.Spelt.{IsRead}
use Rattle.cjc_shape_proof.specs.LowerJudge.declared.judged.Judged.{Judged}
use Rattle.cjc_shape_proof.specs.Written.LaidOut.{IsLaidOut}
use Rattle.cjc_theorem.proofs.AlikeLaws.Converted.{own_checks, own_package, same_by_modes}
use Rattle.cjc_theorem.specs.FairExports.Fair.{ExportsAreFair}
use Rattle.cjc_int_theorem.specs.Alike.{IsJudgedByModes}
use Rattle.cjc_int_theorem.proofs.Judged.{converted}
use Rattle.cjc_int_theorem.proofs.whole.converted_packages_are_judged.Goals as goal

laid_out : (list : ListTree) (files : List (List ℕ)) (judged : Judged) → IsRead list → IsSound list files judged
    → (p : Package) (is : IsPackageByModesOf list files p) → limit_breaks_by_modes is.tables p ≡ []
    → IsLaidOut list files judged p
laid_out list files judged read sound p is limits =
    let words = of_methods p (word_breaks_by_modes is.tables p) in
    let rest = else_of (form_breaks p) (size_breaks p) in
    record {
      read = read;
      aids = aids_short list read;
      sound = sound;
      is_package = is;
      words = before_second words rest limits;
      forms = before_second (form_breaks p) (size_breaks p) (after_first words rest limits);
    }

judged_by_modes : goal.After-packages_by_modes_are_of_files → (list : ListTree) (files : List (List ℕ))
    (judged : Judged) → IsRead list → IsSound list files judged → (p : Package) (is : IsPackageByModesOf list files p)
    → limit_breaks_by_modes is.tables p ≡ [] → (let world = p.files in ExportsAreFair world.exports)
    → IsJudgedByModes list files judged is.tables p
unfolding laid_out
judged_by_modes c list files judged read sound p is limits fair =
    let laws = c.fair_exports_are_sound.ensures in
    let codes = judged.codes in
    let settings = settings_of list in
    let t = is.tables in
    let same = same_by_modes list files judged read sound p is in
    let own = own_package list files judged read sound p same in
    let checks = own_checks list files judged read sound p same in
    let exports = laws.sound list.name p.files codes settings own checks in
    let plain = laws.plain list.name p.files codes settings checks in
    let agree = laws.agree list.name p own fair in
    let checked = judged_checked list files judged p read sound same exports plain agree in
    let laid = laid_out list files judged read sound p is limits in
    record {
      read = read;
      sound = sound;
      same = same;
      is_package = subst (λ cs. IsPackageByModes list p.files cs t p) (sym checked.codes_are) is.is_package;
      least = is.has.least;
      modes = is.has.modes;
      words = laid.words;
      forms = laid.forms;
      sizes = after_first (form_breaks p) (size_breaks p) (after_first (of_methods p (word_breaks_by_modes t p))
          (else_of (form_breaks p) (size_breaks p)) limits);
      exports = exports;
      plain = plain;
      agree = agree;
      sends = laws.send list.name p codes settings own checks;
    }

pub returns-clause-judged : goal.returns-clause-judged
returns-clause-judged = judged_by_modes

pub returns-clause-laid : goal.returns-clause-laid
returns-clause-laid c = laid_out

pub returns-clause-files : goal.returns-clause-files
returns-clause-files c = λ list files judged read sound p is limits fair.
    c.packages_by_modes_are_of_files.ensures list judged.codes is.tables p (converted list files judged is.tables p
    (judged_by_modes c list files judged read sound p is limits fair))
