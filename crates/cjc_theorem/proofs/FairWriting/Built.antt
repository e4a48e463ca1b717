-- Export files of platforms that are fair, with those that packages write over some of them, are fair, and so are
-- fewer.
use Rattle.std.proofs.Common.{◌≡◌, ℕ, sym, subst, List, ◌∷◌, ◌++◌, ⊎_elim}
use Rattle.cjc_components.specs.ExportFile.{export_of}
use Rattle.cjc_token_proof.specs.List.Listed.{ListTree}
use Rattle.cjc_components.specs.Package.{Package, world}
use Rattle.cjc_world.specs.ExportFile.declared.tree.ExportTree.{ExportTree}
use Rattle.cjc_shape_proof.specs.LowerJudge.Rules.{settings_of}
use Rattle.cjc_shape_proof.specs.LowerJudge.declared.judged.Judged.{Judged}
use Rattle.cjc_components.specs.Bytecode.declared.method_code.MethodCode.{MethodCode}
use Rattle.cjc_shape_proof.proofs.WrittenLaws.Checked.{files_sound, own_ordered}
use Rattle.cjc_shape_proof.proofs.WrittenLaws.Files.{judged_checked}
use Rattle.cjc_shape_proof.specs.Written.Checked.{IsChecked}
use Rattle.cjc_token_proof.specs.Subset.Members.{imports}
use Rattle.cjc_theorem.proofs.AlikeLaws.Converted.{own_checks, own_package, same_by_modes}
use Rattle.cjc_theorem.proofs.FairExports.Listed.{exports_plain, names}
use Rattle.cjc_theorem.proofs.FairExports.Roots.{exports_sound, in_imports}
use Rattle.cjc_theorem.proofs.FairExports.Sent.{exports_agree}
use Rattle.cjc_theorem.proofs.FairWriting.Beside.{either_file, own_distinct, own_stands}
use Rattle.cjc_theorem.proofs.FairWriting.Fewer.{among, fewer_distinct, fewer_fair, there}
use Rattle.cjc_theorem.proofs.FairWriting.Fields.{still_fair}
use Rattle.cjc_theorem.specs.Built.{AreBuilt, AreDistinct, IsWritten, StandsOver, and_written, of_platform}
use Rattle.cjc_theorem.specs.FairExports.Fair.{ExportsAreFair}
use Rattle.cjc_token_proof.proofs.TablesLaws.Filed.{has-back, has-front}
use Rattle.cjc_vtable.proofs.Filed.{Has, of-imports}
use Rattle.cjc_vtable.specs.Laws.{KeepsRules}
use Rattle.cjc_world.specs.Upwards.{Has as Among}

-- any list of fair export files is fair
pub some_fair : (some all : List ExportTree) → ((t : ExportTree) → Among t some → Among t all) → AreDistinct all
    → ExportsAreFair all → ExportsAreFair some
some_fair some all sub distinct fair = fewer_fair some all
    (λ e h. (let t = of-imports e some h in in_imports e t.0 all (there t.0 all (sub t.0 (among t.0 some t.1))) t.2))
    distinct fair

module _ (keeps : (list : ListTree) (codes : List MethodCode) (p : Package) → IsChecked list codes p
    → KeepsRules (world p)) where
  module _ (list : ListTree) (files : List (List ℕ)) (judged : Judged) (p : Package)
      (is : IsWritten list files judged p) (fair_list : (let world = p.files in ExportsAreFair world.exports)) where
    abbrev exports : List ExportTree
    exports = let world = p.files in world.exports

    checked : IsChecked list judged.codes p
    checked =
        let same = same_by_modes list files judged is.read is.sound p is.is_package in
        let sound = own_package list files judged is.read is.sound p same in
        let checks = own_checks list files judged is.read is.sound p same in
        judged_checked list files judged p is.read is.sound same
        (exports_sound list.name p.files sound (names list.name p.files judged.codes (settings_of list) checks))
        (exports_plain list.name p.files judged.codes (settings_of list) checks)
        (exports_agree list.name p.files sound fair_list)

    rules : KeepsRules (world p)
    rules = keeps list judged.codes p checked

    over_all : (all : List ExportTree) → StandsOver p all → AreDistinct (export_of p ∷ all) → ExportsAreFair all
        → ExportsAreFair (export_of p ∷ all)
    over_all all over distinct fair =
        let e = checked.exports in
        still_fair list.name p judged.codes (settings_of list) (files_sound list judged.codes p checked) checked.checks
        (own_ordered list judged.codes p checked) rules e.root all over distinct fair

    -- beside those of its own list, wherever it stands
    pub over_own : (before following : List ExportTree) → exports ≡ before ++ following
        → ExportsAreFair (before ++ export_of p ∷ following)
    over_own before following split =
        let sound = files_sound list judged.codes p checked in
        let distinct = own_distinct list.name p sound in
        fewer_fair (before ++ export_of p ∷ following) (export_of p ∷ exports)
        (λ e h. ⊎_elim
        (λ a. has-front e (let t = export_of p in t.classes) (imports exports) a)
        (λ b. has-back e (let t = export_of p in t.classes) (imports exports)
        (subst (λ ts. Has e (imports ts)) (sym split) b))
        (either_file (export_of p) before following e h))
        distinct (over_all exports (own_stands list.name p sound rules) distinct fair_list)

  pub built_fair : (all : List ExportTree) → AreBuilt all → AreDistinct all → ExportsAreFair all
  built_fair all (of_platform fair) distinct = fair
  built_fair _ (and_written {exports = E} {list = list} {files = files} {judged = judged} {p = p} is over rest)
      distinct =
      let before = fewer_distinct E (export_of p ∷ E) (λ e h. has-back e (let t = export_of p in t.classes) (imports E)
      h) distinct in
      let fair = built_fair E rest before in
      over_all list files judged p is (some_fair (let world = p.files in world.exports) E over.listed before fair) E
      over distinct fair
