use Rattle.std.specs.Prelude.{◌≡◌, ℕ, Some, slice_get}
use Rattle.cjc_components.specs.Package.{Package}
use Rattle.cjc_joint_files.proofs.FilesLaws.ReportAgree.{first_member, have_images, reports_agree}
use Rattle.cjc_joint_files.proofs.FilesLaws.ReportCodes.{files_are}
use Rattle.cjc_joint_files.proofs.reports.written_packages_run_alike.Goals as goal
use Rattle.cjc_joint_whole.proofs.WholeLaws.Together.{stand_by_package}
use Rattle.cjc_joint_whole.specs.Tokens.{stands_at}
use Rattle.cjc_shape_proof.proofs.WrittenLaws.Files.{files_sound, is_checked}
use Rattle.cjc_shape_proof.specs.LowerJudge.Rules.{settings_of}
use Rattle.cjc_token_proof.specs.WrittenSends.Sends.{ExportsSend}

pub returns : goal.returns
returns c = λ packages first starts few are fair.
    let grouped = c.written_packages_are_grouped.ensures.grouped packages are fair in
    let together = c.written_packages_are_grouped.ensures.together packages are fair in
    let found = c.written_packages_are_whole.ensures packages are fair
    (c.written_packages_are_implemented.ensures packages are fair few) in
    let members = found.0 in
    let start = first_member packages members found.1 first starts in
    let tell = c.written_packages_are_told_above.ensures packages members are fair found.1 in
    let send : (q : ℕ) (p : Package) → slice_get packages q ≡ Some p → ExportsSend p = λ q p at.
    let w = are.each q p at in
    let checked = is_checked w.list w.files w.judged p w.converted in
    c.fair_exports_are_sound.ensures.send (let l = w.list in l.name) p (let j = w.judged in j.codes)
    (settings_of w.list) (files_sound w.list w.files w.judged p w.converted) checked.checks in
    let faces = c.members_have_faces.ensures members packages found.2 tell (files_are packages members found.1) send in
    let agree = c.joint_interfaces_agree.ensures packages grouped faces (stands_at first packages)
    (stand_by_package first packages) in
    record {
      images = have_images packages are.each;
      alike = λ script. reports_agree packages members found.1 first starts together c.order_changes_no_search.ensures
          script (c.whole_members_run_together.ensures members start.0 start.1 found.2 tell script)
          (λ n free. c.selected_components_run_alike.ensures packages first starts together grouped.above agree script n
          free);
    }
