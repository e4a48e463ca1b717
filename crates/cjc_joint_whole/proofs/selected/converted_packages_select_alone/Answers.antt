use Rattle.cjc_shape_proof.proofs.WrittenLaws.OfFiles.{is_of_files}
use Rattle.cjc_theorem.proofs.AlikeLaws.JoinedLaws.Faults.{faults_are_classes}
use Rattle.cjc_joint_whole.proofs.WholeLaws.CodeVirtuals.{virtuals_named}
use Rattle.cjc_joint_whole.proofs.selected.converted_packages_select_alone.Goals as goal

pub returns : goal.returns
returns c = λ list files judged p is sends.
    let lists = c.converted_packages_list_virtual_methods.ensures in
    record {
      runs = c.converted_packages_run_alone.ensures list files judged p is sends;
      faults = faults_are_classes p.files is.exports;
      virtuals = virtuals_named list judged.codes p (is_of_files list files judged p is) (c.calls_have_opcodes.ensures
          list files judged is.sound);
      own = lists.own list files judged p is;
      meant = lists.all list files judged p is;
    }
