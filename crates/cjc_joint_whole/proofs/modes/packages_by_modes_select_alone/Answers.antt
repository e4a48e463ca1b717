use Rattle.cjc_theorem.proofs.AlikeLaws.JoinedLaws.Faults.{faults_are_classes}
use Rattle.cjc_joint_whole.proofs.WholeLaws.CodeSupers.{finds_above}
use Rattle.cjc_joint_whole.proofs.WholeLaws.CodeVirtuals.{virtuals_named}
use Rattle.cjc_joint_whole.proofs.modes.packages_by_modes_select_alone.Goals as goal

pub returns-clause-selects : goal.returns-clause-selects
returns-clause-selects c = λ list files judged t p laid is sends.
    let codes = judged.codes in
    let checked = is.checked in
    let of = c.packages_by_modes_are_of_files.ensures list codes t p is in
    let lists = c.checked_packages_list_virtual_methods.ensures in
    record {
      runs = c.packages_by_modes_run_alone.ensures list files judged t p laid is sends;
      faults = faults_are_classes p.files checked.exports;
      virtuals = virtuals_named list codes p of (c.calls_of_files_have_opcodes.ensures list codes p is.checked);
      own = lists.own list codes p is.checked;
      meant = lists.all list codes p is.checked;
    }

pub returns-clause-above : goal.returns-clause-above
returns-clause-above c = λ list codes t p is keep. finds_above list codes p
    (c.packages_by_modes_are_of_files.ensures list codes t p is)
    (c.calls_of_files_have_opcodes.ensures list codes p is.checked) keep
