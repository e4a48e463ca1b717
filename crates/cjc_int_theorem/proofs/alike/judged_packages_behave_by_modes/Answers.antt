use Rattle.cjc_int_theorem.proofs.Judged.{judged_passed}
use Rattle.cjc_int_theorem.proofs.alike.judged_packages_behave_by_modes.Goals as goal

pub returns-clause-passed : goal.returns-clause-passed
returns-clause-passed c = judged_passed

pub returns-clause-runs : goal.returns-clause-runs
returns-clause-runs c = λ list files judged t p is script.
    c.components_by_modes_behave_as_class_files.ensures.runs list judged.codes t p
    (c.passed_packages_behave_by_modes.ensures list judged.codes t p (judged_passed list files judged t p is)) script
