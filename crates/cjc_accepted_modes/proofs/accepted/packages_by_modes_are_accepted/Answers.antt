use Rattle.cjc_accepted_modes.proofs.accepted.packages_by_modes_are_accepted.Goals as goal

pub returns : goal.returns
returns c = λ list files judged p is conv. c.converted_packages_are_accepted.ensures list files judged p is
    (c.code_of_packages_by_modes_stands.ensures list files judged p is conv)
