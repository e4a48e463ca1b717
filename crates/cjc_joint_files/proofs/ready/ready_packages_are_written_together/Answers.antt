use Rattle.cjc_joint_files.proofs.FilesLaws.Ready.{same_group, written_together}
use Rattle.cjc_joint_files.proofs.ready.ready_packages_are_written_together.Goals as goal

pub returns-clause-together : goal.returns-clause-together
returns-clause-together c = λ input name script group tree packages ready of. written_together
    c.consistent_where_unbroken.ensures.unbroken input name script group tree packages ready of

pub returns-clause-members : goal.returns-clause-members
returns-clause-members c = λ input name script group tree packages ready of. same_group
    c.consistent_where_unbroken.ensures.unbroken input name script group tree packages ready of
