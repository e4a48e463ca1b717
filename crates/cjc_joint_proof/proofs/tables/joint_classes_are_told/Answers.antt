use Rattle.cjc_joint_proof.proofs.MeantLaws.{kinds_together, names_together}
use Rattle.cjc_joint_proof.proofs.tables.joint_classes_are_told.Goals as goal

pub returns-clause-types : goal.returns-clause-types
returns-clause-types c = λ packages linked keep first here q. kinds_together packages linked first here keep

pub returns-clause-names : goal.returns-clause-names
returns-clause-names c = λ packages linked keep first here q.
    let names = names_together packages linked first here keep in
    record {
      class_named = names.class_named;
      imported = names.imported;
      throwable = names.throwable;
      fault = names.fault;
      name = names.name;
    }
