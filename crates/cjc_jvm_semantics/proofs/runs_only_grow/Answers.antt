use Rattle.cjc_jvm_semantics.specs.Machine.{start}
use Rattle.cjc_jvm_semantics.proofs.Longer.{machine_lawful}
use Rattle.cjc_jvm_semantics.proofs.runs_only_grow.Goals as goal

pub returns-clause-device : goal.returns-clause-device
returns-clause-device c = λ l. machine_lawful l

pub returns-clause-over : goal.returns-clause-over
returns-clause-over c = λ l script m n le over. (machine_lawful l).stays m n (start l script) le over

pub returns-clause-notes : goal.returns-clause-notes
returns-clause-notes c = λ l script m n le. (machine_lawful l).grows m n (start l script) le
