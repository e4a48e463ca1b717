use Rattle.std.proofs.Common.{arith}
use Rattle.cjc_run.proofs.converting.judge.Goals as goal

pub convert-requires-clause-files : goal.convert-requires-clause-files
convert-requires-clause-files c = λ i. let e = c.requires.files i in omega arith
